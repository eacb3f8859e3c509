-- The resources that a `&` to a ghost list and to a front holds. Assumes `Logic`.
use Rattle.std.proofs.Common.{ℕ, [], ◌∷◌}
use seplogic.Ra.Ura.{Ura}
use base.Logic.{ent}
use base.Fml.{Lft, fhide, fshr_bor}
use types.Logic.{Logic, sem}
use types.Kit.{‵, ◌⊛◌, ◌$◌, ◌∵◌, !, qed, drop, use1, split, done}
use denote.RattleType.{RattleType}
use denote.Memory.{hidden_shr}
use denote.Opens.{unhide}
use denote.Struct.Tuple.{Tuple}
use denote.Struct.Lending.{lent_out}
use Rattle.std.specs.contracts.marker.PhantomData as marker
use Rattle.ghost_list.specs.Owned.{held, known}
use Rattle.ghost_list.specs.declared.name.ListName.{Ghosts}
use Rattle.ghost_list.specs.contracts.list.GhostList as GhostList
use Rattle.ghost_list.specs.contracts.front.Front as Front
use Rattle.ghost_list.proofs.Tokens.{Token}

module _ {M : Type 1} {𝓤 : Ura M} (𝓛 : Logic 𝓤) (E J : RattleType) (g : Ghosts J.Denot) (κ : Lft) where
  abbrev Both : RattleType
  Both = Tuple (E ∷ J ∷ [])

  pub ghost_list_lent : (d : (GhostList.the_row E J g).Denot) (b o : ℕ) → ent 𝓤 (sem 𝓛 (hidden_shr (GhostList.the_row E J g) κ d b o)) (sem 𝓛 (fshr_bor κ (held E.coded.code g.name d.entries)))
  ghost_list_lent d b o = qed 𝓛 (‵ (hidden_shr (GhostList.the_row E J g) κ d b o) ∷ []) ∵
      use1 𝓛 (‵ (hidden_shr (Token Both) κ (record {}, tt) b o) ⊛ ‵ (fhide (fshr_bor κ (held E.coded.code g.name d.entries))))
      (lent_out 𝓛 (GhostList.struct E J g) (GhostList.the_codes E.Denot J.Denot E.coded J.coded (marker.the_row Both).coded) (GhostList.the_heap E J g) (GhostList.the_lent E J g) κ d b o) $
      split ! $ drop ! $ unhide ! $ done !

  pub front_lent : (d : (Front.the_row E J g).Denot) (b o : ℕ) → ent 𝓤 (sem 𝓛 (hidden_shr (Front.the_row E J g) κ d b o)) (sem 𝓛 (known E.coded.code g.name d.entries))
  front_lent d b o = qed 𝓛 (‵ (hidden_shr (Front.the_row E J g) κ d b o) ∷ []) ∵
      use1 𝓛 (‵ (hidden_shr (Token Both) κ (record {}, tt) b o) ⊛ ‵ (fhide (known E.coded.code g.name d.entries)))
      (lent_out 𝓛 (Front.struct E J g) (Front.the_codes E.Denot J.Denot E.coded J.coded (marker.the_row Both).coded) (Front.the_heap E J g) (Front.the_lent E J g) κ d b o) $
      split ! $ drop ! $ unhide ! $ done !
