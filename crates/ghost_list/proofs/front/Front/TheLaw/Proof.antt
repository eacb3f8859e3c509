-- A `&` to a front holds its known entries, a duplicable resource. Assumes `Logic`.
use mathlib.Core.List.{[], ◌∷◌}
use base.Logic.{snd∗}
use base.Before.{before}
use types.Logic.{sem}
use denote.RattleType.{RattleType}
use denote.Param.Laws.{Laws}
use denote.Param.Shared.{copy_shared}
use denote.Struct.Tuple.{Tuple}
use denote.Struct.Laws.{field_copy}
use denote.Struct.Lending.{of_Lends}
use Rattle.std.specs.contracts.marker.PhantomData as marker
use Rattle.ghost_list.specs.Owned.{known}
use Rattle.ghost_list.specs.declared.name.ListName.{Ghosts}
use Rattle.ghost_list.specs.contracts.front.Front as C
use Rattle.ghost_list.proofs.Steps.{known_twice, known_lends}
use Rattle.ghost_list.proofs.front.Front.TheLaw.Statement.{statement}

pub shares : (E J : RattleType) (g : Ghosts J.Denot) (L : Laws E) (L' : Laws J) → statement E J g L L'
shares E J g L L' = let Both = Tuple (E ∷ J ∷ []) in
    of_Lends (C.struct E J g) (C.the_codes E.Denot J.Denot E.coded J.coded (marker.the_row Both).coded) (C.the_heap E J g) (C.the_lent E J g)
    (λ d p. record { contraction = λ M 𝓤 𝓛 κ. known_twice 𝓛 E.coded g.name d.entries; mono = λ M 𝓤 𝓛 κ' κ. snd∗ 𝓤 (sem 𝓛 (before κ' κ)) (sem 𝓛 (known E.coded.code g.name d.entries)) })
    (copy_shared (marker.the_field Both) (field_copy (marker.the_type Both) tt), tt)
    (λ M 𝓤 𝓛 d p. known_lends 𝓛 E.coded g.name d.entries (C.the_row E J g).lives)
