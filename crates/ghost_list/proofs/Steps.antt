-- The ghost side of each function. Assumes `Logic`.
use Rattle.std.proofs.Common.{ℕ, ◌≤◌, List, [], ◌∷◌, ◌++◌, map, length}
use mathlib.Core.List.{IsPrefix}
use seplogic.Ra.Ura.{Ura}
use base.Fraction.{full_share}
use base.Share
use base.Stored.{Gv, Coded}
use base.Growing.{Least, at_least}
use base.Logic.{SProp, ent, sep, wand, ex, guard, emp, via, emp∗, mono∗, apply∗}
use base.Fml.{Lft, Share, Fml, fbor}
use types.Logic.{Logic, sem, lfts}
use types.Owned.{basic}
use contract.Monad.{fact, fact_i}
use types.Growing.{latest_new, latest_grows, latest_shows, latest_bounds, latest_cut, latest_glue, at_least_dup, at_least_join}
use types.Kit.{‵, raw, ◌⊛◌, some, given, later, ◌$◌, ◌∵◌, !, qed, move, split, pick, learn, check, drop, use1, use2, await, updating, now, done}
use types.Tokens.{bor_fracture}
use ghost.Rules.{Halves}
use denote.Sharing.{one, said}
use denote.Struct.Lending.{Lends}
use Rattle.ghost_list.specs.Owned.{lists, held, known, unnamed}
use Rattle.ghost_list.proofs.Codes.{prefix_out, prefix_in, shorter}

module _ {M : Type 1} {𝓤 : Ura M} (𝓛 : Logic 𝓤) where
  open 𝓛 use {H, A}

  abbrev Pr : Type 2
  Pr = SProp 𝓤

  abbrev ◌⊢◌ : Pr → Pr → Type 1
  P ⊢ Q = ent 𝓤 P Q

  abbrev ◌∗◌ : Pr → Pr → Pr
  P ∗ Q = sep 𝓤 P Q

  abbrev ⟦◌⟧ : Fml → Pr
  ⟦ P ⟧ = sem 𝓛 P

  infix 26 ◌⊢◌
  infixr 35 ◌∗◌
  pub begins : emp 𝓤 ⊢ H.⇛ (ex 𝓤 (λ (γ : ℕ). ⟦ unnamed γ ⟧))
  begins = via 𝓤 _ (latest_new lists 𝓛 []) (basic 𝓛 _)

  -- two clauses
  pub told : (φ ψ : Type 0) → φ → ψ → emp 𝓤 ⊢ fact 𝓤 φ ∗ fact 𝓤 ψ
  told φ ψ x z = via 𝓤 _ (emp∗ 𝓤 (emp 𝓤)) (mono∗ 𝓤 {P = emp 𝓤} {Q = emp 𝓤} (fact_i 𝓤 φ (emp 𝓤) x) (fact_i 𝓤 ψ (emp 𝓤) z))

  module _ {E : Type 0} (cv : Coded E) (γ : ℕ) where
    abbrev Held : List E → Share → Fml
    Held = held cv.code γ

    abbrev Known : List E → Fml
    Known = known cv.code γ

    pub grows : (xs t : List E) → ⟦ Held xs full_share ⟧ ⊢ H.⇛ ⟦ Held (xs ++ t) full_share ⟧
    grows xs t = via 𝓤 _ (latest_grows lists 𝓛 γ (map cv.code xs) (map cv.code (xs ++ t)) (prefix_in cv xs t)) (basic 𝓛 _)

    pub shows : (xs : List E) (q : Share) → ⟦ Held xs q ⟧ ⊢ ⟦ Held xs q ⟧ ∗ ⟦ Known xs ⟧
    shows xs q = latest_shows lists 𝓛 q γ (map cv.code xs) (map cv.code xs) (lists.same (map cv.code xs))

    pub bounds : (xs ys : List E) (q : Share) → ⟦ Held xs q ⟧ ∗ ⟦ Known ys ⟧ ⊢ guard 𝓤 (IsPrefix ys xs) (⟦ Held xs q ⟧ ∗ ⟦ Known ys ⟧)
    bounds xs ys q = qed 𝓛 (‵ (Held xs q) ∷ ‵ (Known ys) ∷ []) ∵
        use2 𝓛 (given (IsPrefix (map cv.code ys) (map cv.code xs)) (‵ (Held xs q) ⊛ ‵ (Known ys))) (latest_bounds lists 𝓛 q γ (map cv.code xs) (map cv.code ys)) $
        learn ! (λ p. check ! (prefix_out cv ys xs p) $ done !)

    pub known_twice : (xs : List E) → ⟦ Known xs ⟧ ⊢ ⟦ Known xs ⟧ ∗ ⟦ Known xs ⟧
    known_twice xs = at_least_dup lists 𝓛 γ (map cv.code xs)

    abbrev pub Line : List E → List E → Type 0
    Line xs ys = (length ys ≤ length xs → IsPrefix ys xs) × (length xs ≤ length ys → IsPrefix xs ys)

    -- both are prefixes of one list
    pub in_line : (xs ys : List E) → ⟦ Known xs ⟧ ∗ ⟦ Known ys ⟧ ⊢ guard 𝓤 (Line xs ys) (emp 𝓤)
    in_line xs ys = qed 𝓛 (‵ (Known xs) ∷ ‵ (Known ys) ∷ []) ∵
        use2 𝓛 (some (λ (c : List Gv). given (Least lists.le (map cv.code xs) (map cv.code ys) c) (‵ (at_least lists γ c)))) (at_least_join lists 𝓛 γ (map cv.code xs) (map cv.code ys)) $
        pick ! (λ c. learn ! (λ l. drop ! $ check ! ((λ le. shorter cv ys xs c l.1.0 l.0.0 l.1.1 l.0.1 le), (λ le. shorter cv xs ys c l.0.0 l.1.0 l.0.1 l.1.1 le)) $ done !))

    pub held_halves : (xs : List E) → Halves 𝓤 H A (Held xs)
    held_halves xs = record {
      cut = λ q. latest_cut lists 𝓛 q (Share.left q) (Share.right q) γ (map cv.code xs) (Share.halves q);
      join = λ q. latest_glue lists 𝓛 q (Share.left q) (Share.right q) γ (map cv.code xs) (Share.halves q);
    }

    pub held_lends : (xs : List E) (l : Lft) → Lends 𝓛 (Held xs full_share) (one (Held xs)) l
    held_lends xs l κ ts inc sp = qed 𝓛 (‵ (fbor κ (Held xs full_share)) ∷ raw (lfts 𝓛 ts) ∷ []) ∵ updating ! $ bor_fracture ! tt (Held xs) full_share $ now ! $ done !

    -- a borrow of a duplicable resource gives a copy
    pub known_lends : (xs : List E) (l : Lft) → Lends 𝓛 (Known xs) (said (Known xs)) l
    known_lends xs l κ ts inc sp = let P : Fml = Known xs in let Back = H.⇛ (A.bor κ P ∗ lfts 𝓛 ts) in
        qed 𝓛 (‵ (fbor κ P) ∷ raw (lfts 𝓛 ts) ∷ []) ∵ updating ! $ use2 𝓛 (later (‵ P ⊛ raw (wand 𝓤 ⟦ P ⟧ Back))) (𝓛.more.bor_acc_by κ ts P sp) $ await ! tt $ split ! $ use1 𝓛 (‵ P ⊛ ‵ P) (known_twice xs) $ split ! $ move ! (0 ∷ 2 ∷ []) $
        use2 𝓛 (later (‵ (fbor κ P) ⊛ raw (lfts 𝓛 ts))) (apply∗ 𝓤 ⟦ P ⟧ Back) $ await ! tt $ split ! $ drop ! $ move ! (1 ∷ 0 ∷ []) $ now ! $ done !
