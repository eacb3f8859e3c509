-- The held request of a number, by its index.
use Rattle.std.proofs.Common.{◌≡◌, ℕ, ◌+◌, ◌<◌, ◌==◌, List, [], ◌∷◌, ◌++◌, length, take, drop, get_or, cond, true, false, not, nat_lt, Some, None, refl, ap, ◌∙◌, arith, suc}
use Rattle.std.proofs.lemmas.List.Sums.{prefix_len-le-length}
use Rattle.std.specs.List.{position, position_or_len}
use Rattle.std.proofs.lemmas.Bool.{ltb-true, ltb-false}
use Rattle.replay.specs.declared.player.held.Held.{Held}
use Rattle.replay.specs.Held.{id_held, remove_held}
use Rattle.replay.specs.ByCases.Held.{has_number}

-- no request has the number
pub absent : (number : ℕ) (held : List Held) → position_or_len (has_number number) held ≡ length held → (None ≡ id_held number held) × (held ≡ remove_held number held)
absent number [] none = (refl, refl)
absent number (one ∷ others) none =
    elim (one.number == number) as (λ b. cond (not b) (1 + position_or_len (has_number number) others) 0 ≡ length (one ∷ others)
    → (None ≡ cond b (Some one.id) (id_held number others)) × (one ∷ others ≡ cond b others (one ∷ remove_held number others))) [
      | true ↦ λ here. absurd (omega (arith, here))
      | false ↦ λ here. let rest = absent number others (omega (arith, here)) in (rest.0, ap (λ l. one ∷ l) rest.1)
    ] none

-- the index after one more request
moved : (one : Held) (others : List Held) (d : Held) (n place : ℕ) → n ≡ suc place
    → (get_or (one ∷ others) n d ≡ get_or others place d)
    × (take n (one ∷ others) ++ drop (n + 1) (one ∷ others) ≡ one ∷ (take place others ++ drop (place + 1) others))
moved one others d n place e =
    let next : n + 1 ≡ suc (place + 1) = omega (arith, e) in (
      ap (λ k. get_or (one ∷ others) k d) e,
      ap (λ k. take k (one ∷ others) ++ drop (n + 1) (one ∷ others)) e ∙ ap (λ k. one ∷ (take place others ++ drop k (one ∷ others))) next,
    )

-- the first request that has the number
pub present : (number : ℕ) (held : List Held) (d : Held) → position_or_len (has_number number) held < length held
    → (Some (get_or held (position_or_len (has_number number) held) d).id ≡ id_held number held)
    × (take (position_or_len (has_number number) held) held ++ drop (position_or_len (has_number number) held + 1) held ≡ remove_held number held)
present number [] d some = absurd (omega (arith, some))
present number (one ∷ others) d some =
    let place = position_or_len (has_number number) others in
    elim (one.number == number) as (λ b. cond (not b) (1 + place) 0 < length (one ∷ others)
    → (Some (get_or (one ∷ others) (cond (not b) (1 + place) 0) d).id ≡ cond b (Some one.id) (id_held number others))
    × (take (cond (not b) (1 + place) 0) (one ∷ others) ++ drop (cond (not b) (1 + place) 0 + 1) (one ∷ others) ≡ cond b others (one ∷ remove_held number others))) [
      | true ↦ λ here. (refl, refl)
      | false ↦ λ here.
          let rest = present number others d (omega (arith, here)) in
          let same = moved one others d (1 + place) place (omega arith) in
          (ap (λ (h : Held). Some h.id) same.0 ∙ rest.0, same.1 ∙ ap (λ l. one ∷ l) rest.1)
    ] some

-- the meaning of a missing index
pub no_place : (number : ℕ) (held : List Held) → None ≡ position (has_number number) held → position_or_len (has_number number) held ≡ length held
no_place number held none =
    let most = prefix_len-le-length (λ (h : Held). not (has_number number h)) held in
    elim (nat_lt (position_or_len (has_number number) held) (length held)) as (λ b. nat_lt
    (position_or_len (has_number number) held) (length held) ≡ b
    → None ≡ cond b (Some (position_or_len (has_number number) held)) None
    → position_or_len (has_number number) held ≡ length held) [
      | true ↦ λ here e. absurd (cc)
      | false ↦ λ here e. omega (arith, ltb-false _ _ here, most)
    ] refl none

pub a_place : (number : ℕ) (held : List Held) (place : ℕ) → Some place ≡ position (has_number number) held
    → (position_or_len (has_number number) held < length held) × (place ≡ position_or_len (has_number number) held)
a_place number held place some =
    elim (nat_lt (position_or_len (has_number number) held) (length held)) as (λ b. nat_lt
    (position_or_len (has_number number) held) (length held) ≡ b
    → Some place ≡ cond b (Some (position_or_len (has_number number) held)) None
    → (position_or_len (has_number number) held < length held) × (place ≡ position_or_len
    (has_number number) held)) [
      | true ↦ λ here e. (ltb-true _ _ here, cc)
      | false ↦ λ here e. absurd (cc)
    ] refl some
