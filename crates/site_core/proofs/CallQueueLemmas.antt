-- The calls that are left without the first.
use Rattle.std.proofs.Common.{◌≡◌, ℕ, ◌+◌, ◌<◌, List, ◌++◌, length, drop, sym, ap, ◌∙◌, arith, drop-drop}
use Rattle.std.proofs.lemmas.List.{drop-append-le}

pub drop_first : {X : Type 0} → (left : ℕ) (gathered later : List X) → left < length gathered
    → drop (left + 1) gathered ++ later ≡ drop 1 (drop left gathered ++ later)
drop_first left gathered later some =
    sym (drop-append-le (left + 1) gathered later (omega arith))
    ∙ sym (drop-drop 1 left (gathered ++ later))
    ∙ ap (drop 1) (drop-append-le left gathered later (omega arith))
