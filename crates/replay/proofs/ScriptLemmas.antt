-- The first line of a text, split off at its first line feed.
use borrow.Author.Tests.{ltb-true, ltb-false, eqb-true}
use Rattle.std.proofs.lemmas.List.{drop-drop, take_all, drop_all}
use Rattle.std.proofs.lemmas.List.Sums.{prefix_len-le-length}
use Rattle.std.proofs.Common.{Some, None, nat_lt, ◌≡◌, ℕ, ◌+◌, ◌<◌, ◌==◌, List, [], ◌∷◌, length, take, drop, Bool, true, false, cond, not, refl, sym, ap, ◌∙◌, arith}
use Rattle.std.specs.List.{slice_split, onto_first, position, position_or_len, before_first, after_first}
use Rattle.std.specs.Str.Lines.{lines, lines_of_parts, strip_carriage_return}
use Rattle.std.proofs.lemmas.List.Splits.{slice_split_first, length-slice_split, slice_split-cons_no}

-- the lines of some parts with a line feed before them
before_parts : (line : List ℕ) (parts : List (List ℕ)) → 0 < length parts → lines_of_parts (line ∷ parts) ≡ strip_carriage_return line ∷ lines_of_parts parts
before_parts line [] some = absurd (omega arith)
before_parts line (part ∷ parts) some = refl

-- a list without such an entry is one part
one_part : (p : ℕ → Bool) (xs : List ℕ) → position_or_len p xs ≡ length xs → slice_split p xs ≡ xs ∷ []
one_part p [] none = refl
one_part p (x ∷ xs) none =
    elim (p x) as (λ b. p x ≡ b → cond (not b) (1 + position_or_len p xs) 0 ≡ length (x ∷ xs) → slice_split p (x ∷ xs) ≡ (x ∷ xs) ∷ []) [
      | true ↦ λ here e. absurd (omega (arith, e))
      | false ↦ λ here e. slice_split-cons_no p x xs here ∙ ap (onto_first x) (one_part p xs (omega (arith, e)))
    ] refl none

-- a text with a line feed
pub lines_first : (text : List ℕ) → position_or_len (λ b. b == 10) text < length text
    → lines text ≡ strip_carriage_return (before_first (λ b. b == 10) text) ∷ lines (after_first (λ b. b == 10) text)
lines_first text inside =
    let parts = slice_split (λ b. b == 10) (after_first (λ b. b == 10) text) in
    let some : 0 < length parts = omega (arith, length-slice_split (λ b. b == 10) (after_first (λ b. b == 10) text)) in
    ap lines_of_parts (slice_split_first (λ b. b == 10) text 0 inside)
    ∙ before_parts (before_first (λ b. b == 10) text) parts some

-- a part that is not empty
some_part : (part : List ℕ) → 0 < length part → lines_of_parts (part ∷ []) ≡ part ∷ []
some_part part some =
    elim (length part == 0) as (λ b. (length part == 0) ≡ b → cond b [] (part ∷ []) ≡ part ∷ []) [
      | true ↦ λ here. absurd (omega (arith, eqb-true _ _ here))
      | false ↦ λ here. refl
    ] refl

-- a text without a line feed
pub lines_last : (text : List ℕ) → position_or_len (λ b. b == 10) text ≡ length text → 0 < length text → lines text ≡ text ∷ []
lines_last text none some = ap lines_of_parts (one_part (λ b. b == 10) text none) ∙ some_part text some

-- the meaning of a missing index of a line feed
pub feed_none : (text : List ℕ) → None ≡ position (λ b. b == 10) text → position_or_len (λ b. b == 10) text ≡ length text
feed_none text none =
    let most = prefix_len-le-length (λ b. not (b == 10)) text in
    elim (nat_lt (position_or_len (λ b. b == 10) text) (length text)) as (λ b. nat_lt
    (position_or_len (λ b. b == 10) text) (length text) ≡ b
    → None ≡ cond b (Some (position_or_len (λ b. b == 10) text)) None
    → position_or_len (λ b. b == 10) text ≡ length text) [
      | true ↦ λ here e. absurd (cc)
      | false ↦ λ here e. omega (arith, ltb-false _ _ here, most)
    ] refl none

pub feed_some : (text : List ℕ) (end : ℕ) → Some end ≡ position (λ b. b == 10) text
    → (position_or_len (λ b. b == 10) text < length text) × (end ≡ position_or_len (λ b. b == 10) text)
feed_some text end some =
    elim (nat_lt (position_or_len (λ b. b == 10) text) (length text)) as (λ b. nat_lt
    (position_or_len (λ b. b == 10) text) (length text) ≡ b
    → Some end ≡ cond b (Some (position_or_len (λ b. b == 10) text)) None
    → (position_or_len (λ b. b == 10) text < length text) × (end ≡ position_or_len
    (λ b. b == 10) text)) [
      | true ↦ λ here e. (ltb-true _ _ here, cc)
      | false ↦ λ here e. absurd (cc)
    ] refl some

-- the text split at its first line feed
pub cut_first : (text front line back rest : List ℕ) (end : ℕ) → Some end ≡ position (λ b. b == 10) text → front ≡ take end text → line ≡ strip_carriage_return front
    → back ≡ drop end text → rest ≡ drop 1 back → lines text ≡ line ∷ lines rest
cut_first text front line back rest end some before stripped behind after =
    let found = feed_some text end some in
    let same_line : strip_carriage_return (before_first (λ b. b == 10) text) ≡ line =
    ap (λ n. strip_carriage_return (take n text)) (sym found.1) ∙ ap strip_carriage_return (sym before) ∙ sym stripped in
    let same_rest : after_first (λ b. b == 10) text ≡ rest =
    ap (λ n. drop (n + 1) text) (sym found.1) ∙ sym (drop-drop 1 end text) ∙ ap (drop 1) (sym behind) ∙ sym after in
    lines_first text found.0 ∙ ap (λ l. l ∷ lines (after_first (λ b. b == 10) text)) same_line ∙ ap (λ r. line ∷ lines r) same_rest

-- the same for a text without a line feed
pub cut_last : (text line rest : List ℕ) → None ≡ position (λ b. b == 10) text → 0 < length text → line ≡ take (length text) text → rest ≡ drop (length text) text
    → lines text ≡ line ∷ lines rest
cut_last text line rest none some before after =
    lines_last text (feed_none text none) some ∙ ap (λ l. l ∷ []) (sym (before ∙ take_all (length text) text (omega arith)))
    ∙ ap (λ r. line ∷ lines r) (sym (after ∙ drop_all (length text) text (omega arith)))
