-- Whole lines of parts of texts.
use Rattle.std.proofs.Common.{◌≡◌, ◌≢◌, ◌⊎◌, inl, inr, ℕ, zero, suc, ◌≤◌, List, [], ◌∷◌, ◌++◌, length, take, refl, sym, ◌∙◌, ap, subst, arith, append_assoc}
use Rattle.std.proofs.lemmas.List.{append-nil, take_at}
use Rattle.std.proofs.lemmas.Bool.{cases_eq}
use Rattle.std.proofs.lemmas.Bool.Decides.{nat_tests}
use Rattle.std.specs.List.{AllByRecursion}
use Rattle.append_log.specs.Contents.{IsFirstPart}
use Rattle.append_log.specs.Lines.{line_feed, before, whole_lines, HasNoLineFeed, text_of}

pub part_self : (bytes : List ℕ) → IsFirstPart bytes bytes
part_self bytes = ([], sym (append-nil bytes))

pub part_of_part : (part middle all : List ℕ) → IsFirstPart part middle → IsFirstPart middle all → IsFirstPart part all
part_of_part part middle all (rest, is) (more, all_is) = (rest ++ more, all_is ∙ ap (λ (l : List ℕ). l ++ more) is ∙ append_assoc part rest more)

-- a cut leaves a first part that isn't longer than the cut's length
pub part_of_cut : (part rest : List ℕ) (end : ℕ) → length part ≤ end → IsFirstPart part (take end (part ++ rest))
part_of_cut [] rest end short = (take end rest, refl)
part_of_cut (byte ∷ part) rest zero short = absurd (omega arith)
part_of_cut (byte ∷ part) rest (suc end) short = let further = part_of_cut part rest end (omega arith) in (further.0, ap (λ (l : List ℕ). byte ∷ l) further.1)

before_feed : (counts : List ℕ) → before line_feed counts ≡ line_feed ∷ counts
before_feed [] = refl
before_feed (next ∷ rest) = refl

before_more : (byte : ℕ) (counts more : List ℕ) → IsFirstPart (before byte counts) (before byte (counts ++ more))
before_more byte [] [] = part_self (before byte [])
before_more byte [] (next ∷ rest) = elim (cases_eq byte 10) [
  | inl is_feed ↦ let alone : before byte [] ≡ byte ∷ [] = grind (arith, nat_tests) in (next ∷ rest, ap (λ (l : List ℕ). l ++ next ∷ rest) (sym alone))
  | inr other ↦ let none : before byte [] ≡ [] = grind (arith, nat_tests) in (byte ∷ next ∷ rest, ap (λ (l : List ℕ). l ++ byte ∷ next ∷ rest) (sym none))
]
before_more byte (next ∷ rest) more = (more, refl)

-- the whole lines of a first part are a first part of all whole lines
pub lines_of_part : (part all : List ℕ) → IsFirstPart part all → IsFirstPart (whole_lines part) (whole_lines all)
lines_of_part part all (rest, is) = subst (λ (l : List ℕ). IsFirstPart (whole_lines part) (whole_lines l)) (sym is) (lines_of_more part rest)
  where
    lines_of_more : (part rest : List ℕ) → IsFirstPart (whole_lines part) (whole_lines (part ++ rest))
    lines_of_more [] rest = (whole_lines rest, refl)
    lines_of_more (byte ∷ part) rest =
        let behind = lines_of_more part rest in
        subst (λ (l : List ℕ). IsFirstPart (before byte (whole_lines part)) (before byte l)) (sym behind.1) (before_more byte (whole_lines part) behind.0)

before_part : (byte : ℕ) (counts all : List ℕ) → IsFirstPart counts all → IsFirstPart (before byte counts) (byte ∷ all)
before_part byte [] all (rest, is) = elim (cases_eq byte 10) [
  | inl is_feed ↦ let alone : before byte [] ≡ byte ∷ [] = grind (arith, nat_tests) in (all, ap (λ (l : List ℕ). l ++ all) (sym alone))
  | inr other ↦ let none : before byte [] ≡ [] = grind (arith, nat_tests) in (byte ∷ all, ap (λ (l : List ℕ). l ++ byte ∷ all) (sym none))
]
before_part byte (next ∷ counts) all (rest, is) = (rest, ap (λ (l : List ℕ). byte ∷ l) is)

-- the whole lines are a first part
pub lines_are_part : (bytes : List ℕ) → IsFirstPart (whole_lines bytes) bytes
lines_are_part [] = ([], refl)
lines_are_part (byte ∷ bytes) = before_part byte (whole_lines bytes) bytes (lines_are_part bytes)

again_before : (byte : ℕ) (counts : List ℕ) → whole_lines counts ≡ counts → whole_lines (before byte counts) ≡ before byte counts
again_before byte [] again = elim (cases_eq byte 10) [
  | inl is_feed ↦ let alone : before byte [] ≡ byte ∷ [] = grind (arith, nat_tests) in ap whole_lines alone
  | inr other ↦ let none : before byte [] ≡ [] = grind (arith, nat_tests) in ap whole_lines none ∙ sym none
]
again_before byte (next ∷ counts) again = ap (before byte) again

-- the whole lines of whole lines are all of them
pub lines_again : (bytes : List ℕ) → whole_lines (whole_lines bytes) ≡ whole_lines bytes
lines_again [] = refl
lines_again (byte ∷ bytes) = again_before byte (whole_lines bytes) (lines_again bytes)

-- the whole lines are the bytes up to their end
pub take_lines : (bytes : List ℕ) (end : ℕ) → end ≡ length (whole_lines bytes) → take end bytes ≡ whole_lines bytes
take_lines bytes end is =
    let part = lines_are_part bytes in
    ap (λ (l : List ℕ). take end l) part.1 ∙ take_at (whole_lines bytes) part.0 end (sym is)

-- a whole line in front
line_in_front : (line rest : List ℕ) → whole_lines (line ++ line_feed ∷ rest) ≡ line ++ line_feed ∷ whole_lines rest
line_in_front [] rest = before_feed (whole_lines rest)
line_in_front (byte ∷ []) rest = ap (before byte) (line_in_front [] rest)
line_in_front (byte ∷ next ∷ line) rest = ap (before byte) (line_in_front (next ∷ line) rest)

text_cons : (line : List ℕ) (lines : List (List ℕ)) (rest : List ℕ) → text_of (line ∷ lines) ++ rest ≡ line ++ line_feed ∷ (text_of lines ++ rest)
text_cons line lines rest = append_assoc (line ++ line_feed ∷ []) (text_of lines) rest ∙ append_assoc line (line_feed ∷ []) (text_of lines ++ rest)

-- whole lines in front
pub lines_in_front : (lines : List (List ℕ)) (rest : List ℕ) → whole_lines (text_of lines ++ rest) ≡ text_of lines ++ whole_lines rest
lines_in_front [] rest = refl
lines_in_front (line ∷ lines) rest =
    ap whole_lines (text_cons line lines rest) ∙ line_in_front line (text_of lines ++ rest)
    ∙ ap (λ (l : List ℕ). line ++ line_feed ∷ l) (lines_in_front lines rest) ∙ sym (text_cons line lines (whole_lines rest))

-- no whole line is in a part of a line
no_line : (line part : List ℕ) → HasNoLineFeed line → IsFirstPart part line → whole_lines part ≡ []
no_line line [] none is = refl
no_line [] (byte ∷ part) none (rest, is) = absurd (cc is)
no_line (first ∷ line) (byte ∷ part) none (rest, is) =
    let same : first ≡ byte = cc is in
    let tail : line ≡ part ++ rest = cc is in
    let other : byte ≢ 10 = subst (λ (b : ℕ). b ≢ 10) same none.0 in
    let alone : before byte [] ≡ [] = grind (arith, nat_tests) in
    ap (before byte) (no_line line part none.1 (rest, tail)) ∙ alone

-- a first part of a text ends within the first line, or goes on behind it
splits : (line behind part rest : List ℕ) → line ++ line_feed ∷ behind ≡ part ++ rest → IsFirstPart part line ⊎ ((more : List ℕ) × (part ≡ line ++ line_feed ∷ more) × IsFirstPart more behind)
splits line behind [] rest is = inl (line, refl)
splits [] behind (byte ∷ part) rest is =
    let same : line_feed ≡ byte = cc is in
    let tail : behind ≡ part ++ rest = cc is in
    inr (part, ap (λ (b : ℕ). b ∷ part) (sym same), (rest, tail))
splits (first ∷ line) behind (byte ∷ part) rest is =
    let same : first ≡ byte = cc is in
    let tail : line ++ line_feed ∷ behind ≡ part ++ rest = cc is in
    elim (splits line behind part rest tail) [
      | inl within ↦ inl (within.0, (λ i. same i ∷ within.1 i))
      | inr on ↦ inr (on.0, (λ i. sym same i ∷ on.1 i), on.2)
    ]

-- the lines recovered from a first part of a text are its first lines
pub first_lines : (lines : List (List ℕ)) (part : List ℕ) → AllByRecursion HasNoLineFeed lines → IsFirstPart part (text_of lines) → (count : ℕ) × (whole_lines part ≡ text_of (take count lines))
first_lines [] [] none is = (0, refl)
first_lines [] (byte ∷ part) none (rest, is) = absurd (cc is)
first_lines (line ∷ lines) part none (rest, is) =
    elim (splits line (text_of lines) part rest (sym (append_assoc line (line_feed ∷ []) (text_of lines)) ∙ is)) [
      | inl within ↦ (0, no_line line part none.0 within)
      | inr on ↦
          let further = first_lines lines on.0 none.1 on.2 in (
            suc further.0,
            ap whole_lines on.1 ∙ line_in_front line on.0 ∙ ap (λ (l : List ℕ). line ++ line_feed ∷ l) further.1
                ∙ sym (append_assoc line (line_feed ∷ []) (text_of (take further.0 lines))),
          )
    ]

-- a last byte that is no line feed
pub last_torn : (bytes : List ℕ) (byte : ℕ) → byte ≢ 10 → whole_lines (bytes ++ byte ∷ []) ≡ whole_lines bytes
last_torn [] byte other = let none : before byte [] ≡ [] = grind (arith, nat_tests) in none
last_torn (first ∷ bytes) byte other = ap (before first) (last_torn bytes byte other)

-- a last byte that is a line feed
pub last_feed : (bytes : List ℕ) → whole_lines (bytes ++ line_feed ∷ []) ≡ bytes ++ line_feed ∷ []
last_feed bytes = line_in_front bytes []
