-- A text split at its first such byte.
use Rattle.std.proofs.Common.{◌≡◌, ◌≢◌, ℕ, ◌+◌, ◌<◌, ◌≤◌, Bool, true, false, cond, nat_lt, List, [], ◌∷◌, ◌++◌, length, get_or, Option, Some, None, refl, sym, ap, ◌∙◌, arith, length-drop, length-append, suc, eqb, eq-eqb}
use Rattle.std.specs.List.{All, slice_split, position_or_len, before_first, after_first}
use Rattle.std.proofs.lemmas.Bool.{eqb-true, eqb-false, lt-ltb, ltb-true, ltb-false}
use Rattle.std.proofs.lemmas.List.Splits.{slice_split_first, slice_split_none}
use Rattle.std.proofs.lemmas.List.Sums.{split_at_first, fails_before_first, passes_at_first}
use Rattle.std.proofs.lemmas.List.{get_or-take, length-take}
use Rattle.std.proofs.lemmas.List.Elements.{All-head, All-tail}
use Rattle.std.proofs.Math.Seq.{take-append_seam, drop-append-add}
use Rattle.site_keys.specs.Bytes.{cut, is_byte}

-- the parts of the split
pub record Cut (byte : ℕ) (text before behind : List ℕ) : Type 0 where
  pub within : position_or_len (is_byte byte) text < length text
  pub before_is : before ≡ before_first (is_byte byte) text
  pub behind_is : behind ≡ after_first (is_byte byte) text

pub cut_some : (byte : ℕ) (text before behind : List ℕ) → cut byte text ≡ Some (before, behind)
    → Cut byte text before behind
cut_some byte text before behind is = go (nat_lt (position_or_len (is_byte byte) text) (length text)) refl is
  where
    go : (t : Bool) → nat_lt (position_or_len (is_byte byte) text) (length text) ≡ t
        → cond {A = Option (List ℕ × List ℕ)} t (Some (before_first (is_byte byte) text, after_first (is_byte byte) text)) None ≡ Some (before, behind)
        → Cut byte text before behind
    go true within is =
        let parts : List ℕ × List ℕ = (before_first (is_byte byte) text, after_first (is_byte byte) text) in
        let same : parts ≡ (before, behind) = cc is in
        record {
          within = ltb-true (position_or_len (is_byte byte) text) (length text) within;
          before_is = sym (ap (λ (both : List ℕ × List ℕ). both.0) same);
          behind_is = sym (ap (λ (both : List ℕ × List ℕ). both.1) same);
        }
    go false within is = absurd (cc is)

-- the parts of a text: the one before the first such byte, and the parts of the rest after it
pub parts_of_cut : (byte : ℕ) (text before behind : List ℕ) → Cut byte text before behind
    → slice_split (is_byte byte) text ≡ before ∷ slice_split (is_byte byte) behind
parts_of_cut byte text before behind is =
    rw (is.before_is, is.behind_is) (slice_split_first (is_byte byte) text 0 is.within)

pub shorter : (byte : ℕ) (text before behind : List ℕ) → Cut byte text before behind
    → length behind + 1 ≤ length text
shorter byte text before behind is =
    let within = is.within in
    rw is.behind_is (omega (arith, within, length-drop (position_or_len (is_byte byte) text + 1) text))

-- a text that can't be split has no such byte
pub uncut : (byte : ℕ) (text : List ℕ) → cut byte text ≡ None → All (λ b. is_byte byte b ≡ false) text
uncut byte text is = go (nat_lt (position_or_len (is_byte byte) text) (length text)) refl is
  where
    go : (t : Bool) → nat_lt (position_or_len (is_byte byte) text) (length text) ≡ t
        → cond {A = Option (List ℕ × List ℕ)} t (Some (before_first (is_byte byte) text, after_first (is_byte byte) text)) None ≡ None
        → All (λ b. is_byte byte b ≡ false) text
    go true within is = absurd (cc is)
    go false past is = λ k d within.
        let all = ltb-false (position_or_len (is_byte byte) text) (length text) past in
        fails_before_first (is_byte byte) text k d (omega (arith, within, all))

-- a text without such a byte is one part
pub parts_uncut : (byte : ℕ) (text : List ℕ) → cut byte text ≡ None
    → slice_split (is_byte byte) text ≡ text ∷ []
parts_uncut byte text is = slice_split_none (is_byte byte) text (uncut byte text is)

-- ---- before the first such byte, and after it

pub cut_is : (byte : ℕ) (text before behind : List ℕ) → Cut byte text before behind
    → text ≡ before ++ byte ∷ behind
cut_is byte text before behind is =
    let p : ℕ → Bool = is_byte byte in
    let there = eqb-true (get_or text (position_or_len p text) 0) byte (passes_at_first p text 0 is.within) in
    split_at_first p text 0 is.within
    ∙ ap (λ (b : ℕ). before_first p text ++ b ∷ after_first p text) there
    ∙ ap (λ (front : List ℕ). front ++ byte ∷ after_first p text) (sym is.before_is)
    ∙ ap (λ (rest : List ℕ). before ++ byte ∷ rest) (sym is.behind_is)

pub before_cut : (byte : ℕ) (text before behind : List ℕ) → Cut byte text before behind
    → All (λ b. b ≢ byte) before
before_cut byte text before behind is = rw is.before_is (λ k d within.
    let end = position_or_len (is_byte byte) text in
    let below : k < end = omega (arith, within, length-take end text) in
    rw get_or-take (eqb-false (get_or text k d) byte (fails_before_first (is_byte byte) text k d below)))

pub other_byte : (byte b : ℕ) → b ≢ byte → is_byte byte b ≡ false
other_byte byte b other = go (eqb b byte) refl
  where
    go : (t : Bool) → eqb b byte ≡ t → eqb b byte ≡ false
    go true is = absurd (other (eqb-true b byte is))
    go false is = is

one_more : (n : ℕ) → 1 + n ≡ suc n
one_more n = omega arith

-- the first such byte is the one after a text without it
end_before : (byte : ℕ) (before behind : List ℕ) → All (λ b. b ≢ byte) before
    → position_or_len (is_byte byte) (before ++ byte ∷ behind) ≡ length before
end_before byte [] behind none = rw (eq-eqb byte byte refl) refl
end_before byte (b ∷ before) behind none =
    rw (other_byte byte b (All-head (λ b. b ≢ byte) b before none))
    (ap (λ (n : ℕ). 1 + n) (end_before byte before behind (All-tail (λ b. b ≢ byte) b before none))
    ∙ one_more (length before))

pub cut_there : (byte : ℕ) (before behind : List ℕ) → All (λ b. b ≢ byte) before
    → cut byte (before ++ byte ∷ behind) ≡ Some (before, behind)
cut_there byte before behind none =
    rw (
      end_before byte before behind none,
      lt-ltb (length before) (length (before ++ byte ∷ behind)) (omega (arith, length-append before (byte ∷ behind))),
      take-append_seam before (byte ∷ behind),
      drop-append-add before (byte ∷ behind) 1,
    ) refl
