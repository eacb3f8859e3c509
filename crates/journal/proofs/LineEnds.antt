-- A text up to a line feed is whole lines.
use Rattle.std.proofs.Common.{◌≡◌, ◌≢◌, ℕ, zero, suc, ◌+◌, ◌-◌, ◌<◌, ◌≤◌, Bool, true, false, eqb, List, [], ◌∷◌, ◌++◌, take, drop, length, get_or, refl, sym, ap, ◌∙◌, arith}
use Rattle.std.specs.Prelude.{flat_map}
use Rattle.std.specs.List.{AllByRecursion}
use Rattle.std.proofs.lemmas.Bool.{eqb-true, eqb-false}
use Rattle.std.proofs.lemmas.List.{take_more, take-append-drop}
use Rattle.std.proofs.lemmas.List.Elements.{All-nil, All-cons}
use Rattle.journal.specs.Line.{HasNoLineFeed}
use Rattle.journal.specs.Lines.{with_feed, SplitsAtLastFeed}

-- the text before a line feed, as lines: at least one
record AreLines (front : List ℕ) : Type 0 where
  first : List ℕ
  more : List (List ℕ)
  is : front ++ 10 ∷ [] ≡ with_feed first ++ flat_map with_feed more
  no_feed : HasNoLineFeed first
  each : AllByRecursion HasNoLineFeed more

lines_before : (front : List ℕ) → AreLines front
lines_before [] = record {
  first = [];
  more = [];
  is = refl;
  no_feed = All-nil (λ byte. byte ≢ 10);
  each = tt;
}
lines_before (b ∷ front) = go (eqb b 10) refl (lines_before front)
  where
    go : (t : Bool) → eqb b 10 ≡ t → AreLines front → AreLines (b ∷ front)
    go true feed later = record {
      first = [];
      more = later.first ∷ later.more;
      is = ap (λ (n : ℕ). n ∷ (front ++ 10 ∷ [])) (eqb-true b 10 feed)
          ∙ ap (λ (t : List ℕ). 10 ∷ t) later.is;
      no_feed = All-nil (λ byte. byte ≢ 10);
      each = (later.no_feed, later.each);
    }
    go false other later = record {
      first = b ∷ later.first;
      more = later.more;
      is = ap (λ (t : List ℕ). b ∷ t) later.is;
      no_feed = All-cons (λ byte. byte ≢ 10) b later.first (eqb-false b 10 other) later.no_feed;
      each = later.each;
    }

-- a text that is split after its last line feed, or at its beginning if it has none
pub cut_text : (text : List ℕ) (end : ℕ) → end ≤ length text
    → (0 < end → get_or text (end - 1) 0 ≡ 10) → HasNoLineFeed (drop end text)
    → SplitsAtLastFeed text (take end text) (drop end text)
cut_text text zero within feed torn = record {
  lines = [];
  are = record { begins = record { is = refl; each = tt }; last = torn };
  whole_is = refl;
}
cut_text text (suc end) within feed torn =
    let last : get_or text end 0 ≡ 10 =
    let same : suc end - 1 ≡ end = omega arith in
    ap (λ n. get_or text n 0) (sym same) ∙ feed (omega arith) in
    let lines = lines_before (take end text) in
    let one_more : suc end ≡ end + 1 = omega arith in
    let whole : take (suc end) text ≡ with_feed lines.first ++ flat_map with_feed lines.more =
    ap (λ n. take n text) one_more ∙ take_more text end 0 (omega (arith, within))
    ∙ ap (λ (n : ℕ). take end text ++ n ∷ []) last ∙ lines.is in
    record {
      lines = lines.first ∷ lines.more;
      are = record {
        begins = record {
          is = sym (take-append-drop (suc end) text) ∙ ap (λ (t : List ℕ). t ++ drop (suc end) text) whole;
          each = (lines.no_feed, lines.each);
        };
        last = torn;
      };
      whole_is = whole;
    }
