-- Lines that are restored one after another.
use Rattle.std.proofs.Common.{◌≡◌, ℕ, ◌+◌, ◌-◌, ◌≤◌, false, List, [], ◌∷◌, ◌++◌, map, length, codes, Result, Ok, refl, sym, ap, ◌∙◌, append_assoc, append-nil, arith, length-append}
use Rattle.std.specs.Prelude.{flat_map}
use Rattle.std.specs.List.{AllByRecursion}
use Rattle.std.proofs.lemmas.Grind.{flat_map-append}
use Rattle.std.proofs.lemmas.List.{map-append}
use Rattle.ocpp_scalars.specs.ResultSteps.{◌>>=◌}
use Rattle.site_core.specs.State.{MachineState}
use Rattle.version_store.specs.Passes.{PassState}
use Rattle.journal.specs.declared.line_fault.LineFault.{LineFault}
use Rattle.journal.specs.declared.restore_fault.RestoreFault.{RestoreFault}
use Rattle.journal.specs.ByCases.Line.{line_in}
use Rattle.journal.specs.Line.{LineState, HasNoLineFeed}
use Rattle.journal.specs.Lines.{with_feed, BeginsWithLines, SplitsAtFeed}
use Rattle.journal.specs.Restore.{KeepsPass, IsFaultOf, is_made, restored_lines}
use Rattle.journal.specs.Journal.{AreReadAs, IsRestored, IsUnrestored, restored_bytes}
use Rattle.journal.specs.ByCases.Restore.{LeadsByLine}
use Rattle.journal.proofs.LostLemmas.{lines_join}

-- these lines were read from a text, and lead to the new state; the next one has this number
pub record IsReadSoFar (old : MachineState) (text rest : List ℕ) (number : ℕ) (new : MachineState)
    : Type 0 where
  pub texts : List (List ℕ)
  pub lines : List LineState
  pub begins : BeginsWithLines text texts rest
  pub read : AreReadAs texts lines
  pub leads : restored_lines old lines ≡ Ok new
  pub next : number ≡ length texts + 2

pub none_read : (old : MachineState) (text : List ℕ) → IsReadSoFar old text text 2 old
none_read old text = record {
  texts = [];
  lines = [];
  begins = record { is = refl; each = tt };
  read = refl;
  leads = refl;
  next = refl;
}

each_push : (texts : List (List ℕ)) (line : List ℕ) → AllByRecursion HasNoLineFeed texts
    → HasNoLineFeed line → AllByRecursion HasNoLineFeed (texts ++ line ∷ [])
each_push [] line each none = (none, tt)
each_push (first ∷ texts) line each none = (each.0, each_push texts line each.1 none)

begins_more : (text rest line others : List ℕ) (texts : List (List ℕ))
    → BeginsWithLines text texts rest → SplitsAtFeed rest line others
    → BeginsWithLines text (texts ++ line ∷ []) others
begins_more text rest line others texts begins splits =
    let before = flat_map with_feed texts in
    record {
      is = begins.is ∙ ap (λ (t : List ℕ). before ++ t) splits.is
          ∙ sym (append_assoc before (with_feed line) others)
          ∙ ap (λ (t : List ℕ). (before ++ t) ++ others) (sym (append-nil (with_feed line)))
          ∙ ap (λ (t : List ℕ). t ++ others) (sym (flat_map-append with_feed texts (line ∷ [])));
      each = each_push texts line begins.each splits.first;
    }

pub more_read : (old new next : MachineState) (text rest line others : List ℕ) (number : ℕ)
    → IsReadSoFar old text rest number new → SplitsAtFeed rest line others
    → LeadsByLine new line next → IsReadSoFar old text others (number + 1) next
more_read old new next text rest line others number was splits led = record {
  texts = was.texts ++ line ∷ [];
  lines = was.lines ++ led.line ∷ [];
  begins = begins_more text rest line others was.texts was.begins splits;
  read = map-append line_in was.texts (line ∷ [])
      ∙ ap (λ (rs : List (Result LineState LineFault)). rs ++ line_in line ∷ []) was.read
      ∙ ap (λ (r : Result LineState LineFault). map Ok was.lines ++ r ∷ []) led.read
      ∙ sym (map-append Ok was.lines (led.line ∷ []));
  leads = lines_join old new next was.lines (led.line ∷ []) was.leads
      (ap (λ (r : Result MachineState RestoreFault). r >>= (λ (s : MachineState). Ok s)) led.leads);
  next = omega (arith, was.next, length-append was.texts (line ∷ []));
}

pub all_read : (old new : MachineState) (text rest : List ℕ) (number : ℕ)
    → IsReadSoFar old text rest number new → HasNoLineFeed rest
    → IsRestored old text (record { lines = number - 1 }) new
all_read old new text rest number was none = record {
  texts = was.texts;
  torn = rest;
  are = record { begins = was.begins; last = none };
  lines = was.lines;
  read = was.read;
  leads = was.leads;
  number = omega (arith, was.next);
}

pub stopped_at : (old state new : MachineState) (text rest line others : List ℕ) (number : ℕ)
    (fault : RestoreFault)
    → IsReadSoFar old text rest number state → SplitsAtFeed rest line others
    → IsFaultOf (restored_bytes state line) fault → (is_made fault ≡ false → new ≡ state)
    → IsUnrestored old text (record { line = number; fault = fault }) new
stopped_at old state new text rest line others number fault was splits is kept = record {
  texts = was.texts;
  line = line;
  rest = others;
  begins = begins_more text rest line others was.texts was.begins splits;
  lines = was.lines;
  read = was.read;
  state = state;
  leads = was.leads;
  number = was.next;
  fault = is;
  kept = kept;
}

pub shorter : (rest line others : List ℕ) → SplitsAtFeed rest line others
    → length others + 1 ≤ length rest
shorter rest line others splits =
    omega (
      arith,
      ap length splits.is,
      length-append (with_feed line) others,
      length-append line (codes "\n"),
    )

pub keeps_on : (first middle last : PassState) → KeepsPass first middle → KeepsPass middle last
    → KeepsPass first last
keeps_on first middle last one other = record {
  changes = omega (arith, one.changes, other.changes);
  answers = omega (arith, one.answers, other.answers);
  seen = omega (arith, one.seen, other.seen);
}
