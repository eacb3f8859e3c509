-- The lines that are left up to the last one that is wanted, line by line.
use Rattle.std.proofs.Common.{◌≡◌, ℕ, ◌+◌, ◌-◌, ◌<◌, ◌≤◌, suc, zero, true, false, cond, List, [], ◌∷◌, take, Option, Some, None, refl, ap, sym, ◌∙◌, arith}
use Rattle.std.specs.List.{fold}
use Rattle.std.proofs.lemmas.Bool.{leb-true, leb-false}
use Rattle.replay.specs.Lines.{script_lines}
use Rattle.replay.specs.Run.{Played, played_more}
use Rattle.replay.specs.Quiet.{lines_up_to, is_up_to, IsNextLine}
use Rattle.replay.specs.Playing.{PlayingState}
use Rattle.replay.specs.Play.{said_on, line_played, LeadsTo}
use Rattle.replay.specs.declared.script.played_line.PlayedLine.{PlayedLine}
use Rattle.replay.specs.ByCases.Quiet.{lines_left}

-- before the first line all wanted lines are left
pub first_lines : (last : Option ℕ) (lines : List (List ℕ)) → lines_left last 1 lines ≡ lines_up_to last lines
first_lines None lines = refl
first_lines (Some last) lines =
    let same : last + 1 - 1 ≡ last = omega arith in
    ap (λ (n : ℕ). take n lines) same

take_none : (n : ℕ) → take {A = List ℕ} n [] ≡ []
take_none zero = refl
take_none (suc n) = refl

-- of an empty script no line is left
pub no_lines_left : (last : Option ℕ) (number : ℕ) → lines_left last number [] ≡ []
no_lines_left None number = refl
no_lines_left (Some last) number = take_none (last + 1 - number)

-- a wanted line comes before the lines that are left after it
pub next_left : (last : Option ℕ) (number : ℕ) (line : List ℕ) (others : List (List ℕ))
    → is_up_to last number ≡ true
    → lines_left last number (line ∷ others) ≡ line ∷ lines_left last (number + 1) others
next_left None number line others wanted = refl
next_left (Some last) number line others wanted =
    let within : number ≤ last = leb-true number last wanted in
    let one : last + 1 - number ≡ suc (last + 1 - (number + 1)) = omega arith in
    ap (λ (n : ℕ). take n (line ∷ others)) one

-- past the last wanted line none is left
pub past_last : (last : Option ℕ) (number : ℕ) (lines : List (List ℕ)) → is_up_to last number ≡ false
    → lines_left last number lines ≡ []
past_last None number lines past = absurd (cc past)
past_last (Some last) number lines past =
    let above : last < number = leb-false number last past in
    let none : last + 1 - number ≡ 0 = omega arith in
    ap (λ (n : ℕ). take n lines) none

-- the next line was played, and the lines after it are left
pub next_played : (last : Option ℕ) (before all : Played) (rest line others : List ℕ)
    → is_up_to last before.number ≡ true → script_lines rest ≡ line ∷ script_lines others
    → fold played_more before (lines_left last before.number (script_lines rest)) ≡ all
    → fold played_more (played_more before line) (lines_left last (before.number + 1) (script_lines others)) ≡ all
next_played last before all rest line others wanted first whole =
    ap (fold played_more before) (sym (ap (lines_left last before.number) first ∙ next_left last before.number line (script_lines others) wanted))
    ∙ whole

-- nothing is left
pub all_played : (last : Option ℕ) (before all : Played) (lines : List (List ℕ))
    → lines_left last before.number lines ≡ []
    → fold played_more before (lines_left last before.number lines) ≡ all
    → before ≡ all
all_played last before all lines none whole = ap (fold played_more before) (sym none) ∙ whole

-- a line was played or skimmed, and then passed
pub went_on : (old mid new : PlayingState) (played : PlayedLine) (line others : List ℕ)
    → script_lines old.rest ≡ line ∷ script_lines others
    → mid.number ≡ old.number → mid.faults ≡ old.faults
    → played.number ≡ old.number → played.line.now ≡ line
    → played.said ≡ said_on old.state.machine.site line
    → LeadsTo (line_played old.state old.number line) played.outcome mid.state
    → new.rest ≡ others → new.state ≡ mid.state → new.number ≡ mid.number + 1
    → new.faults ≡ mid.faults + cond played.outcome.is_fault 1 0
    → IsNextLine old played new
went_on old mid new played line others first same_number same_faults number here said led rest state
    next faults = record {
      first =
          first ∙ (ap (λ l. l ∷ script_lines others) (sym here)
          ∙ ap (λ r. played.line.now ∷ script_lines r) (sym rest));
      number = number;
      next = next ∙ ap (λ n. n + 1) same_number;
      said = said ∙ ap (λ l. said_on old.state.machine.site l) (sym here);
      led = rw (here, state) led;
      faults =
          faults ∙ (ap (λ n. n + cond played.outcome.is_fault 1 0) same_faults
          ∙ (ap (λ b. old.faults + cond b 1 0) (sym led.is_fault)
          ∙ ap (λ l. old.faults + cond (line_played old.state old.number l).is_fault 1 0) (sym here)));
    }
