-- The answer to a request that is handed out at once makes no difference to the state after it.
use Rattle.std.proofs.Common.{◌≡◌, ℕ, ◌==◌, Bool, true, false, cond, nat_lt, List, [], ◌∷◌, ◌++◌, ◌+◌, length, Option, Some, None, Result, Ok, Err, refl, sym, ap, ◌∙◌, arith}
use Rattle.std.proofs.lemmas.Bool.Decides.{nat_tests}
use Rattle.ocpp_scalars.specs.ResultSteps.{◌>>=◌}
use Rattle.ocpp_scalars.specs.declared.refusal.Refusal.{Refusal}
use Rattle.ocpp_scalars.specs.declared.refusal.Refusal.TheVariants as refusals
use Rattle.meaning.specs.declared.ask.Ask.{Ask}
use Rattle.meaning.specs.Ask.{ask_of}
use Rattle.point_book.specs.Book.{BookState}
use Rattle.site_core.specs.declared.step.Step.TheVariants as steps
use Rattle.site_core.specs.declared.step.Take.{Take}
use Rattle.site_core.specs.State.{MachineState, Kept, book_at}
use Rattle.site_core.specs.Requests.{request_of, answered, with_answer, without}
use Rattle.site_core.specs.Ask.{ask_at, is_other_unit}
use Rattle.site_core.specs.Step.{Made, unless, refusal_to_take, taking, with_request}
use Rattle.site_core.specs.Step.{compiles_kept, answers_kept}
use Rattle.replay.specs.PointChange.{change_of}
use Rattle.replay.specs.MachineSteps.{Stepped, made_or_refused, exact_answer, stepped_exactly, handed_out, at_once, stepped_at_once}
use Rattle.replay.specs.ByCases.MachineSteps.{MayBeSkimmed}

-- two steps with the same state and the same change
pub record SameEnd (one other : Stepped) : Type 0 where
  pub after : one.after ≡ other.after
  pub change : change_of one.outcome ≡ change_of other.outcome

-- ---- one request alone, compiled and handed out

same_number : (n : ℕ) → (n == n) ≡ true
same_number n = go (n == n) refl
  where
    go : (test : Bool) → (n == n) ≡ test → test ≡ true
    go true is = refl
    go false is = absurd (grind (arith, nat_tests))

abbrev unanswered : (number place : ℕ) → BookState → Ask → Kept
unanswered number place book ask =
    record { number = number; place = place; book = book; ask = ask; answer = None }

abbrev exactly_answered : (number place : ℕ) → BookState → Ask → Kept
exactly_answered number place book ask =
    with_answer (unanswered number place book ask)
    (exact_answer (Some (unanswered number place book ask)))

abbrev alone : MachineState → List Kept → MachineState
alone base requests = record base { requests = requests }

compiled_alone : (base : MachineState) (number place : ℕ) (book : BookState) (ask : Ask)
    → (stepped_exactly (alone base (unanswered number place book ask ∷ [])) (steps.Compile number)).after
    ≡ alone base (exactly_answered number place book ask ∷ [])
unfolding stepped_exactly
compiled_alone base number place book ask =
    let kept = unanswered number place book ask in
    let old = alone base (kept ∷ []) in
    let answer = exact_answer (Some kept) in
    let found : request_of number (kept ∷ []) ≡ Some kept =
    ap (λ (b : Bool). cond b (Some kept) None) (same_number number) in
    let now : answered number answer (kept ∷ []) ≡ with_answer kept answer ∷ [] =
    ap (λ (b : Bool). cond b (with_answer kept answer ∷ []) (kept ∷ [])) (same_number number) in
    ap (λ (k : Option Kept). (made_or_refused old (compiles_kept old number (exact_answer k) k)).after) found
    ∙ ap (λ (l : List Kept). alone base l) now

handed_alone : (base : MachineState) (number place : ℕ) (book : BookState) (ask : Ask)
    → SameEnd (stepped_exactly (alone base (exactly_answered number place book ask ∷ [])) (steps.Answer number))
    (record { outcome = Err refusals.UnknownRequest; after = alone base [] })
unfolding stepped_exactly
handed_alone base number place book ask =
    let kept = exactly_answered number place book ask in
    let old = alone base (kept ∷ []) in
    let found : request_of number (kept ∷ []) ≡ Some kept =
    ap (λ (b : Bool). cond b (Some kept) None) (same_number number) in
    let gone : without number (kept ∷ []) ≡ [] =
    ap (λ (b : Bool). cond b [] (kept ∷ [])) (same_number number) in
    record {
      after =
          ap (λ (k : Option Kept). (made_or_refused old (answers_kept old k)).after) found
          ∙ ap (λ (l : List Kept). alone base l) gone;
      change =
          ap (λ (k : Option Kept). change_of (made_or_refused old (answers_kept old k)).outcome) found;
    }

-- ---- a Take, whose request is compiled and handed out at once

abbrev numbered : MachineState → MachineState
numbered old = record old { numbers = record old.numbers { request = old.numbers.request + 1 } }

handed : (old : MachineState) (place : ℕ) (ask : Ask) → old.requests ≡ []
    → SameEnd (handed_out (with_request old (book_at old place) ask place) (old.numbers.request + 1))
    (record { outcome = Err refusals.UnknownRequest; after = alone (numbered old) [] })
handed old place ask none =
    let number = old.numbers.request + 1 in
    let book = book_at old place in
    let first = compiled_alone (numbered old) number place book ask in
    let second = handed_alone (numbered old) number place book ask in
    let taken : with_request old book ask place
    ≡ alone (numbered old) (unanswered number place book ask ∷ []) =
    ap (λ (l : List Kept). alone (numbered old) (l ++ unanswered number place book ask ∷ [])) none in
    let same : handed_out (with_request old book ask place) number
    ≡ stepped_exactly (alone (numbered old) (exactly_answered number place book ask ∷ []))
    (steps.Answer number) =
    ap (λ (s : MachineState). handed_out s number) taken
    ∙ ap (λ (s : MachineState). stepped_exactly s (steps.Answer number)) first in
    record {
      after = ap (λ (s : Stepped). s.after) same ∙ second.after;
      change = ap (λ (s : Stepped). change_of s.outcome) same ∙ second.change;
    }

-- the outcome of a Take, by the state after it or its refusal
abbrev at_end : MachineState → Result Made Refusal → Stepped
at_end old made = at_once (made_or_refused old made).outcome (made_or_refused old made).after

abbrev first_second : Take → Take
first_second take = record take { duration = 1 }

-- a request and another one end in the same way
by_refusal : (old : MachineState) (place : ℕ) (ask second : Ask) → old.requests ≡ []
    → (refusal : Option Refusal)
    → SameEnd
    (at_end old (unless refusal (taking old place ask)))
    (at_end old (unless refusal (taking old place second)))
by_refusal old place ask second none (Some refusal) = record { after = refl; change = refl }
by_refusal old place ask second none None =
    let one = handed old place ask none in
    let other = handed old place second none in
    record { after = one.after ∙ sym other.after; change = one.change ∙ sym other.change }

-- the outcome of a Take at a place, by its request there
abbrev taking_asked : MachineState → Take → ℕ → Result Ask Refusal → Result Made Refusal
taking_asked old take place asked =
    asked >>= (λ ask. unless (refusal_to_take old take) (taking old place ask))

abbrev takes_at : MachineState → Take → ℕ → Result Made Refusal
takes_at old take place =
    taking_asked old take place (ask_at old.site.unit (book_at old place) take)

by_place : (old : MachineState) (take : Take) → MayBeSkimmed old take
    → (place : Result ℕ Refusal)
    → SameEnd (at_end old (place >>= takes_at old take))
    (at_end old (place >>= takes_at old (first_second take)))
by_place old take may (Err refusal) = record { after = refl; change = refl }
by_place old take may (Ok place) =
    by_connector (nat_lt (length (book_at old place).ceilings) take.connector)
    (is_other_unit take.unit old.site.unit)
  where
    asked : (connector unit : Bool) (duration : ℕ) → Result Ask Refusal
    asked connector unit duration =
        cond connector (Err refusals.UnknownConnector)
        (cond unit (Err refusals.WrongUnit) (ask_of take.connector take.start duration))

    by_connector : (connector unit : Bool)
        → SameEnd (at_end old (taking_asked old take place (asked connector unit take.duration)))
        (at_end old (taking_asked old (first_second take) place (asked connector unit 1)))
    by_connector true unit = record { after = refl; change = refl }
    by_connector false true = record { after = refl; change = refl }
    by_connector false false =
        rw (may.asks, may.asks_second)
        (by_refusal old place may.ask may.second may.alone (refusal_to_take old take))

-- the whole Take and that of its first second end in the same way
pub skimmed : (old : MachineState) (take : Take) → MayBeSkimmed old take
    → SameEnd (stepped_at_once old (steps.Take take))
    (stepped_at_once old (steps.Take (first_second take)))
unfolding stepped_exactly
skimmed old take may = by_place old take may _
