-- The numbers count each step, and so histories.
use Rattle.std.proofs.Common.{◌≡◌, ℕ, ◌+◌, ◌==◌, Bool, true, false, cond, List, [], ◌∷◌, length, suc, Some, refl, sym, ap, ◌∙◌, add-zero, arith}
use Rattle.std.proofs.lemmas.List.{length-map, length_push}
use Rattle.std.proofs.lemmas.List.Sums.{sum_by-cons}
use Rattle.site_core.specs.declared.step.Step.{Step}
use Rattle.site_core.specs.declared.reply.Reply.{Reply}
use Rattle.site_core.specs.State.{MachineState, Kept, ScheduleAnswer}
use Rattle.site_core.specs.Requests.{request_of, with_answer, answered, without, stopped_request}
use Rattle.site_core.specs.Step.{Made, counted}
use Rattle.site_core.specs.History.{Event}
use Rattle.site_core.specs.Counts.{TellOf, NumbersTellOfHistories}
use Rattle.site_core.proofs.StepLemmas.{Does, does, leaves, takes_one, compiles_one, hands_one, finishes_all}
use Rattle.site_core.specs.Theory.Requests.{found_number}

-- ---- how many are kept

length_answered : (number : ℕ) (answer : ScheduleAnswer) (requests : List Kept)
    → length (answered number answer requests) ≡ length requests
length_answered number answer [] = refl
length_answered number answer (first ∷ requests) = go (first.number == number)
    (length_answered number answer requests)
  where
    go : (here : Bool) → length (answered number answer requests) ≡ length requests
        → length (cond here (with_answer first answer ∷ requests)
        (first ∷ answered number answer requests)) ≡ length (first ∷ requests)
    go true rest = refl
    go false rest = ap suc rest

length_without : (number : ℕ) (kept : Kept) (requests : List Kept)
    → request_of number requests ≡ Some kept
    → length (without number requests) + 1 ≡ length requests
length_without number kept [] is = absurd (cc is)
length_without number kept (first ∷ requests) is = go (first.number == number) is
    (λ e. length_without number kept requests e)
  where
    go : (here : Bool) → cond here (Some first) (request_of number requests) ≡ Some kept
        → (request_of number requests ≡ Some kept
        → length (without number requests) + 1 ≡ length requests)
        → length (cond here requests (first ∷ without number requests)) + 1
        ≡ length (first ∷ requests)
    go true is rest = omega arith
    go false is rest = omega (arith, rest is)

-- ---- one step

abbrev TellsOf : MachineState → Reply → MachineState → Type 0
TellsOf old reply new =
    TellOf old (counted reply).changes (counted reply).takes (counted reply).answers new

tells : (old : MachineState) (step : Step) (made : Made) → Does old step made
    → TellsOf old made.reply made.after
tells old step made (leaves _ _ is) =
    record {
      versions = is.versions;
      drawn = rw (is.drawn, is.takes) (sym (add-zero _));
      kept = rw (is.requests, is.takes, is.answers) refl;
    }
tells old step made (takes_one take place ask point asks going) =
    record {
      versions = sym (add-zero _);
      drawn = refl;
      kept = sym (length_push old.requests _) ∙ sym (add-zero _);
    }
tells old step made (compiles_one compiled kept answer found unanswered right) =
    record {
      versions = sym (add-zero _);
      drawn = sym (add-zero _);
      kept = ap (λ (n : ℕ). n + 0) (sym (length_answered compiled answer old.requests));
    }
tells old step made (hands_one asked kept answer found has) =
    let same : kept.number ≡ asked = found_number asked old.requests kept found in
    let fewer : length (without kept.number old.requests) + 1 ≡ length old.requests =
    rw same (length_without asked kept old.requests found) in
    record {
      versions = sym (add-zero _);
      drawn = sym (add-zero _);
      kept = add-zero _ ∙ sym fewer;
    }
tells old step made (finishes_all going) =
    record {
      versions = sym (add-zero _);
      drawn = sym (add-zero _);
      kept = ap (λ (n : ℕ). n + 0) (sym (length-map old.requests stopped_request));
    }

-- ---- histories

pub numbers_tell : NumbersTellOfHistories
numbers_tell old [] new legal =
    record {
      versions = ap (λ (s : MachineState). s.numbers.version) legal ∙ sym (add-zero _);
      drawn = ap (λ (s : MachineState). s.numbers.request) legal ∙ sym (add-zero _);
      kept = ap (λ (s : MachineState). length s.requests + 0) (sym legal);
    }
numbers_tell old (event ∷ later) new legal =
    let first : TellsOf old event.reply legal.0 =
    tells old event.step (record { reply = event.reply; after = legal.0 })
    (does old event.step event.reply legal.0 legal.1) in
    let rest = numbers_tell legal.0 later new legal.2 in
    record {
      versions = omega (
        arith,
        first.versions,
        rest.versions,
        sum_by-cons (λ (e : Event). (counted e.reply).changes) event later,
      );
      drawn = omega (
        arith,
        first.drawn,
        rest.drawn,
        sum_by-cons (λ (e : Event). (counted e.reply).takes) event later,
      );
      kept = omega (
        arith,
        first.kept,
        rest.kept,
        sum_by-cons (λ (e : Event). (counted e.reply).takes) event later,
        sum_by-cons (λ (e : Event). (counted e.reply).answers) event later,
      );
    }
