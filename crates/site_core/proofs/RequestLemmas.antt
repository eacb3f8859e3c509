-- The request of a number is at the first place that has it.
use Rattle.std.proofs.Common.{◌≡◌, ◌==◌, ℕ, ◌+◌, ◌<◌, suc, zero, Bool, true, false, cond, List, [], ◌∷◌, length, get_or, slice_set, Option, Some, None, option_map, is_some, Ok, refl, sym, ap, ◌∙◌, arith}
use Rattle.std.specs.List.{position, position_from, remove}
use Rattle.std.proofs.lemmas.Bool.{eqb-true}
use Rattle.std.proofs.lemmas.Iterator.Adapters.{position_from-zero}
use Rattle.std.proofs.lemmas.List.Quantifiers.{position-Some}
use Rattle.ocpp_scalars.specs.declared.refusal.Refusal.TheVariants.{AlreadyAnswered}
use Rattle.sweep_compiler.specs.Compiled.{CompiledAnswer}
use Rattle.site_core.specs.declared.reply.Reply.{Reply}
use Rattle.site_core.specs.declared.reply.Reply.TheVariants.{Answered, NotYet}
use Rattle.site_core.specs.State.{Kept, ScheduleAnswer}
use Rattle.site_core.specs.Right.{IsCompiledFor}
use Rattle.site_core.specs.Requests.{request_of, with_answer, answered, without}
use Rattle.site_core.specs.ByCases.Requests.{refusal_to_compile, IsCompiledIn, MayBePosted, IsPostedIn, handed_with, handed_out}

abbrev pub has_number : ℕ → Kept → Bool
has_number number kept = kept.number == number

-- no request has the number
none_from : (number place : ℕ) (requests : List Kept)
    → position_from (has_number number) place requests ≡ None → request_of number requests ≡ None
none_from number place [] none = refl
none_from number place (kept ∷ others) none =
    elim (kept.number == number) as (λ b. cond b (Some place) (position_from (has_number number)
    (place + 1) others) ≡ None → cond b (Some kept) (request_of number others) ≡ None) [
      | true ↦ λ h. absurd (cc h)
      | false ↦ λ h. none_from number (place + 1) others h
    ] none

pub none_of : (number : ℕ) (requests : List Kept) → None ≡ position (has_number number) requests
    → request_of number requests ≡ None
none_of number requests none =
    none_from number 0 requests (sym (position_from-zero (has_number number) requests) ∙ sym none)

-- the functions on requests, if the first request of a number is at a place
pub record IsFirst (number : ℕ) (requests : List Kept) (place : ℕ) (kept : Kept) : Type 0 where
  pub is_kept : request_of number requests ≡ Some kept
  pub answers : (answer : ScheduleAnswer) → answered number answer requests ≡ slice_set requests
      place (with_answer kept answer)
  pub leaves : without number requests ≡ remove requests place
  pub same : kept.number ≡ number

first_at : (number : ℕ) (requests : List Kept) (place : ℕ) (d : Kept) → place < length requests
    → has_number number (get_or requests place d) ≡ true
    → ((k : ℕ) → k < place → has_number number (get_or requests k d) ≡ false)
    → IsFirst number requests place (get_or requests place d)
first_at number [] place d within here before = absurd (omega arith)
first_at number (kept ∷ others) zero d within here before =
    let same : kept.number ≡ number = eqb-true _ _ here in
    record {
      is_kept = rw here refl;
      answers = λ answer. rw here refl;
      leaves =
          rw here refl;
      same = same;
    }
first_at number (kept ∷ others) (suc place) d within here before =
    let other : has_number number kept ≡ false = before 0 (omega arith) in
    let inside : place < length others = omega arith in
    let rest = first_at number others place d inside here (λ k below. before (suc k)
    (omega arith)) in
    record {
      is_kept = rw other rest.is_kept;
      answers = λ answer. rw other (ap (λ (l : List Kept). kept ∷ l) (rest.answers answer));
      leaves = rw other (ap (λ (l : List Kept). kept ∷ l) rest.leaves);
      same = rest.same;
    }

pub first_of : (number : ℕ) (requests : List Kept) (place : ℕ) (kept : Kept)
    → Some place ≡ position (has_number number) requests
    → kept ≡ get_or requests place kept → IsFirst number requests place kept
first_of number requests place kept found read =
    let facts = position-Some (has_number number) requests place kept (sym found) in
    rw (sym read) at (first_at number requests place kept facts.0 facts.1 facts.2)

-- it is answered
pub compiled_in : (number : ℕ) (requests : List Kept) (place : ℕ) (kept : Kept)
    (answer : ScheduleAnswer) → Some place ≡ position (has_number number) requests
    → kept ≡ get_or requests place kept → is_some kept.answer ≡ false
    → IsCompiledFor kept.book kept.ask answer
    → IsCompiledIn number requests (slice_set requests place (with_answer kept answer))
compiled_in number requests place kept answer found read none right =
    let first = first_of number requests place kept found read in
    record {
      kept = kept;
      is_kept = first.is_kept;
      had_none = none;
      answer = answer;
      right = right;
      now = sym (first.answers answer);
    }

-- it is answered by the answer brought for it
pub posted_in : (number : ℕ) (requests : List Kept) (place : ℕ) (kept : Kept)
    (brought : CompiledAnswer) (answer : ScheduleAnswer)
    → Some place ≡ position (has_number number) requests
    → kept ≡ get_or requests place kept → MayBePosted kept brought
    → IsCompiledFor brought.book brought.ask brought.answer → answer ≡ brought.answer
    → IsPostedIn number brought requests (slice_set requests place (with_answer kept answer))
posted_in number requests place kept brought answer found read may right same =
    let first = first_of number requests place kept found read in
    record {
      kept = kept;
      is_kept = first.is_kept;
      had_none = may.had_none;
      fits = may.fits;
      right = rw (← may.fits.book, ← may.fits.ask) right;
      now = ap (λ (a : ScheduleAnswer). slice_set requests place (with_answer kept a)) same
          ∙ sym (first.answers brought.answer);
    }

-- it isn't handed out yet
pub handed_not_yet : (number : ℕ) (requests : List Kept) (place : ℕ) (kept : Kept)
    → Some place ≡ position (has_number number) requests
    → kept ≡ get_or requests place kept → is_some kept.answer ≡ false
    → handed_out number requests ≡ Ok (NotYet, requests)
handed_not_yet number requests place kept found read none =
    let first = first_of number requests place kept found read in
    let with : (o : Option ScheduleAnswer) → is_some o ≡ false
    → handed_with kept o requests ≡ (NotYet, requests)
    = λ (o : Option ScheduleAnswer). elim o as (λ o. is_some o ≡ false
    → handed_with kept o requests ≡ (NotYet, requests)) [
      | None ↦ λ h. refl
      | Some answer ↦ λ h. absurd (cc h)
    ] in
    rw first.is_kept (ap Ok (with kept.answer none))

-- it is handed out
pub handed : (number : ℕ) (requests : List Kept) (place : ℕ) (kept : Kept) (reply : Reply)
    → Some place ≡ position (has_number number) requests
    → kept ≡ get_or requests place kept → Some reply ≡ option_map (λ
    (answer : ScheduleAnswer). Answered kept.book kept.ask answer) kept.answer
    → handed_out number requests ≡ Ok (reply, remove requests place)
handed number requests place kept reply found read reply_is =
    let first = first_of number requests place kept found read in
    let left : without kept.number requests ≡ remove requests place =
    ap (λ (n : ℕ). without n requests) first.same ∙ first.leaves in
    let with : (o : Option ScheduleAnswer) → Some reply ≡ option_map (λ
    (answer : ScheduleAnswer). Answered kept.book kept.ask answer) o
    → handed_with kept o requests ≡ (reply, remove requests place)
    = λ (o : Option ScheduleAnswer). elim o as (λ o. Some reply ≡ option_map (λ
    (answer : ScheduleAnswer). Answered kept.book kept.ask answer) o
    → handed_with kept o requests ≡ (reply, remove requests place)) [
      | None ↦ λ h. absurd (cc h)
      | Some answer ↦ λ h. cc (h, left)
    ] in
    rw first.is_kept (ap Ok (with kept.answer reply_is))

-- it has its answer
pub answered_before : (number : ℕ) (requests : List Kept) (place : ℕ) (kept : Kept)
    → Some place ≡ position (has_number number) requests
    → kept ≡ get_or requests place kept → is_some kept.answer ≡ true
    → refusal_to_compile (request_of number requests) ≡ Some AlreadyAnswered
answered_before number requests place kept found read has =
    let first = first_of number requests place kept found read in
    rw (first.is_kept, has) refl
