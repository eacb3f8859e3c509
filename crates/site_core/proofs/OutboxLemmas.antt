-- Bodies as numbered calls.
use Rattle.std.proofs.Common.{◌≡◌, ℕ, ◌+◌, ◌-◌, ◌<◌, ◌≤◌, nat_le, nat_lt, suc, refl, sym, ◌∙◌, ap, List, [], ◌∷◌, ◌++◌, length, drop, map, Bool, true, ◌&&◌, false, cond, is_some, nat_eq, Option, Some, None, IsSome, slice_index_or, arith, length-append}
use Rattle.std.proofs.lemmas.Bool.Decides.{nat_tests}
use Rattle.std.specs.List.{range_with_len}
use Rattle.messages.specs.declared.call.Call.{Call}
use Rattle.messages.specs.declared.call.CallBody.{CallBody}
use Rattle.site_core.specs.Limits.{max_number, max_calls}
use Rattle.site_core.specs.Outbox.{OutboxState, IsOutbox, numbered, clear_all, is_number_of_first, is_number_in_flight, is_unconfirmed, confirmed, sendable, sendable_by, sending_link}

pub numbered_length : (number : ℕ) (bodies : List CallBody)
    → length (numbered number bodies) ≡ length bodies
numbered_length number [] = refl
numbered_length number (body ∷ later) = ap suc (numbered_length (number + 1) later)

-- the numbers go up by one
pub numbered_numbers : (number : ℕ) (bodies : List CallBody)
    → map (λ (call : Call). call.number) (numbered number bodies) ≡ range_with_len number
    (length bodies)
numbered_numbers number [] = refl
numbered_numbers number (body ∷ later) = ap (λ (ns : List ℕ). number ∷ ns) (numbered_numbers
    (number + 1) later)

-- one more body is a call of the number after the others
pub numbered_push : (number next : ℕ) (bodies : List CallBody) (body : CallBody)
    → number + length bodies ≡ next
    → numbered number (bodies ++ body ∷ []) ≡ numbered number bodies ++ record {
      number =
          next;
      body = body;
    } ∷ []
numbered_push number next [] body e = let same : number ≡ next = omega arith in
    ap (λ (n : ℕ). record { number = n; body = body } ∷ []) same
numbered_push number next (first ∷ later) body e = let same : (number + 1) + length later ≡ next =
    omega arith in
    ap (λ (cs : List Call). record { number = number; body = first } ∷ cs) (numbered_push
    (number + 1) next later body same)

-- a call joins the others
pub numbered_join : (next : ℕ) (bodies more : List CallBody) → length more ≡ 1
    → length bodies ≤ next
    → numbered ((next + 1) - length (bodies ++ more)) (bodies ++ more)
    ≡ numbered (next - length bodies) bodies ++ record {
      number = next;
      body =
          slice_index_or more 0 clear_all;
    } ∷ []
numbered_join next bodies (body ∷ []) one drawn =
    let same : (next + 1) - length (bodies ++ body ∷ []) ≡ next - length bodies =
    omega (arith, length-append bodies (body ∷ [])) in
    ap (λ (n : ℕ). numbered n (bodies ++ body ∷ [])) same
    ∙ numbered_push (next - length bodies) next bodies body (omega arith)
numbered_join next bodies [] one drawn = cc
numbered_join next bodies (body ∷ (other ∷ later)) one drawn = absurd (omega arith)

-- the state that an outbox's bodies show satisfies the invariant
pub outbox_is : (link : Option ℕ) (bodies : List CallBody) (next : ℕ) (is_in_flight : Bool)
    → length bodies ≤ next → next ≤ max_number + 1 → length bodies ≤ max_calls
    → (is_in_flight ≡ true → IsSome link × (0 < length bodies))
    → IsOutbox (record {
      link = link;
      calls = numbered (next - length bodies) bodies;
      next =
          next;
      is_in_flight = is_in_flight;
    })
outbox_is link bodies next is_in_flight drawn last few flies =
    let many : length (numbered (next - length bodies) bodies) ≡ length bodies =
    numbered_length (next - length bodies) bodies in
    record {
      numbers = numbered_numbers (next - length bodies) bodies
          ∙ ap (λ (n : ℕ). range_with_len (next - n) n) (sym many);
      drawn = rw many drawn;
      last = last;
      few = rw many few;
      in_flight = λ is. rw many (flies is);
    }

-- without the first body the calls are those after the first
pub numbered_drop : (next : ℕ) (bodies : List CallBody) → length bodies ≤ next
    → numbered (next - length (drop 1 bodies)) (drop 1 bodies) ≡ drop 1 (numbered
    (next - length bodies) bodies)
numbered_drop next [] drawn = refl
numbered_drop next (body ∷ later) drawn =
    let same : next - length later ≡ (next - length (body ∷ later)) + 1 = omega arith in
    ap (λ (n : ℕ). numbered n later) same

pub sendable_is : (link : Option ℕ) (bodies : List CallBody) (next number : ℕ)
    (is_in_flight : Bool) (body : CallBody)
    → is_some link ≡ true → is_in_flight ≡ false → number ≡ next - length bodies
    → 0 < length bodies → body ≡ slice_index_or bodies 0 body
    → Some (record { number = number; body = body })
    ≡ sendable (record {
      link = link;
      calls = numbered (next - length bodies) bodies;
      next =
          next;
      is_in_flight = is_in_flight;
    })
sendable_is (Some link) (first ∷ later) next number false body linked waits at some is = cc
sendable_is (Some link) (first ∷ later) next number true body linked waits at some is = cc
sendable_is (Some link) [] next number is_in_flight body linked waits at none is =
    absurd (omega arith)
sendable_is None bodies next number is_in_flight body linked waits at some is = cc

-- a call that waits can be sent over the link, if there is one
pub sends_over_link : (outbox : OutboxState) → outbox.is_in_flight ≡ false → 0 < length outbox.calls
    → outbox.link ≡ sending_link outbox
sends_over_link outbox waits some = by outbox.link outbox.is_in_flight outbox.calls waits some
  where
    by : (link : Option ℕ) (is_in_flight : Bool) (calls : List Call) → is_in_flight ≡ false
        → 0 < length calls
        → link ≡ cond (is_some (sendable_by link is_in_flight calls)) link None
    by None is_in_flight calls waits some = refl
    by (Some link) true calls waits some = absurd (cc waits)
    by (Some link) false [] waits none = absurd (omega arith)
    by (Some link) false (call ∷ later) waits some = refl

pub confirmed_is : (outbox : OutboxState) (number : ℕ) → is_number_in_flight outbox number ≡ true
    → record {
      link = outbox.link;
      calls = drop 1 outbox.calls;
      next = outbox.next;
      is_in_flight =
          false;
    } ≡ confirmed outbox number
confirmed_is outbox number is = rw is refl

-- the call in flight is the first one
pub number_in_flight : (outbox : OutboxState) (number : ℕ) → IsOutbox outbox
    → outbox.is_in_flight ≡ true
    → is_number_in_flight outbox number ≡ nat_eq (outbox.next - length outbox.calls) number
number_in_flight outbox number is flies = by outbox.calls is.numbers (is.in_flight flies).1
  where
    by : (calls : List Call) → map (λ (call : Call). call.number) calls ≡ range_with_len
        (outbox.next - length calls) (length calls)
        → 0 < length calls → (outbox.is_in_flight && is_number_of_first calls number) ≡ nat_eq
        (outbox.next - length calls) number
    by [] numbers none = absurd (omega arith)
    by (call ∷ later) numbers some = let first : call.number ≡ outbox.next - length
        (call ∷ later) = cc in
        ap (λ (b : Bool). b && nat_eq call.number number) flies
        ∙ ap (λ (n : ℕ). nat_eq n number) first

-- the call of a number is unconfirmed exactly if the number is at least the first and below the next
pub waits_by_number : (outbox : OutboxState) (number : ℕ) → IsOutbox outbox
    → is_unconfirmed outbox.calls number
    ≡ (nat_le (outbox.next - length outbox.calls) number && nat_lt number outbox.next)
waits_by_number outbox number is =
    among outbox.calls (outbox.next - length outbox.calls) is.numbers
    ∙ ap (λ (n : ℕ). nat_le (outbox.next - length outbox.calls) number && nat_lt number n)
    (omega (arith, is.drawn))
  where
    among : (calls : List Call) (first : ℕ)
        → map (λ (call : Call). call.number) calls ≡ range_with_len first (length calls)
        → is_unconfirmed calls number
        ≡ (nat_le first number && nat_lt number (first + length calls))
    among [] first same = grind (arith, nat_tests)
    among (call ∷ later) first same =
        let here : call.number ≡ first = cc in
        let rest = among later (first + 1) cc in
        grind (arith, nat_tests)
