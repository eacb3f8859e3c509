-- The state that a step led to is recorded, or needn't be. Lists of equally many states are the same.
use Rattle.std.proofs.Common.{◌≡◌, ℕ, ◌+◌, ◌<◌, ◌≤◌, Bool, true, false, List, [], ◌∷◌, ◌++◌, length, refl, sym, ap, ◌∙◌, subst, ⊎_elim, arith, Option, Some, option_map}
use mathlib.Core.List.{IsPrefix}
use Rattle.site_core.specs.declared.step.Step.{Step}
use Rattle.site_core.specs.declared.reply.Reply.{Reply}
use Rattle.site_core.specs.State.{MachineState}
use Rattle.site_core.specs.Step.{is_event}
use Rattle.site_core.specs.StoredHistory.{StoredEvent}
use Rattle.version_store.specs.Store.{StoreState}
use Rattle.version_store.specs.Calls.{Adds, Makes, RepliesAlone, event_alone}
use Rattle.version_store.specs.Recording.{IsAt, IsCountOf, RequestLeads, is_of_request, last_count, or_none}
use Rattle.version_store.specs.Theory.Forgetting.{request_forgotten}

-- ---- requests

left_out : (named : Bool) (states : List MachineState) (old new : MachineState) → RequestLeads old new
    → IsAt named states old → IsAt named states new
left_out named states old new leads was kept =
    let before = was kept in (
      before.0,
      before.1 ∙ ap (λ (s : MachineState). before.0 ++ s ∷ []) (sym (request_forgotten old new leads)),
    )

-- an event of a request
pub adds_request : (named : Bool) (states : List MachineState) (old : StoreState) (stored : StoredEvent)
    (reply : Reply) (new : StoreState) → Adds old stored reply new
    → is_of_request stored.step ≡ true → IsAt named states old.present → IsAt named states new.present
adds_request named states old stored reply new adds request was =
    left_out named states old.present new.present (record {
      stored = stored;
      reply = reply;
      request = request;
      made = adds.made;
    }) was

-- if the state is kept
kept_at : (named : Bool) (states : List MachineState) (old : StoreState) (step : Step) (reply : Reply)
    (new : StoreState) → RepliesAlone old step reply new → IsAt named states old.present
    → IsAt named states new.present
kept_at named states old step reply new alone was =
    subst (λ (s : StoreState). IsAt named states s.present) (sym alone.kept) was

pub makes_request : (named : Bool) (states : List MachineState) (old : StoreState) (step : Step) (reply : Reply)
    (new : StoreState) → Makes old step reply new → is_of_request step ≡ true
    → IsAt named states old.present → IsAt named states new.present
makes_request named states old step reply new makes request was =
    ⊎_elim
    (λ adds. adds_request named states old (event_alone step) reply new adds request was)
    (λ alone. kept_at named states old step reply new alone was)
    makes

-- ---- other steps

pub makes_no_event : (named : Bool) (states : List MachineState) (old : StoreState) (step : Step) (reply : Reply)
    (new : StoreState) → Makes old step reply new → is_event old.present reply ≡ false
    → IsAt named states old.present → IsAt named states new.present
makes_no_event named states old step reply new makes none was =
    ⊎_elim
    (λ adds. absurd (cc (adds.event, none)))
    (λ alone. kept_at named states old step reply new alone was)
    makes

-- ---- the same states

same_list : {A : Type 0} (xs ys : List A) → IsPrefix xs ys → length ys ≤ length xs → xs ≡ ys
same_list [] [] begins le = refl
same_list [] (y ∷ ys) begins le = absurd (omega arith)
same_list (x ∷ xs) [] begins le = absurd (cc begins.1)
same_list (x ∷ xs) (y ∷ ys) begins le =
    let rest = same_list xs ys (begins.0, cc begins.1) (omega arith) in cc (begins.1, rest)

pub same_count : (xs ys : List MachineState) (one other : ℕ) → IsCountOf xs one
    → IsCountOf ys other → (length ys ≤ length xs → IsPrefix ys xs)
    → (length xs ≤ length ys → IsPrefix xs ys) → one ≡ other → one < last_count → xs ≡ ys
same_count xs ys one other counts others longer shorter same few =
    let here = counts.exact few in
    let there = others.exact (omega (arith, same, few)) in
    same_list xs ys (shorter (omega (arith, here, there, same))) (omega (arith, here, there, same))

pub longer_count : (xs ys : List MachineState) (one other : ℕ) → IsCountOf xs one
    → IsCountOf ys other → (length ys ≤ length xs → IsPrefix ys xs) → other ≤ one
    → one < last_count → IsPrefix ys xs
longer_count xs ys one other counts others longer le few =
    let here = counts.exact few in
    let there = others.exact (omega (arith, le, few)) in
    longer (omega (arith, here, there, le))

one_behind : {A : Type 0} (xs ys : List A) → IsPrefix xs ys → length ys ≡ length xs + 1
    → (y : A) × (ys ≡ xs ++ y ∷ [])
one_behind [] [] begins one = absurd (omega (arith, one))
one_behind [] (y ∷ []) begins one = (y, refl)
one_behind [] (y ∷ z ∷ ys) begins one = absurd (omega (arith, one))
one_behind (x ∷ xs) [] begins one = absurd (cc begins.1)
one_behind (x ∷ xs) (y ∷ ys) begins one =
    let rest = one_behind xs ys (begins.0, cc begins.1) (omega (arith, one)) in
    (rest.0, cc (begins.1, rest.1))

pub next_count : (xs ys : List MachineState) (one other : ℕ) → IsCountOf xs one
    → IsCountOf ys other → (length ys ≤ length xs → IsPrefix ys xs) → other + 1 ≡ one
    → one < last_count → (state : MachineState) × (xs ≡ ys ++ state ∷ [])
next_count xs ys one other counts others longer next few =
    let here = counts.exact few in
    let there = others.exact (omega (arith, next, few)) in
    one_behind ys xs (longer (omega (arith, here, there, next))) (omega (arith, here, there, next))

-- if states are recorded, in the form that the code has
pub kept_states : {A : Type 0} (entries : A → List MachineState) (found : Option A) (front : A)
    (view : List MachineState) (count : ℕ) → or_none (option_map entries found) ≡ view
    → found ≡ Some front → IsCountOf (or_none (option_map entries found)) count
    → (view ≡ entries front) × IsCountOf (entries front) count
kept_states {A} entries found front view count view_is is counts = (
  sym view_is ∙ ap (λ (o : Option A). or_none (option_map entries o)) is,
  subst (λ (o : Option A). IsCountOf (or_none (option_map entries o)) count) is counts,
)
