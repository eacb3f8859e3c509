-- The intervals so far: with one more, and the periods that they make.
use Rattle.std.proofs.Common.{◌≡◌, ◌≢◌, ℕ, ◌+◌, ◌-◌, ◌<◌, ◌≤◌, zero, suc, Bool, true, List, [], ◌∷◌, ◌++◌, cond, Option, Some, None, refl, ap, sym, ◌∙◌, inl, inr, arith}
use Rattle.std.specs.List.{AllByRecursion, range_with_len, count_by}
use Rattle.std.proofs.Common.{append_assoc}
use Rattle.std.proofs.lemmas.Bool.{cases_lt}
use Rattle.std.proofs.lemmas.List.{append-nil}
use Rattle.std.proofs.lemmas.List.FromFn.{length-range_with_len}
use Rattle.std.proofs.lemmas.List.Sums.{count_by-le-length}
use Rattle.meaning.specs.declared.composite.CompositePeriod.{CompositePeriod}
use Rattle.meaning.specs.declared.cause.Reason.{Reason}
use Rattle.meaning.specs.ByCases.Exact.{exact_periods}
use Rattle.meaning.specs.ByCases.PlainCompiler.{period_added}
use Rattle.meaning.specs.View.{PointState}
use Rattle.meaning.specs.Limit.{limit_asked}
use Rattle.meaning.specs.Cause.{reason_asked}
use Rattle.meaning.specs.Exact.{IsExact}
use Rattle.meaning.specs.Theory.ExactPeriods.{exact_are}
use Rattle.meaning.specs.Theory.PlainCompiler.{limit_before}
use Rattle.meaning.specs.Theory.Reasons.{reason_limit}
use Rattle.sweep_compiler.specs.declared.interval.Interval.{Interval}
use Rattle.sweep_compiler.specs.Explained.{ExplainedSchedule, Adjoin, Differ, IsIntervalOf, IsExplanation, periods_behind, joined}
use Rattle.sweep_compiler.specs.Places.{places_within}
use Rattle.sweep_compiler.proofs.Sweeping.{count_more, count_upto, periods_upto, before_stays}

-- ---- one more interval

pub adjoin_more : (from middle : ℕ) (intervals : List Interval) (new : Interval) → Adjoin from middle intervals → new.start ≡ middle → new.start < new.end
    → Adjoin from new.end (intervals ++ new ∷ [])
adjoin_more from middle [] new h start some = (start ∙ sym h, some, refl)
adjoin_more from middle (interval ∷ later) new h start some = (h.0, h.1, adjoin_more interval.end middle later new h.2 start some)

pub all_more : {X : Type 0} (P : X → Type 0) (xs : List X) (x : X) → AllByRecursion P xs → P x → AllByRecursion P (xs ++ x ∷ [])
all_more P [] x h k = (k, tt)
all_more P (y ∷ xs) x h k = (h.0, all_more P xs x h.1 k)

-- only its reason distinguishes an interval from its neighbours
abbrev pub with_reason : Reason → Interval
with_reason reason = record { start = 0; end = 0; reason = reason }

pub differ_as : (intervals : List Interval) (one other : Interval) → one.reason ≡ other.reason → Differ (intervals ++ one ∷ []) → Differ (intervals ++ other ∷ [])
differ_as [] one other same h = tt
differ_as (interval ∷ []) one other same h = (λ e. h.0 (e ∙ sym same), tt)
differ_as (interval ∷ (next ∷ later)) one other same h = (h.0, differ_as (next ∷ later) one other same h.1)

pub differ_more : (intervals : List Interval) (one other : Interval) → one.reason ≢ other.reason → Differ (intervals ++ one ∷ []) → Differ ((intervals ++ one ∷ []) ++ other ∷ [])
differ_more [] one other unlike h = (unlike, tt)
differ_more (interval ∷ []) one other unlike h = (h.0, (unlike, tt))
differ_more (interval ∷ (next ∷ later)) one other unlike h = (h.0, differ_more (next ∷ later) one other unlike h.1)

pub interval_of : (state : PointState) (connector start : ℕ) (interval : Interval)
    → ((second : ℕ) → interval.start ≤ second → second < interval.end → interval.reason ≡ reason_asked state connector start second) → IsIntervalOf state connector start interval
interval_of state connector start interval h = record {
  limit = λ second from below. ap (λ (reason : Reason). reason.limit) (h second from below) ∙ reason_limit state connector start (start + second);
  reason = h;
}

-- a reason that holds up to a second, and is constant up to a later one
pub stays_upto : (value : ℕ → Reason) (reason : Reason) (start second next : ℕ) → ((k : ℕ) → start ≤ k → k ≤ second → reason ≡ value k)
    → start ≤ second → ((later : ℕ) → second ≤ later → later < next → value later ≡ value second)
    → (k : ℕ) → start ≤ k → k < next → reason ≡ value k
stays_upto value reason start second next h begun stays k from below =
    elim (cases_lt k (second + 1)) [
      | inl before ↦ h k from (omega arith)
      | inr since ↦ h second begun (omega arith) ∙ sym (stays k (omega arith) below)
    ]

-- a reason at a single second
pub at_one : (value : ℕ → Reason) (reason : Reason) (second : ℕ) → reason ≡ value second → (k : ℕ) → second ≤ k → k ≤ second → reason ≡ value k
at_one value reason second h k from upto = let same : second ≡ k = omega arith in h ∙ ap value same

-- a reason that is constant up to a later second, and is the same there
pub upto_next : (value : ℕ → Reason) (reason : Reason) (start second next : ℕ) → ((k : ℕ) → start ≤ k → k ≤ second → reason ≡ value k)
    → start ≤ second → ((later : ℕ) → second ≤ later → later < next → value later ≡ value second) → reason ≡ value next
    → (k : ℕ) → start ≤ k → k ≤ next → reason ≡ value k
upto_next value reason start second next h begun stays here k from upto =
    elim (cases_lt k next) [
      | inl before ↦ stays_upto value reason start second next h begun stays k from before
      | inr since ↦ let same : next ≡ k = omega arith in here ∙ ap value same
    ]

-- ---- turns

-- the number of turns by a second: one for the first, and one for each place since
abbrev pub spent_at : (ℕ → Bool) → ℕ → ℕ
spent_at place second = 1 + count_by place (range_with_len 1 second)

next_place : (place : ℕ → Bool) (n m : ℕ) → n < m → place m ≡ true → spent_at place n + 1 ≤ spent_at place m
next_place place n zero below here = absurd (omega arith)
next_place place n (suc m) below here =
    let e : suc m ≡ m + 1 = omega arith in
    let more : count_by place (range_with_len 1 (m + 1)) ≡ count_by place (range_with_len 1 m) + 1 = count_more place m ∙ ap (λ (b : Bool). count_by place (range_with_len 1 m) + cond b 1 0) here in
    let all : count_by place (range_with_len 1 (suc m)) ≡ count_by place (range_with_len 1 m) + 1 = ap (λ (n : ℕ). count_by place (range_with_len 1 n)) e ∙ more in
    let grown = count_upto place n m (omega arith) in
    omega (arith, all, grown)

pub spent_next : (place : ℕ → Bool) (n m turns start after : ℕ) → n < m → place m ≡ true → turns ≤ start + spent_at place n → after ≡ turns + 1 → after ≤ start + spent_at place m
spent_next place n m turns start after below here so_far turn = let next = next_place place n m below here in omega (arith, next, so_far, turn)

pub spent_end : (place : ℕ → Bool) (n end turns start : ℕ) → n < end → turns ≤ start + spent_at place n → turns ≤ start + (1 + places_within place end)
spent_end place n end turns start below so_far = let grown = count_upto place n (end - 1) (omega arith) in omega (arith, grown, so_far)

pub spent_few : (place : ℕ → Bool) (n : ℕ) → spent_at place n ≤ n + 1
spent_few place n =
    let few = count_by-le-length place (range_with_len 1 n) in
    let many = length-range_with_len 1 n in
    omega (arith, few, many)

-- ---- periods

abbrev GivesLimit : (ℕ → ℕ) → Interval → Type 0
GivesLimit limit interval = (second : ℕ) → interval.start ≤ second → second < interval.end → interval.reason.limit ≡ limit second

periods_are : (limit : ℕ → ℕ) (n end : ℕ) (intervals : List Interval) (periods : List CompositePeriod) (before : Option ℕ)
    → Adjoin n end intervals → AllByRecursion (GivesLimit limit) intervals → periods ≡ exact_periods limit n → before ≡ limit_before limit n
    → periods ++ periods_behind before intervals ≡ exact_periods limit end
periods_are limit n end [] periods before adjoin each h k = append-nil periods ∙ (h ∙ ap (exact_periods limit) adjoin)
periods_are limit n end (interval ∷ later) periods before adjoin each h k =
    let value = interval.reason.limit in
    let start = adjoin.0 in
    let some = adjoin.1 in
    let gives : GivesLimit limit interval = each.0 in
    let below : n < interval.end = omega (arith, start, some) in
    let here : value ≡ limit n = gives n (omega (arith, start)) below in
    let stays : (k : ℕ) → n ≤ k → k < interval.end → limit k ≡ limit n = λ k from until. sym (gives k (omega (arith, start, from)) until) ∙ here in
    let added = period_added before (record { start = interval.start; limit = value }) in
    let same : periods ++ added ≡ periods ++ period_added before (record { start = n; limit = value }) =
    ap (λ (start : ℕ). periods ++ period_added before (record { start = start; limit = value })) start in
    let upto : periods ++ added ≡ exact_periods limit interval.end = periods_upto limit n interval.end periods (periods ++ added) before value h k here same below stays in
    let next : Some value ≡ limit_before limit interval.end = ap (λ (n : ℕ). Some n) here ∙ before_stays limit n interval.end below stays in
    sym (append_assoc periods added (periods_behind (Some value) later))
    ∙ periods_are limit interval.end end later (periods ++ added) (Some value) adjoin.2 each.1 upto next

limits_given : (state : PointState) (connector start : ℕ) (intervals : List Interval) → AllByRecursion (IsIntervalOf state connector start) intervals
    → AllByRecursion (GivesLimit (limit_asked state connector start)) intervals
limits_given state connector start [] h = tt
limits_given state connector start (interval ∷ later) h = (h.0.limit, limits_given state connector start later h.1)

-- the periods of an explanation are those of the composite schedule
pub joined_exact : (state : PointState) (connector start duration : ℕ) (explained : ExplainedSchedule) → 0 < duration → IsExplanation state connector start duration explained
    → IsExact (limit_asked state connector start) duration (joined explained.intervals)
joined_exact state connector start duration explained some h =
    let limit = limit_asked state connector start in
    let same : joined explained.intervals ≡ exact_periods limit duration =
    periods_are limit 0 duration explained.intervals [] None h.adjoin (limits_given state connector start explained.intervals h.each) refl refl in
    rw same (exact_are limit duration some)
