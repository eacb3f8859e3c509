-- The periods and the turns of a sweep by a second.
use Rattle.std.proofs.Common.{◌≡◌, ℕ, ◌+◌, ◌-◌, ◌<◌, ◌≤◌, zero, suc, Bool, true, false, List, [], ◌∷◌, ◌++◌, length, cond, Option, Some, refl, ap, sym, ◌∙◌, arith}
use Rattle.std.specs.List.{range_with_len, count_by}
use Rattle.std.proofs.lemmas.List.{append-nil}
use Rattle.std.proofs.lemmas.List.FromFn.{length-range_with_len}
use Rattle.std.proofs.lemmas.List.Sums.{sum_by_push, count_by-le-length}
use Rattle.std.proofs.lemmas.Bool.{eq-eqb}
use Rattle.meaning.specs.declared.composite.CompositePeriod.{CompositePeriod}
use Rattle.meaning.specs.ByCases.Exact.{begins_period, period_from, exact_periods}
use Rattle.meaning.specs.ByCases.PlainCompiler.{differs, period_added}
use Rattle.meaning.specs.Theory.Ranges.{range_more}
use Rattle.meaning.specs.Theory.ExactPeriods.{periods_more}
use Rattle.meaning.specs.Theory.PlainCompiler.{limit_before, periods_added}
use Rattle.sweep_compiler.specs.Places.{places_within}

-- ---- periods

-- no period begins if the limit is unchanged
begins_no : (limit : ℕ → ℕ) (n : ℕ) → limit n ≡ limit (suc n) → begins_period limit (suc n) ≡ false
begins_no limit n h = rw (eq-eqb (limit n) (limit (suc n)) h) refl

stay_by : (limit : ℕ → ℕ) (n more : ℕ) → ((later : ℕ) → n ≤ later → later < suc n + more → limit later ≡ limit n)
    → exact_periods limit (suc n + more) ≡ exact_periods limit (suc n)
stay_by limit n zero h = let e : suc n + 0 ≡ suc n = omega arith in rw e refl
stay_by limit n (suc more) h =
    let e : suc n + suc more ≡ suc (n + more) + 1 = omega arith in
    let last : begins_period limit (suc (n + more)) ≡ false = begins_no limit (n + more) (h (n + more) (omega arith) (omega arith) ∙ sym (h (suc (n + more)) (omega arith) (omega arith))) in
    let same : suc (n + more) ≡ suc n + more = omega arith in
    let before = stay_by limit n more (λ later from below. h later from (omega arith)) in
    ap (exact_periods limit) e
    ∙ (periods_more limit (suc (n + more))
    ∙ (ap (λ (b : Bool). exact_periods limit (suc (n + more)) ++ cond b (period_from limit (suc (n + more)) ∷ []) []) last
    ∙ (append-nil (exact_periods limit (suc (n + more)))
    ∙ (ap (exact_periods limit) same ∙ before))))

-- no period begins up to a second if the limit is constant up to it
periods_stay : (limit : ℕ → ℕ) (n m : ℕ) → n < m → ((later : ℕ) → n ≤ later → later < m → limit later ≡ limit n)
    → exact_periods limit m ≡ exact_periods limit (n + 1)
periods_stay limit n m below h =
    let e : suc n + (m - suc n) ≡ m = omega arith in
    let one : suc n ≡ n + 1 = omega arith in
    ap (exact_periods limit) (sym e)
    ∙ (stay_by limit n (m - suc n) (λ later from until. h later from (omega arith)) ∙ ap (exact_periods limit) one)

-- the periods up to a later second, if the limit is constant from a second that was added
pub periods_upto : (limit : ℕ → ℕ) (n m : ℕ) (periods after : List CompositePeriod) (before : Option ℕ) (value : ℕ)
    → periods ≡ exact_periods limit n → before ≡ limit_before limit n → value ≡ limit n
    → after ≡ periods ++ period_added before (record { start = n; limit = value })
    → n < m → ((later : ℕ) → n ≤ later → later < m → limit later ≡ limit n) → after ≡ exact_periods limit m
periods_upto limit n m periods after before value h k e added below stays =
    added ∙ (periods_added limit n periods before value h k e ∙ sym (periods_stay limit n m below stays))

pub before_stays : (limit : ℕ → ℕ) (n m : ℕ) → n < m → ((later : ℕ) → n ≤ later → later < m → limit later ≡ limit n)
    → Some (limit n) ≡ limit_before limit m
before_stays limit n zero below h = absurd (omega arith)
before_stays limit n (suc m) below h = ap (λ (limit : ℕ). Some limit) (sym (h m (omega arith) (omega arith)))

pub one_added : (before : Option ℕ) (period : CompositePeriod) → length (period_added before period) ≤ 1
one_added before period = go (differs before period.limit)
  where
    go : (b : Bool) → length (cond b (period ∷ []) []) ≤ 1
    go true = omega arith
    go false = omega arith

-- ---- turns

-- the number of turns of a sweep before a second: one for the first, and one for each place since
abbrev pub spent : (ℕ → Bool) → ℕ → ℕ
spent place zero = 0
spent place (suc n) = 1 + count_by place (range_with_len 1 n)

pub count_more : (place : ℕ → Bool) (n : ℕ) → count_by place (range_with_len 1 (n + 1)) ≡ count_by place (range_with_len 1 n) + cond (place (suc n)) 1 0
count_more place n =
    ap (count_by place) (range_more 1 n (suc n) (omega arith)) ∙ sum_by_push (λ (x : ℕ). cond (place x) 1 0) (range_with_len 1 n) (suc n)

count_grow : (place : ℕ → Bool) (n more : ℕ) → count_by place (range_with_len 1 n) ≤ count_by place (range_with_len 1 (n + more))
count_grow place n zero = let e : n + 0 ≡ n = omega arith in rw e (omega arith)
count_grow place n (suc more) =
    let e : n + suc more ≡ (n + more) + 1 = omega arith in
    let so_far = count_grow place n more in
    rw (e, count_more place (n + more)) (omega arith)

pub count_upto : (place : ℕ → Bool) (n m : ℕ) → n ≤ m → count_by place (range_with_len 1 n) ≤ count_by place (range_with_len 1 m)
count_upto place n m h =
    let e : n + (m - n) ≡ m = omega arith in
    rw e at (count_grow place n (m - n))

-- the turn at a place is one more before each later second
spent_next : (place : ℕ → Bool) (n m : ℕ) → n < m → (0 < n → place n ≡ true) → spent place n + 1 ≤ spent place m
spent_next place n zero below here = absurd (omega arith)
spent_next place zero (suc m) below here = omega arith
spent_next place (suc n) (suc m) below here =
    let more : count_by place (range_with_len 1 (n + 1)) ≡ count_by place (range_with_len 1 n) + 1 = count_more place n ∙ ap (λ (b : Bool). count_by place (range_with_len 1 n) + cond b 1 0) (here (omega arith)) in
    let grown : count_by place (range_with_len 1 (n + 1)) ≤ count_by place (range_with_len 1 m) = count_upto place (n + 1) m (omega arith) in
    omega (arith, more, grown)

pub spent_upto : (place : ℕ → Bool) (n m turns start after : ℕ) → n < m → (0 < n → place n ≡ true)
    → turns ≤ start + spent place n → after ≡ turns + 1 → after ≤ start + spent place m
spent_upto place n m turns start after below here so_far turn =
    let next = spent_next place n m below here in
    omega (arith, next, so_far, turn)

spent_all : (place : ℕ → Bool) (end : ℕ) → 0 < end → spent place end ≡ 1 + places_within place end
spent_all place zero h = absurd (omega arith)
spent_all place (suc end) h = let e : suc end - 1 ≡ end = omega arith in rw e refl

-- at most one turn, and one for each place
pub spent_whole : (place : ℕ → Bool) (n end turns start after : ℕ) → n < end → (0 < n → place n ≡ true)
    → turns ≤ start + spent place n → after ≡ turns + 1 → after ≤ start + (1 + places_within place end)
spent_whole place n end turns start after below here so_far turn =
    let next = spent_next place n end below here in
    let all = spent_all place end (omega arith) in
    omega (arith, next, so_far, turn, all)

-- at most as many turns as seconds
pub spent_few : (place : ℕ → Bool) (n : ℕ) → spent place n ≤ n
spent_few place zero = omega arith
spent_few place (suc n) =
    let few = count_by-le-length place (range_with_len 1 n) in
    let many = length-range_with_len 1 n in
    omega (arith, few, many)
