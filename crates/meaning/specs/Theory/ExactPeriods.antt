-- Lemmas that crates above cite: nothing here has to be believed.
-- Exact periods are the computed ones, and they exist.
use Rattle.std.proofs.Common.{◌≡◌, ◌≢◌, ℕ, ◌+◌, ◌<◌, ◌≤◌, ◌==◌, zero, suc, Bool, true, false, List, [], ◌∷◌, ◌++◌, length, map, filter, cond, Some, nat_le, refl, ap, sym, ◌∙◌, inl, inr, arith}
use Rattle.std.specs.List.{AllByRecursion, range_with_len}
use Rattle.std.proofs.lemmas.List.{map-append, length-append}
use Rattle.std.proofs.lemmas.List.Elements.{filter-append}
use Rattle.std.proofs.lemmas.Bool.{cases_lt, cases_eq, le-leb, eq-eqb}
use Rattle.std.proofs.lemmas.Bool.Decides.{nat_tests}
use Rattle.meaning.specs.declared.composite.CompositePeriod.{CompositePeriod}
use Rattle.meaning.specs.Composite.{AreStrictlyIncreasing, at}
use Rattle.meaning.specs.Exact.{Change, IsExact}
use Rattle.meaning.specs.ByCases.Exact.{begins_period, period_from, exact_periods}
use Rattle.meaning.specs.Theory.Ranges.{range_more}

-- each period starts later than a second
abbrev pub AllAfter : ℕ → List CompositePeriod → Type 0
AllAfter second periods = AllByRecursion (λ p. second < p.start) periods

none_begun : (second : ℕ) (ps : List CompositePeriod) → AllAfter second ps → filter (λ (p : CompositePeriod). nat_le p.start second) ps ≡ []
none_begun second [] h = refl
none_begun second (p ∷ ps) h = let later : second < p.start = h.0 in let rest = none_begun second ps h.1 in grind (arith, nat_tests)

pub at_first : (second : ℕ) (p : CompositePeriod) (ps : List CompositePeriod) → p.start ≤ second → AllAfter second ps → at (p ∷ ps) second ≡ Some p.limit
at_first second p ps h k =
    let begun : nat_le p.start second ≡ true = le-leb _ _ h in
    let none = none_begun second ps k in
    rw (begun, none) refl

pub at_later : (second : ℕ) (p q : CompositePeriod) (ps : List CompositePeriod) → p.start ≤ second → q.start ≤ second → at (p ∷ (q ∷ ps)) second ≡ at (q ∷ ps) second
at_later second p q ps h k =
    let begun : nat_le p.start second ≡ true = le-leb _ _ h in
    let next : nat_le q.start second ≡ true = le-leb _ _ k in
    rw (begun, next) refl

pub later_all : (low high : ℕ) (ps : List CompositePeriod) → low ≤ high → AllAfter high ps → AllAfter low ps
later_all low high [] h k = tt
later_all low high (p ∷ ps) h k = let after : high < p.start = k.0 in (omega arith, later_all low high ps h k.1)

within_all : (low high : ℕ) (ps : List CompositePeriod) → low ≤ high → AllByRecursion (λ p. p.start < low) ps → AllByRecursion (λ p. p.start < high) ps
within_all low high [] h k = tt
within_all low high (p ∷ ps) h k = let below : p.start < low = k.0 in (omega arith, within_all low high ps h k.1)

pub increasing_after : (p : CompositePeriod) (ps : List CompositePeriod) → AreStrictlyIncreasing (p ∷ ps) → AllAfter p.start ps
increasing_after p [] h = tt
increasing_after p (q ∷ ps) h = let first : p.start < q.start = h.0 in (first, later_all p.start q.start ps (omega arith) (increasing_after q ps h.1))

-- the periods that begin in a number of seconds after a second
abbrev after : (ℕ → ℕ) → ℕ → ℕ → List CompositePeriod
after limit second zero = []
after limit second (suc n) =
    cond (begins_period limit (suc second)) (period_from limit (suc second) ∷ after limit (suc second) n) (after limit (suc second) n)

after_begin : (limit : ℕ → ℕ) (second n : ℕ) → AllAfter second (after limit second n)
after_begin limit second zero = tt
after_begin limit second (suc n) =
    let rest = later_all second (suc second) (after limit (suc second) n) (omega arith) (after_begin limit (suc second) n) in
    elim (begins_period limit (suc second)) as (λ b. AllAfter second (cond b (period_from limit (suc second) ∷ after limit (suc second) n) (after limit (suc second) n)))
    [ true ↦ (omega arith, rest) | false ↦ rest ]

after_is : (limit : ℕ → ℕ) (second n : ℕ) → map (period_from limit) (filter (begins_period limit) (range_with_len (suc second) n)) ≡ after limit second n
after_is limit second zero = refl
after_is limit second (suc n) =
    let next : suc second + 1 ≡ suc (suc second) = omega arith in
    let rest = after_is limit (suc second) n in
    rw next (elim (begins_period limit (suc second))
    as (λ b. map (period_from limit) (cond b (suc second ∷ filter (begins_period limit) (range_with_len (suc (suc second)) n)) (filter (begins_period limit) (range_with_len (suc (suc second)) n)))
    ≡ cond b (period_from limit (suc second) ∷ after limit (suc second) n) (after limit (suc second) n))
    [ true ↦ ap (λ (ps : List CompositePeriod). period_from limit (suc second) ∷ ps) rest | false ↦ rest ])

periods_are : (limit : ℕ → ℕ) (n : ℕ) → exact_periods limit (suc n) ≡ period_from limit 0 ∷ after limit 0 n
periods_are limit n = ap (λ (ps : List CompositePeriod). period_from limit 0 ∷ ps) (after_is limit 0 n)

-- A period that gives the limit at a second, with the periods after it, is exact for a number of
-- seconds from there on.
record Continues (limit : ℕ → ℕ) (second n : ℕ) (p : CompositePeriod) (ps : List CompositePeriod) : Type 0 where
  increasing : AreStrictlyIncreasing (p ∷ ps)
  change : Change (p ∷ ps)
  within : AllByRecursion (λ q. q.start < suc (second + n)) ps
  each : (t : ℕ) → second ≤ t → t < suc (second + n) → at (p ∷ ps) t ≡ Some (limit t)

begins_true : (limit : ℕ → ℕ) (second : ℕ) → begins_period limit (suc second) ≡ true → limit second ≢ limit (suc second)
begins_true limit second h = λ e. let same : (limit second == limit (suc second)) ≡ true = eq-eqb _ _ e in grind (arith, nat_tests)

begins_false : (limit : ℕ → ℕ) (second : ℕ) → begins_period limit (suc second) ≡ false → limit second ≡ limit (suc second)
begins_false limit second h = grind (arith, nat_tests)

continues_at : (limit : ℕ → ℕ) (second : ℕ) (p : CompositePeriod) → p.start ≤ second → p.limit ≡ limit second → Continues limit second 0 p []
continues_at limit second p h e = record {
  increasing = tt;
  change = tt;
  within = tt;
  each = λ t from below.
      let here : second ≡ t = omega arith in
      at_first t p [] (omega arith) tt ∙ ap Some (e ∙ ap limit here);
}

continues_new : (limit : ℕ → ℕ) (second n : ℕ) (p q : CompositePeriod) (ps : List CompositePeriod) → p.start ≤ second → p.limit ≡ limit second
    → q.start ≡ suc second → p.limit ≢ q.limit → Continues limit (suc second) n q ps → Continues limit second (suc n) p (q ∷ ps)
continues_new limit second n p q ps h e start differ rest =
    let later : AllAfter q.start ps = increasing_after q ps rest.increasing in
    let all : AllAfter second (q ∷ ps) = (omega arith, later_all second q.start ps (omega arith) later) in
    record {
      increasing = (omega arith, rest.increasing);
      change = (differ, rest.change);
      within = (omega arith, within_all (suc (suc second + n)) (suc (second + suc n)) ps (omega arith) rest.within);
      each = λ t from below.
          elim (cases_lt t (suc second)) [
            | inl before ↦
                let here : second ≡ t = omega arith in
                at_first t p (q ∷ ps) (omega arith) (later_all t second (q ∷ ps) (omega arith) all) ∙ ap Some (e ∙ ap limit here)
            | inr since ↦ at_later t p q ps (omega arith) (omega arith) ∙ rest.each t since (omega arith)
          ];
    }

continues_same : (limit : ℕ → ℕ) (second n : ℕ) (p : CompositePeriod) (ps : List CompositePeriod) → p.start ≤ second → p.limit ≡ limit second
    → AllAfter (suc second) ps → Continues limit (suc second) n p ps → Continues limit second (suc n) p ps
continues_same limit second n p ps h e later rest = record {
  increasing = rest.increasing;
  change = rest.change;
  within = within_all (suc (suc second + n)) (suc (second + suc n)) ps (omega arith) rest.within;
  each = λ t from below.
      elim (cases_lt t (suc second)) [
        | inl before ↦
            let here : second ≡ t = omega arith in
            at_first t p ps (omega arith) (later_all t (suc second) ps (omega arith) later) ∙ ap Some (e ∙ ap limit here)
        | inr since ↦ rest.each t since (omega arith)
      ];
}

continues : (limit : ℕ → ℕ) (second n : ℕ) (p : CompositePeriod) → p.start ≤ second → p.limit ≡ limit second → Continues limit second n p (after limit second n)
continues limit second zero p h e = continues_at limit second p h e
continues limit second (suc n) p h e =
    go (begins_period limit (suc second)) refl (continues limit (suc second) n (period_from limit (suc second)) (omega arith) refl)
    (λ same. continues limit (suc second) n p (omega arith) (e ∙ same))
  where
    rest : List CompositePeriod
    rest = after limit (suc second) n

    go : (b : Bool) → begins_period limit (suc second) ≡ b → Continues limit (suc second) n (period_from limit (suc second)) rest
        → (limit second ≡ limit (suc second) → Continues limit (suc second) n p rest)
        → Continues limit second (suc n) p (cond b (period_from limit (suc second) ∷ rest) rest)
    go true is new same = continues_new limit second n p (period_from limit (suc second)) rest h e refl (λ k. begins_true limit second is (sym e ∙ k)) new
    go false is new same =
        continues_same limit second n p rest h e (after_begin limit (suc second) n) (same (begins_false limit second is))

some_same : {m n : ℕ} → Some m ≡ Some n → m ≡ n
some_same h = cc

continued_new : (limit : ℕ → ℕ) (second n : ℕ) (p q : CompositePeriod) (ps : List CompositePeriod) → p.start ≤ second → p.limit ≡ limit second
    → q.start ≡ suc second → Continues limit second (suc n) p (q ∷ ps)
    → (begins_period limit (suc second) ≡ true) × (q.limit ≡ limit (suc second)) × Continues limit (suc second) n q ps
continued_new limit second n p q ps h e start c =
    let later : AllAfter q.start ps = increasing_after q ps c.increasing.1 in
    let here = at_later (suc second) p q ps (omega arith) (omega arith) in
    let first = at_first (suc second) q ps (omega arith) (later_all (suc second) q.start ps (omega arith) later) in
    let gives : q.limit ≡ limit (suc second) = some_same (sym first ∙ (sym here ∙ c.each (suc second) (omega arith) (omega arith))) in
    let differ : limit second ≢ limit (suc second) = λ k. c.change.0 (e ∙ (k ∙ sym gives)) in (
      grind (arith, nat_tests),
      gives,
      record {
        increasing = c.increasing.1;
        change = c.change.1;
        within = within_all (suc (second + suc n)) (suc (suc second + n)) ps (omega arith) c.within.1;
        each = λ t from below. sym (at_later t p q ps (omega arith) (omega arith)) ∙ c.each t (omega arith) (omega arith);
      },
    )

continued_same : (limit : ℕ → ℕ) (second n : ℕ) (p : CompositePeriod) (ps : List CompositePeriod) → p.start ≤ second → p.limit ≡ limit second
    → AllAfter (suc second) ps → Continues limit second (suc n) p ps
    → (begins_period limit (suc second) ≡ false) × (p.limit ≡ limit (suc second)) × Continues limit (suc second) n p ps
continued_same limit second n p ps h e later c =
    let first = at_first (suc second) p ps (omega arith) later in
    let gives : p.limit ≡ limit (suc second) = some_same (sym first ∙ c.each (suc second) (omega arith) (omega arith)) in
    let same : limit second ≡ limit (suc second) = sym e ∙ gives in (
      grind (arith, nat_tests),
      gives,
      record {
        increasing = c.increasing;
        change = c.change;
        within = within_all (suc (second + suc n)) (suc (suc second + n)) ps (omega arith) c.within;
        each = λ t from below. c.each t (omega arith) (omega arith);
      },
    )

after_new : (limit : ℕ → ℕ) (second n : ℕ) → begins_period limit (suc second) ≡ true
    → after limit second (suc n) ≡ period_from limit (suc second) ∷ after limit (suc second) n
after_new limit second n is = ap (λ (b : Bool). cond b (period_from limit (suc second) ∷ after limit (suc second) n) (after limit (suc second) n)) is

after_same : (limit : ℕ → ℕ) (second n : ℕ) → begins_period limit (suc second) ≡ false → after limit second (suc n) ≡ after limit (suc second) n
after_same limit second n is = ap (λ (b : Bool). cond b (period_from limit (suc second) ∷ after limit (suc second) n) (after limit (suc second) n)) is

period_is : (q : CompositePeriod) (start limit : ℕ) → q.start ≡ start → q.limit ≡ limit → q ≡ record { start = start; limit = limit }
period_is q start limit h k = ap (λ (n : ℕ). of n q.limit) h ∙ ap (λ (n : ℕ). of start n) k
  where
    of : ℕ → ℕ → CompositePeriod
    of start limit = record { start = start; limit = limit }

-- Periods that continue are those that begin at a later change of the limit.
continued : (limit : ℕ → ℕ) (second n : ℕ) (p : CompositePeriod) (ps : List CompositePeriod) → p.start ≤ second → p.limit ≡ limit second
    → AllAfter second ps → Continues limit second n p ps → ps ≡ after limit second n
continued limit second zero p [] h e later c = refl
continued limit second zero p (q ∷ ps) h e later c =
    let since : second < q.start = later.0 in let below : q.start < suc (second + 0) = c.within.0 in absurd (omega arith)
continued limit second (suc n) p [] h e later c =
    let d = continued_same limit second n p [] h e tt c in
    continued limit (suc second) n p [] (omega arith) d.1 tt d.2 ∙ sym (after_same limit second n d.0)
continued limit second (suc n) p (q ∷ ps) h e later c =
    elim (cases_eq q.start (suc second)) [
      | inl start ↦
          let d = continued_new limit second n p q ps h e start c in
          let since : AllAfter (suc second) ps = later_all (suc second) q.start ps (omega arith) (increasing_after q ps c.increasing.1) in
          let rest = continued limit (suc second) n q ps (omega arith) d.1 since d.2 in
          let first : q ≡ period_from limit (suc second) = period_is q (suc second) (limit (suc second)) start d.1 in
          let both : q ∷ ps ≡ period_from limit (suc second) ∷ after limit (suc second) n = cc in
          both ∙ sym (after_new limit second n d.0)
      | inr other ↦
          let from : second < q.start = later.0 in
          let since : suc second < q.start = omega arith in
          let all : AllAfter (suc second) (q ∷ ps) = (since, later_all (suc second) q.start ps (omega arith) (increasing_after q ps c.increasing.1)) in
          let d = continued_same limit second n p (q ∷ ps) h e all c in
          continued limit (suc second) n p (q ∷ ps) (omega arith) d.1 all d.2 ∙ sym (after_same limit second n d.0)
    ]

-- only these periods are exact
pub exact_is : (limit : ℕ → ℕ) (duration : ℕ) (periods : List CompositePeriod) → IsExact limit duration periods
    → periods ≡ exact_periods limit duration
exact_is limit duration [] exact = absurd exact.schedule.first
exact_is limit zero (p ∷ ps) exact = let below : p.start < 0 = exact.schedule.within.0 in absurd (omega arith)
exact_is limit (suc n) (p ∷ ps) exact =
    let start : p.start ≡ 0 = exact.schedule.first in
    let since : AllAfter 0 ps = later_all 0 p.start ps (omega arith) (increasing_after p ps exact.schedule.increasing) in
    let here : p.limit ≡ limit 0 = some_same (sym (at_first 0 p ps (omega arith) since) ∙ exact.each 0 (omega arith)) in
    let first : p ≡ period_from limit 0 = period_is p 0 (limit 0) start here in
    let rest = continued limit 0 n p ps (omega arith) here since (record {
      increasing = exact.schedule.increasing;
      change = exact.change;
      within = within_all (suc n) (suc (0 + n)) ps (omega arith) exact.schedule.within.1;
      each = λ t from below. exact.each t (omega arith);
    }) in
    let both : p ∷ ps ≡ period_from limit 0 ∷ after limit 0 n = cc in
    both ∙ sym (periods_are limit n)

-- the periods with one more second
pub periods_more : (limit : ℕ → ℕ) (n : ℕ)
    → exact_periods limit (n + 1) ≡ exact_periods limit n ++ cond (begins_period limit n) (period_from limit n ∷ []) []
periods_more limit n =
    let range : range_with_len 0 (n + 1) ≡ range_with_len 0 n ++ n ∷ [] = range_more 0 n n (omega arith) in
    rw (range, filter-append, map-append)
    (elim (begins_period limit n)
    as (λ b. exact_periods limit n ++ map (period_from limit) (cond b (n ∷ []) []) ≡ exact_periods limit n ++ cond b (period_from limit n ∷ []) []) [ true ↦ refl | false ↦ refl ])

pub periods_grow : (limit : ℕ → ℕ) (n more : ℕ) → length (exact_periods limit n) ≤ length (exact_periods limit (n + more))
periods_grow limit n zero = let e : n + 0 ≡ n = omega arith in rw e (omega arith)
periods_grow limit n (suc more) =
    let e : n + suc more ≡ (n + more) + 1 = omega arith in
    let so_far = periods_grow limit n more in
    rw (e, periods_more, length-append) (omega arith)

-- exact periods exist
pub exact_are : (limit : ℕ → ℕ) (duration : ℕ) → 0 < duration → IsExact limit duration (exact_periods limit duration)
exact_are limit zero h = absurd (omega arith)
exact_are limit (suc n) h =
    let c = continues limit 0 n (period_from limit 0) (omega arith) refl in
    rw (periods_are limit n) (record {
      schedule = record {
        first = refl;
        increasing = c.increasing;
        within = (omega arith, within_all (suc (0 + n)) (suc n) (after limit 0 n) (omega arith) c.within);
      };
      change = c.change;
      each = λ t below. c.each t (omega arith) (omega arith);
    })
