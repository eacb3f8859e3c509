-- The order of periods, and the limit with one more period.
use Rattle.std.proofs.Common.{◌≡◌, ℕ, ◌+◌, ◌-◌, ◌<◌, ◌≤◌, zero, suc, nat_lt, nat_le, Bool, true, false, ◌&&◌, List, [], ◌∷◌, ◌++◌, length, take, drop, get_or, filter, Option, Some, None, option_map, cond, refl, sym, ◌∙◌, ap, arith}
use Rattle.std.specs.List.{AllByRecursion, AllWithin}
use Rattle.std.specs.List.Sorted.{IsPartitionPoint}
use Rattle.std.proofs.Math.Seq.{drop-cons, take-length}
use Rattle.std.proofs.lemmas.Bool.{and_parts}
use Rattle.std.proofs.lemmas.Bool.Decides.{nat_tests}
use Rattle.std.proofs.lemmas.List.{append-nil, take-append-drop}
use Rattle.std.proofs.lemmas.List.Elements.{filter_more}
use Rattle.profile.specs.declared.period.Period.{Period}
use Rattle.profile.specs.Greatest.{greatest}
use Rattle.profile.specs.Periods.{are_in_order, limit_in}
use Rattle.profile.specs.ByCases.Periods.{is_after, are_in_order_after}
use Rattle.profile.proofs.GreatestLemmas.{greatest-push}

-- the order that a loop checks is that of the definition
next_after : (p : Period) (ps : List Period) → are_in_order_after (Some p.start) ps ≡ are_in_order (p ∷ ps)
next_after p [] = refl
next_after p (q ∷ ps) = ap (λ (b : Bool). nat_lt p.start q.start && b) (next_after q ps)

pub in_order-after : (ps : List Period) → are_in_order_after None ps ≡ are_in_order ps
in_order-after [] = refl
in_order-after (p ∷ ps) = next_after p ps

-- in a list that is in order after a start, each period starts later than it
later-end : (previous : ℕ) (ps : List Period) (q : Period) (qs : List Period) → are_in_order_after (Some previous) (ps ++ q ∷ qs) ≡ true → previous < q.start
later-end previous [] q qs ordered =
    let parts = and_parts (nat_lt previous q.start) (are_in_order_after (Some q.start) qs) ordered in grind (arith, nat_tests)
later-end previous (p ∷ ps) q qs ordered =
    let parts = and_parts (nat_lt previous p.start) (are_in_order_after (Some p.start) (ps ++ q ∷ qs)) ordered in
    let after : p.start < q.start = later-end p.start ps q qs parts.1 in
    grind (arith, nat_tests)

-- in a list of periods in order, each one before a period starts earlier
pub all_earlier : (previous : Option ℕ) (ps : List Period) (q : Period) (qs : List Period) → are_in_order_after previous (ps ++ q ∷ qs) ≡ true → AllByRecursion (λ (p : Period). p.start < q.start) ps
all_earlier previous [] q qs ordered = tt
all_earlier previous (p ∷ ps) q qs ordered =
    let parts = and_parts (is_after previous p.start) (are_in_order_after (Some p.start) (ps ++ q ∷ qs)) ordered in
    (later-end p.start ps q qs parts.1, all_earlier (Some p.start) ps q qs parts.1)

-- if each element has a property, so has each element that passes a test
pub AllByRecursion-filter : {X : Type 0} (P : X → Type 0) (test : X → Bool) (xs : List X) → AllByRecursion P xs → AllByRecursion P (filter test xs)
AllByRecursion-filter P test [] h = tt
AllByRecursion-filter P test (x ∷ xs) h =
    elim (test x) as (λ b. AllByRecursion P (cond b (x ∷ filter test xs) (filter test xs)))
    [ true ↦ (h.0, AllByRecursion-filter P test xs h.1) | false ↦ AllByRecursion-filter P test xs h.1 ]

-- the limit with one more period in order: that period's if it has begun, otherwise the limit so
-- far
pub limit_in-more : (ps : List Period) (i : ℕ) (d : Period) (o : ℕ) → i < length ps
    → are_in_order_after None ps ≡ true → limit_in (take (i + 1) ps) o ≡ cond (nat_le
    (get_or ps i d).start o) (Some (get_or ps i d).limit) (limit_in (take i ps) o)
limit_in-more ps i d o inside ordered =
    let test : Period → Bool = λ p. nat_le p.start o in
    let start : Period → ℕ = λ p. p.start in
    let q = get_or ps i d in
    let whole : ps ≡ take i ps ++ q ∷ drop (suc i) ps = sym (take-append-drop i ps) ∙ ap (λ (r : List Period). take i ps ++ r) (drop-cons ps i d inside) in
    let earlier : AllByRecursion (λ (p : Period). p.start < q.start) (take i ps) = all_earlier None (take i ps) q (drop (suc i) ps) (ap (are_in_order_after None) (sym whole) ∙ ordered) in
    let filtered = filter_more test ps i d inside in
    let pushed = greatest-push start (filter test (take i ps)) q (AllByRecursion-filter (λ (p : Period). p.start < q.start) test (take i ps) earlier) in
    let found : (b : Bool) → nat_le q.start o ≡ b → limit_in (take (i + 1) ps) o ≡ cond b (Some q.limit) (limit_in (take i ps) o) = λ b is.
    elim b as (λ b. nat_le q.start o ≡ b → limit_in (take (i + 1) ps) o ≡ cond b (Some q.limit) (limit_in (take i ps) o)) [
      | true ↦ λ is. ap (λ (xs : List Period). option_map (λ (p : Period). p.limit) (greatest start xs)) (filtered ∙ ap (λ b. filter test (take i ps) ++ cond b (q ∷ []) []) is) ∙ ap (option_map (λ (p : Period). p.limit)) pushed
      | false ↦ λ is. ap (λ (xs : List Period). option_map (λ (p : Period). p.limit) (greatest start xs)) (filtered ∙ ap (λ b. filter test (take i ps) ++ cond b (q ∷ []) []) is ∙ append-nil (filter test (take i ps)))
    ] is in
    found (nat_le q.start o) refl

limit_of_begun : (ps : List Period) (i more : ℕ) (d : Period) (o : ℕ) → i + more ≤ length ps → are_in_order_after None ps ≡ true
    → AllWithin (λ (p : Period). nat_le p.start o ≡ false) ps i (length ps) → limit_in (take (i + more) ps) o ≡ limit_in (take i ps) o
limit_of_begun ps i zero d o inside ordered later = let same : i + 0 ≡ i = omega arith in rw same refl
limit_of_begun ps i (suc more) d o inside ordered later =
    let same : i + suc more ≡ (i + more) + 1 = omega arith in
    let below : i + more < length ps = omega arith in
    let test = later (i + more) d (omega arith) below in
    rw same (limit_in-more ps (i + more) d o below ordered
    ∙ (ap (λ (b : Bool). cond b (Some (get_or ps (i + more) d).limit) (limit_in (take (i + more) ps) o)) test
    ∙ limit_of_begun ps i more d o (omega arith) ordered later))

-- the limit in force is that of the last period that has begun
pub limit_at_point : (ps : List Period) (i : ℕ) (o : ℕ) → i ≤ length ps → are_in_order ps ≡ true
    → IsPartitionPoint (λ (p : Period). nat_le p.start o ≡ true) (λ (p : Period). nat_le p.start o ≡ false) ps i → limit_in ps o ≡ limit_in (take i ps) o
limit_at_point ps i o inside ordered point =
    let all : i + (length ps - i) ≡ length ps = omega arith in
    ap (λ (qs : List Period). limit_in qs o) (sym (take-length ps) ∙ ap (λ (n : ℕ). take n ps) (sym all))
    ∙ limit_of_begun ps i (length ps - i) (record { start = 0; limit = 0; number_phases = None }) o (omega arith) (in_order-after ps ∙ ordered) point.1

pub limit_of_last : (ps : List Period) (i k : ℕ) (d : Period) (o : ℕ) → i ≡ k + 1 → i ≤ length ps → are_in_order ps ≡ true
    → IsPartitionPoint (λ (p : Period). nat_le p.start o ≡ true) (λ (p : Period). nat_le p.start o ≡ false) ps i → limit_in ps o ≡ Some (get_or ps k d).limit
limit_of_last ps i k d o next inside ordered point =
    limit_at_point ps i o inside ordered point
    ∙ (ap (λ (n : ℕ). limit_in (take n ps) o) next
    ∙ (limit_in-more ps k d o (omega arith) (in_order-after ps ∙ ordered)
    ∙ ap (λ (b : Bool). cond b (Some (get_or ps k d).limit) (limit_in (take k ps) o)) (point.0 k d (omega arith) (omega arith))))
