-- The limit of the highest rank in force is that of the first row by falling rank.
use Rattle.std.proofs.Common.{◌≡◌, ℕ, ◌+◌, ◌<◌, ◌==◌, zero, suc, Bool, true, false, List, [], ◌∷◌, length, drop, cond, get_or, Option, Some, None, inl, inr, refl, ap, sym, subst, ◌∙◌, arith}
use Rattle.std.specs.List.{AllByRecursion, slice_set}
use Rattle.std.proofs.lemmas.Bool.{eq-eqb}
use Rattle.std.proofs.lemmas.Bool.Decides.{nat_tests}
use Rattle.std.proofs.lemmas.List.{drop_more, get_or_default}
use Rattle.stacking.specs.InForce.{rate_of, IsSet, IsTop}
use Rattle.sweep_compiler.specs.ByCases.Running.{Running, rate_running, rank_running, AreFalling, HasRank, AreInForce, first_rate, passed}
use Rattle.sweep_compiler.proofs.Running.{rank_passed}

abbrev HaveRates : List (ℕ × ℕ) → List Running → Type 0
HaveRates rates runs = AllByRecursion (λ (run : Running). rate_of rates (rank_running run) ≡ rate_running run) runs

abbrev AreBelow : ℕ → List Running → Type 0
AreBelow top runs = AllByRecursion (λ (low : Running). rank_running low < top) runs

-- ---- the highest

rank_below : (runs : List Running) (n top : ℕ) → HasRank n runs → AreBelow top runs → n < top
rank_below [] n top has all = absurd has
rank_below (run ∷ later) n top (inl is) all = omega (arith, is, all.0)
rank_below (run ∷ later) n top (inr has) all = rank_below later n top has all.1

first_none : (runs : List Running) (rates : List (ℕ × ℕ)) → HaveRates rates runs → ((n : ℕ) → rate_of rates n ≡ None) → first_rate runs ≡ None
first_none [] rates each none = refl
first_none (run ∷ later) rates each none =
    let here : rate_running run ≡ None = sym each.0 ∙ none (rank_running run) in
    rw here (first_none later rates each.1 none)

first_some : (runs : List Running) (rates : List (ℕ × ℕ)) (n limit : ℕ) → AreFalling runs → HaveRates rates runs → HasRank n runs
    → rate_of rates n ≡ Some limit → ((higher : ℕ) → n < higher → rate_of rates higher ≡ None) → first_rate runs ≡ Some limit
first_some [] rates n limit falling each has here above = absurd has
first_some (run ∷ later) rates n limit falling each (inl is) here above =
    let mine : rate_running run ≡ Some limit = sym each.0 ∙ (ap (rate_of rates) is ∙ here) in
    rw mine refl
first_some (run ∷ later) rates n limit falling each (inr has) here above =
    let lower : n < rank_running run = rank_below later n (rank_running run) has falling.0 in
    let none : rate_running run ≡ None = sym each.0 ∙ above (rank_running run) lower in
    rw none (first_some later rates n limit falling.1 each.1 has here above)

pub top_is_first : (runs : List Running) (rates : List (ℕ × ℕ)) (top : Option ℕ) → AreInForce runs rates → IsTop rates top → top ≡ first_rate runs
top_is_first runs rates None are is = sym (first_none runs rates are.each is)
top_is_first runs rates (Some limit) are is =
    sym (first_some runs rates is.level limit are.falling are.each (are.no_other is.level limit is.has) is.has is.none_above)

-- ---- setting one rank

set_here : (rates new : List (ℕ × ℕ)) (n : ℕ) (limit : Option ℕ) → IsSet rates n limit new → rate_of new n ≡ limit
set_here rates new n limit is = is n ∙ ap (λ (b : Bool). cond b limit (rate_of rates n)) (eq-eqb n n refl)

set_apart : (rates new : List (ℕ × ℕ)) (n other : ℕ) (limit : Option ℕ) → IsSet rates n limit new → (other == n) ≡ false → rate_of new other ≡ rate_of rates other
set_apart rates new n other limit is apart = is other ∙ ap (λ (b : Bool). cond b limit (rate_of rates other)) apart

below_stay : (rates new : List (ℕ × ℕ)) (n : ℕ) (limit : Option ℕ) → IsSet rates n limit new → (runs : List Running) → AreBelow n runs → HaveRates rates runs → HaveRates new runs
below_stay rates new n limit is [] below each = tt
below_stay rates new n limit is (run ∷ later) below each =
    let low : rank_running run < n = below.0 in
    let apart : (rank_running run == n) ≡ false = grind (arith, nat_tests, low) in
    (set_apart rates new n (rank_running run) limit is apart ∙ each.0, below_stay rates new n limit is later below.1 each.1)

-- ---- a row that was passed

below_at : (runs : List Running) (i top : ℕ) (d : Running) → i < length runs → AreBelow top runs → rank_running (get_or runs i d) < top
below_at [] i top d inside all = absurd (omega (arith, inside))
below_at (run ∷ later) zero top d inside all = all.0
below_at (run ∷ later) (suc i) top d inside all = below_at later i top d (omega (arith, inside)) all.1

below_as : (runs : List Running) (top other : ℕ) → top ≡ other → AreBelow top runs → AreBelow other runs
below_as [] top other e all = tt
below_as (run ∷ later) top other e all = (omega (arith, e, all.0), below_as later top other e all.1)

below_set : (runs : List Running) (i top : ℕ) (new d : Running) → rank_running new ≡ rank_running (get_or runs i d) → AreBelow top runs → AreBelow top (slice_set runs i new)
below_set [] i top new d e all = tt
below_set (run ∷ later) zero top new d e all = (omega (arith, e, all.0), all.1)
below_set (run ∷ later) (suc i) top new d e all = (all.0, below_set later i top new d e all.1)

falling_set : (runs : List Running) (i : ℕ) (new d : Running) → rank_running new ≡ rank_running (get_or runs i d) → AreFalling runs → AreFalling (slice_set runs i new)
falling_set [] i new d e falling = tt
falling_set (run ∷ later) zero new d e falling = (below_as later (rank_running run) (rank_running new) (sym e) falling.0, falling.1)
falling_set (run ∷ later) (suc i) new d e falling = (below_set later i (rank_running run) new d e falling.0, falling_set later i new d e falling.1)

each_set : (runs : List Running) (i : ℕ) (new d : Running) (rates after : List (ℕ × ℕ)) → i < length runs → rank_running new ≡ rank_running (get_or runs i d)
    → IsSet rates (rank_running new) (rate_running new) after → AreFalling runs → HaveRates rates runs → HaveRates after (slice_set runs i new)
each_set [] i new d rates after inside e is falling each = tt
each_set (run ∷ later) zero new d rates after inside e is falling each = (
  set_here rates after (rank_running new) (rate_running new) is,
  below_stay rates after (rank_running new) (rate_running new) is later (below_as later (rank_running run) (rank_running new) (sym e) falling.0) each.1,
)
each_set (run ∷ later) (suc i) new d rates after inside e is falling each =
    let within : i < length later = omega (arith, inside) in
    let lower : rank_running (get_or later i d) < rank_running run = below_at later i (rank_running run) d within falling.0 in
    let apart : (rank_running run == rank_running new) ≡ false = grind (arith, nat_tests, lower, e) in (
      set_apart rates after (rank_running new) (rank_running run) (rate_running new) is apart ∙ each.0,
      each_set later i new d rates after within e is falling.1 each.1,
    )

has_set : (runs : List Running) (i : ℕ) (new : Running) → i < length runs → HasRank (rank_running new) (slice_set runs i new)
has_set [] i new inside = absurd (omega (arith, inside))
has_set (run ∷ later) zero new inside = inl refl
has_set (run ∷ later) (suc i) new inside = inr (has_set later i new (omega (arith, inside)))

has_kept : (runs : List Running) (i n : ℕ) (new d : Running) → rank_running new ≡ rank_running (get_or runs i d) → HasRank n runs → HasRank n (slice_set runs i new)
has_kept [] i n new d e has = has
has_kept (run ∷ later) zero n new d e (inl is) = inl (e ∙ is)
has_kept (run ∷ later) zero n new d e (inr has) = inr has
has_kept (run ∷ later) (suc i) n new d e (inl is) = inl is
has_kept (run ∷ later) (suc i) n new d e (inr has) = inr (has_kept later i n new d e has)

pub in_force_set : (runs : List Running) (i : ℕ) (new d : Running) (rates after : List (ℕ × ℕ)) → i < length runs → rank_running new ≡ rank_running (get_or runs i d)
    → IsSet rates (rank_running new) (rate_running new) after → AreInForce runs rates → AreInForce (slice_set runs i new) after
in_force_set runs i new d rates after inside e is are = record {
  falling = falling_set runs i new d e are.falling;
  each = each_set runs i new d rates after inside e is are.falling are.each;
  no_other = λ n limit has. go n limit (n == rank_running new) refl has;
}
  where
    go : (n limit : ℕ) (b : Bool) → (n == rank_running new) ≡ b → rate_of after n ≡ Some limit → HasRank n (slice_set runs i new)
    go n limit true same has =
        let at : rank_running new ≡ n = grind (arith, nat_tests, same) in
        subst (λ (m : ℕ). HasRank m (slice_set runs i new)) at (has_set runs i new inside)
    go n limit false apart has =
        has_kept runs i n new d e (are.no_other n limit (sym (set_apart rates after (rank_running new) n (rate_running new) is apart) ∙ has))

-- a row that was read, passed and written back
pub passed_in_force : (runs : List Running) (i : ℕ) (read written new : Running) (rates after : List (ℕ × ℕ)) (n : ℕ) (limit : Option ℕ) → i < length runs
    → read ≡ get_or runs i read → written ≡ get_or runs i written → new ≡ passed written → n ≡ rank_running read → limit ≡ rate_running (passed read)
    → IsSet rates n limit after → AreInForce runs rates → AreInForce (slice_set runs i new) after
passed_in_force runs i read written new rates after n limit inside read_is written_is new_is n_is limit_is is are =
    let same : read ≡ written = read_is ∙ (get_or_default runs i read written inside ∙ sym written_is) in
    let rank : n ≡ rank_running new = n_is ∙ (ap rank_running same ∙ (sym (rank_passed written) ∙ sym (ap rank_running new_is))) in
    let rate : limit ≡ rate_running new = limit_is ∙ (ap (λ (run : Running). rate_running (passed run)) same ∙ sym (ap rate_running new_is)) in
    let set : IsSet rates (rank_running new) (rate_running new) after =
    subst (λ (n : ℕ). IsSet rates n (rate_running new) after) rank (subst (λ (limit : Option ℕ). IsSet rates n limit after) rate is) in
    in_force_set runs i new written rates after inside (ap rank_running new_is ∙ (rank_passed written ∙ ap rank_running written_is)) set are

-- ---- a row before others

falling_drop : (i : ℕ) (runs : List Running) → AreFalling runs → AreFalling (drop i runs)
falling_drop zero runs falling = falling
falling_drop (suc i) [] falling = tt
falling_drop (suc i) (run ∷ later) falling = falling_drop i later falling.1

in_force_first : (run : Running) (later : List Running) (rates after : List (ℕ × ℕ)) → AreFalling (run ∷ later)
    → IsSet rates (rank_running run) (rate_running run) after → AreInForce later rates → AreInForce (run ∷ later) after
in_force_first run later rates after falling is are = record {
  falling = falling;
  each = (
    set_here rates after (rank_running run) (rate_running run) is,
    below_stay rates after (rank_running run) (rate_running run) is later falling.0 are.each,
  );
  no_other = λ n limit has. go n limit (n == rank_running run) refl has;
}
  where
    go : (n limit : ℕ) (b : Bool) → (n == rank_running run) ≡ b → rate_of after n ≡ Some limit → HasRank n (run ∷ later)
    go n limit true same has = let at : rank_running run ≡ n = grind (arith, nat_tests, same) in inl at
    go n limit false apart has =
        inr (are.no_other n limit (sym (set_apart rates after (rank_running run) n (rate_running run) is apart) ∙ has))

pub in_force_from : (runs : List Running) (i : ℕ) (run : Running) (rates after : List (ℕ × ℕ)) → i < length runs → run ≡ get_or runs i run → AreFalling runs
    → IsSet rates (rank_running run) (rate_running run) after → AreInForce (drop (i + 1) runs) rates → AreInForce (drop i runs) after
in_force_from runs i run rates after inside is_at falling is are =
    let more : drop i runs ≡ run ∷ drop (i + 1) runs = drop_more runs i run inside ∙ ap (λ (x : Running). x ∷ drop (i + 1) runs) (sym is_at) in
    subst (λ (xs : List Running). AreInForce xs after) (sym more)
    (in_force_first run (drop (i + 1) runs) rates after (subst AreFalling more (falling_drop i runs falling)) is are)
