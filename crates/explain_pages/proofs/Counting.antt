-- If no period has begun at an offset, none has begun at an earlier one.
use Rattle.std.proofs.Common.{◌≡◌, ℕ, ◌≤◌, Bool, true, false, not, List, [], ◌∷◌, filter, cond, Option, Some, None, is_some, nat_le, option_map, refl, ap, ◌∙◌, arith}
use Rattle.std.proofs.lemmas.Bool.Decides.{nat_tests}
use Rattle.profile.specs.declared.period.Period.{Period}
use Rattle.profile.specs.declared.row.Row.{Row}
use Rattle.profile.specs.Greatest.{greatest}
use Rattle.profile.specs.Periods.{limit_in}
use Rattle.explain_pages.specs.NotCounted.{is_ahead_at}

abbrev limit_of : List Period → Option ℕ
limit_of periods = option_map (λ (p : Period). p.limit) (greatest (λ (p : Period). p.start) periods)

none_before : (periods : List Period) (late early : ℕ) → early ≤ late → limit_in periods late ≡ None → limit_in periods early ≡ None
none_before [] late early before h = refl
none_before (p ∷ ps) late early before h = go (nat_le p.start late) refl (none_before ps late early before) h
  where
    go : (b : Bool) → nat_le p.start late ≡ b → (limit_in ps late ≡ None → limit_in ps early ≡ None)
        → limit_of (cond b (p ∷ filter (λ (p : Period). nat_le p.start late) ps) (filter (λ (p : Period). nat_le p.start late) ps)) ≡ None
        → limit_in (p ∷ ps) early ≡ None
    go true is rest h = cc
    go false is rest h =
        let test : nat_le p.start early ≡ false = grind (arith, nat_tests) in
        ap (λ (b : Bool). limit_of (cond b (p ∷ filter (λ (p : Period). nat_le p.start early) ps) (filter (λ (p : Period). nat_le p.start early) ps))) test
        ∙ rest h

pub ahead : (row : Row) (given : Option ℕ) (late early : ℕ) → given ≡ Some early → early ≤ late → limit_in row.profile.schedule.periods late ≡ None
    → is_ahead_at row given ≡ true
ahead row given late early is before none =
    ap (is_ahead_at row) is ∙ ap (λ (limit : Option ℕ). not (is_some limit)) (none_before row.profile.schedule.periods late early before none)
