-- The row that prevails is above a stack level exactly if any row with a limit is.
use Rattle.std.proofs.Common.{◌≡◌, ℕ, nat_lt, Bool, true, false, ◌&&◌, ◌||◌, cond, List, [], ◌∷◌, filter, Option, Some, None, is_some, option_map, refl, ap, sym, ◌∙◌, arith}
use Rattle.std.specs.List.{filter_map, cons_option, list_any}
use Rattle.std.proofs.lemmas.Bool.Decides.{nat_tests}
use Rattle.profile.specs.declared.purpose.Purpose.{Purpose}
use Rattle.profile.specs.declared.row.Row.{Row}
use Rattle.profile.specs.Candidates.{is_candidate}
use Rattle.profile.specs.ChargingProfile.{rate}
use Rattle.profile.specs.Greatest.{greater, greatest}
use Rattle.profile.specs.Row.{base}
use Rattle.meaning.specs.View.{PointState, active_since}
use Rattle.meaning.specs.Prevailing.{has_its_transaction}
use Rattle.meaning.specs.Cause.{RowLimit, with_limit, row_limit, level_of, prevailing_row}
use Rattle.meaning.specs.WhyNot.{is_above}
use Rattle.meaning.specs.ByCases.WhyNot.{is_higher}

-- one of two numbers is above a third exactly if the greater is
either_above : (n x y : ℕ) (a b c : Bool) → nat_lt n x ≡ a → nat_lt x y ≡ b → nat_lt n y ≡ c → ((a && true && true) || c) ≡ nat_lt n (cond b y x)
either_above n x y true true c p q r = grind (arith, nat_tests)
either_above n x y false true c p q r = sym r
either_above n x y true false c p q r = sym p
either_above n x y false false true p q r = grind (arith, nat_tests)
either_above n x y false false false p q r = sym p

level_of_one : (b : Bool) (first second : RowLimit) → cond b (level_of first) (level_of second) ≡ level_of (cond b first second)
level_of_one true first second = refl
level_of_one false first second = refl

greater_above : (level : ℕ) (one : RowLimit) (best : Option RowLimit) → ((nat_lt level (level_of one) && true && true) || is_above level best) ≡ nat_lt level (level_of (greater level_of one best))
greater_above level one None = go (nat_lt level (level_of one))
  where
    go : (b : Bool) → ((b && true && true) || false) ≡ b
    go true = refl
    go false = refl
greater_above level one (Some best) =
    either_above level (level_of one) (level_of best) _ _ _ refl refl refl
    ∙ ap (nat_lt level) (level_of_one (nat_lt (level_of one) (level_of best)) best one)

no_limit : (a any : Bool) → ((a && false && true) || any) ≡ any
no_limit true any = refl
no_limit false any = refl

not_passing : (a b any : Bool) → ((a && b && false) || any) ≡ any
not_passing true true any = refl
not_passing true false any = refl
not_passing false b any = refl

-- for the rows that pass a test, with the value of a function for each
any_is_above : (test : Row → Bool) (give : Row → Option ℕ) (level : ℕ) (rows : List Row)
    → list_any (λ (row : Row). nat_lt level row.profile.stack_level && is_some (give row) && test row) rows
    ≡ is_above level (greatest level_of (filter_map (λ (row : Row). option_map (with_limit row) (give row)) (filter test rows)))
any_is_above test give level [] = refl
any_is_above test give level (row ∷ rows) =
    ap (λ (any : Bool). (nat_lt level row.profile.stack_level && is_some (give row) && test row) || any) (any_is_above test give level rows) ∙ by_test (test row)
  where
    given : List RowLimit
    given = filter_map (λ (row : Row). option_map (with_limit row) (give row)) (filter test rows)

    by_limit : (limit : Option ℕ) → ((nat_lt level row.profile.stack_level && is_some limit && true) || is_above level (greatest level_of given))
        ≡ is_above level (greatest level_of (cons_option (option_map (with_limit row) limit) given))
    by_limit None = no_limit (nat_lt level row.profile.stack_level) (is_above level (greatest level_of given))
    by_limit (Some limit) = greater_above level (with_limit row limit) (greatest level_of given)

    by_test : (passes : Bool) → ((nat_lt level row.profile.stack_level && is_some (give row) && passes) || is_above level (greatest level_of given))
        ≡ is_above level (greatest level_of (filter_map (λ (row : Row). option_map (with_limit row) (give row)) (cond passes (row ∷ filter test rows) (filter test rows))))
    by_test true = by_limit (give row)
    by_test false = not_passing (nat_lt level row.profile.stack_level) (is_some (give row)) (is_above level (greatest level_of given))

-- if a purpose has its transaction, the row that prevails is above a level exactly if any row is
pub higher_counts : (purpose : Purpose) (state : PointState) (connector asked instant level : ℕ) → has_its_transaction purpose (active_since state connector) ≡ true
    → list_any (is_higher purpose state connector asked instant level) state.rows ≡ is_above level (prevailing_row purpose state connector asked instant)
higher_counts purpose state connector asked instant level has =
    any_is_above (is_candidate purpose state.rows connector) (λ (row : Row). rate row.profile (base row (active_since state connector) asked) instant) level state.rows
    ∙ ap (λ (b : Bool). is_above level (greatest level_of (filter_map (row_limit state connector asked instant) (cond b (filter (is_candidate purpose state.rows connector) state.rows) [])))) (sym has)
