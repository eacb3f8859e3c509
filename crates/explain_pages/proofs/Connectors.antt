-- The connectors for which a row is checked.
use Rattle.std.proofs.Common.{◌≡◌, ℕ, zero, suc, ◌<◌, ◌^◌, ◌==◌, nat_lt, Bool, true, false, ◌&&◌, ◌||◌, length, cond, Option, Some, None, is_some, option_and_then, ap, sym, ◌∙◌, arith}
use Rattle.std.proofs.lemmas.Bool.Decides.{nat_tests}
use Rattle.std.proofs.lemmas.Option.{slice_get_past}
use Rattle.profile.specs.declared.row.Row.{Row}
use Rattle.meaning.specs.View.{PointState, active_since}
use Rattle.explain_pages.specs.NotCounted.{is_of_one, is_of_active, LooksAt}

abbrev either : PointState → ℕ → Row → ℕ → Bool → Bool
either state asked row connector b = cond b (connector == asked) (is_of_active state row connector)

pub only_active : (state : PointState) (asked : ℕ) (row : Row) (connector : ℕ) → is_of_one asked row ≡ false → LooksAt state asked row connector → is_of_active state row connector ≡ true
only_active state asked row connector whole row_at_connector = ap (either state asked row connector) (sym whole) ∙ row_at_connector

pub active_looked : (state : PointState) (asked : ℕ) (row : Row) (connector : ℕ) → is_of_one asked row ≡ false → is_of_active state row connector ≡ true → LooksAt state asked row connector
active_looked state asked row connector whole active = ap (either state asked row connector) whole ∙ active

pub asked_looked : (state : PointState) (asked : ℕ) (row : Row) → is_of_one asked row ≡ true → LooksAt state asked row asked
asked_looked state asked row single =
    let same : (asked == asked) ≡ true = grind (arith, nat_tests) in
    ap (either state asked row asked) single ∙ same

pub one_looked : (state : PointState) (asked : ℕ) (row : Row) (connector : ℕ) → is_of_one asked row ≡ true → LooksAt state asked row connector → connector ≡ asked
one_looked state asked row connector single row_at_connector =
    let same : (connector == asked) ≡ true = ap (either state asked row connector) (sym single) ∙ row_at_connector in
    grind (arith, nat_tests)

active_some : (given : Option ℕ) (a b : Bool) → (is_some given && a && b) ≡ true → given ≡ None → ⊥
active_some None a b h k = cc
active_some (Some start) a b h k = cc

past_is : (state : PointState) (connector : ℕ) → length state.starts < connector → active_since state connector ≡ None
past_is state zero h = absurd (omega (arith, h))
past_is state (suc before) h = ap (option_and_then (λ (start : Option ℕ). start)) (slice_get_past state.starts before (omega (arith, h)))

-- an active connector is one of the point's
pub none_past : (state : PointState) (row : Row) (connector : ℕ) → is_of_active state row connector ≡ true → length state.starts < connector → ⊥
none_past state row connector active h =
    active_some (active_since state connector) ((row.connector == 0) || (row.connector == connector)) (nat_lt connector (2 ^ 32)) active (past_is state connector h)

pub none_zero : (state : PointState) (row : Row) → is_of_active state row 0 ≡ true → ⊥
none_zero state row h = cc
