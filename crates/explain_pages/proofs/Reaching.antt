-- If a row that counts has a limit, the one that prevails has at least its stack level.
use Rattle.std.proofs.Common.{◌≡◌, ℕ, zero, suc, ◌<◌, ◌≤◌, Bool, true, false, List, [], ◌∷◌, length, filter, get_or, cond, Option, Some, None, is_some, nat_lt, option_map, refl, ap, sym, subst, ◌∙◌, ◌⊎◌, inl, inr, arith}
use Rattle.std.specs.List.{filter_map, cons_option}
use Rattle.std.proofs.lemmas.Bool.Decides.{nat_tests}
use Rattle.profile.specs.declared.purpose.Purpose.{Purpose}
use Rattle.profile.specs.declared.row.Row.{Row}
use Rattle.profile.specs.Candidates.{is_candidate}
use Rattle.profile.specs.ChargingProfile.{rate}
use Rattle.profile.specs.Greatest.{greater, greatest}
use Rattle.profile.specs.Row.{base}
use Rattle.meaning.specs.View.{PointState, active_since}
use Rattle.meaning.specs.Prevailing.{counted, has_its_transaction}
use Rattle.meaning.specs.Cause.{with_limit, row_limit, level_of, prevailing_row}
use Rattle.explain_pages.specs.ByCases.Throughout.{Reaches}

-- ---- members of a list

abbrev Among : {X : Type 0} → X → List X → Type 0
Among x [] = ⊥
Among x (y ∷ ys) = (x ≡ y) ⊎ Among x ys

among_at : (rows : List Row) (i : ℕ) (row : Row) → i < length rows → row ≡ get_or rows i row → Among row rows
among_at [] i row h e = absurd (omega (arith, h))
among_at (first ∷ rows) zero row h e = inl e
among_at (first ∷ rows) (suc i) row h e = inr (among_at rows i row (omega (arith, h)) e)

among_given : {X Y : Type 0} (give : X → Option Y) (xs : List X) (x : X) (y : Y) → give x ≡ Some y → Among x xs → Among y (filter_map give xs)
among_given give [] x y h k = k
among_given {X = X} {Y = Y} give (z ∷ xs) x y h (inl same) = go (give z) (ap give (sym same) ∙ h)
  where
    go : (given : Option Y) → given ≡ Some y → Among y (cons_option given (filter_map give xs))
    go None e = cc
    go (Some w) e = let same : y ≡ w = cc in inl same
among_given {X = X} {Y = Y} give (z ∷ xs) x y h (inr later) = go (give z) (among_given give xs x y h later)
  where
    go : (given : Option Y) → Among y (filter_map give xs) → Among y (cons_option given (filter_map give xs))
    go None k = k
    go (Some w) k = inr k

among_passing : {X : Type 0} (test : X → Bool) (xs : List X) (x : X) → test x ≡ true → Among x xs → Among x (filter test xs)
among_passing test [] x h k = k
among_passing {X = X} test (z ∷ xs) x h (inl same) = go (test z) (ap test (sym same) ∙ h)
  where
    go : (b : Bool) → b ≡ true → Among x (cond b (z ∷ filter test xs) (filter test xs))
    go true e = inl same
    go false e = cc
among_passing {X = X} test (z ∷ xs) x h (inr later) = go (test z) (among_passing test xs x h later)
  where
    go : (b : Bool) → Among x (filter test xs) → Among x (cond b (z ∷ filter test xs) (filter test xs))
    go true k = inr k
    go false k = k

-- ---- the greatest is no less than any member

record Above {X : Type 0} (key : X → ℕ) (xs : List X) (x : X) : Type 0 where
  best : X
  is : greatest key xs ≡ Some best
  above : key x ≤ key best

greater_above : {X : Type 0} (key : X → ℕ) (x : X) (other : Option X) → key x ≤ key (greater key x other)
greater_above key x None = omega arith
greater_above {X = X} key x (Some y) = go (nat_lt (key x) (key y)) refl
  where
    go : (b : Bool) → nat_lt (key x) (key y) ≡ b → key x ≤ key (cond b y x)
    go true less = grind (arith, nat_tests)
    go false not_less = omega arith

greater_below : {X : Type 0} (key : X → ℕ) (x y : X) → key y ≤ key (greater key x (Some y))
greater_below {X = X} key x y = go (nat_lt (key x) (key y)) refl
  where
    go : (b : Bool) → nat_lt (key x) (key y) ≡ b → key y ≤ key (cond b y x)
    go true less = omega arith
    go false not_less = grind (arith, nat_tests)

greatest_above : {X : Type 0} (key : X → ℕ) (xs : List X) (x : X) → Among x xs → Above key xs x
greatest_above key [] x h = absurd h
greatest_above key (y ∷ ys) x (inl same) = record {
  best = greater key y (greatest key ys);
  is = refl;
  above = let at : key x ≡ key y = ap key same in let above = greater_above key y (greatest key ys) in omega (arith, at, above);
}
greatest_above key (y ∷ ys) x (inr later) =
    let rest = greatest_above key ys x later in
    record {
      best = greater key y (Some rest.best);
      is = ap (λ best. Some (greater key y best)) rest.is;
      above = let below = rest.above in let above = greater_below key y rest.best in omega (arith, below, above);
    }

-- ---- a row that counts

pub record CountsAt (purpose : Purpose) (state : PointState) (at place : ℕ) (row : Row) : Type 0 where
  pub has : has_its_transaction purpose (active_since state at) ≡ true
  pub within : place < length state.rows
  pub is : row ≡ get_or state.rows place row
  pub speaks : is_candidate purpose state.rows at row ≡ true

record HasLimit (given : Option ℕ) : Type 0 where
  limit : ℕ
  is : given ≡ Some limit

some_of : (given : Option ℕ) → is_some given ≡ true → HasLimit given
some_of None h = cc
some_of (Some limit) h = record { limit = limit; is = refl }

pub reached : (purpose : Purpose) (state : PointState) (at asked instant least place : ℕ) (row : Row) → CountsAt purpose state at place row
    → is_some (rate row.profile (base row (active_since state at) asked) instant) ≡ true → least ≤ row.profile.stack_level
    → Reaches least (prevailing_row purpose state at asked instant)
reached purpose state at asked instant least place row counts some level =
    let has = some_of (rate row.profile (base row (active_since state at) asked) instant) some in
    let above = greatest_above level_of (filter_map (row_limit state at asked instant) (counted purpose state at)) (with_limit row has.limit)
    (among_given (row_limit state at asked instant) (counted purpose state at) row (with_limit row has.limit) (ap (option_map (with_limit row)) has.is)
    (subst (λ (b : Bool). Among row (cond b (filter (is_candidate purpose state.rows at) state.rows) [])) (sym counts.has)
    (among_passing (is_candidate purpose state.rows at) state.rows row counts.speaks (among_at state.rows place row counts.within counts.is)))) in
    record {
      best = above.best;
      is = above.is;
      high = let no_less = above.above in omega (arith, level, no_less);
    }
