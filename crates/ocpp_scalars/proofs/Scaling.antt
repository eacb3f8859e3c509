-- Digits times a power of ten, step by step.
use Rattle.std.proofs.Common.{◌≡◌, ◌≢◌, ℕ, zero, suc, ◌+◌, ◌-◌, ◌*◌, ◌/◌, ◌%◌, ◌^◌, ◌<◌, ◌≤◌, Some, None, ℤ, pos, negsuc, neg_ℤ, ◌<ℤ◌, ◌≤ℤ◌, unsigned_abs, refl, sym, ap, ◌∙◌, arith, mul-le-mul_left, mul-le-mul_right, ne_eqb, div-add-mod', zero-mul, List, length, drop, length-drop}
use Rattle.std.proofs.Math.Nat.{one-le-pow, pow-le-pow_right, mul-mod_left, eq_of_mul-eq-mul_right, div-eq_of_eq-mul_left, zero-mod, zero-div}
use Rattle.std.proofs.lemmas.Nat.{pow-add}
use Rattle.std.proofs.lemmas.Int.{ints}
use Rattle.std.proofs.lemmas.Grind.{pow_more}
use Rattle.ocpp_scalars.specs.ByCases.Number.{times_power, at_most}

pub ten_pow_pos : (k : ℕ) → 0 < 10 ^ k
ten_pow_pos k = one-le-pow k 10 (omega arith)

pub ten_pow_mono : (i j : ℕ) → i ≤ j → 10 ^ i ≤ 10 ^ j
ten_pow_mono i j h = pow-le-pow_right (omega arith) h

-- zero times any power of ten is zero
pub scaled-zero : (power : ℤ) → times_power 0 power ≡ Some 0
unfolding times_power
scaled-zero (pos k) = rw zero-mul refl
scaled-zero (negsuc k) = rw (zero-mod, zero-div) refl

pub scaled-raised : (digits zeros value : ℕ) → value ≡ digits * 10 ^ zeros → times_power digits (pos zeros) ≡ Some value
unfolding times_power
scaled-raised digits count value e = rw (← e) refl

pub at_most-over : (most value : ℕ) → most < value → at_most most (Some value) ≡ None
at_most-over most value h = grind arith

-- past the bound, further zeros don't lead back below it
pub scaled-over : (most digits zeros counter value : ℕ) → value ≡ digits * 10 ^ counter → most < value → counter ≤ zeros → at_most most (times_power digits (pos zeros)) ≡ None
unfolding times_power
scaled-over most digits zeros counter value e over h =
    at_most-over most (digits * 10 ^ zeros) (omega (arith, mul-le-mul_left digits (ten_pow_mono counter zeros h)))

pub scaled-lowered : (digits zeros value : ℕ) → 0 < zeros → value * 10 ^ zeros ≡ digits → times_power digits (neg_ℤ (pos zeros)) ≡ Some value
unfolding times_power
scaled-lowered digits zero value h e = absurd (omega arith)
scaled-lowered digits (suc k) value h e =
    let exact : digits % 10 ^ suc k ≡ 0 = rw (← e) (mul-mod_left value (10 ^ suc k)) in
    let quotient : digits / 10 ^ suc k ≡ value = div-eq_of_eq-mul_left (ten_pow_pos (suc k)) (sym e) in
    rw (exact, quotient) refl

-- a number whose last digit isn't zero isn't a multiple of ten
odd_digit : (digits zeros counter value n : ℕ) → value * 10 ^ counter ≡ digits → counter < zeros → n * 10 ^ zeros ≡ digits → value % 10 ≡ 0
odd_digit digits zeros counter value n e h whole =
    let rest = zeros - counter - 1 in
    let parts : zeros ≡ rest + (1 + counter) = omega arith in
    let split : 10 ^ zeros ≡ 10 ^ rest * (10 * 10 ^ counter) = ap (λ k. 10 ^ k) parts ∙ (pow-add 10 rest (1 + counter) ∙ ap (λ k. 10 ^ rest * k) (pow-add 10 1 counter)) in
    let same : value * 10 ^ counter ≡ n * 10 ^ rest * 10 * 10 ^ counter = omega (arith, ap (λ k. n * k) split) in
    let is : value ≡ n * 10 ^ rest * 10 = eq_of_mul-eq-mul_right (10 ^ counter) (ten_pow_pos counter) value (n * 10 ^ rest * 10) same in
    rw is (mul-mod_left (n * 10 ^ rest) 10)

pub scaled-odd : (digits zeros counter value : ℕ) → value * 10 ^ counter ≡ digits → value % 10 ≢ 0 → counter < zeros → times_power digits (neg_ℤ (pos zeros)) ≡ None
unfolding times_power
scaled-odd digits zero counter value e odd h = absurd (omega arith)
scaled-odd digits (suc k) counter value e odd h =
    let rest : (digits % 10 ^ suc k ≡ 0) → ⊥ = λ exact. odd (odd_digit digits (suc k) counter value (digits / 10 ^ suc k) e h (omega (arith, div-add-mod' digits (10 ^ suc k)))) in
    rw (ne_eqb (digits % 10 ^ suc k) 0 rest) refl

-- a number below zero by its absolute value
pub neg_of_abs : (z : ℤ) → z <ℤ pos 0 → neg_ℤ (pos (unsigned_abs z)) ≡ z
neg_of_abs (pos n) h = absurd (omega (arith, ints))
neg_of_abs (negsuc n) h = refl

pub pos_of_abs : (z : ℤ) → pos 0 ≤ℤ z → pos (unsigned_abs z) ≡ z
pos_of_abs (pos n) h = refl
pos_of_abs (negsuc n) h = absurd (omega (arith, ints))

-- one zero removed, and one appended
pub lowered_step : (digits counter value : ℕ) → value * 10 ^ counter ≡ digits → value % 10 ≡ 0 → 0 < value → (value / 10 * 10 ^ (counter + 1) ≡ digits) × (0 < value / 10)
lowered_step digits counter value e exact h =
    let tenth = value / 10 in
    let whole : value ≡ tenth * 10 = omega arith in
    let same : value * 10 ^ counter ≡ tenth * 10 * 10 ^ counter = ap (λ v. v * 10 ^ counter) whole in
    (rw (pow_more 10 counter) (omega (arith, same)), omega arith)

pub raised_step : (digits counter value : ℕ) → value ≡ digits * 10 ^ counter → 0 < value → (value * 10 ≡ digits * 10 ^ (counter + 1)) × (0 < value * 10)
raised_step digits counter value e h = (rw (pow_more 10 counter) (omega arith), omega arith)

-- if there is room for the remaining digits, there is room for the next one
pub room_now : (value : ℕ) (ds : List ℕ) (i bound : ℕ) → i < length ds → (value + 1) * 10 ^ length (drop i ds) ≤ bound → value * 10 + 10 ≤ bound
room_now value ds i bound h room =
    let more : length (drop i ds) ≡ length (drop (i + 1) ds) + 1 = omega (arith, length-drop i ds, length-drop (i + 1) ds) in
    let rest = length (drop (i + 1) ds) in
    let split : 10 ^ length (drop i ds) ≡ 10 ^ rest * 10 = ap (λ k. 10 ^ k) more ∙ pow_more 10 rest in
    omega (arith, ap (λ k. (value + 1) * k) split, mul-le-mul_left (value + 1) (ten_pow_pos rest))

pub room_step : (value digit : ℕ) (ds : List ℕ) (i bound : ℕ) → i < length ds → digit ≤ 9 → (value + 1) * 10 ^ length (drop i ds) ≤ bound → (value * 10 + digit + 1) * 10 ^ length (drop (i + 1) ds) ≤ bound
room_step value digit ds i bound h nine room =
    let more : length (drop i ds) ≡ length (drop (i + 1) ds) + 1 = omega (arith, length-drop i ds, length-drop (i + 1) ds) in
    let rest = length (drop (i + 1) ds) in
    let split : 10 ^ length (drop i ds) ≡ 10 ^ rest * 10 = ap (λ k. 10 ^ k) more ∙ pow_more 10 rest in
    let fits : value * 10 + digit + 1 ≤ (value + 1) * 10 = omega arith in
    omega (arith, ap (λ k. (value + 1) * k) split, mul-le-mul_right (10 ^ rest) fits)

-- there is room for at most 32 digits
pub room_first : (k : ℕ) → k ≤ 32 → 1 * 10 ^ k ≤ 10 ^ 32
room_first k h = omega (arith, ten_pow_mono k 32 h)

pub room_second : (value j k : ℕ) → value + 1 ≤ 1 * 10 ^ j → j + k ≤ 32 → (value + 1) * 10 ^ k ≤ 10 ^ 32
room_second value j k first h =
    omega (arith, mul-le-mul_right (10 ^ k) first, pow-add 10 j k, ten_pow_mono (j + k) 32 h)

pub ruleset scaling = (scaled-zero, scaled-raised, scaled-over, scaled-lowered, scaled-odd, neg_of_abs, pos_of_abs)
