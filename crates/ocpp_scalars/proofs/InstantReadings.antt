-- Instants are read exactly as their grammar says; a printed instant is read back as itself.
use Rattle.std.proofs.Common.{◌≡◌, ℕ, ◌+◌, ◌/◌, ◌%◌, ◌≤◌, ◌<◌, ◌⊎◌, ◌↔◌, inl, inr, List, [], ◌∷◌, ◌++◌, ℤ, pos, negsuc, ◌<ℤ◌, Option, Some, None, Result, Ok, Err, refl, sym, ap, subst, ◌∙◌, arith}
use Rattle.std.specs.Prelude.{codes}
use Rattle.std.proofs.lemmas.Int.{ints}
use Rattle.std.proofs.lemmas.Bool.{cases_lt}
use Rattle.ocpp_scalars.specs.declared.instant_text.InstantFault.{InstantFault}
use Rattle.ocpp_scalars.specs.declared.instant_text.InstantFault.TheVariants.{Form, Range}
use Rattle.jiff_core.proofs.CalendarLemmas.{days_in_month_bounds}
use Rattle.ocpp_scalars.specs.CalendarDay.{CalendarDay, calendar_day}
use Rattle.ocpp_scalars.specs.Digits.{two_digits, four_digits}
use Rattle.ocpp_scalars.specs.InstantText.{date_text, time_text, SpellsInstant, SpellsOnlyInstant, no_second_fraction, capital_z, IsInstantReading}
use Rattle.ocpp_scalars.specs.Limits.{last_second}
use Rattle.ocpp_scalars.specs.Writing.{in_digits, day_text, time_of_day_text, instant_text}
use Rattle.ocpp_scalars.specs.ByCases.InstantText.{seconds_of, in_range, reading, instant_of}
use Rattle.ocpp_scalars.proofs.Calendar.{calendar_day-number, calendar_day-year, calendar_day-civil}
use Rattle.ocpp_scalars.proofs.Cases.{same-some}
use Rattle.ocpp_scalars.proofs.InstantGrammar.{seconds_found, seconds_only}

-- numbers of seconds in range and out of it
in_range-cases : (z : ℤ) → ((n : ℕ) × (z ≡ pos n) × (n ≤ last_second) × (in_range z ≡ Ok n)) ⊎ (((z <ℤ pos 0) ⊎ (pos last_second <ℤ z)) × (in_range z ≡ Err Range))
in_range-cases (pos n) =
    elim (cases_lt last_second n) [
      | inl past ↦ inr (inr (omega (arith, ints)), grind arith)
      | inr within ↦ inl (n, refl, within, grind arith)
    ]
in_range-cases (negsuc n) = inr (inl (omega (arith, ints)), refl)

reads : (text : List ℕ) (o : Option ℤ) → seconds_of text ≡ o → IsInstantReading text (reading o)
reads text None e = λ z spells. let is : seconds_of text ≡ Some z = seconds_only text z spells in cc
reads text (Some z) e =
    let spells = seconds_found text z e in
    elim (in_range-cases z) [
      | inl (n, is, bound, reading_is) ↦ rw reading_is (rw is at spells, bound)
      | inr (out, reading_is) ↦ rw reading_is (z, spells, out)
    ]

instant_found : (text : List ℕ) → IsInstantReading text (instant_of text)
unfolding instant_of
instant_found text = reads text (seconds_of text) refl

out_of_range : (z : ℤ) → (z <ℤ pos 0) ⊎ (pos last_second <ℤ z) → in_range z ≡ Err Range
out_of_range z out =
    elim (in_range-cases z) [
      | inl (n, is, bound, reading_is) ↦ absurd (omega (arith, ints, out))
      | inr (same, reading_is) ↦ reading_is
    ]

in_range-within : (n : ℕ) → n ≤ last_second → in_range (pos n) ≡ Ok n
in_range-within n h = grind arith

instant_only : (text : List ℕ) (r : Result ℕ InstantFault) → IsInstantReading text r → instant_of text ≡ r
unfolding instant_of
instant_only text (Ok n) (spells, bound) = ap reading (seconds_only text (pos n) spells) ∙ in_range-within n bound
instant_only text (Err Form) none = no_seconds (seconds_of text) refl where
  no_seconds : (o : Option ℤ) → seconds_of text ≡ o → reading o ≡ Err Form
  no_seconds None e = refl
  no_seconds (Some z) e = absurd (none z (seconds_found text z e))
instant_only text (Err Range) (z, spells, out) = ap reading (seconds_only text z spells) ∙ out_of_range z out

pub instant_reading : (text : List ℕ) (r : Result ℕ InstantFault) → (instant_of text ≡ r) ↔ IsInstantReading text r
instant_reading text r =
    (λ e. subst (λ (r : Result ℕ InstantFault). IsInstantReading text r) e (instant_found text), instant_only text r)

-- printed numbers have the form that is read
two_printed : (n : ℕ) → n ≤ 99 → in_digits 2 n ≡ two_digits n
two_printed n h =
    let tens : n / 10 % 10 ≡ n / 10 = omega arith in
    ap (λ (digit : ℕ). (48 + digit) ∷ (48 + n % 10) ∷ []) tens

abbrev four : ℕ → ℕ → ℕ → ℕ → List ℕ
four a b c d = (48 + a) ∷ (48 + b) ∷ (48 + c) ∷ (48 + d) ∷ []

four_printed : (n : ℕ) → n ≤ 9999 → in_digits 4 n ≡ four_digits n
four_printed n h =
    let first : n / 10 / 10 / 10 % 10 ≡ n / 100 / 10 = omega arith in
    let second : n / 10 / 10 % 10 ≡ n / 100 % 10 = omega arith in
    let third : n / 10 % 10 ≡ n % 100 / 10 = omega arith in
    let fourth : n % 10 ≡ n % 100 % 10 = omega arith in
    λ i. four (first i) (second i) (third i) (fourth i)

day_printed : (d : CalendarDay) → d.year ≤ 9999 → d.month ≤ 99 → d.day ≤ 99
    → day_text d ≡ date_text d.year d.month d.day
unfolding day_text
day_printed d in_year in_month in_day =
    let year = four_printed d.year in_year in
    let month = two_printed d.month in_month in
    let day = two_printed d.day in_day in
    λ i. year i ++ codes "-" ++ month i ++ codes "-" ++ day i

time_printed : (s : ℕ) → s < 86_400
    → time_of_day_text s ≡ time_text (s / 3600) (s / 60 % 60) (s % 60)
unfolding time_of_day_text
time_printed s h =
    let hour = two_printed (s / 3600) (omega arith) in
    let minute = two_printed (s / 60 % 60) (omega arith) in
    let second = two_printed (s % 60) (omega arith) in
    λ i. hour i ++ codes ":" ++ minute i ++ codes ":" ++ second i

-- the printed text spells its own instant
printed : (i : ℕ) → i ≤ last_second → SpellsInstant (instant_text i) (pos i)
unfolding instant_text
printed i h =
    let n = i / 86_400 in
    let d = calendar_day n in
    let number = (calendar_day-number n).number in
    let year = calendar_day-year n (omega arith) in
    let civil = calendar_day-civil n (omega arith) in
    let short = days_in_month_bounds (pos d.year) d.month in
    let date =
    day_printed d year (omega (arith, civil.1.1)) (omega (arith, civil.2.1, short)) in
    let time = time_printed (i % 86_400) (omega arith) in
    record {
      year = d.year;
      month = d.month;
      day = d.day;
      separator = 84;
      hour = i % 86_400 / 3600;
      minute = i % 86_400 / 60 % 60;
      second = i % 86_400 % 60;
      fraction = [];
      offset = pos 0;
      offset_text = 90 ∷ [];
      is_text = λ j. date j ++ codes "T" ++ time j ++ codes "Z";
      is_year = year;
      is_date = civil;
      is_separator = inl refl;
      is_clock = (omega arith, omega arith);
      is_second = omega arith;
      is_fraction = no_second_fraction;
      is_offset = capital_z;
      is_seconds = omega (arith, ints, number);
    }

pub instant_again : (i : ℕ) → i ≤ last_second → instant_of (instant_text i) ≡ Ok i
instant_again i h = instant_only (instant_text i) (Ok i) (printed i h, h)

pub instant_printed : (i : ℕ) → i ≤ last_second → SpellsOnlyInstant (instant_text i) i
instant_printed i h = (printed i h, λ seconds spells. alone seconds (seconds_only (instant_text i) seconds spells)) where
  alone : (seconds : ℤ) → seconds_of (instant_text i) ≡ Some seconds → seconds ≡ pos i
  alone seconds e = same-some (sym e ∙ seconds_only (instant_text i) (pos i) (printed i h))
