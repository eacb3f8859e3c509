-- An instant's text is read exactly as its grammar says.
use Rattle.std.proofs.Common.{◌≡◌, ℕ, ◌+◌, ◌-◌, ◌*◌, ◌/◌, ◌%◌, ◌≤◌, ◌<◌, true, false, ◌&&◌, ◌||◌, ◌==◌, nat_le, nat_lt, inl, inr, List, [], ◌∷◌, ◌++◌, length, ℤ, pos, neg_ℤ, Option, Some, None, option_map, refl, sym, ap, subst, ◌∙◌, arith, le-leb, leb-true, lt-ltb, ltb-true}
use Rattle.std.specs.Char.{is_ascii_digit}
use Rattle.std.proofs.lemmas.Int.{ints}
use Rattle.std.proofs.lemmas.Bool.{eqb-true, and_parts}
use Rattle.jiff_core.specs.Calendar.{IsCivilDate, days_from_civil, days_in_month}
use Rattle.jiff_core.proofs.CalendarLemmas.{days_in_month_bounds}
use Rattle.ocpp_scalars.specs.ByCases.Digits.{digits_of, after_digits, is_empty}
use Rattle.ocpp_scalars.specs.Digits.{two_digits, four_digits}
use Rattle.ocpp_scalars.specs.InstantText.{date_text, clock_text, time_text, IsSecondFraction, no_second_fraction, second_fraction, IsSeparator, IsClock, IsOffset, no_offset, capital_z, small_z, ahead_of_utc, behind_utc, SpellsInstant}
use Rattle.ocpp_scalars.specs.ByCases.InstantText.{digit_at, two_at, four_at, after_dash, after_colon, after_separator, is_day, day_number, date_at, minutes_at, time_at, after_fraction, clock_in, zulu_in, offset_in, total_seconds, seconds_of}
use Rattle.ocpp_scalars.proofs.Cases.{by_test, step-some, same-some, map-some, test-some, or-true}
use Rattle.ocpp_scalars.proofs.Texts.{AreDigits-digits_of}
use Rattle.ocpp_scalars.proofs.NumberGrammar.{digits_split, Stops, digits_only, is_empty-nil}

-- digits

digit_tested : (b : ℕ) → is_ascii_digit b ≡ true → (48 ≤ b) × (b ≤ 57)
digit_tested b e = grind arith

digit_written : (d : ℕ) → d ≤ 9 → is_ascii_digit (48 + d) ≡ true
digit_written d h = grind arith

digit_found : (text : List ℕ) (x : ℕ × List ℕ) → digit_at text ≡ Some x → (x.0 ≤ 9) × (text ≡ (48 + x.0) ∷ x.1)
digit_found [] x e = cc
digit_found (b ∷ bs) x e =
    let t = test-some (is_ascii_digit b) (b - 48, bs) x e in
    let digit = digit_tested b t.0 in
    let back : b ≡ 48 + (b - 48) = omega arith in
    subst (λ (x : ℕ × List ℕ). (x.0 ≤ 9) × (b ∷ bs ≡ (48 + x.0) ∷ x.1)) t.1 (omega arith, ap (λ c. c ∷ bs) back)

digit_only : (d : ℕ) (rest : List ℕ) → d ≤ 9 → digit_at ((48 + d) ∷ rest) ≡ Some (d, rest)
digit_only d rest h =
    let test = digit_written d h in
    let back : 48 + d - 48 ≡ d = omega arith in
    rw test (ap (λ (n : ℕ). Some (n, rest)) back)

two_found : (text : List ℕ) (x : ℕ × List ℕ) → two_at text ≡ Some x → (x.0 ≤ 99) × (text ≡ two_digits x.0 ++ x.1)
two_found text x e =
    let (a, a_is, rest) = step-some (digit_at text) x e in
    let (b, b_is, last) = step-some (digit_at a.1) x rest in
    let made = same-some last in
    let first = digit_found text a a_is in
    let second = digit_found a.1 b b_is in
    let tens : a.0 ≡ (a.0 * 10 + b.0) / 10 = omega (arith, second.0) in
    let ones : b.0 ≡ (a.0 * 10 + b.0) % 10 = omega (arith, second.0) in
    let whole : text ≡ (48 + a.0) ∷ ((48 + b.0) ∷ b.1) = first.1 ∙ ap (λ r. (48 + a.0) ∷ r) second.1 in
    subst (λ (x : ℕ × List ℕ). (x.0 ≤ 99) × (text ≡ two_digits x.0 ++ x.1)) made
    (omega (arith, first.0, second.0), whole ∙ ap (λ n. (48 + n) ∷ ((48 + b.0) ∷ b.1)) tens ∙ ap (λ n. (48 + (a.0 * 10 + b.0) / 10) ∷ ((48 + n) ∷ b.1)) ones)

two_only : (n : ℕ) (rest : List ℕ) → n ≤ 99 → two_at (two_digits n ++ rest) ≡ Some (n, rest)
two_only n rest h =
    let first = digit_only (n / 10) ((48 + n % 10) ∷ rest) (omega arith) in
    let second = digit_only (n % 10) rest (omega arith) in
    let whole : n / 10 * 10 + n % 10 ≡ n = omega arith in
    rw first (rw second (ap (λ (n : ℕ). Some (n, rest)) whole))

four_found : (text : List ℕ) (x : ℕ × List ℕ) → four_at text ≡ Some x → (x.0 ≤ 9999) × (text ≡ four_digits x.0 ++ x.1)
four_found text x e =
    let (a, a_is, rest) = step-some (two_at text) x e in
    let (b, b_is, last) = step-some (two_at a.1) x rest in
    let made = same-some last in
    let first = two_found text a a_is in
    let second = two_found a.1 b b_is in
    let high : a.0 ≡ (a.0 * 100 + b.0) / 100 = omega (arith, second.0) in
    let low : b.0 ≡ (a.0 * 100 + b.0) % 100 = omega (arith, second.0) in
    let whole : text ≡ two_digits a.0 ++ (two_digits b.0 ++ b.1) = first.1 ∙ ap (λ r. two_digits a.0 ++ r) second.1 in
    subst (λ (x : ℕ × List ℕ). (x.0 ≤ 9999) × (text ≡ four_digits x.0 ++ x.1)) made
    (omega (arith, first.0, second.0), whole ∙ ap (λ n. two_digits n ++ (two_digits b.0 ++ b.1)) high ∙ ap (λ n. two_digits ((a.0 * 100 + b.0) / 100) ++ (two_digits n ++ b.1)) low)

four_only : (n : ℕ) (rest : List ℕ) → n ≤ 9999 → four_at (four_digits n ++ rest) ≡ Some (n, rest)
four_only n rest h =
    let first = two_only (n / 100) (two_digits (n % 100) ++ rest) (omega arith) in
    let second = two_only (n % 100) rest (omega arith) in
    let whole : n / 100 * 100 + n % 100 ≡ n = omega arith in
    rw first (rw second (ap (λ (n : ℕ). Some (n, rest)) whole))

-- the separators

dash_found : (text rest : List ℕ) → after_dash text ≡ Some rest → text ≡ 45 ∷ rest
dash_found [] rest e = cc
dash_found (b ∷ bs) rest e =
    let t = test-some (b == 45) bs rest e in
    ap (λ c. c ∷ bs) (eqb-true b 45 t.0) ∙ ap (λ r. 45 ∷ r) t.1

colon_found : (text rest : List ℕ) → after_colon text ≡ Some rest → text ≡ 58 ∷ rest
colon_found [] rest e = cc
colon_found (b ∷ bs) rest e =
    let t = test-some (b == 58) bs rest e in
    ap (λ c. c ∷ bs) (eqb-true b 58 t.0) ∙ ap (λ r. 58 ∷ r) t.1

separator_tested : (b : ℕ) → ((b == 84) || ((b == 116) || (b == 32))) ≡ true → IsSeparator b
separator_tested b e =
    elim (or-true (b == 84) ((b == 116) || (b == 32)) e) [
      | inl capital ↦ inl (eqb-true b 84 capital)
      | inr other ↦ elim (or-true (b == 116) (b == 32) other) [ inl small ↦ inr (inl (eqb-true b 116 small)) | inr blank ↦ inr (inr (eqb-true b 32 blank)) ]
    ]

separator_found : (text rest : List ℕ) → after_separator text ≡ Some rest → (b : ℕ) × IsSeparator b × (text ≡ b ∷ rest)
separator_found [] rest e = cc
separator_found (b ∷ bs) rest e =
    let t = test-some ((b == 84) || ((b == 116) || (b == 32))) bs rest e in
    (b, separator_tested b t.0, ap (λ r. b ∷ r) t.1)

separator_only : (b : ℕ) (rest : List ℕ) → IsSeparator b → after_separator (b ∷ rest) ≡ Some rest
separator_only b rest is =
    elim is [ inl capital ↦ rw capital refl | inr other ↦ elim other [ inl small ↦ rw small refl | inr blank ↦ rw blank refl ] ]

-- dates

is_day-found : (year month day : ℕ) → year ≤ 9999 → is_day year month day ≡ true → IsCivilDate (pos year) month day
is_day-found year month day h e =
    let parts = and_parts (nat_le 1 month && nat_le month 12) (nat_le 1 day && nat_le day (days_in_month (pos year) month)) e in
    let months = and_parts (nat_le 1 month) (nat_le month 12) parts.0 in
    let days = and_parts (nat_le 1 day) (nat_le day (days_in_month (pos year) month)) parts.1 in
    ((omega (arith, ints), omega (arith, ints)), (leb-true 1 month months.0, leb-true month 12 months.1), (leb-true 1 day days.0, leb-true day (days_in_month (pos year) month) days.1))

is_day-only : (year month day : ℕ) → IsCivilDate (pos year) month day → is_day year month day ≡ true
is_day-only year month day h =
    rw (le-leb 1 month h.1.0, le-leb month 12 h.1.1, le-leb 1 day h.2.0, le-leb day (days_in_month (pos year) month) h.2.1) refl

record FoundDate (text : List ℕ) (x : ℤ × List ℕ) : Type 0 where
  year : ℕ
  month : ℕ
  day : ℕ
  is_year : year ≤ 9999
  is_date : IsCivilDate (pos year) month day
  is_number : x.0 ≡ days_from_civil (pos year) month day
  is_text : text ≡ date_text year month day ++ x.1

date_found : (text : List ℕ) (x : ℤ × List ℕ) → date_at text ≡ Some x → FoundDate text x
unfolding date_at
date_found text x e =
    let (year, year_is, e1) = step-some (four_at text) x e in
    let (a, a_is, e2) = step-some (after_dash year.1) x e1 in
    let (month, month_is, e3) = step-some (two_at a) x e2 in
    let (b, b_is, e4) = step-some (after_dash month.1) x e3 in
    let (day, day_is, e5) = step-some (two_at b) x e4 in
    let (number, number_is, e6) = step-some (day_number year.0 month.0 day.0) x e5 in
    let made = same-some e6 in
    let t = test-some (is_day year.0 month.0 day.0) (days_from_civil (pos year.0) month.0 day.0) number number_is in
    let y = four_found text year year_is in
    let m = two_found a month month_is in
    let d = two_found b day day_is in
    let tail : day.1 ≡ x.1 = ap (λ (x : ℤ × List ℕ). x.1) made in
    let days : b ≡ two_digits day.0 ++ x.1 = d.1 ∙ ap (λ r. two_digits day.0 ++ r) tail in
    let months : a ≡ two_digits month.0 ++ (45 ∷ (two_digits day.0 ++ x.1)) = m.1 ∙ ap (λ r. two_digits month.0 ++ r) (dash_found month.1 b b_is ∙ ap (λ r. 45 ∷ r) days) in
    record {
      year = year.0;
      month = month.0;
      day = day.0;
      is_year = y.0;
      is_date = is_day-found year.0 month.0 day.0 y.0 t.0;
      is_number = sym (t.1 ∙ ap (λ (x : ℤ × List ℕ). x.0) made);
      is_text = y.1 ∙ ap (λ r. four_digits year.0 ++ r) (dash_found year.1 a a_is ∙ ap (λ r. 45 ∷ r) months);
    }

date_only : (year month day : ℕ) (rest : List ℕ) → year ≤ 9999 → IsCivilDate (pos year) month day → date_at (date_text year month day ++ rest) ≡ Some (days_from_civil (pos year) month day, rest)
unfolding date_at
date_only year month day rest h civil =
    let y = four_only year (45 ∷ (two_digits month ++ (45 ∷ (two_digits day ++ rest)))) h in
    let m = two_only month (45 ∷ (two_digits day ++ rest)) (omega (arith, civil.1)) in
    let d = two_only day rest (omega (arith, civil.2, days_in_month_bounds (pos year) month)) in
    let is = is_day-only year month day civil in
    rw y (rw m (rw d (rw is refl)))

-- times of day

clock_found : (text : List ℕ) (x : ℕ × List ℕ) → minutes_at text ≡ Some x → (hour minute : ℕ) × IsClock hour minute × (x.0 ≡ hour * 60 + minute) × (text ≡ clock_text hour minute ++ x.1)
unfolding minutes_at
clock_found text x e =
    let (hour, hour_is, e1) = step-some (two_at text) x e in
    let (a, a_is, e2) = step-some (after_colon hour.1) x e1 in
    let (minute, minute_is, e3) = step-some (two_at a) x e2 in
    let t = test-some (nat_lt hour.0 24 && nat_lt minute.0 60) (hour.0 * 60 + minute.0, minute.1) x e3 in
    let bounds = and_parts (nat_lt hour.0 24) (nat_lt minute.0 60) t.0 in
    let h = two_found text hour hour_is in
    let m = two_found a minute minute_is in
    let tail : minute.1 ≡ x.1 = ap (λ (x : ℕ × List ℕ). x.1) t.1 in
    let minutes : a ≡ two_digits minute.0 ++ x.1 = m.1 ∙ ap (λ r. two_digits minute.0 ++ r) tail in (
      hour.0,
      minute.0,
      (ltb-true hour.0 24 bounds.0, ltb-true minute.0 60 bounds.1),
      sym (ap (λ (x : ℕ × List ℕ). x.0) t.1),
      h.1 ∙ ap (λ r. two_digits hour.0 ++ r) (colon_found hour.1 a a_is ∙ ap (λ r. 58 ∷ r) minutes),
    )

clock_only : (hour minute : ℕ) (rest : List ℕ) → IsClock hour minute → minutes_at (clock_text hour minute ++ rest) ≡ Some (hour * 60 + minute, rest)
unfolding minutes_at
clock_only hour minute rest h =
    let first = two_only hour (58 ∷ (two_digits minute ++ rest)) (omega (arith, h)) in
    let second = two_only minute rest (omega (arith, h)) in
    let before : nat_lt hour 24 ≡ true = lt-ltb hour 24 h.0 in
    let within : nat_lt minute 60 ≡ true = lt-ltb minute 60 h.1 in
    rw first (rw second (rw (before, within) refl))

time_found : (text : List ℕ) (x : ℕ × List ℕ) → time_at text ≡ Some x → (hour minute second : ℕ) × IsClock hour minute × (second < 60) × (x.0 ≡ (hour * 60 + minute) * 60 + second) × (text ≡ time_text hour minute second ++ x.1)
unfolding time_at
time_found text x e =
    let (minutes, minutes_is, e1) = step-some (minutes_at text) x e in
    let (a, a_is, e2) = step-some (after_colon minutes.1) x e1 in
    let (second, second_is, e3) = step-some (two_at a) x e2 in
    let t = test-some (nat_lt second.0 60) (minutes.0 * 60 + second.0, second.1) x e3 in
    let (hour, minute, clock, count, clock_is) = clock_found text minutes minutes_is in
    let s = two_found a second second_is in
    let tail : second.1 ≡ x.1 = ap (λ (x : ℕ × List ℕ). x.1) t.1 in
    let seconds : a ≡ two_digits second.0 ++ x.1 = s.1 ∙ ap (λ r. two_digits second.0 ++ r) tail in (
      hour,
      minute,
      second.0,
      clock,
      ltb-true second.0 60 t.0,
      sym (ap (λ (x : ℕ × List ℕ). x.0) t.1) ∙ ap (λ n. n * 60 + second.0) count,
      clock_is ∙ ap (λ r. clock_text hour minute ++ r) (colon_found minutes.1 a a_is ∙ ap (λ r. 58 ∷ r) seconds),
    )

time_only : (hour minute second : ℕ) (rest : List ℕ) → IsClock hour minute → second < 60 → time_at (time_text hour minute second ++ rest) ≡ Some ((hour * 60 + minute) * 60 + second, rest)
unfolding time_at
time_only hour minute second rest clock h =
    let first = clock_only hour minute (58 ∷ (two_digits second ++ rest)) clock in
    let last = two_only second rest (omega arith) in
    let within : nat_lt second 60 ≡ true = lt-ltb second 60 h in
    rw first (rw last (rw within refl))

-- fractions of a second

fraction_found : (text rest : List ℕ) → after_fraction text ≡ Some rest → (f : List ℕ) × IsSecondFraction f × (text ≡ f ++ rest)
fraction_found [] rest e = let same : [] ≡ rest = cc in ([], no_second_fraction, same)
fraction_found (b ∷ bs) rest e =
    by_test (b == 46)
    (λ held.
    let t = test-some (nat_le 1 (length (digits_of bs)) && nat_le (length (digits_of bs)) 9) (after_digits bs) rest (rw held at e) in
    let bounds = and_parts (nat_le 1 (length (digits_of bs))) (nat_le (length (digits_of bs)) 9) t.0 in (
      46 ∷ digits_of bs,
      second_fraction (digits_of bs) (AreDigits-digits_of bs) (leb-true 1 (length (digits_of bs)) bounds.0) (leb-true (length (digits_of bs)) 9 bounds.1),
      ap (λ c. c ∷ bs) (eqb-true b 46 held) ∙ ap (λ r. 46 ∷ r) (digits_split bs ∙ ap (λ r. digits_of bs ++ r) t.1),
    ))
    (λ failed.
    let whole : ◌≡◌ {A = Option (List ℕ)} (Some (b ∷ bs)) (Some rest) = rw failed at e in
    let same : b ∷ bs ≡ rest = cc in
    ([], no_second_fraction, same))

-- the rest of a text after a fraction
Follows : List ℕ → Type 0
Follows [] = Unit {0}
Follows (b ∷ bs) = (is_ascii_digit b ≡ false) × ((b == 46) ≡ false)

follows_stops : (rest : List ℕ) → Follows rest → Stops rest
unfolding Follows Stops
follows_stops [] h = tt
follows_stops (b ∷ bs) h = h.0

fraction_only : (f rest : List ℕ) → IsSecondFraction f → Follows rest → after_fraction (f ++ rest) ≡ Some rest
unfolding Follows
fraction_only [] [] no_second_fraction follows = refl
fraction_only [] (b ∷ bs) no_second_fraction follows = rw follows.1 refl
fraction_only _ rest (second_fraction ds digits low high) follows =
    let h = digits_only ds rest digits (follows_stops rest follows) in
    let some : nat_le 1 (length ds) ≡ true = le-leb 1 (length ds) low in
    let few : nat_le (length ds) 9 ≡ true = le-leb (length ds) 9 high in
    rw (h.0, h.1, some, few) refl

-- offsets

clock_end : (text : List ℕ) (n : ℕ) → clock_in text ≡ Some n → (hour minute : ℕ) × IsClock hour minute × (n ≡ (hour * 60 + minute) * 60) × (text ≡ clock_text hour minute)
clock_end text n e =
    let (a, a_is, e1) = step-some (minutes_at text) n e in
    let t = test-some (is_empty a.1) (a.0 * 60) n e1 in
    let (hour, minute, clock, count, is) = clock_found text a a_is in
    (hour, minute, clock, sym t.1 ∙ ap (λ k. k * 60) count, is ∙ ap (λ r. clock_text hour minute ++ r) (is_empty-nil a.1 t.0))

zulu_found : (text : List ℕ) (z : ℤ) → zulu_in text ≡ Some z → (text ≡ []) × (pos 0 ≡ z)
zulu_found text z e = let t = test-some (is_empty text) (pos 0) z e in (is_empty-nil text t.0, t.1)

ahead_is : (b : ℕ) (bs : List ℕ) (z : ℤ) (n hour minute : ℕ) → b ≡ 43 → bs ≡ clock_text hour minute → pos n ≡ z → n ≡ (hour * 60 + minute) * 60 → IsClock hour minute → IsOffset z (b ∷ bs)
ahead_is b bs z n hour minute plus text_is made count clock =
    rw (plus, text_is, ← made, count) (ahead_of_utc hour minute clock)

behind_is : (b : ℕ) (bs : List ℕ) (z : ℤ) (n hour minute : ℕ) → b ≡ 45 → bs ≡ clock_text hour minute → neg_ℤ (pos n) ≡ z → n ≡ (hour * 60 + minute) * 60 → IsClock hour minute → IsOffset z (b ∷ bs)
behind_is b bs z n hour minute minus text_is made count clock =
    rw (minus, text_is, ← made, count) (behind_utc hour minute clock)

offset_found : (text : List ℕ) (z : ℤ) → offset_in text ≡ Some z → IsOffset z text
offset_found [] z e = let same : pos 0 ≡ z = cc in subst (λ z. IsOffset z []) same no_offset
offset_found (b ∷ bs) z e =
    by_test ((b == 90) || (b == 122))
    (λ held.
    let t = zulu_found bs z (rw held at e) in
    elim (or-true (b == 90) (b == 122) held) [
      | inl capital ↦ rw (eqb-true b 90 capital, t.0, ← t.1) capital_z
      | inr small ↦ rw (eqb-true b 122 small, t.0, ← t.1) small_z
    ])
    (λ failed.
    by_test (b == 43)
    (λ plus.
    let (n, is, made) = map-some pos (clock_in bs) z (rw (failed, plus) at e) in
    let (hour, minute, clock, count, text_is) = clock_end bs n is in
    ahead_is b bs z n hour minute (eqb-true b 43 plus) text_is made count clock)
    (λ not_plus.
    by_test (b == 45)
    (λ minus.
    let (n, is, made) = map-some (λ n. neg_ℤ (pos n)) (clock_in bs) z (rw (failed, not_plus, minus) at e) in
    let (hour, minute, clock, count, text_is) = clock_end bs n is in
    behind_is b bs z n hour minute (eqb-true b 45 minus) text_is made count clock)
    (λ not_minus. let none : ◌≡◌ {A = Option ℤ} None (Some z) = rw (failed, not_plus, not_minus) at e in cc)))

clock_whole : (hour minute : ℕ) → IsClock hour minute → clock_in (clock_text hour minute) ≡ Some ((hour * 60 + minute) * 60)
clock_whole hour minute clock =
    let is : minutes_at (clock_text hour minute) ≡ Some (hour * 60 + minute, []) = clock_only hour minute [] clock in
    rw is refl

offset_only : (z : ℤ) (text : List ℕ) → IsOffset z text → offset_in text ≡ Some z
offset_only _ _ no_offset = refl
offset_only _ _ capital_z = refl
offset_only _ _ small_z = refl
offset_only _ _ (ahead_of_utc hour minute clock) = ap (option_map pos) (clock_whole hour minute clock)
offset_only _ _ (behind_utc hour minute clock) = ap (option_map (λ n. neg_ℤ (pos n))) (clock_whole hour minute clock)

offset_follows : (z : ℤ) (text : List ℕ) → IsOffset z text → Follows text
unfolding Follows
offset_follows _ _ no_offset = tt
offset_follows _ _ capital_z = (refl, refl)
offset_follows _ _ small_z = (refl, refl)
offset_follows _ _ (ahead_of_utc hour minute clock) = (refl, refl)
offset_follows _ _ (behind_utc hour minute clock) = (refl, refl)

-- whole texts

pub seconds_found : (text : List ℕ) (z : ℤ) → seconds_of text ≡ Some z → SpellsInstant text z
unfolding seconds_of
seconds_found text z e =
    let (date, date_is, e1) = step-some (date_at text) z e in
    let (a, a_is, e2) = step-some (after_separator date.1) z e1 in
    let (time, time_is, e3) = step-some (time_at a) z e2 in
    let (b, b_is, e4) = step-some (after_fraction time.1) z e3 in
    let (offset, offset_is, e5) = step-some (offset_in b) z e4 in
    let made = same-some e5 in
    let d = date_found text date date_is in
    let (separator, separator_is, separated) = separator_found date.1 a a_is in
    let (hour, minute, second, clock, bound, count, timed) = time_found a time time_is in
    let (fraction, fraction_is, fractioned) = fraction_found time.1 b b_is in
    record {
      year = d.year;
      month = d.month;
      day = d.day;
      separator = separator;
      hour = hour;
      minute = minute;
      second = second;
      fraction = fraction;
      offset = offset;
      offset_text = b;
      is_text = d.is_text ∙ ap (λ r. date_text d.year d.month d.day ++ r) (separated ∙ ap (λ r. separator ∷ r) (timed ∙ ap (λ r. time_text hour minute second ++ r) fractioned));
      is_year = d.is_year;
      is_date = d.is_date;
      is_separator = separator_is;
      is_clock = clock;
      is_second = bound;
      is_fraction = fraction_is;
      is_offset = offset_found b offset offset_is;
      is_seconds = sym made ∙ (ap (λ n. total_seconds n time.0 offset) d.is_number ∙ ap (λ n. total_seconds (days_from_civil (pos d.year) d.month d.day) n offset) count);
    }

pub seconds_only : (text : List ℕ) (z : ℤ) → SpellsInstant text z → seconds_of text ≡ Some z
unfolding seconds_of
seconds_only text z s =
    let rest = s.fraction ++ s.offset_text in
    let date : date_at text ≡ Some (
      days_from_civil (pos s.year) s.month s.day,
      s.separator ∷
          (time_text s.hour s.minute s.second ++ rest),
    ) = ap date_at s.is_text
    ∙ date_only s.year s.month s.day (s.separator ∷
    (time_text s.hour s.minute s.second ++ rest)) s.is_year s.is_date in
    let separated = separator_only s.separator (time_text s.hour s.minute s.second ++ rest) s.is_separator in
    let timed = time_only s.hour s.minute s.second rest s.is_clock s.is_second in
    let fraction = fraction_only s.fraction s.offset_text s.is_fraction (offset_follows s.offset s.offset_text s.is_offset) in
    let offset = offset_only s.offset s.offset_text s.is_offset in
    rw date (rw separated (rw timed (rw fraction (rw offset (ap Some (sym s.is_seconds))))))
