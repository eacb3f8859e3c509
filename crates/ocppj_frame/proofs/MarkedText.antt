-- The marked text of a text in UTF-8 is UTF-8.
use Rattle.std.proofs.Common.{◌≡◌, ℕ, zero, suc, ◌<◌, ◌≤◌, List, [], ◌∷◌, ◌++◌, length, get_or, Bool, true, false, cond, refl, sym, ap, ◌∙◌, subst, ⊎_elim, arith}
use Rattle.std.proofs.lemmas.List.{append-nil}
use Rattle.std.proofs.lemmas.Bool.{cases_lt, and_parts}
use Rattle.std.proofs.lemmas.Bool.Decides.{nat_tests}
use Rattle.std.proofs.lemmas.Str.{IsUtf8-append, IsUtf8-encode, IsUtf8-from_ascii, IsUtf8-nil, encode_ascii, inside_one, length-encode, len_utf8_bounds}
use Rattle.std.proofs.Math.Utf8.{encode, encodes, scalars}
use Rattle.std.specs.Str.{IsUtf8, IsAscii}
use Rattle.ocppj_frame.specs.ByCases.Mark.{Place, outside, inside, escaped, in_number, place_after, marked_outside, marked_byte, marked_end, marked_from, marked_text}

-- each byte is 128 or above
abbrev IsHigh : List ℕ → Type 0
IsHigh bs = (k : ℕ) → k < length bs → 128 ≤ get_or bs k 0

high_head : (b : ℕ) (bs : List ℕ) → IsHigh (b ∷ bs) → 128 ≤ b
high_head b bs h = h 0 (omega arith)

high_tail : (b : ℕ) (bs : List ℕ) → IsHigh (b ∷ bs) → IsHigh bs
high_tail b bs h k l = h (suc k) (omega arith)

-- such a byte is copied at each place
outside_high : (b : ℕ) (bs : List ℕ) → 128 ≤ b → marked_from outside (b ∷ bs) ≡ b ∷ marked_from outside bs
outside_high b bs h = grind (arith, nat_tests)

inside_high : (b : ℕ) (bs : List ℕ) → 128 ≤ b → marked_from inside (b ∷ bs) ≡ b ∷ marked_from inside bs
inside_high b bs h = grind (arith, nat_tests)

number_high : (b : ℕ) (bs : List ℕ) → 128 ≤ b → marked_from in_number (b ∷ bs) ≡ 34 ∷ b ∷ marked_from outside bs
number_high b bs h = grind (arith, nat_tests)

outside_copied : (bs rest : List ℕ) → IsHigh bs → marked_from outside (bs ++ rest) ≡ bs ++ marked_from outside rest
outside_copied [] rest h = refl
outside_copied (b ∷ bs) rest h = outside_high b (bs ++ rest) (high_head b bs h) ∙ ap (λ (t : List ℕ). b ∷ t) (outside_copied bs rest (high_tail b bs h))

inside_copied : (bs rest : List ℕ) → IsHigh bs → marked_from inside (bs ++ rest) ≡ bs ++ marked_from inside rest
inside_copied [] rest h = refl
inside_copied (b ∷ bs) rest h = inside_high b (bs ++ rest) (high_head b bs h) ∙ ap (λ (t : List ℕ). b ∷ t) (inside_copied bs rest (high_tail b bs h))

escaped_copied : (bs rest : List ℕ) → 0 < length bs → IsHigh bs → marked_from escaped (bs ++ rest) ≡ bs ++ marked_from inside rest
escaped_copied [] rest l h = absurd (omega arith)
escaped_copied (b ∷ bs) rest l h = ap (λ (t : List ℕ). b ∷ t) (inside_copied bs rest (high_tail b bs h))

number_copied : (bs rest : List ℕ) → 0 < length bs → IsHigh bs → marked_from in_number (bs ++ rest) ≡ 34 ∷ (bs ++ marked_from outside rest)
number_copied [] rest l h = absurd (omega arith)
number_copied (b ∷ bs) rest l h = number_high b (bs ++ rest) (high_head b bs h) ∙ ap (λ (t : List ℕ). 34 ∷ b ∷ t) (outside_copied bs rest (high_tail b bs h))

-- the bytes of a character from 128 on
high_encode : (c : ℕ) → 128 ≤ c → IsHigh (encode c)
high_encode c h k l = ⊎_elim (λ low. absurd (omega (arith, inside_one c [] (encode c) k (sym (append-nil _)) l low))) (λ high. high) (cases_lt (get_or (encode c) k 0) 128)

some_encode : (c : ℕ) → 0 < length (encode c)
some_encode c = omega (arith, length-encode c, len_utf8_bounds c)

-- an ASCII byte is marked in ASCII
ascii_one : (b : ℕ) → b < 128 → IsAscii (b ∷ [])
ascii_one b h zero = h
ascii_one b h (suc k) = omega arith

utf8_one : (b : ℕ) → b < 128 → IsUtf8 (b ∷ [])
utf8_one b h = IsUtf8-from_ascii (b ∷ []) (ascii_one b h)

utf8_two : (a : ℕ) (bs : List ℕ) → a < 128 → IsUtf8 bs → IsUtf8 (a ∷ bs)
utf8_two a bs h u = IsUtf8-append (a ∷ []) bs (utf8_one a h) u

utf8_either : (test : Bool) (xs ys : List ℕ) → IsUtf8 xs → IsUtf8 ys → IsUtf8 (cond test xs ys)
utf8_either true xs ys a b = a
utf8_either false xs ys a b = b

outside_ascii : (b : ℕ) → b < 128 → IsUtf8 (marked_outside b)
outside_ascii b h = utf8_either _ _ _
    (utf8_two 34 (115 ∷ []) (omega arith) (utf8_one 115 (omega arith)))
    (utf8_either _ _ _ (utf8_two 34 (110 ∷ b ∷ []) (omega arith) (utf8_two 110 (b ∷ []) (omega arith) (utf8_one b h))) (utf8_one b h))

marked_ascii : (place : Place) (b : ℕ) → b < 128 → IsUtf8 (marked_byte place b)
marked_ascii outside b h = outside_ascii b h
marked_ascii inside b h = utf8_one b h
marked_ascii escaped b h = utf8_one b h
marked_ascii in_number b h = utf8_either _ _ _ (utf8_one b h) (utf8_two 34 (marked_outside b) (omega arith) (outside_ascii b h))

end_utf8 : (place : Place) → IsUtf8 (marked_end place)
end_utf8 outside = IsUtf8-nil
end_utf8 inside = IsUtf8-nil
end_utf8 escaped = IsUtf8-nil
end_utf8 in_number = utf8_one 34 (omega arith)

-- a marked text after a character from 128 on
utf8_past : (place : Place) (bs rest : List ℕ) → 0 < length bs → IsHigh bs → IsUtf8 bs → ((p : Place) → IsUtf8 (marked_from p rest)) → IsUtf8 (marked_from place (bs ++ rest))
utf8_past outside bs rest l h u more = subst IsUtf8 (sym (outside_copied bs rest h)) (IsUtf8-append bs _ u (more outside))
utf8_past inside bs rest l h u more = subst IsUtf8 (sym (inside_copied bs rest h)) (IsUtf8-append bs _ u (more inside))
utf8_past escaped bs rest l h u more = subst IsUtf8 (sym (escaped_copied bs rest l h)) (IsUtf8-append bs _ u (more inside))
utf8_past in_number bs rest l h u more = subst IsUtf8 (sym (number_copied bs rest l h)) (utf8_two 34 _ (omega arith) (IsUtf8-append bs _ u (more outside)))

utf8_from : (place : Place) (cs : List ℕ) → scalars cs ≡ true → IsUtf8 (marked_from place (encodes cs))
utf8_from place [] h = end_utf8 place
utf8_from place (c ∷ cs) h = ⊎_elim
    (λ low. subst (λ (t : List ℕ). IsUtf8 (marked_from place (t ++ encodes cs))) (sym (encode_ascii c low))
    (IsUtf8-append (marked_byte place c) _ (marked_ascii place c low) (utf8_from (place_after place c) cs (and_parts _ _ h).1)))
    (λ high. utf8_past place (encode c) (encodes cs) (some_encode c) (high_encode c high) (IsUtf8-encode c (and_parts _ _ h).0) (λ p. utf8_from p cs (and_parts _ _ h).1))
    (cases_lt c 128)

pub IsUtf8-marked_text : (bs : List ℕ) → IsUtf8 bs → IsUtf8 (marked_text bs)
IsUtf8-marked_text bs u = subst (λ (t : List ℕ). IsUtf8 (marked_text t)) u.1.1 (utf8_from outside u.0 u.1.0)
