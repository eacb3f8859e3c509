-- A written key is read, and opens.
use Rattle.std.proofs.Common.{◌≡◌, ◌≢◌, ℕ, zero, suc, ◌-◌, ◌<◌, Bool, true, false, ◌&&◌, not, eqb, nat_lt, List, [], ◌∷◌, ◌++◌, length, get_or, Some, Result, Ok, Err, codes, refl, sym, ap, ◌∙◌, arith, append_assoc, inl, inr}
use Rattle.std.specs.Prelude.{All}
use Rattle.std.specs.Int.{w32, to_be_bytes}
use Rattle.std.specs.List.{list_all, slice_split}
use Rattle.std.specs.Result.{result_unwrap_or}
use Rattle.std.specs.Str.{is_utf8}
use Rattle.std.proofs.lemmas.Bool.{and_parts, ltb-true, eqb-false}
use Rattle.std.proofs.lemmas.List.Elements.{All-append, All-weaker, All-get_or}
use Rattle.std.proofs.lemmas.List.Splits.{slice_split_none}
use Rattle.std.proofs.lemmas.List.Sums.{AllPass-from_list_all}
use Rattle.hex.specs.Hex.{IsBytes, encode_lower, decode_sized, is_hex_digit}
use Rattle.hex.specs.declared.error.FromHexError.{FromHexError}
use Rattle.hex.proofs.HexLemmas.{decode_of-encode_lower, decode_of-ok, decode_sized-encode_lower, decode_sized-ok}
use Rattle.sha2.specs.Sha256.{sha256, digest_bytes, final_hash, initial_hash_256}
use Rattle.sha2.proofs.Facts256.{length-sha256}
use Rattle.site_keys.specs.declared.role.Role.{Role}
use Rattle.site_keys.specs.declared.role.Role.TheVariants.{Point, Operator}
use Rattle.site_keys.specs.Bytes.{is_byte, without_return}
use Rattle.site_keys.specs.Key.{key_bytes, HasRightKey}
use Rattle.site_keys.specs.KeyFile.{role_word, is_name, is_name_byte, IsKeyLine, is_left_out, AreKeysOf}
use Rattle.site_keys.specs.Credentials.{IsBasic, base64_text}
use Rattle.site_keys.specs.Admission.{IsAdmitted, IsOwn}
use Rattle.site_keys.specs.NewKey.{new_key, key_line, CanBeWritten, SendsKey, CanBeSent, basic_header}
use Rattle.site_keys.proofs.CutLemmas.{other_byte}
use Rattle.site_keys.proofs.LineLemmas.{name_bytes}

-- ---- digests are bytes

bytes_both : (xs ys : List ℕ) → IsBytes xs → IsBytes ys → IsBytes (xs ++ ys)
bytes_both [] ys first second i = second i
bytes_both (x ∷ xs) ys first second zero = first 0
bytes_both (x ∷ xs) ys first second (suc i) = bytes_both xs ys (λ k. first (suc k)) second i

bytes_of_word : (n : ℕ) → IsBytes (to_be_bytes w32 n)
bytes_of_word n zero = omega arith
bytes_of_word n (suc zero) = omega arith
bytes_of_word n (suc (suc zero)) = omega arith
bytes_of_word n (suc (suc (suc zero))) = omega arith
bytes_of_word n (suc (suc (suc (suc i)))) = omega arith

bytes_of_digest : (hash : List ℕ) (n : ℕ) → IsBytes (digest_bytes hash n)
unfolding digest_bytes
bytes_of_digest hash zero i = omega arith
bytes_of_digest hash (suc n) i =
    bytes_both (digest_bytes hash n) (to_be_bytes w32 (get_or hash n 0)) (bytes_of_digest hash n) (bytes_of_word (get_or hash n 0)) i

sha256_bytes : (message : List ℕ) → IsBytes (sha256 message)
unfolding sha256
sha256_bytes message = bytes_of_digest (final_hash initial_hash_256 message) 8

-- ---- one line

-- no byte below the space: neither a line feed nor a carriage return
record IsOnOneLine (text : List ℕ) : Type 0 where
  each : All (λ b. 31 < b) text

one_line_both : {xs ys : List ℕ} → IsOnOneLine xs → IsOnOneLine ys → IsOnOneLine (xs ++ ys)
one_line_both {xs} {ys} first second =
    record { each = All-append (λ b. 31 < b) xs ys first.each second.each }

one_line_by_test : (text : List ℕ) → list_all (λ b. nat_lt 31 b) text ≡ true → IsOnOneLine text
one_line_by_test text is = record {
  each = All-weaker (λ b. nat_lt 31 b ≡ true) (λ b. 31 < b) (λ b above. ltb-true 31 b above) text
      (AllPass-from_list_all (λ b. nat_lt 31 b) text is);
}

role_on_one_line : (role : Role) → IsOnOneLine (role_word role)
role_on_one_line Point = one_line_by_test (codes "point") refl
role_on_one_line Operator = one_line_by_test (codes "operator") refl

space_on_one_line : IsOnOneLine (codes " ")
space_on_one_line = one_line_by_test (codes " ") refl

name_byte_above : (b : ℕ) → is_name_byte b ≡ true → 31 < b
name_byte_above b is =
    let above = and_parts (nat_lt 32 b) (not (eqb b 58)) (and_parts (nat_lt 32 b && not (eqb b 58)) (not (eqb b 127)) is).0 in
    let more : 32 < b = ltb-true 32 b above.0 in
    omega (arith, more)

name_on_one_line : (name : List ℕ) → is_name name ≡ true → IsOnOneLine name
name_on_one_line name is = record {
  each = All-weaker (λ b. is_name_byte b ≡ true) (λ b. 31 < b) name_byte_above name
      (AllPass-from_list_all is_name_byte name (name_bytes name is));
}

digit_above : (b : ℕ) → is_hex_digit b ≡ true → 31 < b
digit_above b is = grind (arith)

digits_on_one_line : (bytes : List ℕ) → IsBytes bytes → IsOnOneLine (encode_lower bytes)
digits_on_one_line bytes are = record {
  each = All-weaker (λ b. is_hex_digit b ≡ true) (λ b. 31 < b) digit_above (encode_lower bytes)
      (decode_of-ok (encode_lower bytes) bytes (decode_of-encode_lower bytes are)).1;
}

line_on_one_line : (role : Role) (name salt key : List ℕ) → CanBeWritten name salt key
    → IsOnOneLine (key_line (new_key role name salt key))
line_on_one_line role name salt key can =
    one_line_both (one_line_both (one_line_both (one_line_both (one_line_both (one_line_both
    (role_on_one_line role) space_on_one_line) (name_on_one_line name can.is_user)) space_on_one_line)
    (digits_on_one_line salt can.salt_bytes)) space_on_one_line)
    (digits_on_one_line (sha256 (salt ++ key)) (sha256_bytes (salt ++ key)))

one_part : (text : List ℕ) → IsOnOneLine text → slice_split (is_byte 10) text ≡ text ∷ []
one_part text on =
    slice_split_none (is_byte 10) text
    (All-weaker (λ b. 31 < b) (λ b. is_byte 10 b ≡ false)
    (λ b above. other_byte 10 b (λ same. absurd (omega (arith, above, same)))) text on.each)

no_return : (text : List ℕ) → IsOnOneLine text → without_return text ≡ text
no_return [] on = refl
no_return (b ∷ text) on =
    let last = length (b ∷ text) - 1 in
    let above = All-get_or (λ b. 31 < b) (b ∷ text) last 0 (omega arith) on.each in
    rw (other_byte 13 (get_or (b ∷ text) last 0) (λ same. absurd (omega (arith, above, same)))) refl

-- ---- the line is the key's

looks : (role : Role) (name salt key : List ℕ) → CanBeWritten name salt key
    → IsKeyLine (key_line (new_key role name salt key)) (new_key role name salt key)
looks role name salt key can = record {
  salt_digits = encode_lower salt;
  digest_digits = encode_lower (sha256 (salt ++ key));
  is = refl;
  user = can.is_user;
  salt = decode_sized-encode_lower salt 16 can.has_salt_size can.salt_bytes;
  digest = decode_sized-encode_lower (sha256 (salt ++ key)) 32 (length-sha256 (salt ++ key)) (sha256_bytes (salt ++ key));
}

begins_with_letter : (role : Role) (rest : List ℕ) → is_left_out (role_word role ++ rest) ≡ false
begins_with_letter Point rest = refl
begins_with_letter Operator rest = refl

behind_role : (a b c d : List ℕ)
    → a ++ codes " " ++ b ++ codes " " ++ c ++ codes " " ++ d ≡ a ++ (codes " " ++ b ++ codes " " ++ c ++ codes " " ++ d)
behind_role a b c d = simp append_assoc

kept : (role : Role) (name salt key : List ℕ) → is_left_out (key_line (new_key role name salt key)) ≡ false
kept role name salt key =
    let digest = encode_lower (sha256 (salt ++ key)) in
    ap is_left_out (behind_role (role_word role) name (encode_lower salt) digest)
    ∙ begins_with_letter role (codes " " ++ name ++ codes " " ++ encode_lower salt ++ codes " " ++ digest)

pub written_read : (role : Role) (name salt key : List ℕ) → CanBeWritten name salt key
    → AreKeysOf (key_line (new_key role name salt key)) (new_key role name salt key ∷ [])
written_read role name salt key can =
    let on = line_on_one_line role name salt key can in
    let line = key_line (new_key role name salt key) in
    rw (one_part line on, no_return line on, kept role name salt key) (looks role name salt key can, tt)

-- ---- the key opens

digits_worth : (key : List ℕ) → length key ≡ 20 → IsBytes key → key_bytes (encode_lower key) ≡ key
unfolding key_bytes
digits_worth key size are = rw (decode_sized-encode_lower key 20 size are) refl

raw_worth : (key : List ℕ) → length key ≡ 20 → key_bytes key ≡ key
unfolding key_bytes
raw_worth key size = go (decode_sized key 20) refl
  where
    go : (decoded : Result (List ℕ) FromHexError) → decode_sized key 20 ≡ decoded
        → result_unwrap_or decoded key ≡ key
    go (Ok bytes) is =
        let twice = decode_sized-ok key 20 bytes is in
        absurd (omega (arith, twice, size))
    go (Err error) is = refl

its_key : (role : Role) (name salt key password : List ℕ) → key_bytes password ≡ key
    → HasRightKey (new_key role name salt key ∷ []) role name password
its_key role name salt key password worth = (
  0,
  new_key role name salt key,
  omega arith,
  refl,
  record {
    same_role = refl;
    same_user = refl;
    same_digest = ap (λ (bytes : List ℕ). sha256 (salt ++ bytes)) (sym worth);
  },
)

own_name : (role : Role) (name : List ℕ) → IsOwn role name name
own_name Point name = refl
own_name Operator name = tt

comes : (role : Role) (name salt key header password : List ℕ) → key_bytes password ≡ key
    → IsBasic header name password → IsAdmitted (new_key role name salt key ∷ []) role name (Some header) name
comes role name salt key header password worth sent = record {
  right = record { password = password; sent = sent; opens = its_key role name salt key password worth };
  own = own_name role name;
}

pub written_opens : (role : Role) (name salt key header : List ℕ) → CanBeWritten name salt key
    → SendsKey header name key → IsAdmitted (new_key role name salt key ∷ []) role name (Some header) name
written_opens role name salt key header can sends = elim sends [
  | inl digits ↦ comes role name salt key header (encode_lower key) (digits_worth key can.has_key_size can.key_bytes) digits
  | inr raw ↦ comes role name salt key header key (raw_worth key can.has_key_size) raw
]

-- ---- the header

no_colon : (name : List ℕ) → is_name name ≡ true → All (λ b. b ≢ 58) name
no_colon name is =
    All-weaker (λ b. is_name_byte b ≡ true) (λ b. b ≢ 58) other_than_colon name
    (AllPass-from_list_all is_name_byte name (name_bytes name is))
  where
    not_true : (t : Bool) → not t ≡ true → t ≡ false
    not_true true is = absurd (cc is)
    not_true false is = refl

    other_than_colon : (b : ℕ) → is_name_byte b ≡ true → b ≢ 58
    other_than_colon b can =
        let tests = and_parts (nat_lt 32 b) (not (eqb b 58)) (and_parts (nat_lt 32 b && not (eqb b 58)) (not (eqb b 127)) can).0 in
        eqb-false b 58 (not_true (eqb b 58) tests.1)

text_of_name : (name : List ℕ) → is_name name ≡ true → is_utf8 name ≡ true
unfolding is_name
text_of_name name is =
    (and_parts (is_utf8 name) (nat_lt 0 (length name)) (and_parts (is_utf8 name && nat_lt 0 (length name)) (list_all is_name_byte name) is).0).0

colon_byte : IsBytes (codes ":")
colon_byte zero = omega arith
colon_byte (suc i) = omega arith

pub header_sends : (name password : List ℕ) → CanBeSent name password
    → IsBasic (basic_header name password) name password
header_sends name password can =
    let bytes = name ++ codes ":" ++ password in
    record {
      bytes = bytes;
      sent = record {
        scheme = codes "Basic";
        any_case = refl;
        more_spaces = 0;
        token = base64_text bytes;
        is = refl;
        of_bytes = record {
          is = refl;
          are_bytes = bytes_both (name ++ codes ":") password (bytes_both name (codes ":") can.name_bytes colon_byte) can.password_bytes;
        };
      };
      credentials = record { is = refl; text = text_of_name name can.is_user; no_colon = no_colon name can.is_user };
    }
