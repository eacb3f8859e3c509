-- A line is read as a key exactly if it has a key's form.
use Rattle.std.proofs.Common.{◌≡◌, ◌≢◌, ℕ, ◌<◌, Bool, true, false, cond, ◌&&◌, eqb, nat_lt, List, ◌∷◌, ◌++◌, length, Option, Some, None, Result, Ok, Err, codes, refl, sym, ap, ◌∙◌, arith, append_assoc}
use Rattle.std.specs.Prelude.{All, not}
use Rattle.std.specs.List.{list_all}
use Rattle.std.specs.Option.{ok_or}
use Rattle.std.specs.Str.{bytes_eq, is_utf8}
use Rattle.std.proofs.lemmas.Bool.{and_parts, eqb-false, ltb-true}
use Rattle.std.proofs.lemmas.List.Elements.{All-weaker}
use Rattle.std.proofs.lemmas.List.Sums.{AllPass-from_list_all}
use Rattle.std.proofs.lemmas.Slice.Eq.{bytes_eq-Decides}
use Rattle.hex.specs.Hex.{decode_sized, is_hex_digit}
use Rattle.hex.specs.declared.error.FromHexError.{FromHexError}
use Rattle.hex.proofs.HexLemmas.{decode_sized-ok, decode_sized-twice, decode_of-ok}
use Rattle.site_keys.specs.declared.role.Role.{Role}
use Rattle.site_keys.specs.declared.role.Role.TheVariants.{Point, Operator}
use Rattle.site_keys.specs.declared.line_fault.KeyLineFault.{KeyLineFault}
use Rattle.site_keys.specs.declared.line_fault.KeyLineFault.TheVariants as faults
use Rattle.site_keys.specs.Bytes.{cut}
use Rattle.site_keys.specs.ResultSteps.{◌>>=◌}
use Rattle.site_keys.specs.Key.{KeyState}
use Rattle.site_keys.specs.KeyFile.{role_word, is_name_byte, is_name, IsKeyLine}
use Rattle.site_keys.specs.ByCases.KeyFile.{role_named, name_in, bytes_or, salt_in, digest_in, KeyWords, word_at, words_of, key_of_words, key_in}
use Rattle.site_keys.proofs.CutLemmas.{cut_some, cut_is, cut_there}

-- ---- words without spaces

abbrev is_no_space : ℕ → Bool
is_no_space b = not (eqb b 32)

not_true : (t : Bool) → not t ≡ true → t ≡ false
not_true true is = absurd (cc is)
not_true false is = refl

no_space_by_test : (word : List ℕ) → list_all is_no_space word ≡ true → All (λ b. b ≢ 32) word
no_space_by_test word is =
    All-weaker (λ b. is_no_space b ≡ true) (λ b. b ≢ 32) (λ b other. eqb-false b 32 (not_true (eqb b 32) other))
    word (AllPass-from_list_all is_no_space word is)

no_space_in_role : (role : Role) → All (λ b. b ≢ 32) (role_word role)
no_space_in_role Point = no_space_by_test (codes "point") refl
no_space_in_role Operator = no_space_by_test (codes "operator") refl

pub name_bytes : (name : List ℕ) → is_name name ≡ true → list_all is_name_byte name ≡ true
unfolding is_name
name_bytes name is = (and_parts (is_utf8 name && nat_lt 0 (length name)) (list_all is_name_byte name) is).1

above_space : (b : ℕ) → is_name_byte b ≡ true → b ≢ 32
above_space b is same =
    let above = and_parts (nat_lt 32 b) (not (eqb b 58)) (and_parts (nat_lt 32 b && not (eqb b 58)) (not (eqb b 127)) is).0 in
    let more : 32 < b = ltb-true 32 b above.0 in
    absurd (omega (arith, more, same))

no_space_in_name : (name : List ℕ) → is_name name ≡ true → All (λ b. b ≢ 32) name
no_space_in_name name is =
    All-weaker (λ b. is_name_byte b ≡ true) (λ b. b ≢ 32) above_space name
    (AllPass-from_list_all is_name_byte name (name_bytes name is))

no_digit : (b : ℕ) → is_hex_digit b ≡ true → b ≢ 32
no_digit b is same =
    let digit : is_hex_digit 32 ≡ true = ap is_hex_digit (sym same) ∙ is in
    absurd (cc digit)

no_space_in_digits : (digits bytes : List ℕ) (n : ℕ) → decode_sized digits n ≡ Ok bytes → All (λ b. b ≢ 32) digits
no_space_in_digits digits bytes n is =
    let len = decode_sized-ok digits n bytes is in
    All-weaker (λ b. is_hex_digit b ≡ true) (λ b. b ≢ 32) no_digit digits
    (decode_of-ok digits bytes (sym (decode_sized-twice digits n len) ∙ is)).1

-- ---- from the form to the key read

joined : (a b c d : List ℕ)
    → a ++ codes " " ++ b ++ codes " " ++ c ++ codes " " ++ d ≡ a ++ 32 ∷ (b ++ 32 ∷ (c ++ 32 ∷ d))
joined a b c d = simp append_assoc

word_read : (word rest : List ℕ) → All (λ b. b ≢ 32) word → word_at (word ++ 32 ∷ rest) ≡ Ok (word, rest)
word_read word rest free = rw (cut_there 32 word rest free) refl

role_read : (role : Role) → role_named (role_word role) ≡ Ok role
role_read Point = refl
role_read Operator = refl

pub line_read : (line : List ℕ) (key : KeyState) → IsKeyLine line key → key_in line ≡ Ok key
unfolding key_in
line_read line key is =
    let role = role_word key.role in
    let behind_user = is.salt_digits ++ 32 ∷ is.digest_digits in
    ap (λ (text : List ℕ). words_of text >>= key_of_words) (is.is ∙ joined role key.user is.salt_digits is.digest_digits)
    ∙ rw (word_read role (key.user ++ 32 ∷ behind_user) (no_space_in_role key.role))
    (rw (word_read key.user behind_user (no_space_in_name key.user is.user))
    (rw (word_read is.salt_digits is.digest_digits (no_space_in_digits is.salt_digits key.salt 16 is.salt))
    (rw (role_read key.role)
    (rw (is.user)
    (rw (is.salt) (rw (is.digest) refl))))))

-- ---- from the key read to the form

pub bind_ok : {A B E : Type 0} (r : Result A E) (f : A → Result B E) (y : B)
    → (r >>= f) ≡ Ok y → (x : A) × (r ≡ Ok x) × (f x ≡ Ok y)
bind_ok (Ok x) f y is = (x, refl, is)
bind_ok (Err fault) f y is = absurd (cc is)

word_is : (text word rest : List ℕ) → word_at text ≡ Ok (word, rest) → text ≡ word ++ 32 ∷ rest
word_is text word rest is = go (cut 32 text) refl is
  where
    go : (o : Option (List ℕ × List ℕ)) → cut 32 text ≡ o → ok_or o faults.Words ≡ Ok (word, rest)
        → text ≡ word ++ 32 ∷ rest
    go None cuts is = absurd (cc is)
    go (Some parts) cuts is =
        let same : parts ≡ (word, rest) = cc is in
        cut_is 32 text word rest (cut_some 32 text word rest (cuts ∙ ap Some same))

role_is : (word : List ℕ) (role : Role) → role_named word ≡ Ok role → word ≡ role_word role
role_is word role is = go (bytes_eq word (codes "point")) (bytes_eq word (codes "operator")) refl refl is
  where
    go : (point operator : Bool) → bytes_eq word (codes "point") ≡ point
        → bytes_eq word (codes "operator") ≡ operator
        → cond {A = Result Role KeyLineFault} point (Ok Point) (cond operator (Ok Operator) (Err faults.Role)) ≡ Ok role
        → word ≡ role_word role
    go true operator first second is =
        let one : Point ≡ role = cc is in
        (bytes_eq-Decides word (codes "point")).0 first ∙ ap role_word one
    go false true first second is =
        let one : Operator ≡ role = cc is in
        (bytes_eq-Decides word (codes "operator")).0 second ∙ ap role_word one
    go false false first second is = absurd (cc is)

name_is : (word name : List ℕ) → name_in word ≡ Ok name → (word ≡ name) × (is_name name ≡ true)
name_is word name is = go (is_name word) refl is
  where
    go : (t : Bool) → is_name word ≡ t → cond t (Ok word) (Err faults.Name) ≡ Ok name
        → (word ≡ name) × (is_name name ≡ true)
    go true can is =
        let same : word ≡ name = cc is in
        (same, ap is_name (sym same) ∙ can)
    go false can is = absurd (cc is)

bytes_are : (fault : KeyLineFault) (decoded : Result (List ℕ) FromHexError) (bytes : List ℕ)
    → bytes_or fault decoded ≡ Ok bytes → decoded ≡ Ok bytes
bytes_are fault (Ok found) bytes is =
    let same : found ≡ bytes = cc is in
    ap Ok same
bytes_are fault (Err error) bytes is = absurd (cc is)

-- the words of a line, one after another
record HasWords (line : List ℕ) (words : KeyWords) : Type 0 where
  is : line ≡ words.role ++ 32 ∷ (words.user ++ 32 ∷ (words.salt ++ 32 ∷ words.digest))

words_are : (line : List ℕ) (words : KeyWords) → words_of line ≡ Ok words → HasWords line words
words_are line words is =
    let role = bind_ok (word_at line) _ words is in
    let user = bind_ok (word_at role.0.1) _ words role.2 in
    let salt = bind_ok (word_at user.0.1) _ words user.2 in
    let found : KeyWords = record { role = role.0.0; user = user.0.0; salt = salt.0.0; digest = salt.0.1 } in
    let same : found ≡ words = cc (salt.2) in
    rw (← same) (record {
      is = word_is line role.0.0 role.0.1 role.1
          ∙ ap (λ (rest : List ℕ). role.0.0 ++ 32 ∷ rest) (word_is role.0.1 user.0.0 user.0.1 user.1
          ∙ ap (λ (rest : List ℕ). user.0.0 ++ 32 ∷ rest) (word_is user.0.1 salt.0.0 salt.0.1 salt.1));
    })

made_of_words : (line : List ℕ) (words : KeyWords) (key : KeyState) → HasWords line words
    → key_of_words words ≡ Ok key → IsKeyLine line key
made_of_words line words key has is =
    let role = bind_ok (role_named words.role) _ key is in
    let user = bind_ok (name_in words.user) _ key role.2 in
    let salt = bind_ok (salt_in words.salt) _ key user.2 in
    let digest = bind_ok (digest_in words.digest) _ key salt.2 in
    let found : KeyState = record { role = role.0; user = user.0; salt = salt.0; digest = digest.0 } in
    let same : found ≡ key = cc (digest.2) in
    let name = name_is words.user user.0 user.1 in
    rw (← same) (record {
      salt_digits = words.salt;
      digest_digits = words.digest;
      is = has.is
          ∙ ap (λ (word : List ℕ). word ++ 32 ∷ (words.user ++ 32 ∷ (words.salt ++ 32 ∷ words.digest))) (role_is words.role role.0 role.1)
          ∙ ap (λ (word : List ℕ). role_word role.0 ++ 32 ∷ (word ++ 32 ∷ (words.salt ++ 32 ∷ words.digest))) name.0
          ∙ sym (joined (role_word role.0) user.0 words.salt words.digest);
      user = name.1;
      salt = bytes_are faults.Salt (decode_sized words.salt 16) salt.0 salt.1;
      digest = bytes_are faults.Digest (decode_sized words.digest 32) digest.0 digest.1;
    })

pub line_made : (line : List ℕ) (key : KeyState) → key_in line ≡ Ok key → IsKeyLine line key
unfolding key_in
line_made line key is =
    let words = bind_ok (words_of line) key_of_words key is in
    made_of_words line words.0 key (words_are line words.0 words.1) words.2
