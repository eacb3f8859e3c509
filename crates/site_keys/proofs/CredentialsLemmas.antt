-- The bytes that a header has sent.
use Rattle.std.proofs.Common.{◌≡◌, ◌≢◌, ℕ, zero, suc, ◌+◌, ◌/◌, ◌<◌, Bool, true, false, cond, eqb, List, [], ◌∷◌, ◌++◌, get_or, drop, replicate, Option, Some, None, Ok, codes, refl, sym, ap, ◌∙◌, arith, append_assoc}
use Rattle.std.specs.Prelude.{map, not, All, ◌↔◌, Err}
use Rattle.std.specs.Char.{to_ascii_lowercase}
use Rattle.std.specs.List.{prefix_len, list_all}
use Rattle.std.specs.Str.{bytes_eq, is_utf8}
use Rattle.std.proofs.lemmas.Bool.{eqb-true, eqb-false}
use Rattle.std.proofs.lemmas.List.Elements.{All-nil, All-cons, All-head, All-tail}
use Rattle.std.proofs.lemmas.List.Recursion.{and_at}
use Rattle.std.proofs.lemmas.Slice.Eq.{bytes_eq-Decides}
use Rattle.base64.specs.declared.decode.DecodeError.{DecodeError}
use Rattle.base64.specs.Engines.{standard}
use Rattle.base64.specs.GeneralPurpose.{IsBytes, decode_of, encode_of}
use Rattle.base64.specs.Rfc4648.{encode_symbols}
use Rattle.base64.proofs.EngineFacts.{decode_of-encode_of}
use Rattle.site_keys.specs.OptionSteps.{◌>>=◌}
use Rattle.site_keys.specs.Bytes.{is_byte, cut, text_in, without_spaces}
use Rattle.site_keys.specs.Credentials.{base64_text, IsBase64, HasSent, AreCredentials}
use Rattle.site_keys.specs.ByCases.Credentials.{CredentialsState, token_in, credentials_of}
use Rattle.site_keys.proofs.CutLemmas.{cut_some, cut_is, before_cut, cut_there}

-- ---- spaces

-- a text that doesn't begin with a space
record HasNoSpaceAhead (text : List ℕ) : Type 0 where
  none : prefix_len (is_byte 32) text ≡ 0

abbrev symbols : List ℕ
symbols = standard.encode_table

abbrev is_symbol : ℕ → Bool
is_symbol b = not (eqb b 32)

symbol : (k : ℕ) → k < 64 → eqb (get_or symbols k 0) 32 ≡ false
symbol k within =
    let all : list_all is_symbol symbols ≡ true = refl in
    let one = and_at (list_all is_symbol) is_symbol refl (λ x xs. refl) symbols k 0 within all in
    go (eqb (get_or symbols k 0) 32) one
  where
    go : (t : Bool) → not t ≡ true → t ≡ false
    go true is = absurd (cc is)
    go false is = refl

no_space_ahead : (bytes : List ℕ) → IsBytes bytes → HasNoSpaceAhead (base64_text bytes)
unfolding base64_text encode_symbols
no_space_ahead [] are = record { none = refl }
no_space_ahead (a ∷ []) are =
    let below : a < 256 = are 0 in
    record { none = rw (symbol (a / 4) (omega (arith, below))) refl }
no_space_ahead (a ∷ b ∷ []) are =
    let below : a < 256 = are 0 in
    record { none = rw (symbol (a / 4) (omega (arith, below))) refl }
no_space_ahead (a ∷ b ∷ c ∷ rest) are =
    let below : a < 256 = are 0 in
    record { none = rw (symbol (a / 4) (omega (arith, below))) refl }

one_more : (n : ℕ) → 1 + n ≡ suc n
one_more n = omega arith

spaces_ahead : (n : ℕ) (text : List ℕ) → HasNoSpaceAhead text
    → prefix_len (is_byte 32) (replicate n 32 ++ text) ≡ n
spaces_ahead zero text ahead = ahead.none
spaces_ahead (suc n) text ahead = ap (λ (k : ℕ). 1 + k) (spaces_ahead n text ahead) ∙ one_more n

past_spaces : (n : ℕ) (text : List ℕ) → drop n (replicate n 32 ++ text) ≡ text
past_spaces zero text = refl
past_spaces (suc n) text = past_spaces n text

without : (n : ℕ) (text : List ℕ) → HasNoSpaceAhead text → without_spaces (replicate n 32 ++ text) ≡ text
without n text ahead = rw (spaces_ahead n text ahead) (past_spaces n text)

-- a text is its leading spaces and the rest
spaces_first : (text : List ℕ)
    → text ≡ replicate (prefix_len (is_byte 32) text) 32 ++ without_spaces text
spaces_first [] = refl
spaces_first (b ∷ text) = go (spaces_first text) (eqb b 32) refl
  where
    go : text ≡ replicate (prefix_len (is_byte 32) text) 32 ++ without_spaces text → (t : Bool) → eqb b 32 ≡ t
        → b ∷ text ≡ replicate (prefix_len (is_byte 32) (b ∷ text)) 32 ++ without_spaces (b ∷ text)
    go later true is =
        let n = prefix_len (is_byte 32) text in
        rw (is, one_more n) (ap (λ (first : ℕ). first ∷ text) (eqb-true b 32 is)
        ∙ ap (λ (rest : List ℕ). 32 ∷ rest) later)
    go later false is = rw is refl

-- ---- the scheme

-- no letter of the scheme is a space
no_space_in : (scheme : List ℕ) → All (λ b. b ≢ 32) (map to_ascii_lowercase scheme)
    → All (λ b. b ≢ 32) scheme
no_space_in [] none = All-nil (λ b. b ≢ 32)
no_space_in (b ∷ scheme) none =
    All-cons (λ b. b ≢ 32) b scheme
    (λ same. All-head (λ b. b ≢ 32) (to_ascii_lowercase b) (map to_ascii_lowercase scheme) none (ap to_ascii_lowercase same))
    (no_space_in scheme (All-tail (λ b. b ≢ 32) (to_ascii_lowercase b) (map to_ascii_lowercase scheme) none))

no_space_in_basic : All (λ b. b ≢ 32) (codes "basic")
no_space_in_basic =
    let p : ℕ → Type 0 = λ b. b ≢ 32 in
    All-cons p 98 (codes "asic") (eqb-false 98 32 refl)
    (All-cons p 97 (codes "sic") (eqb-false 97 32 refl)
    (All-cons p 115 (codes "ic") (eqb-false 115 32 refl)
    (All-cons p 105 (codes "c") (eqb-false 105 32 refl)
    (All-cons p 99 [] (eqb-false 99 32 refl) (All-nil p)))))

no_space_in_scheme : (scheme : List ℕ) → map to_ascii_lowercase scheme ≡ codes "basic"
    → All (λ b. b ≢ 32) scheme
no_space_in_scheme scheme is = no_space_in scheme (rw is no_space_in_basic)

-- ---- the token

abbrev is_basic : List ℕ → Bool
is_basic scheme = bytes_eq (map to_ascii_lowercase scheme) (codes "basic")

abbrev token_of : List ℕ × List ℕ → Option (List ℕ)
token_of parts = cond (is_basic parts.0) (Some (without_spaces parts.1)) None

-- the token of a header that has sent bytes
sent_token : (header bytes : List ℕ) (sent : HasSent header bytes) → token_in header ≡ Some sent.token
sent_token header bytes sent =
    let behind = replicate sent.more_spaces 32 ++ sent.token in
    let ahead : HasNoSpaceAhead sent.token = rw sent.of_bytes.is (no_space_ahead bytes sent.of_bytes.are_bytes) in
    let free = no_space_in_scheme sent.scheme sent.any_case in
    let basic : is_basic sent.scheme ≡ true =
    (bytes_eq-Decides (map to_ascii_lowercase sent.scheme) (codes "basic")).1 sent.any_case in
    ap token_in (sent.is ∙ append_assoc sent.scheme (codes " ") behind)
    ∙ rw (cut_there 32 sent.scheme behind free) (rw basic (ap Some (without sent.more_spaces sent.token ahead)))

-- a header with a token has sent the bytes that the token encodes
token_sent : (header token bytes : List ℕ) → token_in header ≡ Some token → IsBase64 token bytes
    → HasSent header bytes
token_sent header token bytes is of_bytes = go (cut 32 header) refl is
  where
    made : (scheme rest : List ℕ) → cut 32 header ≡ Some (scheme, rest) → (t : Bool) → is_basic scheme ≡ t
        → cond t (Some (without_spaces rest)) None ≡ Some token → HasSent header bytes
    made scheme rest cuts true basic same =
        let token_is : without_spaces rest ≡ token = cc same in
        record {
          scheme = scheme;
          any_case = (bytes_eq-Decides (map to_ascii_lowercase scheme) (codes "basic")).0 basic;
          more_spaces = prefix_len (is_byte 32) rest;
          token = token;
          is =
              cut_is 32 header scheme rest (cut_some 32 header scheme rest cuts)
              ∙ ap (λ (behind : List ℕ). scheme ++ 32 ∷ behind) (spaces_first rest
              ∙ ap (λ (last : List ℕ). replicate (prefix_len (is_byte 32) rest) 32 ++ last) token_is)
              ∙ sym (append_assoc scheme (codes " ") (replicate (prefix_len (is_byte 32) rest) 32 ++ token));
          of_bytes = of_bytes;
        }
    made scheme rest cuts false basic same = absurd (cc same)

    go : (o : Option (List ℕ × List ℕ)) → cut 32 header ≡ o → (o >>= token_of) ≡ Some token → HasSent header bytes
    go None cuts same = absurd (cc same)
    go (Some parts) cuts same = made parts.0 parts.1 cuts (is_basic parts.0) refl same

pub token_reads : (header token bytes : List ℕ) → token_in header ≡ Some token
    → IsBase64 token bytes ↔ HasSent header bytes
token_reads header token bytes is = (
  λ of_bytes. token_sent header token bytes is of_bytes,
  λ sent.
      let same : token ≡ sent.token = cc (is, sent_token header bytes sent) in
      rw same sent.of_bytes,
)

pub no_token : (header bytes : List ℕ) → token_in header ≡ None → ¬ HasSent header bytes
no_token header bytes none sent = cc (none, sent_token header bytes sent)

-- ---- bytes

pub base64_injective : (one other : List ℕ) → IsBytes one → IsBytes other
    → base64_text one ≡ base64_text other → one ≡ other
unfolding base64_text
base64_injective one other first second same =
    let back = decode_of-encode_of standard one refl first in
    let again = decode_of-encode_of standard other refl second in
    let both : Ok one ≡ Ok other = sym back ∙ ap (decode_of standard) same ∙ again in
    cc both

-- the bytes that were decoded are those of the text
pub decoded_reads : (text decoded bytes : List ℕ) → text ≡ encode_of standard decoded → IsBytes decoded
    → (Some decoded ≡ Some bytes) ↔ IsBase64 text bytes
unfolding base64_text
decoded_reads text decoded bytes is are = (
  λ same.
      let one : decoded ≡ bytes = cc same in
      rw (← one) (record { is = is; are_bytes = are }),
  λ of_bytes. ap Some (base64_injective decoded bytes are of_bytes.are_bytes (sym is ∙ of_bytes.is)),
)

-- a text that can't be decoded isn't base64
pub undecoded : (text bytes : List ℕ) (error : DecodeError) → decode_of standard text ≡ Err error
    → ¬ IsBase64 text bytes
unfolding base64_text
undecoded text bytes error is of_bytes =
    let back = decode_of-encode_of standard bytes refl of_bytes.are_bytes in
    let other : Ok bytes ≡ Err error = sym back ∙ ap (decode_of standard) (sym of_bytes.is) ∙ is in
    cc other

pub sent_once : (header one other : List ℕ) → HasSent header one → HasSent header other → one ≡ other
sent_once header one other first second =
    let same : first.token ≡ second.token = cc (sent_token header one first, sent_token header other second) in
    base64_injective one other first.of_bytes.are_bytes second.of_bytes.are_bytes
    (sym first.of_bytes.is ∙ same ∙ second.of_bytes.is)

-- ---- the user and the password

abbrev after_user : List ℕ → Option (List ℕ) → Option CredentialsState
after_user password user = user >>= λ (name : List ℕ). Some (record { user = name; password = password })

abbrev in_parts : List ℕ × List ℕ → Option CredentialsState
in_parts parts = after_user parts.1 (text_in parts.0)

pub credentials_read : (bytes user password : List ℕ) → AreCredentials bytes user password
    → credentials_of bytes ≡ Some (record { user = user; password = password })
credentials_read bytes user password are =
    ap credentials_of (are.is ∙ append_assoc user (codes ":") password)
    ∙ rw (cut_there 58 user password are.no_colon) (rw are.text refl)

pub credentials_made : (bytes user password : List ℕ)
    → credentials_of bytes ≡ Some (record { user = user; password = password })
    → AreCredentials bytes user password
credentials_made bytes user password is = go (cut 58 bytes) refl is
  where
    made : (before behind : List ℕ) → cut 58 bytes ≡ Some (before, behind) → (t : Bool) → is_utf8 before ≡ t
        → after_user behind (cond t (Some before) None) ≡ Some (record { user = user; password = password })
        → AreCredentials bytes user password
    made before behind cuts true text same =
        let both : CredentialsState = record { user = before; password = behind } in
        let one : both ≡ record { user = user; password = password } = cc same in
        let name : before ≡ user = ap (λ (s : CredentialsState). s.user) one in
        let word : behind ≡ password = ap (λ (s : CredentialsState). s.password) one in
        let cut_so = cut_some 58 bytes before behind cuts in
        rw (← name, ← word) (record {
          is = cut_is 58 bytes before behind cut_so ∙ sym (append_assoc before (codes ":") behind);
          text = text;
          no_colon = before_cut 58 bytes before behind cut_so;
        })
    made before behind cuts false text same = absurd (cc same)

    go : (o : Option (List ℕ × List ℕ)) → cut 58 bytes ≡ o
        → (o >>= in_parts) ≡ Some (record { user = user; password = password })
        → AreCredentials bytes user password
    go None cuts same = absurd (cc same)
    go (Some parts) cuts same = made parts.0 parts.1 cuts (is_utf8 parts.0) refl same
