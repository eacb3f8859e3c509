-- The decision case by case is the definition of admission.
use Rattle.std.proofs.Common.{◌≡◌, ℕ, Bool, true, false, cond, List, Option, Some, None, string_bytes, refl, sym, ap, ◌∙◌}
use Rattle.std.specs.Prelude.{◌↔◌}
use Rattle.std.specs.Option.{option_map}
use Rattle.std.proofs.lemmas.Slice.Eq.{bytes_eq-Decides}
use Rattle.site_keys.specs.declared.role.Role.{Role}
use Rattle.site_keys.specs.declared.role.Role.TheVariants.{Point, Operator}
use Rattle.site_keys.specs.declared.admission.Admission.{Admission}
use Rattle.site_keys.specs.declared.admission.Admission.TheVariants.{Admitted, Unauthorized, Forbidden}
use Rattle.site_keys.specs.Key.{KeyState}
use Rattle.site_keys.specs.Credentials.{IsBasic, HasSent, HasUser}
use Rattle.site_keys.specs.Admission.{IsRight, IsOwn, IsUnauthorized, Decides}
use Rattle.site_keys.specs.ByCases.Key.{has_right_key}
use Rattle.site_keys.specs.ByCases.Credentials.{CredentialsState, credentials_of}
use Rattle.site_keys.specs.ByCases.Admission.{admitted, unauthorized, forbidden, decision, is_own, decided_of_user, decided_of}
use Rattle.site_keys.proofs.KeyLemmas.{right_key}
use Rattle.site_keys.proofs.CredentialsLemmas.{sent_once, credentials_made, credentials_read}

-- ---- what a header says

pub record Says (header : List ℕ) (sent : Option CredentialsState) : Type 0 where
  pub each : (user password : List ℕ)
      → (sent ≡ Some (record { user = user; password = password })) ↔ IsBasic header user password

pub says_by_bytes : (header bytes : List ℕ) → HasSent header bytes → Says header (credentials_of bytes)
says_by_bytes header bytes sent = record {
  each = λ user password. (
    λ is. record { bytes = bytes; sent = sent; credentials = credentials_made bytes user password is },
    λ basic.
        let same = sent_once header basic.bytes bytes basic.sent sent in
        ap credentials_of (sym same) ∙ credentials_read basic.bytes user password basic.credentials,
  );
}

pub says_nothing : (header : List ℕ) → ((bytes : List ℕ) → ¬ HasSent header bytes) → Says header None
says_nothing header none = record {
  each = λ user password. (
    λ is. absurd (cc is),
    λ basic. absurd (none basic.bytes basic.sent),
  );
}

-- the user of a header, by its credentials
pub user_said : (header : List ℕ) (sent : Option CredentialsState) → Says header sent
    → (found : Option (List ℕ)) → found ≡ option_map (λ (s : CredentialsState). s.user) sent
    → (user : List ℕ) → (found ≡ Some user) ↔ HasUser header user
user_said header None says found is user = (
  λ same. absurd (cc (is, same)),
  λ has. absurd (cc ((says.each user has.password).1 has.sent)),
)
user_said header (Some sent) says found is user = (
  λ same.
      let one : sent.user ≡ user = cc (is, same) in
      rw (← one) (record { password = sent.password; sent = (says.each sent.user sent.password).0 refl }),
  λ has.
      let other : CredentialsState = record { user = user; password = has.password } in
      let so : Some sent ≡ Some other = (says.each user has.password).1 has.sent in
      let same : sent ≡ other = cc so in
      is ∙ ap (λ (s : CredentialsState). Some s.user) same,
)

-- ---- by the decision

own : (role : Role) (identity user : List ℕ) → (is_own role identity user ≡ true) ↔ IsOwn role identity user
own Point identity user = bytes_eq-Decides user identity
own Operator identity user = (λ is. tt, λ is. refl)

nobody : (admission : Admission) (keys : List KeyState) (role : Role) (identity header : List ℕ)
    → decision admission ≡ unauthorized → IsUnauthorized keys role (Some header)
    → Decides admission keys role identity (Some header)
nobody (Admitted name) keys role identity header is none = absurd (cc is)
nobody Forbidden keys role identity header is none = absurd (cc is)
nobody Unauthorized keys role identity header is none = record {
  admitted = λ user. (λ never. absurd never, λ may. absurd (none.none user may.right));
  forbidden = (λ same. absurd (cc same), λ other. absurd (none.none other.user other.right));
  unauthorized = (λ same. none, λ so. refl);
}

-- no other user than this one has right credentials
abbrev IsOnly : List KeyState → Role → List ℕ → List ℕ → Type 0
IsOnly keys role header one = (user : List ℕ) → IsRight keys role (Some header) user → one ≡ user

itself : (admission : Admission) (keys : List KeyState) (role : Role) (identity header user : List ℕ)
    → decision admission ≡ admitted user → IsRight keys role (Some header) user → IsOwn role identity user
    → IsOnly keys role header user → Decides admission keys role identity (Some header)
itself Unauthorized keys role identity header user is right own only = absurd (cc is)
itself Forbidden keys role identity header user is right own only = absurd (cc is)
itself (Admitted name) keys role identity header user is right own only =
    let same : string_bytes name ≡ user = cc is in
    record {
      admitted = λ other. (
        λ named.
            let one : user ≡ other = sym same ∙ named in
            rw (← one) (record { right = right; own = own }),
        λ may. same ∙ only other may.right,
      );
      forbidden = (
        λ not. absurd (cc not),
        λ other. absurd (other.other (rw (← only other.user other.right) own)),
      );
      unauthorized = (λ not. absurd (cc not), λ none. absurd (none.none user right));
    }

another : (admission : Admission) (keys : List KeyState) (role : Role) (identity header user : List ℕ)
    → decision admission ≡ forbidden → IsRight keys role (Some header) user → ¬ IsOwn role identity user
    → IsOnly keys role header user → Decides admission keys role identity (Some header)
another (Admitted name) keys role identity header user is right other only = absurd (cc is)
another Unauthorized keys role identity header user is right other only = absurd (cc is)
another Forbidden keys role identity header user is right other only = record {
  admitted = λ one. (
    λ never. absurd never,
    λ may. absurd (other (rw (only one may.right) may.own)),
  );
  forbidden = (λ same. record { user = user; right = right; other = other }, λ so. refl);
  unauthorized = (λ not. absurd (cc not), λ none. absurd (none.none user right));
}

-- ---- by the credentials

only_user : (keys : List KeyState) (role : Role) (header : List ℕ) (sent : CredentialsState)
    → Says header (Some sent) → IsOnly keys role header sent.user
only_user keys role header sent says user right =
    let other : CredentialsState = record { user = user; password = right.password } in
    let is : Some sent ≡ Some other = (says.each user right.password).1 right.sent in
    let same : sent ≡ other = cc is in
    ap (λ (s : CredentialsState). s.user) same

its_right_key : (keys : List KeyState) (role : Role) (header user : List ℕ) (sent : CredentialsState)
    → Says header (Some sent) → IsRight keys role (Some header) user
    → has_right_key role sent.user sent.password keys ≡ true
its_right_key keys role header user sent says right =
    let other : CredentialsState = record { user = user; password = right.password } in
    let is : Some sent ≡ Some other = (says.each user right.password).1 right.sent in
    let same : sent ≡ other = cc is in
    ap (λ (s : CredentialsState). has_right_key role s.user s.password keys) same
    ∙ (right_key role user right.password keys).1 right.opens

of_right_user : (admission : Admission) (keys : List KeyState) (role : Role) (identity header user : List ℕ)
    → IsRight keys role (Some header) user → IsOnly keys role header user
    → decision admission ≡ decided_of_user role identity user → Decides admission keys role identity (Some header)
of_right_user admission keys role identity header user right only is = go (is_own role identity user) refl is
  where
    go : (t : Bool) → is_own role identity user ≡ t → decision admission ≡ cond t (admitted user) forbidden
        → Decides admission keys role identity (Some header)
    go true comes is =
        itself admission keys role identity header user is right ((own role identity user).0 comes) only
    go false other is =
        another admission keys role identity header user is right
        (λ comes. absurd (cc (other, (own role identity user).1 comes))) only

pub decides : (admission : Admission) (keys : List KeyState) (role : Role) (identity header : List ℕ)
    (sent : Option CredentialsState) → Says header sent → decision admission ≡ decided_of keys role identity sent
    → Decides admission keys role identity (Some header)
decides admission keys role identity header None says is =
    nobody admission keys role identity header is
    (record { none = λ user right. absurd (cc ((says.each user right.password).1 right.sent)) })
decides admission keys role identity header (Some sent) says is =
    go (has_right_key role sent.user sent.password keys) refl is
  where
    go : (t : Bool) → has_right_key role sent.user sent.password keys ≡ t
        → decision admission ≡ cond t (decided_of_user role identity sent.user) unauthorized
        → Decides admission keys role identity (Some header)
    go true has is =
        of_right_user admission keys role identity header sent.user (record {
          password = sent.password;
          sent = (says.each sent.user sent.password).0 refl;
          opens = (right_key role sent.user sent.password keys).0 has;
        }) (only_user keys role header sent says) is
    go false has is =
        nobody admission keys role identity header is
        (record { none = λ user right. absurd (cc (has, its_right_key keys role header user sent says right)) })

-- without a header
pub nothing_sent : (keys : List KeyState) (role : Role) (identity : List ℕ)
    → Decides Unauthorized keys role identity None
nothing_sent keys role identity = record {
  admitted = λ user. (λ never. absurd never, λ may. absurd may.right.sent);
  forbidden = (λ same. absurd (cc same), λ other. absurd other.right.sent);
  unauthorized = (λ same. record { none = λ user right. absurd right.sent }, λ so. refl);
}
