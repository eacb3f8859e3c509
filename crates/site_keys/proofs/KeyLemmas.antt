-- The tests of a key agree with its definitions.
use Rattle.std.proofs.Common.{◌≡◌, ℕ, Bool, true, false, ◌&&◌, List, ◌++◌, refl}
use Rattle.std.specs.Prelude.{◌↔◌}
use Rattle.std.specs.Str.{bytes_eq}
use Rattle.std.proofs.lemmas.List.Folds.{Any-from_list_any, list_any-from_Any}
use Rattle.std.proofs.lemmas.Slice.Eq.{bytes_eq-Decides}
use Rattle.sha2.specs.Sha256.{sha256}
use Rattle.site_keys.specs.declared.role.Role.{Role}
use Rattle.site_keys.specs.declared.role.Role.TheVariants.{Point, Operator}
use Rattle.site_keys.specs.Key.{KeyState, key_bytes, Opens, HasRightKey}
use Rattle.site_keys.specs.ByCases.Key.{is_same_role, is_of, opens, is_right, has_right_key}

both_true : (one other : Bool) → (one && other) ≡ true → (one ≡ true) × (other ≡ true)
both_true true other is = (refl, is)
both_true false other is = absurd (cc is)

true_both : (one other : Bool) → one ≡ true → other ≡ true → (one && other) ≡ true
true_both one other first second = rw (first, second) refl

same_role : (one other : Role) → is_same_role one other ≡ true → one ≡ other
same_role Point Point is = refl
same_role Operator Operator is = refl
same_role Point Operator is = absurd (cc is)
same_role Operator Point is = absurd (cc is)

role_same : (one : Role) → is_same_role one one ≡ true
role_same Point = refl
role_same Operator = refl

right_opens : (role : Role) (user password : List ℕ) (key : KeyState) → is_right role user password key ≡ true
    → Opens key role user password
right_opens role user password key is =
    let parts = both_true (is_of role user key) (opens password key) is in
    let names = both_true (is_same_role key.role role) (bytes_eq key.user user) parts.0 in
    record {
      same_role = same_role key.role role names.0;
      same_user = (bytes_eq-Decides key.user user).0 names.1;
      same_digest = (bytes_eq-Decides key.digest (sha256 (key.salt ++ key_bytes password))).0 parts.1;
    }

opens_right : (role : Role) (user password : List ℕ) (key : KeyState) → Opens key role user password
    → is_right role user password key ≡ true
opens_right role user password key is =
    true_both (is_of role user key) (opens password key)
    (true_both (is_same_role key.role role) (bytes_eq key.user user)
    (rw (is.same_role) (role_same role)) ((bytes_eq-Decides key.user user).1 is.same_user))
    ((bytes_eq-Decides key.digest (sha256 (key.salt ++ key_bytes password))).1 is.same_digest)

-- some key opens exactly if the test says so
pub right_key : (role : Role) (user password : List ℕ) (keys : List KeyState)
    → (has_right_key role user password keys ≡ true) ↔ HasRightKey keys role user password
right_key role user password keys = (
  λ is.
      let one = Any-from_list_any (is_right role user password) keys is in
      (one.0, one.1, one.2, one.3, right_opens role user password one.1 one.4),
  λ has. list_any-from_Any (is_right role user password) keys
      (has.0, has.1, has.2, has.3, opens_right role user password has.1 has.4),
)
