-- Lemmas that crates above cite: nothing here has to be believed. Of causes in an order there is
-- one first refusal, and tests in that order find it.
use Rattle.std.proofs.Common.{◌≡◌, Bool, true, false, inl, inr, List, [], ◌∷◌, Option, Some, None, if◌then◌else◌, Result, Ok, Err, ap, refl, sym, ◌∙◌, subst}
use Rattle.std.specs.Prelude.{◌↔◌}
use Rattle.std.specs.Result.{result_err}
use Rattle.ocpp_scalars.specs.declared.refusal.Refusal.{Refusal}
use Rattle.ocpp_scalars.specs.Causes.{Cause, ◌because◌, IsFirstCause}

same_first : (causes : List Cause) (one other : Option Refusal) → IsFirstCause causes one
    → IsFirstCause causes other → one ≡ other
same_first [] one other is also = is ∙ sym also
same_first (cause ∷ later) one other (inl is) (inl also) = is.1 ∙ sym also.1
same_first (cause ∷ later) one other (inl is) (inr also) = absurd (also.0 is.0)
same_first (cause ∷ later) one other (inr is) (inl also) = absurd (is.0 also.0)
same_first (cause ∷ later) one other (inr is) (inr also) = same_first later one other is.1 also.1

-- the refusal that is found is the first one
pub first_cause_law : (causes : List Cause) (found : Option Refusal) → IsFirstCause causes found
    → (refusal : Option Refusal) → (found ≡ refusal) ↔ IsFirstCause causes refusal
first_cause_law causes found is refusal =
    (λ e. subst (IsFirstCause causes) e is, λ also. same_first causes found refusal is also)

-- a refusal, its cause, and a test that holds exactly if the cause does
pub record Tested : Type 1 where
  pub refusal : Refusal
  pub holds : Type 0
  pub test : Bool
  pub found : test ≡ true → holds
  pub missed : test ≡ false → ¬ holds

abbrev pub causes_tested : List Tested → List Cause
causes_tested [] = []
causes_tested (one ∷ later) = (one.refusal because one.holds) ∷ causes_tested later

-- the refusal of the first test that holds
abbrev pub first_tested : List Tested → Option Refusal
first_tested [] = None
first_tested (one ∷ later) = if one.test then Some one.refusal else first_tested later

-- tests in order find the first cause
pub by_tests : (tests : List Tested) → IsFirstCause (causes_tested tests) (first_tested tests)
by_tests [] = refl
by_tests (one ∷ later) = go one.test one.found one.missed (by_tests later)
  where
    go : (test : Bool) → (test ≡ true → one.holds) → (test ≡ false → ¬ one.holds)
        → IsFirstCause (causes_tested later) (first_tested later)
        → IsFirstCause ((one.refusal because one.holds) ∷ causes_tested later)
        (if test then Some one.refusal else first_tested later)
    go true found missed rest = inl (found refl, refl)
    go false found missed rest = inr (missed refl, rest)

-- the same for a result
refused_err : {X : Type 0} → (found : Result X Refusal) (refusal : Refusal)
    → result_err found ≡ Some refusal → found ≡ Err refusal
refused_err (Ok x) refusal e = cc
refused_err (Err other) refusal e = cc

pub refused_law : {X : Type 0} → (causes : List Cause) (found : Result X Refusal)
    → IsFirstCause causes (result_err found)
    → (refusal : Refusal) → (found ≡ Err refusal) ↔ IsFirstCause causes (Some refusal)
refused_law causes found is refusal = (
  λ e. subst (IsFirstCause causes) (ap result_err e) is,
  λ also. refused_err found refusal
      (same_first causes (result_err found) (Some refusal) is also),
)

-- a result without a refusal has no cause
pub none_refused : {X : Type 0} → (causes : List Cause) (found : Result X Refusal)
    → IsFirstCause causes (result_err found)
    → (x : X) → found ≡ Ok x → IsFirstCause causes None
none_refused causes found is x e = subst (IsFirstCause causes) (ap result_err e) is
