-- Identities that are new, one point after another, and points that are apart.
use Rattle.std.proofs.Common.{◌≡◌, ◌≢◌, ℕ, suc, ◌+◌, nat_lt, Bool, true, false, cond, not, ◌||◌, List, [], ◌∷◌, ◌++◌, length, position, Some, None, is_some, bytes_eq, refl, sym, ◌∙◌, true≢false, arith}
use Rattle.std.specs.Prelude.{⊤}
use Rattle.std.specs.List.{AllByRecursion, list_any, position_or_len}
use Rattle.std.proofs.lemmas.Bool.{or_parts}
use Rattle.std.proofs.lemmas.Bool.Decides.{nat_tests}
use Rattle.std.proofs.lemmas.Slice.Eq.{bytes_eq-Decides}
use Rattle.site_rules.specs.Site.{PointEntry, SiteState, place_of}
use Rattle.site_rules.specs.SiteFile.{AreApart}
use Rattle.site_rules.specs.SiteFaults.{IsUnused}

some_if : {X : Type 0} (b : Bool) (x : X) → is_some (cond b (Some x) None) ≡ b
some_if true x = refl
some_if false x = refl

one_more : (place count : ℕ) → nat_lt (1 + place) (suc count) ≡ nat_lt place count
one_more place count = grind (arith, nat_tests)

first_place : (count : ℕ) → nat_lt 0 (suc count) ≡ true
first_place count = grind (arith, nat_tests)

module _ {X : Type 0} (t : X → Bool) where
  place-any : (xs : List X) → nat_lt (position_or_len t xs) (length xs) ≡ list_any t xs
  place-any [] = refl
  place-any (x ∷ xs) = by (t x) (place-any xs)
    where
      by : (b : Bool) → nat_lt (position_or_len t xs) (length xs) ≡ list_any t xs
          → nat_lt (cond (not b) (1 + position_or_len t xs) 0) (suc (length xs)) ≡ (b || list_any t xs)
      by true rest = first_place (length xs)
      by false rest = one_more (position_or_len t xs) (length xs) ∙ rest

  some-position : (xs : List X) → is_some (position t xs) ≡ list_any t xs
  some-position xs = some_if _ _ ∙ place-any xs

-- no point of these has the identity of the point
abbrev pub IsNew : List PointEntry → PointEntry → Type 0
IsNew earlier point = IsUnused earlier point.id

differ : (id other : List ℕ) → bytes_eq id other ≡ false → id ≢ other
differ id other h e = true≢false (sym ((bytes_eq-Decides id other).1 e) ∙ h)

not_same : (id other : List ℕ) → id ≢ other → bytes_eq id other ≡ false
not_same id other h = by (bytes_eq id other) refl
  where
    by : (b : Bool) → bytes_eq id other ≡ b → b ≡ false
    by true e = absurd (h ((bytes_eq-Decides id other).0 e))
    by false e = refl

new-test : (id : List ℕ) (points : List PointEntry) → list_any (λ (p : PointEntry). bytes_eq id p.id) points ≡ false → AllByRecursion (λ (p : PointEntry). id ≢ p.id) points
new-test id [] h = tt
new-test id (p ∷ ps) h =
    let parts = or_parts (bytes_eq id p.id) _ h in
    (differ id p.id parts.0, new-test id ps parts.1)

test-new : (id : List ℕ) (points : List PointEntry) → AllByRecursion (λ (p : PointEntry). id ≢ p.id) points → list_any (λ (p : PointEntry). bytes_eq id p.id) points ≡ false
test-new id [] h = refl
test-new id (p ∷ ps) h = rw (not_same id p.id h.0) (test-new id ps h.1)

-- an identity has no index exactly if it is unused
pub unused-place : (site : SiteState) (id : List ℕ) → is_some (place_of site id) ≡ false → IsUnused site.points id
unused-place site id h = new-test id site.points (sym (some-position _ site.points) ∙ h)

pub place-unused : (site : SiteState) (id : List ℕ) → IsUnused site.points id → is_some (place_of site id) ≡ false
place-unused site id h = some-position _ site.points ∙ test-new id site.points h

-- each point is new after those before it
abbrev pub AreNewAfter : List PointEntry → List PointEntry → Type 0
AreNewAfter earlier [] = ⊤
AreNewAfter earlier (point ∷ points) = IsNew earlier point × AreNewAfter (earlier ++ point ∷ []) points

new-split : (earlier : List PointEntry) (point other : PointEntry) → IsNew (earlier ++ point ∷ []) other → IsNew earlier other × (other.id ≢ point.id)
new-split [] point other h = (tt, h.0)
new-split (e ∷ es) point other h = let rest = new-split es point other h.1 in ((h.0, rest.0), rest.1)

new-join : (earlier : List PointEntry) (point other : PointEntry) → IsNew earlier other → other.id ≢ point.id → IsNew (earlier ++ point ∷ []) other
new-join [] point other h k = (k, tt)
new-join (e ∷ es) point other h k = (h.0, new-join es point other h.1 k)

all-split : (earlier : List PointEntry) (point : PointEntry) (later : List PointEntry) → AllByRecursion (IsNew (earlier ++ point ∷ [])) later
    → AllByRecursion (IsNew earlier) later × AllByRecursion (λ (other : PointEntry). other.id ≢ point.id) later
all-split earlier point [] h = (tt, tt)
all-split earlier point (o ∷ os) h =
    let first = new-split earlier point o h.0 in
    let rest = all-split earlier point os h.1 in
    ((first.0, rest.0), (first.1, rest.1))

all-join : (earlier : List PointEntry) (point : PointEntry) (later : List PointEntry) → AllByRecursion (IsNew earlier) later
    → AllByRecursion (λ (other : PointEntry). other.id ≢ point.id) later → AllByRecursion (IsNew (earlier ++ point ∷ [])) later
all-join earlier point [] h k = tt
all-join earlier point (o ∷ os) h k = (new-join earlier point o h.0 k.0, all-join earlier point os h.1 k.1)

pub apart-new : (earlier points : List PointEntry) → AreNewAfter earlier points → AllByRecursion (IsNew earlier) points × AreApart points
apart-new earlier [] h = (tt, tt)
apart-new earlier (p ∷ ps) h =
    let rest = apart-new (earlier ++ p ∷ []) ps h.1 in
    let parts = all-split earlier p ps rest.0 in
    ((h.0, parts.0), (parts.1, rest.1))

new-apart : (earlier points : List PointEntry) → AllByRecursion (IsNew earlier) points → AreApart points → AreNewAfter earlier points
new-apart earlier [] h k = tt
new-apart earlier (p ∷ ps) h k = (h.0, new-apart (earlier ++ p ∷ []) ps (all-join earlier p ps h.1 k.0) k.1)

all_new : (points : List PointEntry) → AllByRecursion (IsNew []) points
all_new [] = tt
all_new (p ∷ ps) = (tt, all_new ps)

-- points that are apart are new, one after another
pub new-first : (points : List PointEntry) → AreApart points → AreNewAfter [] points
new-first points h = new-apart [] points (all_new points) h
