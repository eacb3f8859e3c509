-- Rows that prevail, their bounds, and the least of some bounds.
use Rattle.std.proofs.Common.{◌≡◌, ℕ, Bool, true, false, List, [], ◌∷◌, ◌++◌, filter, map, Option, Some, None, option_map, cond, nat_lt, refl, ap, ◌∙◌}
use Rattle.std.proofs.lemmas.List.{append-nil, map-append}
use Rattle.std.proofs.lemmas.List.Elements.{filter-append}
use Rattle.meaning.specs.declared.cause.Share.{Share}
use Rattle.meaning.specs.Cause.{RowLimit, Bound, level_of, lesser_of}
use Rattle.meaning.specs.ByCases.Cause.{profile_limit_of, level_of_limit, lesser_bound}
use Rattle.meaning.specs.Theory.Greatest.{greatest_of}

-- of two rows' ProfileLimits, the higher is that of the higher row
pub higher_is : (best next : Option RowLimit)
    → greatest_of level_of_limit (option_map profile_limit_of best) (option_map profile_limit_of next) ≡ option_map profile_limit_of (greatest_of level_of best next)
higher_is None None = refl
higher_is None (Some next) = refl
higher_is (Some best) None = refl
higher_is (Some best) (Some next) = go (nat_lt (level_of best) (level_of next))
  where
    go : (b : Bool) → Some (cond b (profile_limit_of next) (profile_limit_of best)) ≡ option_map profile_limit_of (Some (cond b next best))
    go true = refl
    go false = refl

-- the lesser of a row and a bound, with the row as a ProfileLimit
pub lesser_is : (best : Option RowLimit) (other : Bound) → lesser_bound (option_map profile_limit_of best) other ≡ lesser_of best other
lesser_is None other = refl
lesser_is (Some best) other = refl

-- a share, from its bound
abbrev pub share_by : ℕ → Bound → Share
share_by connector bound = record { connector = connector; limit = bound.limit; cause = bound.cause }

pub passed_more : {X Y : Type 0} (give : X → Y) (test : X → Bool) (xs ys : List X) (x : X) → ys ≡ xs ++ x ∷ [] → test x ≡ true
    → map give (filter test ys) ≡ map give (filter test xs) ++ give x ∷ []
passed_more give test xs ys x e passes =
    ap (λ zs. map give (filter test zs)) e
    ∙ (ap (map give) (filter-append test xs (x ∷ []) ∙ ap (λ b. filter test xs ++ cond b (x ∷ []) []) passes) ∙ map-append give (filter test xs) (x ∷ []))

pub passed_skip : {X Y : Type 0} (give : X → Y) (test : X → Bool) (xs ys : List X) (x : X) → ys ≡ xs ++ x ∷ [] → test x ≡ false
    → map give (filter test ys) ≡ map give (filter test xs)
passed_skip give test xs ys x e fails =
    ap (λ zs. map give (filter test zs)) e
    ∙ ap (map give) (filter-append test xs (x ∷ []) ∙ (ap (λ b. filter test xs ++ cond b (x ∷ []) []) fails ∙ append-nil (filter test xs)))
