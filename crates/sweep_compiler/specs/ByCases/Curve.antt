-- For private clauses: the next place of a sweep after a second.
use Rattle.std.specs.Prelude.{◌≡◌, ℕ, ◌<◌, ◌≤◌, Bool, true, Option, Some, None}

-- a later place up to which a limit, or its reason, is the same as at a second; with None, it is
-- the same to the end
abbrev pub LeadsOn : {X : Type 0} → (ℕ → X) → (ℕ → Bool) → ℕ → ℕ → Option ℕ → Type 0
LeadsOn value place end second None =
    (later : ℕ) → second ≤ later → later < end → value later ≡ value second
LeadsOn value place end second (Some next) =
    (second < next) × (next < end) × (place next ≡ true)
    × ((later : ℕ) → second ≤ later → later < next → value later ≡ value second)
