-- For private clauses: the links that are left after the loss of one.
use Rattle.std.specs.Prelude.{ℕ, ◌≡◌, List, None, Some, slice_get}
use Rattle.site_rules.specs.Site.{PointEntry}
use Rattle.site_core.specs.State.{MachineState, link_of}

-- the point at a place of the site has no link
abbrev pub HasNoLinkAt : MachineState → ℕ → Type 0
HasNoLinkAt state place =
    (point : PointEntry) → slice_get state.site.points place ≡ Some point
    → link_of state point.id ≡ None

-- no point without a link gets one
pub record GivesNoLink (old new : MachineState) : Type 0 where
  pub site : new.site ≡ old.site
  pub none : (point : List ℕ) → link_of old point ≡ None → link_of new point ≡ None
