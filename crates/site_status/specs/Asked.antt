-- The paths of the status port.
use Rattle.std.specs.Prelude.{⊤}
use Rattle.site_status.specs.declared.asked_path.StatusPath.{StatusPath}
use Rattle.site_status.specs.declared.asked_path.StatusPath.TheVariants.{Health, Metrics, State, Page, Picture}

-- a page or a picture: there are several of each
abbrev pub IsOneOfMany : StatusPath → Type 0
IsOneOfMany Health = ⊥
IsOneOfMany Metrics = ⊥
IsOneOfMany State = ⊥
IsOneOfMany (Page number) = ⊤
IsOneOfMany (Picture point connector) = ⊤
