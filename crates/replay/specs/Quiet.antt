-- The state after the first lines of a script, and the effect of the next line.
use Rattle.std.specs.Prelude.{ℕ, ◌≡◌, ◌+◌, nat_le, Bool, true, if◌then◌else◌, List, [], ◌∷◌, take, Option, Some, None}
use Rattle.std.specs.List.{fold}
use Rattle.site_rules.specs.Site.{SiteState}
use Rattle.replay.specs.Lines.{script_lines}
use Rattle.replay.specs.Play.{said_on, line_played, LeadsTo}
use Rattle.replay.specs.Run.{Played, first_played, played_more}
use Rattle.replay.specs.Playing.{PlayingState}
use Rattle.replay.specs.declared.script.played_line.PlayedLine.{PlayedLine}

-- the lines up to the one of this number, counted from 1, or all of them
abbrev pub lines_up_to : Option ℕ → List (List ℕ) → List (List ℕ)
lines_up_to None lines = lines
lines_up_to (Some last) lines = take last lines

-- these lines of a script, played on a site as the whole script is
unfoldable pub played_up_to : SiteState → List ℕ → Option ℕ → Played
played_up_to site script last =
    fold played_more (first_played site) (lines_up_to last (script_lines script))

-- whether the line of a number is at most the last one that is wanted
abbrev pub is_up_to : Option ℕ → ℕ → Bool
is_up_to None number = true
is_up_to (Some last) number = nat_le number last

-- The next line was played, or was skimmed, which leaves its output open:
pub record IsNextLine (old : PlayingState) (line : PlayedLine) (new : PlayingState) : Type 0 where
  -- it is the first of those that were left,
  pub first : script_lines old.rest ≡ line.line.now ∷ script_lines new.rest
  pub number : line.number ≡ old.number
  pub next : new.number ≡ old.number + 1
  -- has its contents on the site,
  pub said : line.said ≡ said_on old.state.machine.site line.line.now
  -- led to its outcome apart from the output,
  pub led : LeadsTo (line_played old.state old.number line.line.now) line.outcome new.state
  -- and its fault counts.
  pub faults :
      new.faults
      ≡ old.faults
      + (if (line_played old.state old.number line.line.now).is_fault then 1 else 0)

-- the next line was played or skimmed, or none was left
abbrev pub IsNext : PlayingState → Option PlayedLine → PlayingState → Type 0
IsNext old None new = (script_lines old.rest ≡ []) × (new ≡ old)
IsNext old (Some line) new = IsNextLine old line new

-- the line printed its output
abbrev pub HasPrinted : PlayingState → Option PlayedLine → Type 0
HasPrinted old None = Unit {0}
HasPrinted old (Some line) =
    line.outcome.printed.items ≡ (line_played old.state old.number line.line.now).printed
