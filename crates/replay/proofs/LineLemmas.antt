-- The contents of a line, by its first fault.
use Rattle.std.proofs.Common.{◌≡◌, ℕ, ◌≤◌, List, length, true, false, not, cond, nat_lt, Err, refl}
use Rattle.std.specs.Str.{IsUtf8, is_utf8}
use Rattle.std.proofs.lemmas.Str.{IsUtf8-from_is_utf8, is_utf8-from_IsUtf8}
use Rattle.std.proofs.lemmas.Bool.{le-ltb}
use Rattle.site_rules.specs.Site.{SiteState}
use Rattle.replay.specs.Limits.{max_line_bytes}
use Rattle.replay.specs.ByCases.Form.{form_of}
use Rattle.replay.specs.Line.{line_of, line_of_form}
use Rattle.replay.specs.declared.script.line.ScriptLineFault.TheVariants.{TooLong, BadText}

pub line_of-text : (site : SiteState) (line : List ℕ) → length line ≤ max_line_bytes → IsUtf8 line → line_of_form site (form_of line) ≡ line_of site line
unfolding line_of
line_of-text site line short text = rw (le-ltb max_line_bytes (length line) short, is_utf8-from_IsUtf8 line text) refl

pub line_of-not_text : (site : SiteState) (line : List ℕ) → length line ≤ max_line_bytes → ¬ IsUtf8 line → Err BadText ≡ line_of site line
unfolding line_of
line_of-not_text site line short other =
    elim (is_utf8 line) as (λ b. is_utf8 line ≡ b → Err BadText ≡ cond (nat_lt max_line_bytes (length line)) (Err TooLong) (cond (not b) (Err BadText) (line_of_form site (form_of line)))) [
      | true ↦ λ here. absurd (other (IsUtf8-from_is_utf8 line here))
      | false ↦ λ here. rw (le-ltb max_line_bytes (length line) short) refl
    ] refl
