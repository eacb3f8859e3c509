-- The exit status of a check.
use Rattle.std.specs.Prelude.{ℕ, Bool, true, false, List, if◌then◌else◌, ◌==◌, ◌||◌, max}
use Rattle.std.specs.List.{list_any}
use Rattle.findings.specs.declared.finding.Severity.{Severity}
use Rattle.findings.specs.declared.finding.Severity.TheVariants.{Fault, Warning, Remark}
use Rattle.findings.specs.declared.finding.Finding.{Finding}

abbrev pub is_fault : Severity → Bool
is_fault Fault = true
is_fault Warning = false
is_fault Remark = false

abbrev pub is_warning : Severity → Bool
is_warning Fault = false
is_warning Warning = true
is_warning Remark = false

abbrev pub has_fault : List Finding → Bool
has_fault findings = list_any (λ (finding : Finding). is_fault finding.severity) findings

abbrev pub has_warning : List Finding → Bool
has_warning findings = list_any (λ (finding : Finding). is_warning finding.severity) findings

-- 1 with a fault, 2 with warnings and no fault, otherwise 0: remarks have no effect
abbrev pub exit_status : List Finding → ℕ
exit_status findings = if has_fault findings then 1 else if has_warning findings then 2 else 0

-- that of two checks together: a fault of one counts, and else a warning
abbrev pub joined_status : ℕ → ℕ → ℕ
joined_status first second = if first == 1 || second == 1 then 1 else max first second
