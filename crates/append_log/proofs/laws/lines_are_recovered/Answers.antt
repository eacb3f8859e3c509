-- The first lines stay, whatever follows them.
use Rattle.std.proofs.Common.{List, ◌++◌, ℕ, ◌∙◌, ap, subst}
use Rattle.append_log.specs.Contents.{IsFirstPart}
use Rattle.append_log.specs.Lines.{whole_lines, text_of}
use Rattle.append_log.proofs.Lines.{lines_in_front, first_lines}
use Rattle.append_log.proofs.laws.lines_are_recovered.Goals as goal

pub returns-clause-acknowledged : goal.returns-clause-acknowledged
returns-clause-acknowledged c contents lines left synced may =
    (whole_lines may.behind, ap whole_lines (may.is ∙ ap (λ (l : List ℕ). l ++ may.behind) synced) ∙ lines_in_front lines may.behind)

pub returns-clause-pending : goal.returns-clause-pending
returns-clause-pending c contents lines pending left synced appended usable none may =
    let part = subst (IsFirstPart may.behind) appended (may.first_part usable) in
    let first = first_lines pending may.behind none part in
    (first.0, ap whole_lines (may.is ∙ ap (λ (l : List ℕ). l ++ may.behind) synced) ∙ lines_in_front lines may.behind ∙ ap (λ (l : List ℕ). text_of lines ++ l) first.1)
