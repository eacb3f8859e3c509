-- One more connector at which a row may not prevail.
use Rattle.std.proofs.Common.{◌≡◌, ◌∙◌, ℕ, ◌+◌, List, false, ap, inl, inr, arith}
use Rattle.std.proofs.lemmas.Bool.{cases_lt}
use Rattle.profile.specs.declared.purpose.Purpose.TheVariants.{TxDefaultProfile}
use Rattle.profile.specs.declared.row.Row.{Row}
use Rattle.profile.specs.Candidates.{is_candidate}
use Rattle.profile_findings.specs.Hidden.{SpeaksForNone}

pub none_more : (rows : List Row) (row : Row) (before : ℕ) → SpeaksForNone rows before row
    → is_candidate TxDefaultProfile rows (before + 1) row ≡ false → SpeaksForNone rows (before + 1) row
none_more rows row before none next connector above upto =
    elim (cases_lt before connector) [
      | inl past ↦ let same : connector ≡ before + 1 = omega arith in ap (λ (c : ℕ). is_candidate TxDefaultProfile rows c row) same ∙ next
      | inr within ↦ none connector above within
    ]
