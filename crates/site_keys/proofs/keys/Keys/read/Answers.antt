-- The keys read are those of the file.
use Rattle.std.proofs.Common.{sym, ◌∙◌}
use Rattle.std.proofs.lemmas.Result.{err_from_is_err_and}
use Rattle.site_keys.proofs.KeyFileLemmas.{file_read, file_is, no_keys, fault_of_file}
use Rattle.site_keys.proofs.keys.Keys.read.Goals as goal

pub returns-in_err-keys-clause-only : goal.returns-in_err-keys-clause-only
returns-in_err-keys-clause-only c keys are =
    let exit = err_from_is_err_and c.from_residual.result c.from_residual.ensures.1 in
    rw (exit.1, exit.2) (no_keys c.args.bytes.now c.in_err-keys.field-0.0 c.in_err-keys.ensures keys are)

pub returns-in_err-keys-clause-fault : goal.returns-in_err-keys-clause-fault
returns-in_err-keys-clause-fault c =
    let exit = err_from_is_err_and c.from_residual.result c.from_residual.ensures.1 in
    rw (exit.1, exit.2) (fault_of_file c.args.bytes.now c.in_err-keys.field-0.0 c.in_err-keys.ensures)

pub returns-clause-read : goal.returns-clause-read
returns-clause-read c = file_read c.args.bytes.now c.in_ok-keys.keys.items c.in_ok-keys.ensures

pub returns-clause-only : goal.returns-clause-only
returns-clause-only c keys are = sym (file_is c.args.bytes.now keys are) ∙ c.in_ok-keys.ensures
