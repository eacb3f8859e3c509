-- A written line is read, and its key opens.
use Rattle.site_keys.proofs.NewKeyLemmas.{written_read, written_opens, header_sends}
use Rattle.site_keys.proofs.written_keys.written_keys_open.Goals as goal

pub returns-clause-read : goal.returns-clause-read
returns-clause-read c = written_read

pub returns-clause-opens : goal.returns-clause-opens
returns-clause-opens c role name salt key header can sends = written_opens role name salt key header can sends

pub returns-clause-headers : goal.returns-clause-headers
returns-clause-headers c name password can = header_sends name password can
