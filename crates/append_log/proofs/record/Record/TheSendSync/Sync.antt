-- A record owns nothing, so two threads may share it.
use denote.Param.Send.{IsSync, whole-keyless}
use Rattle.append_log.specs.contracts.record.Record.{the_row}

pub sync : IsSync the_row
sync = record { shared = λ d b o ν q. whole-keyless _ _ (λ h vs. ((λ vss. (tt, ((λ uss. (tt, tt)), tt))), tt)) q d b o }
