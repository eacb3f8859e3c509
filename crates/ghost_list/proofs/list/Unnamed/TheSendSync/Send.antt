-- The resources that an unnamed ghost list owns name no thread.
use denote.Param.Send.{IsSend}
use Rattle.ghost_list.specs.contracts.list.Unnamed.{the_row}
use Rattle.ghost_list.proofs.Tokens.{unnamed_keyless}

pub send : IsSend the_row
send = record { owned = λ d vs. ((λ vss. (tt, ((λ uss. (tt, tt)), tt))), unnamed_keyless d.name); leaving = λ k f vs. tt }
