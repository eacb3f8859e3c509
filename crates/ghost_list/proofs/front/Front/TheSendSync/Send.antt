-- The resources that a front owns name no thread.
use denote.RattleType.{RattleType}
use denote.Param.Send.{IsSend}
use Rattle.ghost_list.specs.declared.name.ListName.{Ghosts}
use Rattle.ghost_list.specs.contracts.front.Front.{the_row}
use Rattle.ghost_list.proofs.Tokens.{known_keyless}

pub send : (E J : RattleType) (g : Ghosts J.Denot) → IsSend (the_row E J g)
send E J g = record { owned = λ d vs. ((λ vss. (tt, ((λ uss. (tt, tt)), tt))), known_keyless E.coded.code g.name d.entries); leaving = λ k f vs. tt }
