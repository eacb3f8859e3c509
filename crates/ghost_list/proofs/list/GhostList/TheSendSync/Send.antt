-- The resources that a ghost list owns name no thread.
use base.Fraction.{full_share}
use denote.RattleType.{RattleType}
use denote.Param.Send.{IsSend}
use Rattle.ghost_list.specs.declared.name.ListName.{Ghosts}
use Rattle.ghost_list.specs.contracts.list.GhostList.{the_row}
use Rattle.ghost_list.proofs.Tokens.{held_keyless}

pub send : (E J : RattleType) (g : Ghosts J.Denot) → IsSend (the_row E J g)
send E J g = record { owned = λ d vs. ((λ vss. (tt, ((λ uss. (tt, tt)), tt))), held_keyless E.coded.code g.name d.entries full_share); leaving = λ k f vs. tt }
