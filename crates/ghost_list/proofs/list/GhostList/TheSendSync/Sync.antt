-- The resources that a `&` to a ghost list holds name no thread.
use denote.RattleType.{RattleType}
use denote.Param.Send.{IsSync, sendable}
use denote.Struct.Struct.{Struct}
use denote.Struct.Owning.{shape}
use Rattle.ghost_list.specs.declared.name.ListName.{Ghosts}
use Rattle.ghost_list.specs.contracts.list.GhostList.{the_row, the_type}
use Rattle.ghost_list.proofs.Tokens.{held_keyless}

pub sync : (E J : RattleType) (g : Ghosts J.Denot) → IsSync (the_row E J g)
sync E J g = let fields : IsSync (Struct (shape (the_type E J g))) = search sendable depth 20 in
    record { shared = λ d b o ν. (fields.shared (tt, tt) b o ν, λ q. held_keyless E.coded.code g.name d.entries q) }
