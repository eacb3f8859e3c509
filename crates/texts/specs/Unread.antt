-- Messages that couldn't be read because memory ran out.
use Rattle.std.specs.Prelude.{◌≡◌, List, ℕ, Option, Some, None, Result, Ok}
use Rattle.ocppj_frame.specs.declared.fault.FrameFault.{FrameFault}
use Rattle.ocppj_frame.specs.Tree.{Tree}
use Rattle.ocppj_frame.specs.Message.{Message, call}

-- the message is a CALL of this id
pub record IsCallOf (message : Result Message FrameFault) (id : List ℕ) : Type 0 where
  pub action : List ℕ
  pub payload : Tree
  pub is : message ≡ Ok (call id action payload)

-- an id, if it is known, is that of the CALL
abbrev pub IsIdIn : Result Message FrameFault → Option (List ℕ) → Type 0
IsIdIn message None = Unit {0}
IsIdIn message (Some id) = IsCallOf message id
