-- A message that the central system receives.
use Rattle.std.specs.Prelude.{ℕ, List}
use Rattle.messages.specs.declared.side.Side.{Side}

pub record Sent : Type 0 where
  -- its moment
  pub moment : ℕ
  -- the sender's side
  pub sender : Side
  -- the identity of the point that sends it, or that an operator's message is for
  pub point : List ℕ
  -- the frame
  pub frame : List ℕ

abbrev pub sent : ℕ → Side → List ℕ → List ℕ → Sent
sent moment sender point frame =
    record { moment = moment; sender = sender; point = point; frame = frame }
