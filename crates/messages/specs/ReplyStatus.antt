-- Whether a call is done, by the status of its reply (chapter 7).
use Rattle.std.specs.Prelude.{Bool, true, false}
use Rattle.messages.specs.declared.action_kind.ActionKind.{ActionKind}
use Rattle.messages.specs.declared.action_kind.ActionKind.TheVariants.{ClearChargingProfile}
use Rattle.messages.specs.declared.reply_status.ReplyStatus.{ReplyStatus}
use Rattle.messages.specs.declared.reply_status.ReplyStatus.TheVariants.{Accepted, Unknown}

-- The call is done if the point accepted it, or had no profile to clear.
abbrev pub is_done : ReplyStatus → ActionKind → Bool
is_done Accepted _ = true
is_done Unknown ClearChargingProfile = true
is_done _ _ = false
