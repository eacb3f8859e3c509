-- The search of the remaining actions gives that of all, since no earlier one has the name.
use Rattle.std.proofs.Common.{◌≡◌, drop}
use Rattle.messages.specs.ActionKind.{kind_in}
use Rattle.messages.proofs.action_kind.kind_in.Given as goal

abbrev pub invariant-loop-kind : goal.invariant-loop-kind
invariant-loop-kind l = kind_in (drop l.kind-index l.kinds) l.text ≡ kind_in l.kinds l.text
