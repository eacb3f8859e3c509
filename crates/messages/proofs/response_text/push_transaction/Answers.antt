-- Added for the prover: the pieces make one object, and the number is a whole number of 32 bits.
use Rattle.std.specs.String.{string_bytes}
use Rattle.std.proofs.Common.{codes}
use Rattle.std.proofs.lemmas.Int.{to_z-of_z}
use mir.Syntax.{w32}
use Rattle.messages.specs.ObjectText.{fields_text, object_text}
use Rattle.messages.specs.ResponseText.{start_transaction_text}
use Rattle.messages.proofs.TextPieces.{one_value, begun, goes_on, stayed, ends_early}
use Rattle.messages.proofs.response_text.push_transaction.Goals as goal

pub returns : goal.returns
unfolding fields_text object_text start_transaction_text
returns c =
    one_value _ (codes "{\"idTagInfo\":{\"status\":\"Accepted\"},\"transactionId\":") _ (codes "}")
    _ _ _
    c.in_ok-push_str.ensures.bytes
    (rw (to_z-of_z w32 c.args.transaction c.ranges.transaction) at c.in_ok-push_integer.ensures)
    c.in_ok-push_str-2.ensures.bytes

-- an append that fails leaves those before it

pub returns-in_err-push_integer : goal.returns-in_err-push_integer
returns-in_err-push_integer c =
    ends_early _ (string_bytes c.args.out.now) _ _ (start_transaction_text c.args.transaction) c.from_residual-in_err-push_integer.ensures.0
    (begun _ _ _ c.in_ok-push_str.ensures.bytes)
    c.in_err-push_integer.ensures

pub returns-in_err-push_str-2 : goal.returns-in_err-push_str-2
returns-in_err-push_str-2 c =
    ends_early _ (string_bytes c.args.out.now) _ _ (start_transaction_text c.args.transaction) c.from_residual-in_err-push_str-2.ensures.0
    (goes_on _ _ _ _ (begun _ _ _ c.in_ok-push_str.ensures.bytes) c.in_ok-push_integer.ensures)
    (stayed _ _ c.in_err-push_str-2.ensures.bytes)
