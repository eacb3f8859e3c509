-- The bytes before a failed read were taken too.
use Rattle.std.proofs.Common.{◌++◌, arith, length-append}
use Rattle.std.proofs.KnownBytes.{Consumes-trans}
use Rattle.std.proofs.lemmas.Grind.{common_steps}
use Rattle.replay.proofs.script.input.read_all.Goals as goal

pub returns-in-Err-clause-most : goal.returns-in-Err-clause-most
returns-in-Err-clause-most g c =
    (c.loop-bytes.bytes.items ++ c.in-Err.ensures.taken.0, Consumes-trans _ _ _ _ _ c.loop-bytes.invariant.taken c.in-Err.ensures.taken.1, grind (arith, common_steps, length-append c.loop-bytes.bytes.items c.in-Err.ensures.taken.0, c.in-Err.ensures.taken.2))
