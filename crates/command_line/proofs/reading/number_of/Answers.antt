use Rattle.std.specs.Str.Parse.{ParsesUnsigned, ExplainsUnsignedError, HasUnsignedDigitsIfOk}
use Rattle.clap.specs.Words.{found_of, one_of, one_text, rows_of}
use Rattle.clap.proofs.WalkLemmas.{one_text-rows}
use Rattle.command_line.proofs.CommandLineLemmas.{number_read}
use Rattle.command_line.proofs.reading.number_of.Goals as goal

pub returns : goal.returns
returns c =
    number_read (λ bs r. ParsesUnsigned 64 10 bs r × ExplainsUnsignedError 10 bs r × HasUnsignedDigitsIfOk bs r) (λ t r read. read.0)
    (one_text (found_of c.args.given.now) c.args.option.now) (one_of c.args.option.now (rows_of (found_of c.args.given.now)))
    c.get_one.result (one_text-rows (found_of c.args.given.now) c.args.option.now) c.get_one.ensures.none c.get_one.ensures.value
