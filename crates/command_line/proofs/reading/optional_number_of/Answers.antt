-- The number that clap reads is that of the option's text.
use Rattle.std.specs.Str.Parse.{ParsesUnsigned, ExplainsUnsignedError, HasUnsignedDigitsIfOk}
use Rattle.std.proofs.Common.{◌∙◌}
use Rattle.clap.specs.Words.{found_of, one_of, one_text, rows_of}
use Rattle.clap.proofs.WalkLemmas.{one_text-rows}
use Rattle.command_line.proofs.CommandLineLemmas.{number_read, number_given}
use Rattle.command_line.proofs.reading.optional_number_of.Goals as goal

pub returns : goal.returns
returns c =
    let found = found_of c.args.given.now in
    let rows = one_text-rows found c.args.option.now in
    record {
      value = number_read (λ bs r. ParsesUnsigned 64 10 bs r × ExplainsUnsignedError 10 bs r × HasUnsignedDigitsIfOk bs r) (λ t r read. read.0)
          (one_text found c.args.option.now) (one_of c.args.option.now (rows_of found))
          c.get_one.result rows c.get_one.ensures.none c.get_one.ensures.value;
      given = number_given (λ bs r. ParsesUnsigned 64 10 bs r × ExplainsUnsignedError 10 bs r × HasUnsignedDigitsIfOk bs r) (λ t r read. read.0)
          (one_text found c.args.option.now) (one_of c.args.option.now (rows_of found))
          c.get_one.result rows c.get_one.ensures.value;
      absent = λ none. c.get_one.ensures.none (rows ∙ none);
    }
