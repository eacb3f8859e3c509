-- The text that a flag is read from is that of its option.
use Rattle.std.proofs.Common.{◌∙◌}
use Rattle.clap.specs.Words.{found_of}
use Rattle.clap.proofs.WalkLemmas.{one_text-rows}
use Rattle.command_line.proofs.reading.is_given.Goals as goal

pub returns : goal.returns
returns c =
    let rows = one_text-rows (found_of c.args.given.now) c.args.option.now in
    record {
      given = λ is. c.get_flag.ensures.value (rows ∙ is);
      default = λ is. c.get_flag.ensures.other (rows ∙ is);
      absent = λ none. c.get_flag.ensures.none (rows ∙ none);
    }
