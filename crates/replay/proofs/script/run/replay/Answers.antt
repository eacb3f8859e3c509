-- If the script isn't read, nothing is written.
use Rattle.replay.specs.Run.{output_of}
use Rattle.replay.proofs.OutputLemmas.{nothing_written}
use Rattle.replay.proofs.script.run.replay.Goals as goal

pub returns-in_err-script-clause-prefix : goal.returns-in_err-script-clause-prefix
returns-in_err-script-clause-prefix g c =
    nothing_written (g.R.Read.remaining c.args.reader.now) (g.W.Write.contents c.args.writer.now) (output_of c.args.site)
