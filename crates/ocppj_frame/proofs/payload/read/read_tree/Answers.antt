-- A marked text has no numbers.
use Rattle.std.proofs.Common.{sym, subst}
use Rattle.json.specs.Lex.{tokens}
use Rattle.ocppj_frame.specs.ByCases.Tokens.{HaveNoNumber}
use Rattle.ocppj_frame.proofs.NoNumbers.{marked_text_has_no_number}
use Rattle.ocppj_frame.proofs.payload.read.read_tree.Goals as goal

pub read_marked-requires : goal.read_marked-requires
read_marked-requires c =
    subst (λ bytes. HaveNoNumber (tokens bytes)) (sym c.in_ok-marked.ensures) (marked_text_has_no_number c.args.text.now)
