-- A marked text has no numbers, and the site of its tree is that of the text.
use Rattle.std.proofs.Common.{◌≡◌, true, false, is_some, sym, subst, arith}
use Rattle.json.specs.Lex.{tokens}
use Rattle.ocppj_frame.specs.ByCases.Tokens.{HaveNoNumber}
use Rattle.ocppj_frame.proofs.NoNumbers.{marked_text_has_no_number}
use Rattle.site_rules.specs.ByCases.HasTree.{marked_tree}
use Rattle.site_rules.proofs.MendedTrees.{no_site, site_is}
use Rattle.site_rules.proofs.reading.whole.read_parts.Goals as goal

pub has_tree-requires : goal.has_tree-requires
has_tree-requires c =
    subst (λ bytes. HaveNoNumber (tokens bytes)) (sym c.in_ok-marked.ensures) (marked_text_has_no_number c.args.text.now)

pub returns-then-not-branch : goal.returns-then-not-branch
returns-then-not-branch c =
    let none : false ≡ is_some (marked_tree c.in_ok-marked.marked.now) = grind arith in
    no_site c.args.text.now c.in_ok-marked.marked.now c.in_ok-marked.ensures none

pub returns : goal.returns
returns c =
    let has : true ≡ is_some (marked_tree c.in_ok-marked.marked.now) = grind arith in
    site_is c.args.text.now c.in_ok-marked.marked.now c.read_marked.result c.in_ok-marked.ensures has c.read_marked.ensures
