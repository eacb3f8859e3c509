-- The key is in the set exactly if its last member has no tree.
use Rattle.std.proofs.Common.{◌≡◌, Bool, true, false, cond, not, ◌&&◌, is_some, sym, ap, ◌∙◌, arith}
use Rattle.std.specs.Str.{bytes_eq}
use Rattle.ocppj_frame.specs.Read.{name_of_key}
use Rattle.site_rules.specs.ByCases.HasTree.{has_key}
use Rattle.site_rules.proofs.BrokenMembers.{noted}
use Rattle.site_rules.proofs.MarkedTrees.{some-mapped}
use Rattle.site_rules.proofs.reading.trees.update_key.Goals as goal

pub returns-then-has-is_text : goal.returns-then-has-is_text
returns-then-has-is_text c = λ other.
    let is_text : is_some c.after_mark.result ≡ is_some (name_of_key c.args.key.now) = some-mapped _ c.after_mark.result ∙ ap is_some c.after_mark.ensures in
    let good : (c.args.has && is_some (name_of_key c.args.key.now)) ≡ true = grind (arith, is_text) in
    noted c.args.broken.now c.remove.new.self c.args.key false c.remove.ensures.updates other
    ∙ ap (λ (b : Bool). cond (bytes_eq c.args.key.now other) (not b) (has_key other c.args.broken.now)) (sym good)

pub returns-in_ok-insert : goal.returns-in_ok-insert
returns-in_ok-insert c = λ other.
    let is_text : is_some c.after_mark.result ≡ is_some (name_of_key c.args.key.now) = some-mapped _ c.after_mark.result ∙ ap is_some c.after_mark.ensures in
    let bad : (c.args.has && is_some (name_of_key c.args.key.now)) ≡ false = grind (arith, is_text) in
    noted c.args.broken.now c.insert.new.self c.args.key true c.in_ok-insert.ensures.updates other
    ∙ ap (λ (b : Bool). cond (bytes_eq c.args.key.now other) (not b) (has_key other c.args.broken.now)) (sym bad)
