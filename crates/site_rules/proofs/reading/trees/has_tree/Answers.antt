-- A text has a tree if its value has one and nothing follows.
use Rattle.std.proofs.Common.{◌≡◌, Some, None, sym, ap, ◌∙◌, arith}
use Rattle.json.specs.Json.{value}
use Rattle.json.specs.Lex.{tokens}
use Rattle.serde_json.specs.Read.{converted, of_json, max_depth}
use Rattle.site_rules.proofs.MarkedTrees.{has_by, not_read}
use Rattle.site_rules.proofs.reading.trees.has_tree.Goals as goal

pub returns-in-Ok : goal.returns-in-Ok
returns-in-Ok c =
    let tree = c.in-Ok.ensures.tree in
    let here : converted of_json (value max_depth (tokens c.args.marked.now)) ≡ Some (tree.0, c.value_has_tree.new.reader) =
    ap (λ ts. converted of_json (value max_depth ts)) (sym c.in_ok-reader.ensures.ok) ∙ tree.1 in
    has_by c.next.result c.is_none.result c.in-Ok.has tree.0 c.value_has_tree.new.reader c.next.new.self c.args.marked.now here tree.2 c.next.ensures.value c.is_none.ensures

pub returns-in-Err-Unsure : goal.returns-in-Err-Unsure
returns-in-Err-Unsure c =
    let none : converted of_json (value max_depth (tokens c.args.marked.now)) ≡ None =
    ap (λ ts. converted of_json (value max_depth ts)) (sym c.in_ok-reader.ensures.ok) ∙ c.value_has_tree.ensures.refused (grind arith) in
    sym (not_read c.args.marked.now none)
