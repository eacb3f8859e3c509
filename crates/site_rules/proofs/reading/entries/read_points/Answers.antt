-- The list of points by its first token.
use Rattle.std.proofs.Common.{◌≡◌, ◌∷◌, arith}
use Rattle.json.specs.Reads.{token_of}
use Rattle.json.specs.Token.{Token}
use Rattle.ocppj_frame.specs.Tree.{list}
use Rattle.site_rules.proofs.TokenTrees.{list_opened}
use Rattle.site_rules.proofs.reading.entries.read_points.Goals as goal

pub returns-in_ok-points-in-BeginArray-clause-points : goal.returns-in_ok-points-in-BeginArray-clause-points
returns-in_ok-points-in-BeginArray-clause-points c =
    let read = c.in_ok-points-in-BeginArray.ensures.points in
    let is : c.args.reader.now ≡ token_of c.in_ok-token.token ∷ c.next.new.self = grind arith in
    let opens : c.args.reader.now ≡ Token.begin_array ∷ c.next.new.self = grind (arith, is) in
    (list read.0, list_opened c.args.depth c.args.reader.now c.next.new.self c.read_entries.new.reader read.0 (omega arith) opens read.1, read.2)
