-- Whether the value of a marked text has a tree. For private clauses.
use Rattle.std.specs.Prelude.{ℕ, List, Bool, Option}
use Rattle.std.specs.Borrow.{Bor}
use Rattle.std.specs.BTreeSet.{BTreeSet, contains_by}
use Rattle.std.specs.Cmp.Lexicographic.{slice_cmp}
use Rattle.std.specs.Ordering.{nat_cmp}
use Rattle.serde_json.specs.Read.{read}
use Rattle.ocpp_scalars.specs.OptionSteps.{◌>>=◌}
use Rattle.ocppj_frame.specs.Read.{tree_of}
use Rattle.ocppj_frame.specs.Tree.{Tree}

-- the tree of a marked text
abbrev pub marked_tree : List ℕ → Option Tree
marked_tree marked = do
  value ← read marked
  tree_of value

-- whether the key is one of the set
abbrev pub has_key : List ℕ → BTreeSet (Bor (List ℕ)) → Bool
has_key key keys = contains_by (λ other. slice_cmp nat_cmp key other.now) keys
