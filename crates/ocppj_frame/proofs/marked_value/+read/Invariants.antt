use Rattle.std.proofs.Common.{◌≡◌, ℕ, ◌+◌, ◌*◌, ◌≤◌, length}
use Rattle.json.specs.Json.{items, members, value, parse_map}
use Rattle.serde_json.specs.Data.{no_members}
use Rattle.serde_json.specs.Read.{of_items, of_members, converted}
use Rattle.ocppj_frame.specs.ByCases.Tokens.{HaveNoNumber}
use Rattle.ocppj_frame.specs.View.{members_view}
use Rattle.ocppj_frame.proofs.Reading.{items_before}
use Rattle.ocppj_frame.proofs.marked_value.+read.Given as goal

abbrev pub decreases-read_value : goal.decreases-read_value
decreases-read_value l = 2 * l.depth

abbrev pub decreases-read_array : goal.decreases-read_array
decreases-read_array l = 2 * l.depth + 1

abbrev pub decreases-read_object : goal.decreases-read_object
decreases-read_object l = 2 * l.depth + 1

-- the items read so far come before the remaining ones
abbrev pub invariant-read_array-items : goal.invariant-read_array-items
invariant-read_array-items l =
    (n : ℕ) × (length l.reader ≤ n)
    × (converted of_items (items (value l.depth) (length l.initial.reader) l.initial.reader)
    ≡ parse_map (items_before l.found.items) (converted of_items (items (value l.depth) n l.reader)))
    × (length l.reader ≤ length l.initial.reader)
    × HaveNoNumber l.reader

abbrev pub decreases-read_array-items : goal.decreases-read_array-items
decreases-read_array-items l = length l.reader

-- the members read so far have been inserted into the object
abbrev pub invariant-read_object-members : goal.invariant-read_object-members
invariant-read_object-members l =
    (n : ℕ) × (length l.reader ≤ n)
    × (converted (λ ms. of_members ms no_members) (members (value l.depth) (length l.initial.reader) l.initial.reader)
    ≡ converted (λ ms. of_members ms (members_view l.found.entries)) (members (value l.depth) n l.reader))
    × (length l.reader ≤ length l.initial.reader)
    × HaveNoNumber l.reader

abbrev pub decreases-read_object-members : goal.decreases-read_object-members
decreases-read_object-members l = length l.reader
