-- The order in which a point obeys the calls that are sent to it, whatever sendings are lost.
use Rattle.std.specs.Prelude.{ℕ, Bool, true, false, List, [], ◌∷◌}
use Rattle.std.specs.List.{AllByRecursion, Contains}
use Rattle.messages.specs.declared.call.Call.{Call}
use Rattle.site_core.specs.Outbox.{opening_outbox, Traffic}
use Rattle.site_core.specs.OutboxOrder.{AreInSendingOrder, numbers_sent, calls_confirmed}

-- the numbers of the sendings that are obeyed, given for each sending in turn whether it is; a lost
-- one isn't
abbrev pub obeyed_numbers : List Bool → List ℕ → List ℕ
obeyed_numbers [] sent = []
obeyed_numbers (is_obeyed ∷ later) [] = []
obeyed_numbers (true ∷ later) (number ∷ sent) = number ∷ obeyed_numbers later sent
obeyed_numbers (false ∷ later) (number ∷ sent) = obeyed_numbers later sent

-- whether a call is obeyed in one of its sendings
abbrev pub IsObeyed : List ℕ → Call → Type 0
IsObeyed obeyed call = Contains obeyed call.number

-- the numbers of the sendings that are obeyed, along the traffic of an outbox
abbrev pub numbers_obeyed : List Traffic → List Bool → List ℕ
numbers_obeyed traffic are_obeyed = obeyed_numbers are_obeyed (numbers_sent opening_outbox traffic)

-- If a point obeys calls in the order of their sendings, and each confirmed one at least once, it
-- obeys them in sending order: it leaves none out, and goes back to none.
abbrev pub AreObeyedInOrder : Type 0
AreObeyedInOrder =
    (traffic : List Traffic) (are_obeyed : List Bool)
    → AllByRecursion (IsObeyed (numbers_obeyed traffic are_obeyed))
    (calls_confirmed opening_outbox traffic)
    → AreInSendingOrder (numbers_obeyed traffic are_obeyed)
