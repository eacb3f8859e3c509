-- The law holds by an invariant: what is true of each lasting row and its delivery.
use Rattle.std.proofs.Common.{◌≡◌, ℕ, ℤ, zero, suc, ◌+◌, ◌-◌, ◌<◌, ◌≤◌, ◌==◌, Bool, true, false, not, ◌&&◌, ◌||◌, ◌⊎◌, inl, inr, cond, List, [], ◌∷◌, ◌++◌, filter, map, drop, length, max, nat_le, nat_lt, Option, None, Some, refl, sym, ap, ◌∙◌, subst, arith, length-append}
use Rattle.std.specs.Prelude.{option_and_then, slice_get}
use Rattle.std.specs.List.{position, cons_option}
use Rattle.std.specs.Ordering.{int_eq}
use Rattle.std.proofs.lemmas.Bool.{eqb-true, eqb-false, ltb-false}
use Rattle.std.proofs.Math.Nat.{le-max_left}
use Rattle.std.proofs.lemmas.Bool.Decides.{Decides-int_eq}
use Rattle.std.proofs.lemmas.List.Quantifiers.{position-Some}
use Rattle.std.proofs.lemmas.Option.{get_or_from_slice_get}
use Rattle.profile.specs.declared.charging_profile.Profile.{Profile}
use Rattle.profile.specs.declared.row.Row.{Row}
use Rattle.profile.specs.Purpose.{is_tx}
use Rattle.profile.specs.Changes.{installed, cleared, without_transaction_profiles, has_id_of, has_key_of, is_replaced_by, rows_beside, matches}
use Rattle.messages.specs.declared.call.Call.{Call}
use Rattle.messages.specs.declared.call.CallBody.{CallBody}
use Rattle.messages.specs.declared.call.CallBody.TheVariants.{Set, Clear, Audit, RemoteStart}
use Rattle.site_core.specs.declared.deliveries.Delivery.{Delivery}
use Rattle.site_core.specs.declared.deliveries.ProfileState.TheVariants.{Held, Sent, Unsure, Rejected}
use Rattle.site_core.specs.Delivery.{is_delivery_of, is_among, is_replaced, remains_beside, with_delivery, rejected_by, delivery_of, deliveries_after_reply, lost_after_audit, lost_by_verdict, profile_state_by}
use Rattle.site_core.specs.Outbox.{is_unconfirmed, is_number_of_first, is_number_in_flight, confirmed, numbered, clear_all}
use Rattle.site_core.specs.ChargePoint.{ChargePointState, Deed, Installs, Clears, Starts, Stops, Attaches, Loses, Sends, Confirms, Audits, Judges, RemoteStarts, Boots, opening_point, point_after, point_with, rows_by_call, brought_at_start}
use Rattle.site_core.specs.WaitingStart.{ended_start}
use Rattle.site_core.specs.declared.waiting_starts.WaitingStart.{WaitingStart}
use Rattle.site_rules.specs.Site.{PointEntry, SiteState}
use Rattle.site_core.specs.declared.numbers.Numbers.{Numbers}
use Rattle.site_core.specs.State.{AreNumbers, IsMachine, no_point, point_at, point_in, opening_at, connectors_in_book, connectors_in_file}
use Rattle.site_core.specs.History.{Event}
use Rattle.site_core.specs.CallOrder.{PointsFollowHistories, deed_by, deeds_from, events_at, opening_at_place, point_by, point_by_all}
use Rattle.stacking.specs.Limits.{max_rows}
use Rattle.stacking.specs.Rows.{rows_begun, transaction_row}
use Rattle.site_core.specs.Outbox.{OutboxState, sendable, sent, sent_by}
use Rattle.site_core.specs.Audit.{AuditState, judged_audit, settled}
use Rattle.site_core.specs.Equal.{same_transactions}
use Rattle.transactions.specs.declared.transaction.Transaction.{Transaction}
use Rattle.sweep_compiler.specs.declared.verdict.Verdict.{Verdict}
use Rattle.sweep_compiler.specs.declared.verdict.Verdict.TheVariants as verdicts
use Rattle.held_law.specs.Held.{IsAmong, lasts, OwnState, BothStates, HasHeldProfiles, MachinesKnowWhatIsHeld, with_any, deeds_in, Move, Does, Obeys, ChangesTransactions, HasProfile, HasNewId, IsHonest, AreHonest, HeldProfilesAreHad, Restarts, opening, moved, moved_all, obeyed_first}

-- ---- tests

or_false : (a b : Bool) → (a || b) ≡ false → (a ≡ false) × (b ≡ false)
or_false false b none = (refl, none)
or_false true b none = absurd (cc none)

both_false : (a b : Bool) → a ≡ false → b ≡ false → (a || b) ≡ false
both_false false b none other = other
both_false true b none other = none

and_true : (a b : Bool) → (a && b) ≡ true → (a ≡ true) × (b ≡ true)
and_true true b all = (refl, all)
and_true false b all = absurd (cc all)

not_true : (a : Bool) → not a ≡ true → a ≡ false
not_true false is = refl
not_true true is = absurd (cc is)

-- ---- lists

among_append : {X : Type 0} (xs ys : List X) (x : X) → IsAmong x (xs ++ ys)
    → IsAmong x xs ⊎ IsAmong x ys
among_append [] ys x is = inr is
among_append (y ∷ xs) ys x (inl same) = inl (inl same)
among_append {X = X} (y ∷ xs) ys x (inr is) = by (among_append xs ys x is)
  where
    by : IsAmong x xs ⊎ IsAmong x ys → IsAmong x (y ∷ xs) ⊎ IsAmong x ys
    by (inl here) = inl (inr here)
    by (inr there) = inr there

left_among : {X : Type 0} (xs ys : List X) (x : X) → IsAmong x xs → IsAmong x (xs ++ ys)
left_among [] ys x is = absurd is
left_among (y ∷ xs) ys x (inl same) = inl same
left_among (y ∷ xs) ys x (inr is) = inr (left_among xs ys x is)

last_among : {X : Type 0} (xs : List X) (x : X) → IsAmong x (xs ++ x ∷ [])
last_among [] x = inl refl
last_among (y ∷ xs) x = inr (last_among xs x)

-- what is true of each element and of a new one is true of all together
for_append : {X : Type 0} (P : X → Type 0) (xs : List X) (new : X)
    → ((x : X) → IsAmong x xs → P x) → P new
    → (x : X) → IsAmong x (xs ++ new ∷ []) → P x
for_append {X = X} P xs new each last x is = by (among_append xs (new ∷ []) x is)
  where
    by : IsAmong x xs ⊎ IsAmong x (new ∷ []) → P x
    by (inl there) = each x there
    by (inr (inl same)) = subst P same last
    by (inr (inr none)) = absurd none

filter_kept : {X : Type 0} (test : X → Bool) (x : X) (xs : List X) → test x ≡ true
    → filter test (x ∷ xs) ≡ x ∷ filter test xs
filter_kept test x xs is = rw is refl

filter_gone : {X : Type 0} (test : X → Bool) (x : X) (xs : List X) → test x ≡ false
    → filter test (x ∷ xs) ≡ filter test xs
filter_gone test x xs is = rw is refl

filtered : {X : Type 0} (test : X → Bool) (xs : List X) (x : X) → IsAmong x (filter test xs)
    → IsAmong x xs × (test x ≡ true)
filtered test [] x is = absurd is
filtered {X = X} test (y ∷ xs) x is = go (test y) refl (filtered test xs x)
  where
    later : IsAmong x xs × (test x ≡ true) → IsAmong x (y ∷ xs) × (test x ≡ true)
    later found = (inr found.0, found.1)

    here : test y ≡ true → (IsAmong x (filter test xs) → IsAmong x xs × (test x ≡ true))
        → IsAmong x (y ∷ filter test xs) → IsAmong x (y ∷ xs) × (test x ≡ true)
    here passes rest (inl same) = (inl same, subst (λ (z : X). test z ≡ true) same passes)
    here passes rest (inr there) = later (rest there)

    go : (b : Bool) → test y ≡ b
        → (IsAmong x (filter test xs) → IsAmong x xs × (test x ≡ true))
        → IsAmong x (y ∷ xs) × (test x ≡ true)
    go true passes rest = here passes rest
        (subst (λ (zs : List X). IsAmong x zs) (filter_kept test y xs passes) is)
    go false fails rest =
        later (rest (subst (λ (zs : List X). IsAmong x zs) (filter_gone test y xs fails) is))

passes_among : {X : Type 0} (test : X → Bool) (xs : List X) (x : X) → IsAmong x xs
    → test x ≡ true → IsAmong x (filter test xs)
passes_among test [] x is passes = absurd is
passes_among {X = X} test (y ∷ xs) x (inl same) passes =
    let first : test y ≡ true = subst (λ (z : X). test z ≡ true) (sym same) passes in
    subst (λ (zs : List X). IsAmong x zs) (sym (filter_kept test y xs first)) (inl same)
passes_among {X = X} test (y ∷ xs) x (inr is) passes =
    go (test y) refl (passes_among test xs x is passes)
  where
    go : (b : Bool) → test y ≡ b → IsAmong x (filter test xs) → IsAmong x (filter test (y ∷ xs))
    go true stays rest =
        subst (λ (zs : List X). IsAmong x zs) (sym (filter_kept test y xs stays)) (inr rest)
    go false goes rest =
        subst (λ (zs : List X). IsAmong x zs) (sym (filter_gone test y xs goes)) rest

mapped : {X Y : Type 0} (f : X → Y) (xs : List X) (y : Y) → IsAmong y (map f xs)
    → (x : X) × IsAmong x xs × (f x ≡ y)
mapped f [] y is = absurd is
mapped f (x ∷ xs) y (inl same) = (x, inl refl, same)
mapped f (x ∷ xs) y (inr is) =
    let rest = mapped f xs y is in
    (rest.0, inr rest.1, rest.2)

among_at : {X : Type 0} (xs : List X) (i : ℕ) (x : X) → slice_get xs i ≡ Some x → IsAmong x xs
among_at [] i x is = absurd (cc is)
among_at (y ∷ xs) zero x is = inl cc
among_at (y ∷ xs) (suc i) x is = inr (among_at xs i x is)

-- ---- calls

unconfirmed_before : (calls : List Call) (new : Call) (number : ℕ)
    → is_unconfirmed (calls ++ new ∷ []) number ≡ false → is_unconfirmed calls number ≡ false
unconfirmed_before [] new number none = refl
unconfirmed_before (call ∷ calls) new number none =
    let both = or_false (call.number == number) (is_unconfirmed (calls ++ new ∷ []) number) none in
    both_false (call.number == number) (is_unconfirmed calls number) both.0
    (unconfirmed_before calls new number both.1)

last_unconfirmed : (calls : List Call) (new : Call)
    → is_unconfirmed (calls ++ new ∷ []) new.number ≡ false → ⊥
last_unconfirmed [] new none =
    eqb-false new.number new.number (or_false (new.number == new.number) false none).0 refl
last_unconfirmed (call ∷ calls) new none = last_unconfirmed calls new
    (or_false (call.number == new.number) (is_unconfirmed (calls ++ new ∷ []) new.number) none).1

abbrev AllBelow : ℕ → List Call → Type 0
AllBelow next calls = (call : Call) → IsAmong call calls → call.number < next

abbrev AllAbove : ℕ → List Call → Type 0
AllAbove number calls = (call : Call) → IsAmong call calls → number < call.number

abbrev Rising : List Call → Type 0
Rising [] = Unit {0}
Rising (call ∷ later) = AllAbove call.number later × Rising later

rising_append : (calls : List Call) (new : Call) → AllBelow new.number calls → Rising calls
    → Rising (calls ++ new ∷ [])
rising_append [] new below rising = ((λ call is. absurd is), tt)
rising_append (call ∷ calls) new below rising = (
  for_append (λ (c : Call). call.number < c.number) calls new rising.0 (below call (inl refl)),
  rising_append calls new (λ c is. below c (inr is)) rising.1,
)

-- ---- a call and a lasting row

-- the row that a call sets, except for its moment
abbrev row_of : ℕ → Profile → Row
row_of connector profile = record { connector = connector; moment = 0; profile = profile }

-- a call leaves a row, or brings its profile
abbrev Keeps : CallBody → Row → Type 0
Keeps (Set connector profile) row = is_replaced_by (row_of connector profile) row ≡ false
Keeps (Clear criteria) row = matches criteria row ≡ false
Keeps other row = Unit {0}

abbrev Brings : CallBody → Row → Type 0
Brings (Set connector profile) row = (connector ≡ row.connector) × (profile ≡ row.profile)
Brings other row = ⊥

-- a point with these rows has what a call brings, if that lasts
abbrev IsObeyed : CallBody → List Row → Type 0
IsObeyed (Set connector profile) rows =
    lasts (row_of connector profile) ≡ true → HasProfile rows (row_of connector profile)
IsObeyed other rows = Unit {0}

keeps_profile : (moment : ℕ) (body : CallBody) (rows : List Row) (row : Row) → Keeps body row
    → HasProfile rows row → HasProfile (rows_by_call moment body rows) row
keeps_profile moment (Set connector profile) rows row keeps has =
    let new : Row = record { connector = connector; moment = moment; profile = profile } in
    let stays : is_replaced_by new has.0 ≡ false =
    ap (λ (r : Row). is_replaced_by new r) has.2 ∙ keeps in (
      has.0,
      left_among (rows_beside rows new) (new ∷ []) has.0
          (passes_among (λ (r : Row). not (is_replaced_by new r)) rows has.0 has.1 (ap not stays)),
      has.2,
    )
keeps_profile moment (Clear criteria) rows row keeps has =
    let stays : matches criteria has.0 ≡ false =
    ap (λ (r : Row). matches criteria r) has.2 ∙ keeps in (
      has.0,
      passes_among (λ (r : Row). not (matches criteria r)) rows has.0 has.1 (ap not stays),
      has.2,
    )
keeps_profile moment (Audit connector duration unit) rows row keeps has = has
keeps_profile moment (RemoteStart connector id_tag profile) rows row keeps has = has

obeys_call : (moment : ℕ) (body : CallBody) (rows : List Row)
    → IsObeyed body (rows_by_call moment body rows)
obeys_call moment (Set connector profile) rows =
    let new : Row = record { connector = connector; moment = moment; profile = profile } in
    λ lasting. (new, last_among (rows_beside rows new) new, refl)
obeys_call moment (Clear criteria) rows = tt
obeys_call moment (Audit connector duration unit) rows = tt
obeys_call moment (RemoteStart connector id_tag profile) rows = tt

has_brought : (body : CallBody) (rows : List Row) (row : Row) → lasts row ≡ true
    → Brings body row → IsObeyed body rows → HasProfile rows row
has_brought (Set connector profile) rows row lasting brings obeyed =
    let has = obeyed (ap (λ (p : Profile). not (is_tx p.purpose)) brings.1 ∙ lasting) in (
      has.0,
      has.1,
      has.2 ∙ ap (λ (c : ℕ). row_of c profile) brings.0
          ∙ ap (λ (p : Profile). row_of row.connector p) brings.1,
    )
has_brought (Clear criteria) rows row lasting brings obeyed = absurd brings
has_brought (Audit connector duration unit) rows row lasting brings obeyed = absurd brings
has_brought (RemoteStart connector id_tag profile) rows row lasting brings obeyed = absurd brings

-- a point that keeps its lasting profiles keeps these
still_obeyed : (body : CallBody) (rows others : List Row)
    → ((row : Row) → lasts row ≡ true → HasProfile rows row → HasProfile others row)
    → IsObeyed body rows → IsObeyed body others
still_obeyed (Set connector profile) rows others each obeyed =
    λ lasting. each (row_of connector profile) lasting (obeyed lasting)
still_obeyed (Clear criteria) rows others each obeyed = tt
still_obeyed (Audit connector duration unit) rows others each obeyed = tt
still_obeyed (RemoteStart connector id_tag profile) rows others each obeyed = tt

-- ---- the invariant

-- the point itself, and the first call whose profile it can't have lost
record OwnSince : Type 0 where
  rows : List Row
  has_obeyed : Bool
  lost : ℕ

abbrev since : OwnState → ℕ → OwnSince
since own lost = record { rows = own.rows; has_obeyed = own.has_obeyed; lost = lost }

-- of a lasting row and its delivery, with these unconfirmed calls to a point with these rows:
record IsDelivered (calls : List Call) (next : ℕ) (own : List Row) (lost : ℕ) (row : Row)
    (delivery : Delivery) : Type 0 where
  drawn : delivery.call < next
  -- later calls leave the row
  kept : (call : Call) → IsAmong call calls → delivery.call < call.number → Keeps call.body row
  -- its own call brings it
  brings : (call : Call) → IsAmong call calls → call.number ≡ delivery.call
      → Brings call.body row
  -- if that is confirmed, all others are later
  past : is_unconfirmed calls delivery.call ≡ false → (call : Call) → IsAmong call calls
      → delivery.call < call.number
  -- and if it isn't rejected or lost, the point has the profile
  had : delivery.is_rejected ≡ false → is_unconfirmed calls delivery.call ≡ false
      → lost ≤ delivery.call → HasProfile own row

-- what the point has obeyed of the first call
abbrev HasObeyed : List Call → List Row → Type 0
HasObeyed [] rows = ⊥
HasObeyed (call ∷ later) rows = IsObeyed call.body rows

record Holds (rows : List Row) (deliveries : List Delivery) (calls : List Call) (next : ℕ)
    (own : OwnSince) : Type 0 where
  delivered : (row : Row) → IsAmong row rows → lasts row ≡ true
      → (delivery : Delivery) → IsAmong delivery deliveries → is_delivery_of row delivery ≡ true
      → IsDelivered calls next own.rows own.lost row delivery
  below : AllBelow next calls
  rising : Rising calls
  obeyed : own.has_obeyed ≡ true → HasObeyed calls own.rows

-- ---- fewer rows

fewer_rows : (rows others : List Row) (deliveries : List Delivery) (calls : List Call) (next : ℕ)
    (own : OwnSince)
    → ((row : Row) → IsAmong row others → lasts row ≡ true → IsAmong row rows)
    → Holds rows deliveries calls next own → Holds others deliveries calls next own
fewer_rows rows others deliveries calls next own fewer holds = record {
  delivered = λ row is lasting delivery given of_row.
      holds.delivered row (fewer row is lasting) lasting delivery given of_row;
  below = holds.below;
  rising = holds.rising;
  obeyed = holds.obeyed;
}

-- a delivery of a profile that no lasting row has
other_delivery : (rows others : List Row) (deliveries : List Delivery) (new : Delivery)
    (calls : List Call) (next : ℕ) (own : OwnSince)
    → ((row : Row) → IsAmong row others → lasts row ≡ true
    → IsAmong row rows × (is_delivery_of row new ≡ false))
    → Holds rows deliveries calls next own
    → Holds others (with_delivery rows deliveries new) calls next own
other_delivery rows others deliveries new calls next own fewer holds = record {
  delivered = λ row is lasting delivery given of_row.
      by row is lasting delivery of_row
      (among_append (filter (remains_beside rows new) deliveries) (new ∷ []) delivery given);
  below = holds.below;
  rising = holds.rising;
  obeyed = holds.obeyed;
}
  where
    by : (row : Row) → IsAmong row others → lasts row ≡ true → (delivery : Delivery)
        → is_delivery_of row delivery ≡ true
        → IsAmong delivery (filter (remains_beside rows new) deliveries)
        ⊎ IsAmong delivery (new ∷ [])
        → IsDelivered calls next own.rows own.lost row delivery
    by row is lasting delivery of_row (inl kept) =
        holds.delivered row (fewer row is lasting).0 lasting delivery
        (filtered (remains_beside rows new) deliveries delivery kept).0 of_row
    by row is lasting delivery of_row (inr (inl same)) =
        let not_of : is_delivery_of row delivery ≡ false =
        subst (λ (d : Delivery). is_delivery_of row d ≡ false) same
        (fewer row is lasting).1 in
        let clash : true ≡ false = sym of_row ∙ not_of in
        absurd (cc clash)
    by row is lasting delivery of_row (inr (inr none)) = absurd none

-- ---- a call is added

added_pair : (calls : List Call) (next : ℕ) (body : CallBody) (own : List Row) (lost : ℕ) (row : Row)
    (delivery : Delivery)
    → Keeps body row → IsDelivered calls next own lost row delivery
    → IsDelivered (calls ++ record { number = next; body = body } ∷ []) (next + 1) own lost row
    delivery
added_pair calls next body own lost row delivery keeps is =
    let new : Call = record { number = next; body = body } in
    record {
      drawn = let below = is.drawn in omega (arith, below);
      kept = for_append (λ (c : Call). delivery.call < c.number → Keeps c.body row) calls new
          is.kept (λ later. keeps);
      brings = for_append (λ (c : Call). c.number ≡ delivery.call → Brings c.body row) calls new
          is.brings (λ same. let below = is.drawn in absurd (omega (arith, below, same)));
      past = λ none. for_append (λ (c : Call). delivery.call < c.number) calls new
          (is.past (unconfirmed_before calls new delivery.call none)) is.drawn;
      had = λ accepted none kept. is.had accepted
          (unconfirmed_before calls new delivery.call none) kept;
    }

obeyed_before : (calls : List Call) (new : Call) (rows : List Row) → HasObeyed calls rows
    → HasObeyed (calls ++ new ∷ []) rows
obeyed_before [] new rows obeyed = absurd obeyed
obeyed_before (call ∷ calls) new rows obeyed = obeyed

added_below : (calls : List Call) (next : ℕ) (body : CallBody) → AllBelow next calls
    → AllBelow (next + 1) (calls ++ record { number = next; body = body } ∷ [])
added_below calls next body below =
    for_append (λ (c : Call). c.number < next + 1) calls (record { number = next; body = body })
    (λ c is. let one = below c is in omega (arith, one)) (omega arith)

added_call : (rows others : List Row) (deliveries : List Delivery) (calls : List Call) (next : ℕ)
    (body : CallBody) (own : OwnSince)
    → ((row : Row) → IsAmong row others → lasts row ≡ true → IsAmong row rows × Keeps body row)
    → Holds rows deliveries calls next own
    → Holds others deliveries (calls ++ record { number = next; body = body } ∷ []) (next + 1) own
added_call rows others deliveries calls next body own fewer holds = record {
  delivered = λ row is lasting delivery given of_row.
      added_pair calls next body own.rows own.lost row delivery (fewer row is lasting).1
      (holds.delivered row (fewer row is lasting).0 lasting delivery given of_row);
  below = added_below calls next body holds.below;
  rising = rising_append calls (record { number = next; body = body }) holds.below holds.rising;
  obeyed = λ has. obeyed_before calls (record { number = next; body = body }) own.rows
      (holds.obeyed has);
}

-- ---- an install

-- the new row and its delivery
new_pair : (calls : List Call) (next : ℕ) (row : Row) (own : List Row) (lost : ℕ)
    → AllBelow next calls
    → IsDelivered (calls ++ record { number = next; body = Set row.connector row.profile } ∷ [])
    (next + 1) own lost row
    (record { profile = row.profile.id; call = next; is_rejected = false })
new_pair calls next row own lost below =
    let new : Call = record { number = next; body = Set row.connector row.profile } in
    record {
      drawn = omega arith;
      kept = for_append (λ (c : Call). next < c.number → Keeps c.body row) calls new
          (λ c is later. let one = below c is in absurd (omega (arith, one, later)))
          (λ later. absurd (omega (arith, later)));
      brings = for_append (λ (c : Call). c.number ≡ next → Brings c.body row) calls new
          (λ c is same. let one = below c is in absurd (omega (arith, one, same)))
          (λ same. (refl, refl));
      past = λ none. absurd (last_unconfirmed calls new none);
      had = λ accepted none kept. absurd (last_unconfirmed calls new none);
    }

installs : (rows : List Row) (row : Row) (deliveries : List Delivery) (calls : List Call)
    (next : ℕ) (own : OwnSince)
    → Holds rows deliveries calls next own
    → Holds (installed rows row)
    (with_delivery rows deliveries
    (record { profile = row.profile.id; call = next; is_rejected = false }))
    (calls ++ record { number = next; body = Set row.connector row.profile } ∷ []) (next + 1) own
installs rows row deliveries calls next own holds =
    let body : CallBody = Set row.connector row.profile in
    record {
      delivered = λ given is lasting delivery among of_row.
          by given lasting delivery of_row (among_append (rows_beside rows row) (row ∷ []) given is)
          (among_append (filter (remains_beside rows new) deliveries) (new ∷ []) delivery among);
      below = added_below calls next body holds.below;
      rising =
          rising_append calls (record { number = next; body = body }) holds.below holds.rising;
      obeyed = λ has. obeyed_before calls (record { number = next; body = body }) own.rows
          (holds.obeyed has);
    }
  where
    new : Delivery
    new = record { profile = row.profile.id; call = next; is_rejected = false }

    by : (given : Row) → lasts given ≡ true → (delivery : Delivery)
        → is_delivery_of given delivery ≡ true
        → IsAmong given (rows_beside rows row) ⊎ IsAmong given (row ∷ [])
        → IsAmong delivery (filter (remains_beside rows new) deliveries)
        ⊎ IsAmong delivery (new ∷ [])
        → IsDelivered (calls ++ record { number = next; body = Set row.connector row.profile } ∷ [])
        (next + 1) own.rows own.lost given delivery
    by given lasting delivery of_row (inl there) (inl kept) =
        let stays = filtered (λ (r : Row). not (is_replaced_by row r)) rows given there in
        added_pair calls next (Set row.connector row.profile) own.rows own.lost given delivery
        (not_true (is_replaced_by row given) stays.1)
        (holds.delivered given stays.0 lasting delivery
        (filtered (remains_beside rows new) deliveries delivery kept).0 of_row)
    by given lasting delivery of_row (inl there) (inr (inl same)) =
        let stays = filtered (λ (r : Row). not (is_replaced_by row r)) rows given there in
        let other : has_id_of row given ≡ false =
        (or_false (has_id_of row given) (has_key_of row given)
        (not_true (is_replaced_by row given) stays.1)).0 in
        let one : has_id_of row given ≡ true =
        subst (λ (d : Delivery). is_delivery_of given d ≡ true) (sym same) of_row in
        let clash : true ≡ false = sym one ∙ other in
        absurd (cc clash)
    by given lasting delivery of_row (inr (inl same)) (inl kept) =
        let remains = filtered (remains_beside rows new) deliveries delivery kept in
        let other : is_replaced new delivery ≡ false =
        not_true (is_replaced new delivery)
        (and_true (is_among rows delivery) (not (is_replaced new delivery)) remains.1).1 in
        let one : int_eq row.profile.id delivery.profile ≡ true =
        subst (λ (r : Row). is_delivery_of r delivery ≡ true) (sym same) of_row in
        let equal = (Decides-int_eq row.profile.id delivery.profile).0 one in
        let back : is_replaced new delivery ≡ true =
        (Decides-int_eq delivery.profile row.profile.id).1 (sym equal) in
        let clash : true ≡ false = sym back ∙ other in
        absurd (cc clash)
    by given lasting delivery of_row (inr (inl same)) (inr (inl brought)) =
        subst (λ (r : Row). IsDelivered (calls ++ record {
          number = next;
          body = Set
              row.connector row.profile;
        } ∷ []) (next + 1) own.rows own.lost r delivery) same
        (subst (λ (d : Delivery). IsDelivered (calls ++ record {
          number = next;
          body = Set
              row.connector row.profile;
        } ∷ []) (next + 1) own.rows own.lost row d) brought
        (new_pair calls next row own.rows own.lost holds.below))
    by given lasting delivery of_row (inr (inr none)) brought = absurd none
    by given lasting delivery of_row there (inr (inr none)) = absurd none

-- ---- a reply

-- the first call is confirmed
confirmed_pair : (call : Call) (later : List Call) (next : ℕ) (own : List Row) (lost : ℕ) (row : Row)
    (delivery : Delivery)
    → AllAbove call.number later
    → IsDelivered (call ∷ later) next own lost row delivery
    → (delivery.is_rejected ≡ false → call.number ≡ delivery.call → lost ≤ delivery.call
    → HasProfile own row)
    → IsDelivered later next own lost row delivery
confirmed_pair call later next own lost row delivery above is came =
    record {
      drawn = is.drawn;
      kept = λ c among. is.kept c (inr among);
      brings = λ c among. is.brings c (inr among);
      past = λ none c among. past (call.number == delivery.call) refl none c among;
      had = λ accepted none kept. had (call.number == delivery.call) refl accepted none kept;
    }
  where
    past : (b : Bool) → (call.number == delivery.call) ≡ b
        → is_unconfirmed later delivery.call ≡ false → (c : Call) → IsAmong c later
        → delivery.call < c.number
    past true same none c among =
        subst (λ (n : ℕ). n < c.number) (eqb-true call.number delivery.call same)
        (above c among)
    past false other none c among = is.past
        (both_false (call.number == delivery.call) (is_unconfirmed later delivery.call) other none)
        c (inr among)

    had : (b : Bool) → (call.number == delivery.call) ≡ b → delivery.is_rejected ≡ false
        → is_unconfirmed later delivery.call ≡ false → lost ≤ delivery.call → HasProfile own row
    had true same accepted none kept =
        came accepted (eqb-true call.number delivery.call same) kept
    had false other accepted none kept = is.had accepted
        (both_false (call.number == delivery.call) (is_unconfirmed later delivery.call) other none)
        kept

rejected_pair : (calls : List Call) (next : ℕ) (own : List Row) (lost : ℕ) (row : Row)
    (delivery : Delivery)
    → IsDelivered calls next own lost row delivery
    → IsDelivered calls next own lost row (record delivery { is_rejected = true })
rejected_pair calls next own lost row delivery is = record {
  drawn = is.drawn;
  kept = is.kept;
  brings = is.brings;
  past = is.past;
  had = λ accepted none kept. absurd (cc accepted);
}

accepts_first : (rows : List Row) (deliveries : List Delivery) (call : Call) (later : List Call)
    (next : ℕ) (own : OwnSince)
    → own.has_obeyed ≡ true → Holds rows deliveries (call ∷ later) next own
    → Holds rows deliveries later next (record own { has_obeyed = false })
accepts_first rows deliveries call later next own has holds = record {
  delivered = λ row is lasting delivery given of_row.
      let pair = holds.delivered row is lasting delivery given of_row in
      confirmed_pair call later next own.rows own.lost row delivery holds.rising.0 pair
      (λ accepted same kept. has_brought call.body own.rows row lasting
      (pair.brings call (inl refl) same) (holds.obeyed has));
  below = λ c is. holds.below c (inr is);
  rising = holds.rising.1;
  obeyed = λ none. absurd (cc none);
}

same_profile : (number : ℕ) (delivery : Delivery)
    → (rejected_by number delivery).profile ≡ delivery.profile
same_profile number delivery = go (delivery.call == number)
  where
    go : (b : Bool)
        → (cond b (record delivery { is_rejected = true }) delivery).profile ≡ delivery.profile
    go true = refl
    go false = refl

-- a delivery after a rejection is of the same row
same_row : (number : ℕ) (row : Row) (was delivery : Delivery)
    → rejected_by number was ≡ delivery → is_delivery_of row delivery ≡ true
    → is_delivery_of row was ≡ true
same_row number row was delivery same of_row =
    ap (λ (p : ℤ). int_eq row.profile.id p) (sym (same_profile number was))
    ∙ ap (λ (d : Delivery). is_delivery_of row d) same ∙ of_row

rejects_first : (rows : List Row) (deliveries : List Delivery) (call : Call) (later : List Call)
    (next : ℕ) (own : OwnSince)
    → Holds rows deliveries (call ∷ later) next own
    → Holds rows (map (rejected_by call.number) deliveries) later next
    (record own { has_obeyed = false })
rejects_first rows deliveries call later next own holds = record {
  delivered = λ row is lasting delivery given of_row.
      let found = mapped (rejected_by call.number) deliveries delivery given in
      subst (λ (d : Delivery). IsDelivered later next own.rows own.lost row d) found.2
      (pair row found.0 (found.0.call == call.number) refl
      (holds.delivered row is lasting found.0 found.1
      (same_row call.number row found.0 delivery found.2 of_row)));
  below = λ c is. holds.below c (inr is);
  rising = holds.rising.1;
  obeyed = λ none. absurd (cc none);
}
  where
    pair : (row : Row) (was : Delivery) (b : Bool) → (was.call == call.number) ≡ b
        → IsDelivered (call ∷ later) next own.rows own.lost row was
        → IsDelivered later next own.rows own.lost row (cond b (record was { is_rejected = true }) was)
    pair row was true same is =
        confirmed_pair call later next own.rows own.lost row (record was { is_rejected = true })
        holds.rising.0 (rejected_pair (call ∷ later) next own.rows own.lost row was is)
        (λ accepted same kept. absurd (cc accepted))
    pair row was false other is =
        confirmed_pair call later next own.rows own.lost row was holds.rising.0 is
        (λ accepted same kept. absurd (eqb-false was.call call.number other (sym same)))

-- a reply that confirms nothing
rejects_none : (rows : List Row) (deliveries : List Delivery) (calls : List Call) (next : ℕ)
    (own : OwnSince) (number : ℕ)
    → Holds rows deliveries calls next own
    → Holds rows (map (rejected_by number) deliveries) calls next own
rejects_none rows deliveries calls next own number holds = record {
  delivered = λ row is lasting delivery given of_row.
      let found = mapped (rejected_by number) deliveries delivery given in
      subst (λ (d : Delivery). IsDelivered calls next own.rows own.lost row d) found.2
      (pair row found.0 (found.0.call == number)
      (holds.delivered row is lasting found.0 found.1
      (same_row number row found.0 delivery found.2 of_row)));
  below = holds.below;
  rising = holds.rising;
  obeyed = holds.obeyed;
}
  where
    pair : (row : Row) (was : Delivery) (b : Bool)
        → IsDelivered calls next own.rows own.lost row was
        → IsDelivered calls next own.rows own.lost row (cond b (record was { is_rejected = true }) was)
    pair row was true is = rejected_pair calls next own.rows own.lost row was is
    pair row was false is = is

-- ---- the point's own moves

-- a point that keeps its lasting profiles
own_changes : (rows : List Row) (deliveries : List Delivery) (calls : List Call) (next : ℕ)
    (own : OwnSince) (others : List Row)
    → ((row : Row) → IsAmong row own.rows → lasts row ≡ true → IsAmong row others)
    → Holds rows deliveries calls next own
    → Holds rows deliveries calls next (record own { rows = others })
own_changes rows deliveries calls next own others stays holds = record {
  delivered = λ row is lasting delivery given of_row.
      let pair = holds.delivered row is lasting delivery given of_row in
      record {
        drawn = pair.drawn;
        kept = pair.kept;
        brings = pair.brings;
        past = pair.past;
        had = λ accepted none kept. each row lasting (pair.had accepted none kept);
      };
  below = holds.below;
  rising = holds.rising;
  obeyed = λ has. first calls (holds.obeyed has);
}
  where
    each : (row : Row) → lasts row ≡ true → HasProfile own.rows row → HasProfile others row
    each row lasting has =
        (has.0, stays has.0 has.1 (ap (λ (r : Row). lasts r) has.2 ∙ lasting), has.2)

    first : (calls : List Call) → HasObeyed calls own.rows → HasObeyed calls others
    first [] obeyed = absurd obeyed
    first (call ∷ later) obeyed = still_obeyed call.body own.rows others each obeyed

abbrev obeyed_since : ℕ → List Call → OwnSince → OwnSince
obeyed_since moment [] own = own
obeyed_since moment (call ∷ later) own =
    record own { rows = rows_by_call moment call.body own.rows; has_obeyed = true }

obeys : (rows : List Row) (deliveries : List Delivery) (calls : List Call) (next : ℕ)
    (own : OwnSince) (moment : ℕ)
    → Holds rows deliveries calls next own
    → Holds rows deliveries calls next (obeyed_since moment calls own)
obeys rows deliveries [] next own moment holds = holds
obeys rows deliveries (call ∷ later) next own moment holds = record {
  delivered = λ row is lasting delivery given of_row.
      let pair = holds.delivered row is lasting delivery given of_row in
      record {
        drawn = pair.drawn;
        kept = pair.kept;
        brings = pair.brings;
        past = pair.past;
        had = λ accepted none kept. keeps_profile moment call.body own.rows row
            (pair.kept call (inl refl) (pair.past none call (inl refl)))
            (pair.had accepted none kept);
      };
  below = holds.below;
  rising = holds.rising;
  obeyed = λ has. obeys_call moment call.body own.rows;
}

-- the number of the first unconfirmed call, or else of the next one
abbrev first_number : List Call → ℕ → ℕ
first_number [] next = next
first_number (call ∷ later) next = call.number

-- a confirmed delivery came before the first unconfirmed call
was_before : (calls : List Call) (next : ℕ) (own : List Row) (lost : ℕ) (row : Row)
    (delivery : Delivery)
    → IsDelivered calls next own lost row delivery
    → is_unconfirmed calls delivery.call ≡ false
    → delivery.call < first_number calls next
was_before [] next own lost row delivery is none = is.drawn
was_before (call ∷ later) next own lost row delivery is none = is.past none call (inl refl)

boots : (rows : List Row) (deliveries : List Delivery) (calls : List Call) (next : ℕ)
    (own : OwnSince) (left : List Row)
    → Holds rows deliveries calls next own
    → Holds rows deliveries calls next
    (record { rows = left; has_obeyed = false; lost = first_number calls next })
boots rows deliveries calls next own left holds = record {
  delivered = λ row is lasting delivery given of_row.
      let pair = holds.delivered row is lasting delivery given of_row in
      record {
        drawn = pair.drawn;
        kept = pair.kept;
        brings = pair.brings;
        past = pair.past;
        had = λ accepted none kept.
            let before = was_before calls next own.rows own.lost row delivery pair none in
            absurd (omega (arith, before, kept));
      };
  below = holds.below;
  rising = holds.rising;
  obeyed = λ none. absurd (cc none);
}

-- ---- deeds

sent_calls : (outbox : OutboxState) → (sent outbox).calls ≡ outbox.calls
sent_calls outbox = go (sendable outbox)
  where
    go : (first : Option Call) → (sent_by first outbox).calls ≡ outbox.calls
    go None = refl
    go (Some call) = refl

sent_next : (outbox : OutboxState) → (sent outbox).next ≡ outbox.next
sent_next outbox = go (sendable outbox)
  where
    go : (first : Option Call) → (sent_by first outbox).next ≡ outbox.next
    go None = refl
    go (Some call) = refl

same_calls : (rows : List Row) (deliveries : List Delivery) (calls others : List Call)
    (next number : ℕ) (own : OwnSince)
    → calls ≡ others → next ≡ number → Holds rows deliveries calls next own
    → Holds rows deliveries others number own
same_calls rows deliveries calls others next number own same equal holds =
    subst (λ (n : ℕ). Holds rows deliveries others n own) equal
    (subst (λ (cs : List Call). Holds rows deliveries cs next own) same holds)

without_filtered : (test : Row → Bool) (rows : List Row) (row : Row)
    → IsAmong row (filter test rows) → IsAmong row rows
without_filtered test rows row is = (filtered test rows row is).0

-- of the rows at the begin of a transaction with a profile, no lasting one is new
begun_row : (rows : List Row) (connector moment : ℕ) (id : ℤ) (profile : Profile)
    → is_tx profile.purpose ≡ true → (given : Row)
    → IsAmong given (rows_begun rows connector moment id (Some profile)) → lasts given ≡ true
    → IsAmong given rows
begun_row rows connector moment id profile tx given is lasting =
    go (nat_le (length (installed others row)) max_rows) is
  where
    others : List Row
    others = without_transaction_profiles rows connector

    row : Row
    row = transaction_row connector moment id profile

    by : IsAmong given (rows_beside others row) ⊎ IsAmong given (row ∷ []) → IsAmong given rows
    by (inl there) = without_filtered _ rows given (without_filtered _ others given there)
    by (inr (inl same)) =
        let not_tx : is_tx profile.purpose ≡ false =
        not_true (is_tx profile.purpose)
        (subst (λ (r : Row). lasts r ≡ true) (sym same) lasting) in
        let clash : true ≡ false = sym tx ∙ not_tx in
        absurd (cc clash)
    by (inr (inr none)) = absurd none

    go : (b : Bool) → IsAmong given (cond b (installed others row) others) → IsAmong given rows
    go true among = by (among_append (rows_beside others row) (row ∷ []) given among)
    go false among = without_filtered _ rows given among

begins : (rows : List Row) (connector moment : ℕ) (id : ℤ) (profile : Profile)
    (start : Option WaitingStart) (old : ChargePointState) (calls : List Call) (next : ℕ)
    (own : OwnSince)
    → is_tx profile.purpose ≡ true → HasNewId old.book.rows profile
    → Holds old.book.rows old.deliveries calls next own
    → Holds (rows_begun old.book.rows connector moment id (Some profile))
    (brought_at_start old (Some profile) start) calls next own
begins rows connector moment id profile None old calls next own tx new holds =
    fewer_rows old.book.rows (rows_begun old.book.rows connector moment id (Some profile))
    old.deliveries calls next own
    (begun_row old.book.rows connector moment id profile tx) holds
begins rows connector moment id profile (Some start) old calls next own tx new holds =
    other_delivery old.book.rows (rows_begun old.book.rows connector moment id (Some profile))
    old.deliveries (record { profile = profile.id; call = start.call; is_rejected = false })
    calls next own
    (λ given is lasting.
    let among = begun_row old.book.rows connector moment id profile tx given is lasting in
    (among, new given among lasting)) holds

-- ---- a reply confirms the call in flight, or nothing

and_no : (a : Bool) → (a && true) ≡ a
and_no true = refl
and_no false = refl

and_none : (a : Bool) → (a && false) ≡ false
and_none true = refl
and_none false = refl

drop_first : (call : Call) (later : List Call) → drop 1 (call ∷ later) ≡ later
drop_first call later = refl

confirms_first : (rows : List Row) (deliveries : List Delivery) (calls : List Call) (next : ℕ)
    (own : OwnSince) (number : ℕ) (accepted : Bool)
    → is_number_of_first calls number ≡ true
    → (accepted ≡ true → own.has_obeyed ≡ true)
    → Holds rows deliveries calls next own
    → Holds rows (deliveries_after_reply number accepted deliveries) (drop 1 calls) next
    (record own { has_obeyed = false })
confirms_first rows deliveries [] next own number accepted first honest holds = absurd (cc first)
confirms_first rows deliveries (call ∷ later) next own number true first honest holds =
    subst (λ (cs : List Call). Holds rows deliveries cs next (record own { has_obeyed = false }))
    (sym (drop_first call later))
    (accepts_first rows deliveries call later next own (honest refl) holds)
confirms_first rows deliveries (call ∷ later) next own number false first honest holds =
    subst (λ (cs : List Call). Holds rows (map (rejected_by number) deliveries) cs next
    (record own { has_obeyed = false }))
    (sym (drop_first call later))
    (subst (λ (n : ℕ). Holds rows (map (rejected_by n) deliveries) later next
    (record own { has_obeyed = false })) (eqb-true call.number number first)
    (rejects_first rows deliveries call later next own holds))

confirms_none : (rows : List Row) (deliveries : List Delivery) (calls : List Call) (next : ℕ)
    (own : OwnSince) (number : ℕ) (accepted : Bool)
    → Holds rows deliveries calls next own
    → Holds rows (deliveries_after_reply number accepted deliveries) calls next own
confirms_none rows deliveries calls next own number true holds = holds
confirms_none rows deliveries calls next own number false holds =
    rejects_none rows deliveries calls next own number holds

confirms : (rows : List Row) (deliveries : List Delivery) (outbox : OutboxState)
    (own : OwnSince) (number : ℕ) (accepted : Bool)
    → (accepted ≡ true → is_number_in_flight outbox number ≡ true → own.has_obeyed ≡ true)
    → Holds rows deliveries outbox.calls outbox.next own
    → Holds rows (deliveries_after_reply number accepted deliveries)
    (confirmed outbox number).calls (confirmed outbox number).next
    (record own { has_obeyed = own.has_obeyed && not (is_number_in_flight outbox number) })
confirms rows deliveries outbox own number accepted honest holds =
    go (is_number_in_flight outbox number) refl
  where
    gone : OutboxState
    gone = record outbox { calls = drop 1 outbox.calls; is_in_flight = false }

    go : (b : Bool) → is_number_in_flight outbox number ≡ b
        → Holds rows (deliveries_after_reply number accepted deliveries)
        (cond b gone outbox).calls (cond b gone outbox).next
        (record own { has_obeyed = own.has_obeyed && not b })
    go true flies =
        subst (λ (h : Bool). Holds rows (deliveries_after_reply number accepted deliveries)
        (drop 1 outbox.calls) outbox.next (record own { has_obeyed = h }))
        (sym (and_none own.has_obeyed))
        (confirms_first rows deliveries outbox.calls outbox.next own number accepted
        (and_true outbox.is_in_flight (is_number_of_first outbox.calls number) flies).1
        (λ accepts. honest accepts flies) holds)
    go false rests =
        subst (λ (h : Bool). Holds rows (deliveries_after_reply number accepted deliveries)
        outbox.calls outbox.next (record own { has_obeyed = h }))
        (sym (and_no own.has_obeyed))
        (confirms_none rows deliveries outbox.calls outbox.next own number accepted holds)

-- ---- the numbers of the calls

-- the calls are numbered up to the next one
abbrev AreNumbered : List Call → ℕ → Type 0
AreNumbered [] next = Unit {0}
AreNumbered (call ∷ later) next =
    (call.number + length (call ∷ later) ≡ next) × AreNumbered later next

-- of these calls the first one isn't before a number
record GoOnFrom (lost : ℕ) (calls : List Call) (next : ℕ) : Type 0 where
  numbered : AreNumbered calls next
  past : lost ≤ first_number calls next

numbered_more : (calls : List Call) (next : ℕ) (body : CallBody) → AreNumbered calls next
    → AreNumbered (calls ++ record { number = next; body = body } ∷ []) (next + 1)
numbered_more [] next body are = (refl, tt)
numbered_more (call ∷ later) next body are =
    let more = length-append later (record { number = next; body = body } ∷ []) in
    (omega (arith, are.0, more), numbered_more later next body are.1)

first_same : (calls : List Call) (next : ℕ) (body : CallBody)
    → first_number calls next
    ≡ first_number (calls ++ record { number = next; body = body } ∷ []) (next + 1)
first_same [] next body = refl
first_same (call ∷ later) next body = refl

with_more : (lost : ℕ) (calls : List Call) (next : ℕ) (body : CallBody)
    → GoOnFrom lost calls next
    → GoOnFrom lost (calls ++ record { number = next; body = body } ∷ []) (next + 1)
with_more lost calls next body go = record {
  numbered = numbered_more calls next body go.numbered;
  past = subst (λ (n : ℕ). lost ≤ n) (first_same calls next body) go.past;
}

without_first : (lost : ℕ) (calls : List Call) (next : ℕ) → GoOnFrom lost calls next
    → GoOnFrom lost (drop 1 calls) next
without_first lost [] next go = go
without_first lost (call ∷ []) next go =
    let at = go.numbered.0 in
    let past = go.past in
    record { numbered = tt; past = omega (arith, at, past) }
without_first lost (call ∷ (second ∷ later)) next go =
    let at = go.numbered.0 in
    let then = go.numbered.1.0 in
    let past = go.past in
    record { numbered = go.numbered.1; past = omega (arith, at, then, past) }

after_confirm : (lost number : ℕ) (outbox : OutboxState)
    → GoOnFrom lost outbox.calls outbox.next
    → GoOnFrom lost (confirmed outbox number).calls (confirmed outbox number).next
after_confirm lost number outbox go = by (is_number_in_flight outbox number)
  where
    gone : OutboxState
    gone = record outbox { calls = drop 1 outbox.calls; is_in_flight = false }

    by : (b : Bool) → GoOnFrom lost (cond b gone outbox).calls (cond b gone outbox).next
    by true = without_first lost outbox.calls outbox.next go
    by false = go

-- the first unconfirmed call by its number, and by the count of calls
counted : (calls : List Call) (next : ℕ) → AreNumbered calls next
    → first_number calls next ≡ next - length calls
counted [] next are = omega arith
counted (call ∷ later) next are =
    let at = are.0 in
    omega (arith, at)

-- ---- all moves

abbrev HoldsFor : ChargePointState → OwnSince → Type 0
HoldsFor central own =
    Holds central.book.rows central.deliveries central.outbox.calls central.outbox.next own

record Inv (both : BothStates) : Type 0 where
  -- the first call whose profile the point can't have lost
  lost : ℕ
  holds : HoldsFor both.central (since both.own lost)
  -- the central system assumes no less
  told : both.own.has_told ≡ true → lost ≤ both.central.lost_before
  goes : GoOnFrom lost both.central.outbox.calls both.central.outbox.next

-- a deed leaves the rows, or takes some away, and adds a call that leaves those that remain
adds : (central : ChargePointState) (own : OwnSince) (others : List Row) (body : CallBody)
    → ((row : Row) → IsAmong row others → lasts row ≡ true
    → IsAmong row central.book.rows × Keeps body row)
    → HoldsFor central own
    → Holds others central.deliveries
    (central.outbox.calls ++ record { number = central.outbox.next; body = body } ∷ [])
    (central.outbox.next + 1) own
adds central own others body fewer holds =
    added_call central.book.rows others central.deliveries central.outbox.calls
    central.outbox.next body own fewer holds

-- after a verdict other than Agrees the central system assumes no less
abbrev StillAssumes : Verdict → Type 0
StillAssumes verdict =
    (now : List (Option Transaction)) (audit : Option AuditState) (lost_before : ℕ)
    → lost_before ≤ lost_after_audit (judged_audit now verdict audit) lost_before

differs_assumes : StillAssumes verdicts.Differs
differs_assumes now None lost_before = omega arith
differs_assumes now (Some audit) lost_before =
    by (same_transactions audit.asked.book.transactions now)
  where
    by : (b : Bool)
        → lost_before
        ≤ lost_by_verdict audit.number (Some (settled b verdicts.Differs)) lost_before
    by true = le-max_left lost_before audit.number
    by false = omega arith

rejected_assumes : StillAssumes verdicts.Rejected
rejected_assumes now None lost_before = omega arith
rejected_assumes now (Some audit) lost_before =
    by (same_transactions audit.asked.book.transactions now)
  where
    by : (b : Bool)
        → lost_before
        ≤ lost_by_verdict audit.number (Some (settled b verdicts.Rejected)) lost_before
    by true = omega arith
    by false = omega arith

unsettled_assumes : StillAssumes verdicts.Unsettled
unsettled_assumes now None lost_before = omega arith
unsettled_assumes now (Some audit) lost_before =
    by (same_transactions audit.asked.book.transactions now)
  where
    by : (b : Bool)
        → lost_before
        ≤ lost_by_verdict audit.number (Some (settled b verdicts.Unsettled)) lost_before
    by true = omega arith
    by false = omega arith

judges : (both : BothStates) (verdict : Verdict) → StillAssumes verdict → Inv both
    → Inv (moved both (Does (Judges verdict)))
judges both verdict still inv = record {
  lost = inv.lost;
  holds = inv.holds;
  told = λ has_told.
      let no_less = inv.told has_told in
      let more = still both.central.book.transactions both.central.audit
      both.central.lost_before in
      omega (arith, no_less, more);
  goes = inv.goes;
}

-- a point that agrees has all that it accepted
agrees : (both : BothStates) → IsHonest both (Does (Judges verdicts.Agrees)) → Inv both
    → Inv (moved both (Does (Judges verdicts.Agrees)))
agrees both honest inv = by both.own.has_told refl
  where
    by : (b : Bool) → both.own.has_told ≡ b → Inv (moved both (Does (Judges verdicts.Agrees)))
    by true told = record {
      lost = 0;
      holds = record {
        delivered = λ row is lasting delivery given of_row.
            let pair = inv.holds.delivered row is lasting delivery given of_row in
            record {
              drawn = pair.drawn;
              kept = pair.kept;
              brings = pair.brings;
              past = pair.past;
              had = λ accepted none kept.
                  honest told row delivery is lasting given of_row accepted none;
            };
        below = inv.holds.below;
        rising = inv.holds.rising;
        obeyed = inv.holds.obeyed;
      };
      told = λ has_told. omega arith;
      goes = record { numbered = inv.goes.numbered; past = omega arith };
    }
    by false untold = record {
      lost = inv.lost;
      holds = inv.holds;
      told = λ has_told. let clash : true ≡ false = sym has_told ∙ untold in absurd (cc clash);
      goes = inv.goes;
    }

does : (both : BothStates) (deed : Deed) → IsHonest both (Does deed) → Inv both
    → Inv (moved both (Does deed))
does both (Installs row) honest inv = record {
  lost = inv.lost;
  holds = installs both.central.book.rows row both.central.deliveries both.central.outbox.calls
      both.central.outbox.next (since both.own inv.lost) inv.holds;
  told = inv.told;
  goes = with_more inv.lost both.central.outbox.calls both.central.outbox.next
      (Set row.connector row.profile) inv.goes;
}
does both (Clears criteria) honest inv = record {
  lost = inv.lost;
  holds = adds both.central (since both.own inv.lost) (cleared both.central.book.rows criteria)
      (Clear criteria)
      (λ row is lasting.
      let stays = filtered (λ (r : Row). not (matches criteria r)) both.central.book.rows row is in
      (stays.0, not_true (matches criteria row) stays.1)) inv.holds;
  told = inv.told;
  goes = with_more inv.lost both.central.outbox.calls both.central.outbox.next (Clear criteria)
      inv.goes;
}
does both (Starts connector begin number None) honest inv = record {
  lost = inv.lost;
  holds = fewer_rows both.central.book.rows
      (without_transaction_profiles both.central.book.rows connector)
      both.central.deliveries both.central.outbox.calls both.central.outbox.next
      (since both.own inv.lost)
      (λ row is lasting. without_filtered _ both.central.book.rows row is) inv.holds;
  told = inv.told;
  goes = inv.goes;
}
does both (Starts connector begin number (Some profile)) honest inv = record {
  lost = inv.lost;
  holds = begins both.central.book.rows connector begin.timestamp number profile
      (ended_start both.central.outbox both.central.waiting connector) both.central
      both.central.outbox.calls both.central.outbox.next (since both.own inv.lost) honest.0
      honest.1 inv.holds;
  told = inv.told;
  goes = inv.goes;
}
does both (Stops connector) honest inv = record {
  lost = inv.lost;
  holds = fewer_rows both.central.book.rows
      (without_transaction_profiles both.central.book.rows connector)
      both.central.deliveries both.central.outbox.calls both.central.outbox.next
      (since both.own inv.lost)
      (λ row is lasting. without_filtered _ both.central.book.rows row is) inv.holds;
  told = inv.told;
  goes = inv.goes;
}
does both (Attaches link) honest inv =
    record { lost = inv.lost; holds = inv.holds; told = inv.told; goes = inv.goes }
does both Loses honest inv =
    record { lost = inv.lost; holds = inv.holds; told = inv.told; goes = inv.goes }
does both Sends honest inv =
    let calls = sym (sent_calls both.central.outbox) in
    let next = sym (sent_next both.central.outbox) in
    record {
      lost = inv.lost;
      holds = same_calls both.central.book.rows both.central.deliveries
          both.central.outbox.calls (sent both.central.outbox).calls both.central.outbox.next
          (sent both.central.outbox).next (since both.own inv.lost) calls next inv.holds;
      told = inv.told;
      goes = subst (λ (n : ℕ). GoOnFrom inv.lost (sent both.central.outbox).calls n) next
          (subst (λ (cs : List Call). GoOnFrom inv.lost cs both.central.outbox.next) calls
          inv.goes);
    }
does both (Confirms number true) honest inv = record {
  lost = inv.lost;
  holds = confirms both.central.book.rows both.central.deliveries both.central.outbox
      (since both.own inv.lost) number true (λ accepts. honest) inv.holds;
  told = inv.told;
  goes = after_confirm inv.lost number both.central.outbox inv.goes;
}
does both (Confirms number false) honest inv = record {
  lost = inv.lost;
  holds = confirms both.central.book.rows both.central.deliveries both.central.outbox
      (since both.own inv.lost) number false (λ accepts. absurd (cc accepts)) inv.holds;
  told = inv.told;
  goes = after_confirm inv.lost number both.central.outbox inv.goes;
}
does both (Audits connector duration unit) honest inv = record {
  lost = inv.lost;
  holds = adds both.central (since both.own inv.lost) both.central.book.rows
      (Audit connector duration unit) (λ row is lasting. (is, tt)) inv.holds;
  told = inv.told;
  goes = with_more inv.lost both.central.outbox.calls both.central.outbox.next
      (Audit connector duration unit) inv.goes;
}
does both (Judges verdicts.Agrees) honest inv = agrees both honest inv
does both (Judges verdicts.Differs) honest inv =
    judges both verdicts.Differs differs_assumes inv
does both (Judges verdicts.Rejected) honest inv =
    judges both verdicts.Rejected rejected_assumes inv
does both (Judges verdicts.Unsettled) honest inv =
    judges both verdicts.Unsettled unsettled_assumes inv
does both (RemoteStarts connector id_tag profile) honest inv = record {
  lost = inv.lost;
  holds = adds both.central (since both.own inv.lost) both.central.book.rows
      (RemoteStart connector id_tag profile) (λ row is lasting. (is, tt)) inv.holds;
  told = inv.told;
  goes = with_more inv.lost both.central.outbox.calls both.central.outbox.next
      (RemoteStart connector id_tag profile) inv.goes;
}
does both (Boots moment) honest inv = record {
  lost = inv.lost;
  holds = inv.holds;
  told = λ has_told.
      let past = inv.goes.past in
      let same = counted both.central.outbox.calls both.central.outbox.next inv.goes.numbered in
      omega (arith, past, same);
  goes = inv.goes;
}

-- what a point that obeys has, and what the central system knows of its boots
same_obeyed : (moment : ℕ) (calls : List Call) (own : OwnState) (lost : ℕ)
    → obeyed_since moment calls (since own lost) ≡ since (obeyed_first moment calls own) lost
same_obeyed moment [] own lost = refl
same_obeyed moment (call ∷ later) own lost = refl

tells_the_same : (moment : ℕ) (calls : List Call) (own : OwnState)
    → (obeyed_first moment calls own).has_told ≡ own.has_told
tells_the_same moment [] own = refl
tells_the_same moment (call ∷ later) own = refl

moves : (both : BothStates) (move : Move) → IsHonest both move → Inv both
    → Inv (moved both move)
moves both (Does deed) honest inv = does both deed honest inv
moves both (Obeys moment) honest inv =
    let calls = both.central.outbox.calls in
    record {
      lost = inv.lost;
      holds = subst (λ (own : OwnSince). HoldsFor both.central own)
          (same_obeyed moment calls both.own inv.lost)
          (obeys both.central.book.rows both.central.deliveries calls both.central.outbox.next
          (since both.own inv.lost) moment inv.holds);
      told = λ has_told. inv.told (sym (tells_the_same moment calls both.own) ∙ has_told);
      goes = inv.goes;
    }
moves both (ChangesTransactions rows) honest inv = record {
  lost = inv.lost;
  holds = own_changes both.central.book.rows both.central.deliveries both.central.outbox.calls
      both.central.outbox.next (since both.own inv.lost) rows honest inv.holds;
  told = inv.told;
  goes = inv.goes;
}
moves both (Restarts rows) honest inv = record {
  lost = first_number both.central.outbox.calls both.central.outbox.next;
  holds = boots both.central.book.rows both.central.deliveries both.central.outbox.calls
      both.central.outbox.next (since both.own inv.lost) rows inv.holds;
  told = λ has_told. absurd (cc has_told);
  goes = record { numbered = inv.goes.numbered; past = omega arith };
}

all_moves : (both : BothStates) (later : List Move) → AreHonest both later → Inv both
    → Inv (moved_all both later)
all_moves both [] honest holds = holds
all_moves both (move ∷ later) honest holds =
    all_moves (moved both move) later honest.1 (moves both move honest.0 holds)

opens : (entry : PointEntry) (rows : List Row) → Inv (opening entry rows)
opens entry rows = record {
  lost = 0;
  holds = record {
    delivered = λ row is lasting delivery given of_row. absurd is;
    below = λ call is. first call is;
    rising = ((λ call is. absurd is), tt);
    obeyed = λ none. absurd (cc none);
  };
  told = λ has_told. omega arith;
  goes = record { numbered = (refl, tt); past = omega arith };
}
  where
    first : (call : Call) → IsAmong call (numbered 0 (clear_all ∷ [])) → call.number < 1
    first call (inl same) = subst (λ (c : Call). c.number < 1) same (omega arith)
    first call (inr none) = absurd none

-- ---- what is held

found_at : {X : Type 0} (test : X → Bool) (xs : List X) (x : X)
    → option_and_then (slice_get xs) (position test xs) ≡ Some x
    → IsAmong x xs × (test x ≡ true)
found_at {X = X} test xs x is = by (position test xs) refl is
  where
    by : (at : Option ℕ) → position test xs ≡ at → option_and_then (slice_get xs) at ≡ Some x
        → IsAmong x xs × (test x ≡ true)
    by None same found = absurd (cc found)
    by (Some i) same found =
        let passes = (position-Some test xs i x same).1 in
        let read = get_or_from_slice_get xs i x x found in
        (among_at xs i x found, subst (λ (y : X). test y ≡ true) read passes)

is_held : (a b c : Bool) → cond a Rejected (cond b Sent (cond c Unsure Held)) ≡ Held
    → (a ≡ false) × (b ≡ false) × (c ≡ false)
is_held true b c held = absurd (cc held)
is_held false true c held = absurd (cc held)
is_held false false true held = absurd (cc held)
is_held false false false held = (refl, refl, refl)

held_delivery : (deliveries : List Delivery) (row : Row) (calls : List Call) (lost : ℕ)
    (found : Option Delivery)
    → delivery_of deliveries row ≡ found → profile_state_by calls lost found ≡ Held
    → (delivery : Delivery) × IsAmong delivery deliveries × (is_delivery_of row delivery ≡ true)
    × (delivery.is_rejected ≡ false) × (is_unconfirmed calls delivery.call ≡ false)
    × (nat_lt delivery.call lost ≡ false)
held_delivery deliveries row calls lost None found held = absurd (cc held)
held_delivery deliveries row calls lost (Some delivery) found held =
    let at = found_at (is_delivery_of row) deliveries delivery found in
    let facts = is_held delivery.is_rejected (is_unconfirmed calls delivery.call)
    (nat_lt delivery.call lost) held in
    (delivery, at.0, at.1, facts.0, facts.1, facts.2)

has_held : (both : BothStates) → Inv both → HasHeldProfiles both
has_held both inv row told is lasting held =
    let found = held_delivery both.central.deliveries row both.central.outbox.calls
    both.central.lost_before (delivery_of both.central.deliveries row) refl held in
    let no_less = inv.told told in
    let past = ltb-false found.0.call both.central.lost_before found.5 in
    (inv.holds.delivered row is lasting found.0 found.1 found.2).had found.3 found.4
    (omega (arith, no_less, past))

pub held_profiles_are_had : HeldProfilesAreHad
held_profiles_are_had entry rows later honest =
    has_held (moved_all (opening entry rows) later)
    (all_moves (opening entry rows) later honest (opens entry rows))

-- ---- the machine

-- a property of every opening point is one of the point at each place
at_each_place : (P : ChargePointState → Type 0) → ((entry : PointEntry) → P (opening_point entry))
    → P no_point → (points : List PointEntry) (place : ℕ)
    → P (point_in (map opening_point points) place)
at_each_place P each none [] place = none
at_each_place P each none (entry ∷ points) zero = each entry
at_each_place P each none (entry ∷ points) (suc place) = at_each_place P each none points place

-- a point of no entry is as one of an entry without connectors
opens_nowhere : (rows : List Row) → Inv (with_any no_point rows)
opens_nowhere rows = opens (record { id = []; ceiling = 0; ceilings = [] }) rows

opens_at : (site : SiteState) (place : ℕ) (rows : List Row)
    → Inv (with_any (opening_at_place site place) rows)
opens_at site place rows =
    at_each_place (λ (point : ChargePointState). Inv (with_any point rows))
    (λ entry. opens entry rows) (opens_nowhere rows) site.points place

connectors_kept : (points : List PointEntry)
    → map connectors_in_book (map opening_point points) ≡ map connectors_in_file points
connectors_kept [] = refl
connectors_kept (entry ∷ points) =
    ap (λ (counts : List ℕ). length entry.ceilings ∷ counts) (connectors_kept points)

is_machine : (site : SiteState) (numbers : Numbers) → AreNumbers numbers
    → IsMachine (opening_at site numbers)
is_machine site numbers are = record {
  points = connectors_kept site.points;
  numbers = are;
  few = omega arith;
}

after_deeds : ChargePointState → List Deed → ChargePointState
after_deeds point [] = point
after_deeds point (deed ∷ later) = after_deeds (point_after point deed) later

moved_central : (both : BothStates) (later : List Move)
    → (moved_all both later).central ≡ after_deeds both.central (deeds_in later)
unfolding after_deeds
moved_central both [] = refl
moved_central both (Does deed ∷ later) = moved_central (moved both (Does deed)) later
moved_central both (Obeys moment ∷ later) = moved_central (moved both (Obeys moment)) later
moved_central both (ChangesTransactions rows ∷ later) =
    moved_central (moved both (ChangesTransactions rows)) later
moved_central both (Restarts rows ∷ later) = moved_central (moved both (Restarts rows)) later

events_central : (point : ChargePointState) (events : List Event)
    → point_by_all point events ≡ after_deeds point (deeds_from point events)
unfolding after_deeds
events_central point [] = refl
events_central point (event ∷ later) = by (deed_by point event)
    (events_central (point_by point event) later)
  where
    by : (found : Option Deed)
        → point_by_all (point_with found point) later
        ≡ after_deeds (point_with found point) (deeds_from (point_with found point) later)
        → point_by_all (point_with found point) later
        ≡ after_deeds point (cons_option found (deeds_from (point_with found point) later))
    by None rest = rest
    by (Some deed) rest = rest

pub machines_know : PointsFollowHistories → MachinesKnowWhatIsHeld
machines_know follow site numbers history state place rows later are legal same honest =
    let start : BothStates = with_any (opening_at_place site place) rows in
    let both : BothStates = moved_all start later in
    let central : both.central ≡ point_at state place =
    moved_central start later
    ∙ ap (λ (deeds : List Deed). after_deeds (opening_at_place site place) deeds) same
    ∙ sym (events_central (opening_at_place site place) (events_at site place history))
    ∙ sym (follow (opening_at site numbers) history state (is_machine site numbers are) legal
    place) in
    subst (λ (point : ChargePointState). HasHeldProfiles (record {
      central = point;
      own = both.own;
    })) central (has_held both (all_moves start later honest (opens_at site place rows)))
