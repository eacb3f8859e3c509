-- A stored history goes on with one more event, and from its fold.
use Rattle.std.proofs.Common.{◌≡◌, ℕ, zero, suc, ◌+◌, ◌≤◌, List, [], ◌∷◌, ◌++◌, map, slice_index_or, Option, None, Ok, refl, sym, ap, ◌∙◌, subst, add-zero, length, arith}
use Rattle.std.specs.Prelude.{IfSome}
use Rattle.std.proofs.lemmas.List.Sums.{sum_by_push, sum_by-append}
use Rattle.site_rules.specs.Site.{PointEntry, SiteState}
use Rattle.site_core.specs.declared.reply.Reply.{Reply}
use Rattle.site_core.specs.Limits.{max_number}
use Rattle.site_core.specs.Audit.{AuditState}
use Rattle.site_core.specs.Audits.{AreAuditsRight, BringsRight, IsAuditRight}
use Rattle.site_core.specs.ChargePoint.{opening_point}
use Rattle.site_core.specs.State.{MachineState, IsMachine, opening, no_numbers, no_point, audit_at, connectors_in_book, connectors_in_file}
use Rattle.site_core.specs.Step.{Made, counted}
use Rattle.site_core.specs.History.{Event, Legal}
use Rattle.site_core.specs.StoredHistory.{StoredEvent, IsStoredAs, made_of, event_of, MayBeGiven}
use Rattle.site_core.specs.Counts.{changes_in, takes_in, answers_in, TellOf}
use Rattle.site_core.specs.Headline.{KeepsRight, AnsweredOnceStopped}
use Rattle.site_core.specs.Theory.Histories.{legal_join}
use Rattle.version_store.specs.declared.totals.Totals.{Totals}
use Rattle.version_store.specs.Limits.{fold_from}
use Rattle.version_store.specs.Store.{StoreState, IsStore, HasRoom, opening_store, with_event, folded}
use Rattle.version_store.specs.ByCases.Laws.{Laws}
use Rattle.version_store.proofs.RoomLemmas.{few_to_come}

abbrev pub made_with : Reply → MachineState → Made
made_with reply after = record { reply = reply; after = after }

-- a reply that counts no change and no answer
abbrev totals_of : ℕ → ℕ → Totals
totals_of changes answers = record { changes = changes; answers = answers }

pub nothing_more : (made : Totals) → totals_of (made.changes + 0) (made.answers + 0) ≡ made
nothing_more made =
    ap (λ (n : ℕ). totals_of n (made.answers + 0)) (add-zero made.changes)
    ∙ ap (totals_of made.changes) (add-zero made.answers)

-- ---- audits

-- no point of a site is audited before the first event
no_audit : (points : List PointEntry) (place : ℕ)
    → (slice_index_or (map opening_point points) place no_point).audit ≡ None
no_audit [] place = refl
no_audit (point ∷ points) zero = refl
no_audit (point ∷ points) (suc place) = no_audit points place

pub opening_unaudited : (site : SiteState) (place : ℕ) → audit_at (opening site) place ≡ None
opening_unaudited site place = no_audit site.points place

opening_right : (site : SiteState) → AreAuditsRight (opening site)
opening_right site place =
    subst (λ (audit : Option AuditState). IfSome audit IsAuditRight)
    (sym (opening_unaudited site place)) tt

-- the opening state is a machine's
each_is_kept : (points : List PointEntry)
    → map connectors_in_book (map opening_point points) ≡ map connectors_in_file points
each_is_kept [] = refl
each_is_kept (point ∷ points) =
    ap (λ (counts : List ℕ). connectors_in_file point ∷ counts) (each_is_kept points)

pub opening_is_machine : (site : SiteState) → IsMachine (opening site)
opening_is_machine site = record {
  points = each_is_kept site.points;
  numbers = record { version = omega arith; request = omega arith; transaction = omega arith; link = omega arith };
  few = omega arith;
}

-- an event leaves each verdict right
verdicts_go_on : Laws → (old : MachineState) (event : StoredEvent) (reply : Reply)
    (after : MachineState) → IsMachine old → made_of old event ≡ Ok (made_with reply after)
    → MayBeGiven old event → BringsRight event.step → AreAuditsRight old → AreAuditsRight after
verdicts_go_on laws old event reply after machine made given brought right =
    let one : IsStoredAs old (event_of event.step reply ∷ []) after (event ∷ []) =
    laws.more old [] old [] event (made_with reply after) (record { replay = refl; given = tt }) made
    given in
    let legal : Legal old (event_of event.step reply ∷ []) after =
    laws.legal old (event_of event.step reply ∷ []) after (event ∷ []) one in
    laws.verdicts old (event_of event.step reply ∷ []) after machine legal (brought, tt) right

-- ---- the invariant of a store

-- the part about its histories; the rest follows
record Reaches (store : StoreState) : Type 0 where
  site : SiteState
  earlier : List Event
  reached : Legal (opening site) earlier store.base
  base_machine : IsMachine store.base
  based_changes : store.based.changes ≡ changes_in earlier
  based_answers : store.based.answers ≡ answers_in earlier
  played : List Event
  replays : IsStoredAs store.base played store.present store.events
  changes : store.made.changes ≡ store.based.changes + changes_in played
  answers : store.made.answers ≡ store.based.answers + answers_in played
  machine : IsMachine store.present
  verdicts : AreAuditsRight store.present

store_of : Laws → (store : StoreState) → Reaches store → IsStore store
store_of laws store reaches =
    let from : MachineState = opening reaches.site in
    let base_right : KeepsRight store.base =
    laws.stay from reaches.earlier store.base (laws.opening reaches.site no_numbers)
    reaches.reached in
    let base_answered : AnsweredOnceStopped store.base =
    laws.answered from reaches.earlier store.base (λ stopped. tt) reaches.reached in
    let legal : Legal store.base reaches.played store.present =
    laws.legal store.base reaches.played store.present store.events reaches.replays in
    record {
      site = reaches.site;
      earlier = reaches.earlier;
      reached = reaches.reached;
      base_machine = reaches.base_machine;
      based_changes = reaches.based_changes;
      based_answers = reaches.based_answers;
      played = reaches.played;
      replays = reaches.replays;
      legal = legal;
      changes = reaches.changes;
      answers = reaches.answers;
      machine = reaches.machine;
      books = laws.books store.base reaches.played store.present base_right legal;
      right = laws.stay store.base reaches.played store.present base_right legal;
      answered = laws.answered store.base reaches.played store.present base_answered legal;
      audited = laws.audits store.base reaches.played store.present reaches.base_machine legal;
      verdicts = reaches.verdicts;
    }

-- before the first event
pub store_opens : Laws → (site : SiteState) → IsStore (opening_store site)
store_opens laws site = store_of laws (opening_store site) (record {
  site = site;
  earlier = [];
  reached = refl;
  base_machine = opening_is_machine site;
  based_changes = refl;
  based_answers = refl;
  played = [];
  replays = record { replay = refl; given = tt };
  changes = refl;
  answers = refl;
  machine = opening_is_machine site;
  verdicts = opening_right site;
})

pub store_goes_on : Laws → (old : StoreState) → IsStore old
    → (event : StoredEvent) (reply : Reply) (after : MachineState)
    → made_of old.present event ≡ Ok (made_with reply after) → MayBeGiven old.present event
    → BringsRight event.step → IsMachine after
    → IsStore (with_event old event (made_with reply after))
store_goes_on laws old is event reply after made given brought machine =
    let last : Event = event_of event.step reply in
    store_of laws (with_event old event (made_with reply after)) (record {
      site = is.site;
      earlier = is.earlier;
      reached = is.reached;
      base_machine = is.base_machine;
      based_changes = is.based_changes;
      based_answers = is.based_answers;
      played = is.played ++ last ∷ [];
      replays = laws.more old.base is.played old.present old.events event (made_with reply after)
          is.replays made given;
      changes = omega (
        arith,
        is.changes,
        sum_by_push (λ (e : Event). (counted e.reply).changes) is.played last,
      );
      answers = omega (
        arith,
        is.answers,
        sum_by_push (λ (e : Event). (counted e.reply).answers) is.played last,
      );
      machine = machine;
      verdicts = verdicts_go_on laws old.present event reply after is.machine made given brought
          is.verdicts;
    })

-- all changes since the opening
pub whole_changes : (store : StoreState) (is : IsStore store)
    → store.made.changes ≡ changes_in (is.earlier ++ is.played)
whole_changes store is = omega (
  arith,
  is.based_changes,
  is.changes,
  sum_by-append (λ (e : Event). (counted e.reply).changes) is.earlier is.played,
)

pub whole_answers : (store : StoreState) (is : IsStore store)
    → store.made.answers ≡ answers_in (is.earlier ++ is.played)
whole_answers store is = omega (
  arith,
  is.based_answers,
  is.answers,
  sum_by-append (λ (e : Event). (counted e.reply).answers) is.earlier is.played,
)

pub whole_legal : (store : StoreState) (is : IsStore store)
    → Legal (opening is.site) (is.earlier ++ is.played) store.present
whole_legal store is =
    legal_join (opening is.site) is.earlier store.base is.played store.present is.reached is.legal

pub store_folds : Laws → (old : StoreState) → IsStore old → IsStore (folded old)
store_folds laws old is = store_of laws (folded old) (record {
  site = is.site;
  earlier = is.earlier ++ is.played;
  reached = whole_legal old is;
  base_machine = is.machine;
  based_changes = whole_changes old is;
  based_answers = whole_answers old is;
  played = [];
  replays = record { replay = refl; given = tt };
  changes = sym (add-zero old.made.changes);
  answers = sym (add-zero old.made.answers);
  machine = is.machine;
  verdicts = is.verdicts;
})

-- no more is counted than numbers were drawn
pub record Fits (made : Totals) : Type 0 where
  pub changes : made.changes ≤ max_number
  pub answers : made.answers ≤ max_number

pub counts_fit : Laws → (store : StoreState) → IsStore store → IsMachine store.present
    → Fits store.made
counts_fit laws store is machine =
    let whole : List Event = is.earlier ++ is.played in
    let numbers : TellOf (opening is.site) (changes_in whole) (takes_in whole) (answers_in whole)
    store.present = laws.numbers (opening is.site) whole store.present (whole_legal store is) in
    record {
      changes = omega (arith, whole_changes store is, numbers.versions, machine.numbers.version);
      answers = omega (
        arith,
        whole_answers store is,
        numbers.drawn,
        numbers.kept,
        machine.numbers.request,
      );
    }

-- there is room again
pub room_for_more : (store : StoreState) → length store.events ≤ fold_from
    → IsMachine store.present → HasRoom store
room_for_more store few machine = omega (arith, few, few_to_come store.present machine.few)
