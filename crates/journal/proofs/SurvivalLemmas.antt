-- The bytes that a crash leaves of a file lead to each state that a receipt shows.
use Rattle.std.proofs.Common.{◌≡◌, ◌⊎◌, inl, inr, ⊎_elim, ℕ, List, [], ◌∷◌, ◌++◌, refl, sym, ap, ◌∙◌, append_assoc}
use Rattle.std.specs.List.{AllByRecursion}
use Rattle.append_log.specs.Contents.{Contents, IsFirstPart, MayLeave}
use Rattle.append_log.specs.History.{LeavesOnly}
use Rattle.site_core.specs.State.{MachineState}
use Rattle.journal.specs.NotedRun.{NotedRunsAreRestored}
use Rattle.version_store.specs.Recording.{EndsAt, HasState, forget}
use Rattle.journal.specs.declared.numbered_entry.NumberedEntry.{NumberedEntry}
use Rattle.journal.specs.Account.{AccountsFor, nothing, more, AnsweredSurvives, AnsweredSurvivesCalls, GoesOn, ReceiptState, texts_of}
use Rattle.journal.proofs.AccountLemmas.{append_nil, led, texts_of_both}

-- an item of a list with one more item is that item, or was in the list
within : {A : Type 0} (before behind rest : List A) (x last : A)
    → before ++ x ∷ behind ≡ rest ++ last ∷ []
    → (behind ≡ []) ⊎ ((others : List A) × (rest ≡ before ++ x ∷ others))
within [] behind [] x last same = inl (cc same)
within [] behind (r ∷ rest) x last same = inr (rest, cc same)
within (b ∷ []) behind [] x last same = absurd (cc same)
within (b ∷ c ∷ before) behind [] x last same = absurd (cc same)
within (b ∷ before) behind (r ∷ rest) x last same =
    let others : before ++ x ∷ behind ≡ rest ++ last ∷ [] = cc same in
    let first : b ≡ r = cc same in
    ⊎_elim
    (λ none. inl none)
    (λ found. inr (found.0, cc (first, found.1)))
    (within before behind rest x last others)

-- entries whose first ones lead to a state
record Reaches (first : List MachineState) (entries : List NumberedEntry) (state : MachineState)
    : Type 0 where
  part : List NumberedEntry
  rest : List NumberedEntry
  entries_are : entries ≡ part ++ rest
  last : List MachineState
  accounts : AccountsFor first part last
  is : EndsAt last state

further : (first : List MachineState) (entries : List NumberedEntry) (entry : NumberedEntry)
    (state : MachineState) → Reaches first entries state → Reaches first (entries ++ entry ∷ []) state
further first entries entry state reaches = record {
  part = reaches.part;
  rest = reaches.rest ++ entry ∷ [];
  entries_are = ap (λ (es : List NumberedEntry). es ++ entry ∷ []) reaches.entries_are
      ∙ append_assoc reaches.part reaches.rest (entry ∷ []);
  last = reaches.last;
  accounts = reaches.accounts;
  is = reaches.is;
}

-- each state that entries account for was there before, or the first entries lead to it
reached : (first last : List MachineState) (entries : List NumberedEntry) (state : MachineState)
    → AccountsFor first entries last → HasState last state
    → HasState first state ⊎ Reaches first entries state
reached _ _ _ state (nothing states) has = inl has
reached _ _ _ state (more first states later entries entry accounts leads) has =
    ⊎_elim
    (λ none. inr (record {
      part = entries ++ entry ∷ [];
      rest = [];
      entries_are = sym (append_nil (entries ++ entry ∷ []));
      last = later;
      accounts = more first states later entries entry accounts leads;
      is = (has.0, has.2 ∙ ap (λ (b : List MachineState). has.0 ++ forget state ∷ b) none);
    }))
    (λ found. ⊎_elim
    (λ was. inl was)
    (λ reaches. inr (further first entries entry state reaches))
    (reached first states entries state accounts (has.0, found.0, found.1)))
    (within has.0 has.1 states (forget state) leads.is_next.0 (sym has.2 ∙ leads.is_next.1))

-- the bytes that are left begin with those of the start and a first part of the entries
left_begins : (receipt : ReceiptState) (contents : Contents) (left : List ℕ)
    (goes : GoesOn receipt.start receipt.synced) (part rest : List NumberedEntry)
    → goes.entries ≡ part ++ rest → IsFirstPart receipt.synced.bytes contents.synced
    → MayLeave contents left → IsFirstPart (receipt.start.bytes ++ texts_of part) left
left_begins receipt contents left goes part rest entries_are stands may =
    let start = receipt.start.bytes in
    let texts = texts_of part in
    let others = texts_of rest in (
      others ++ (stands.0 ++ may.behind),
      may.is
          ∙ ap (λ t. t ++ may.behind) stands.1
          ∙ ap (λ t. (t ++ stands.0) ++ may.behind) goes.bytes_are
          ∙ ap (λ (es : List NumberedEntry). ((start ++ texts_of es) ++ stands.0) ++ may.behind) entries_are
          ∙ ap (λ t. ((start ++ t) ++ stands.0) ++ may.behind) (texts_of_both part rest)
          ∙ ap (λ t. (t ++ stands.0) ++ may.behind) (sym (append_assoc start texts others))
          ∙ append_assoc ((start ++ texts) ++ others) stands.0 may.behind
          ∙ append_assoc (start ++ texts) others (stands.0 ++ may.behind),
    )

pub survives : NotedRunsAreRestored → AnsweredSurvives
survives law receipt contents left old state goes stands may was has =
    ⊎_elim
    (λ before. record {
      lines = [];
      left_are = left_begins receipt contents left goes [] goes.entries refl stands may;
      leads = inl before;
    })
    (λ reaches.
    let first = receipt.start.states in
    let are = led law first reaches.last reaches.part old state reaches.accounts was reaches.is in
    let begins = left_begins receipt contents left goes reaches.part reaches.rest
    reaches.entries_are stands may in record {
      lines = are.lines;
      left_are = (
        begins.0,
        begins.1 ∙ ap (λ t. (receipt.start.bytes ++ t) ++ begins.0) are.texts_are,
      );
      leads = inr are.leads;
    })
    (reached receipt.start.states receipt.synced.states goes.entries state goes.accounts has)

-- ---- at each moment of a call

each_of : {P Q : List ℕ → Type 0} → ((left : List ℕ) → P left → Q left) → (all : List Contents)
    → AllByRecursion (LeavesOnly P) all → AllByRecursion (LeavesOnly Q) all
each_of so [] each = each
each_of so (contents ∷ all) each =
    ((λ left may. so left (each.0 left may)), each_of so all each.1)

pub survives_calls : NotedRunsAreRestored → AnsweredSurvivesCalls
survives_calls law receipt contents before after old state goes stands moments was has = record {
  between = moments.between;
  goes_on = moments.goes_on;
  each = each_of
      (λ left may. survives law receipt contents left old state goes stands may was has)
      (moments.between ++ before.now ∷ []) moments.each;
}
