-- The states that entries lead to, one after another.
use Rattle.std.proofs.Common.{◌≡◌, ℕ, true, List, [], ◌∷◌, ◌++◌, Result, Ok, Err, refl, sym, ap, ◌∙◌, subst, append_assoc}
use Rattle.std.specs.Prelude.{Bool, flat_map}
use Rattle.append_log.specs.Contents.{Contents, file_of, with_added}
use Rattle.std.proofs.lemmas.Grind.{flat_map-append}
use Rattle.ocpp_scalars.specs.ResultSteps.{◌>>=◌}
use Rattle.site_core.specs.State.{MachineState}
use Rattle.journal.specs.declared.restore_fault.RestoreFault.{RestoreFault}
use Rattle.journal.specs.Entry.{EntryState, entry_text, numbered}
use Rattle.journal.specs.Line.{LineState, line_text}
use Rattle.journal.specs.MadeStep.{IsOfMadeStep}
use Rattle.journal.specs.NotedRun.{begins, notes, NotedRunsAreRestored}
use Rattle.journal.specs.Restore.{restored, restored_lines}
use Rattle.version_store.specs.Recording.{EndsAt, IsAt, IsNextOf, forget}
use Rattle.journal.specs.declared.numbered_entry.NumberedEntry.{NumberedEntry}
use Rattle.journal.specs.Account.{AccountsFor, nothing, more, EntriesAreRestored, FileState, GoesOn, IsNoted, NotedState, texts_of}

-- ---- lists

pub append_nil : {A : Type 0} (xs : List A) → xs ++ [] ≡ xs
append_nil [] = refl
append_nil {A} (x ∷ xs) = ap (λ (rest : List A). x ∷ rest) (append_nil xs)

-- two last items of one list are equal
same_end : {A : Type 0} (before behind : List A) (x y : A) → before ++ x ∷ [] ≡ behind ++ y ∷ []
    → x ≡ y
same_end [] [] x y same = cc same
same_end [] (b ∷ []) x y same = absurd (cc same)
same_end [] (b ∷ c ∷ behind) x y same = absurd (cc same)
same_end (a ∷ []) [] x y same = absurd (cc same)
same_end (a ∷ b ∷ before) [] x y same = absurd (cc same)
same_end (a ∷ before) (b ∷ behind) x y same =
    let rest : before ++ x ∷ [] ≡ behind ++ y ∷ [] = cc same in
    same_end before behind x y rest

last_is_one : (states : List MachineState) (old new : MachineState) → EndsAt states old
    → EndsAt states new → forget old ≡ forget new
last_is_one states old new was is =
    same_end was.0 is.0 (forget old) (forget new) (sym was.1 ∙ is.1)

-- one account continues another
pub goes_on : (first middle last : List MachineState) (entries others : List NumberedEntry)
    → AccountsFor first entries middle → AccountsFor middle others last
    → AccountsFor first (entries ++ others) last
goes_on first _ _ entries _ accounts (nothing states) =
    subst (λ (es : List NumberedEntry). AccountsFor first es states) (sym (append_nil entries))
    accounts
goes_on first _ _ entries _ accounts (more middle states later others entry behind leads) =
    subst (λ (es : List NumberedEntry). AccountsFor first es later) (moved entries)
    (more first states later (entries ++ others) entry
    (goes_on first middle states entries others accounts behind) leads)
  where
    moved : (es : List NumberedEntry) → (es ++ others) ++ entry ∷ [] ≡ es ++ (others ++ entry ∷ [])
    moved [] = refl
    moved (e ∷ es) = ap (λ (rest : List NumberedEntry). e ∷ rest) (moved es)

-- no step is noted
pub none_noted : (first last : List MachineState) (entries : List NumberedEntry) → first ≡ last
    → entries ≡ [] → AccountsFor first entries last
none_noted first last entries same none =
    subst (λ (r : List MachineState). AccountsFor first entries r) same
    (subst (λ (es : List NumberedEntry). AccountsFor first es first) (sym none) (nothing first))

-- a step is noted
pub step_noted : (named : Bool) (first last before after : List MachineState)
    (entries items : List NumberedEntry) (entry : EntryState) (number : ℕ) → AccountsFor first entries last → last ≡ before
    → named ≡ true → IsNextOf before after
    → IsOfMadeStep entry number (IsAt named before) (IsAt named after)
    → items ≡ entries ++ (record { entry = entry; number = number }) ∷ []
    → AccountsFor first items after
step_noted named first last before after entries items entry number accounts same recorded next
    made pushed =
    subst (λ (es : List NumberedEntry). AccountsFor first es after) (sym pushed)
    (more first last after entries (record { entry = entry; number = number }) accounts (record {
      line = made.line;
      entry_is = made.entry_is;
      old = made.old.present;
      new = made.new.present;
      was = subst (λ (s : List MachineState). EndsAt s made.old.present) (sym same)
          (made.was_before recorded);
      is = made.is_after recorded;
      is_next = subst (λ (r : List MachineState). IsNextOf r after) (sym same) next;
      leads = made.leads;
    }))

-- the texts of two lists of entries
pub texts_of_both : (entries others : List NumberedEntry)
    → texts_of (entries ++ others) ≡ texts_of entries ++ texts_of others
texts_of_both entries others =
    flat_map-append (λ (e : NumberedEntry). entry_text e.entry e.number) entries others

-- a file goes on from its own contents
pub from_itself : (file : FileState) → GoesOn file file
from_itself file = record {
  entries = [];
  bytes_are = sym (append_nil file.bytes);
  accounts = nothing file.states;
}

-- and with the lines of other entries, up to the states that these lead to
pub lines_added : (start : FileState) (old new : Contents) (states : List MachineState)
    (taken : NotedState) (lines : List ℕ)
    → GoesOn start (record { bytes = file_of old; states = states }) → taken.first ≡ states
    → IsNoted taken → lines ≡ texts_of taken.entries → new ≡ with_added old lines
    → GoesOn start (record { bytes = file_of new; states = taken.last })
lines_added start old new states taken lines has next noted lines_are added = record {
  entries = has.entries ++ taken.entries;
  bytes_are =
      ap (λ (c : Contents). file_of c) added
      ∙ sym (append_assoc old.synced old.appended lines)
      ∙ ap (λ t. t ++ lines) has.bytes_are
      ∙ ap (λ t. (start.bytes ++ texts_of has.entries) ++ t) lines_are
      ∙ append_assoc start.bytes (texts_of has.entries) (texts_of taken.entries)
      ∙ ap (λ t. start.bytes ++ t) (sym (texts_of_both has.entries taken.entries));
  accounts = goes_on start.states states taken.last has.entries taken.entries has.accounts
      (subst (λ (r : List MachineState). AccountsFor r taken.entries taken.last) next noted);
}

-- ---- lines

bind_ok : (result : Result MachineState RestoreFault) (state : MachineState)
    → (result >>= (λ (next : MachineState). Ok next)) ≡ Ok state → result ≡ Ok state
bind_ok (Ok one) state is = is
bind_ok (Err fault) state is = absurd (cc is)

-- a line leads to the same state if requests are forgotten
line_forgets : NotedRunsAreRestored → (old new : MachineState) (line : LineState)
    → restored old line ≡ Ok new → restored (forget old) line ≡ Ok (forget new)
line_forgets law old new line is =
    bind_ok (restored (forget old) line) (forget new)
    (law old new (line ∷ []) (notes old old new [] line (begins old) is))

bind_goes : (result : Result MachineState RestoreFault)
    (first second : MachineState → Result MachineState RestoreFault) (middle new : MachineState)
    → ((next : MachineState) → first next ≡ Ok middle → second next ≡ Ok new)
    → (result >>= first) ≡ Ok middle → (result >>= second) ≡ Ok new
bind_goes (Ok next) first second middle new goes is = goes next is
bind_goes (Err fault) first second middle new goes is = absurd (cc is)

-- one more line
line_behind : (old middle new : MachineState) (lines : List LineState) (line : LineState)
    → restored_lines old lines ≡ Ok middle → restored middle line ≡ Ok new
    → restored_lines old (lines ++ line ∷ []) ≡ Ok new
line_behind old middle new [] line is last =
    let same : old ≡ middle = cc is in
    ap (λ (s : MachineState). restored s line >>= (λ (next : MachineState). Ok next)) same
    ∙ ap (λ (r : Result MachineState RestoreFault). r >>= (λ (next : MachineState). Ok next)) last
line_behind old middle new (first ∷ rest) line is last =
    bind_goes (restored old first) (λ (next : MachineState). restored_lines next rest)
    (λ (next : MachineState). restored_lines next (rest ++ line ∷ [])) middle new
    (λ next goes. line_behind next middle new rest line goes last) is

-- ---- accounts

pub led : NotedRunsAreRestored → EntriesAreRestored
led law _ _ _ old new (nothing states) was is = record {
  lines = [];
  texts_are = refl;
  leads = ap (λ (s : MachineState). Ok s) (last_is_one states old new was is);
}
led law _ _ _ old new (more first states later entries entry accounts leads) was is =
    let before = led law first states entries old leads.old accounts was leads.was in
    let line = numbered leads.line entry.number in
    let end = last_is_one later leads.new new leads.is is in record {
      lines = before.lines ++ line ∷ [];
      texts_are =
          texts_of_both entries (entry ∷ [])
          ∙ ap (λ t. t ++ texts_of (entry ∷ [])) before.texts_are
          ∙ ap (λ t. flat_map line_text before.lines ++ (t ++ [])) (leads.entry_is entry.number)
          ∙ sym (flat_map-append line_text before.lines (line ∷ []));
      leads =
          line_behind (forget old) (forget leads.old) (forget new) before.lines line before.leads
          (line_forgets law leads.old leads.new line leads.leads
          ∙ ap (λ (s : MachineState). Ok s) end);
    }
