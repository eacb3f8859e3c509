-- The bytes that a crash leaves while writes go on, and after a sync.
use Rattle.std.proofs.Common.{◌≡◌, ℕ, ◌+◌, Bool, true, false, List, [], ◌++◌, length, take, drop, refl, sym, ◌∙◌, ap, arith, append_assoc, take-append-drop, subst, Result, Ok, Err}
use Rattle.std.proofs.lemmas.List.{take_all, append-nil}
use Rattle.std.proofs.Math.Seq.{take-add}
use Rattle.append_log.specs.Contents.{Contents, MayLeave, IsFirstPart, failed, file_of, only_synced, with_added}
use Rattle.append_log.specs.History.{History, LeavesOnly, AtEachMoment}
use Rattle.append_log.specs.AppendedFile.{after_append, after_sync}
use Rattle.append_log.specs.Writing.{with_first, whether_failed}
use Rattle.append_log.specs.declared.write_fault.WriteFault.{WriteFault}
use Rattle.append_log.specs.declared.write_fault.WriteFault.TheVariants.{Full, Failed}
use Rattle.append_log.proofs.Moments.{at_start, one_more, one_refused, weaker}

-- a first part of a first part
part_of_all : (bytes : List ℕ) (count : ℕ) (part : List ℕ) → IsFirstPart part (take count bytes) → IsFirstPart part (take (length bytes) bytes)
part_of_all bytes count part (rest, is) = (
  rest ++ drop count bytes,
  take_all (length bytes) bytes (omega arith) ∙ sym (take-append-drop count bytes)
      ∙ ap (λ (l : List ℕ). l ++ drop count bytes) is ∙ append_assoc part rest (drop count bytes),
)

-- a crash may leave the same once all bytes are written as while only some are
pub some_of_all : (contents : Contents) (bytes : List ℕ) (count : ℕ) (has_failed : Bool)
    → LeavesOnly (MayLeave (with_first contents bytes (length bytes) has_failed)) (with_first contents bytes count has_failed)
some_of_all contents bytes count has_failed left may =
    record { behind = may.behind; is = may.is; first_part = λ is_sure. part_of_all bytes count may.behind (may.first_part is_sure) }

-- after a fault a crash may leave at least the same
pub sure_or_not : (contents : Contents) (bytes : List ℕ) (has_failed : Bool) (left : List ℕ)
    → MayLeave (with_first contents bytes (length bytes) false) left → MayLeave (with_first contents bytes (length bytes) has_failed) left
sure_or_not contents bytes has_failed left may = record { behind = may.behind; is = may.is; first_part = λ _. may.first_part refl }

-- the contents after one more write
pub writes_on : (contents : Contents) (bytes rest : List ℕ) (done count : ℕ) → rest ≡ drop done bytes
    → with_added (with_first contents bytes done false) (take count rest) ≡ with_first contents bytes (done + count) false
writes_on contents bytes rest done count rest_is =
    ap (λ (l : List ℕ). with_added (with_first contents bytes done false) (take count l)) rest_is
    ∙ ap (λ (l : List ℕ). record { synced = contents.synced; appended = l; has_failed = false }) (sym (take-add done count bytes))

-- a write that succeeds
pub wrote : (old mid new : History) (bytes rest : List ℕ) (done count : ℕ) → mid.now ≡ with_first old.now bytes done false → rest ≡ drop done bytes
    → AtEachMoment (MayLeave (with_first old.now bytes (length bytes) false)) old mid → new ≡ after_append mid rest (Ok count)
    → (new.now ≡ with_first old.now bytes (done + count) false) × AtEachMoment (MayLeave (with_first old.now bytes (length bytes) false)) old new
wrote old mid new bytes rest done count is rest_is so_far new_is =
    let P = MayLeave (with_first old.now bytes (length bytes) false) in
    let next : with_added mid.now (take count rest) ≡ with_first old.now bytes (done + count) false =
    ap (λ (c : Contents). with_added c (take count rest)) is ∙ writes_on old.now bytes rest done count rest_is in
    let leaves = subst (LeavesOnly P) (sym next) (some_of_all old.now bytes (done + count) false) in (
      ap (λ (h : History). h.now) new_is ∙ next,
      subst (λ (h : History). AtEachMoment P old h) (sym new_is) (one_more P old mid _ so_far leaves),
    )

-- the bytes that a crash leaves after a write that failed
after_fault : (T : Type 0) (old mid : History) (bytes rest : List ℕ) (done : ℕ) (fault : WriteFault)
    → mid.now ≡ with_first old.now bytes done false → AtEachMoment (MayLeave (with_first old.now bytes (length bytes) false)) old mid
    → AtEachMoment (MayLeave (with_first old.now bytes (length bytes) (whether_failed {T = T} (Err fault)))) old (after_append mid rest (Err fault))
after_fault T old mid bytes rest done (Full error) is so_far =
    let P = MayLeave (with_first old.now bytes (length bytes) false) in
    one_refused P old mid so_far (subst (LeavesOnly P) (sym is) (some_of_all old.now bytes done false))
after_fault T old mid bytes rest done (Failed error) is so_far =
    let P = MayLeave (with_first old.now bytes (length bytes) true) in
    let earlier = weaker (MayLeave (with_first old.now bytes (length bytes) false)) P (sure_or_not old.now bytes true) old mid so_far in
    one_more P old mid _ earlier (subst (λ (c : Contents). LeavesOnly P (failed c)) (sym is) (some_of_all old.now bytes done true))

pub fails : {T : Type 0} (old mid new : History) (bytes rest : List ℕ) (done : ℕ) (result : Result T WriteFault) (fault : WriteFault) → result ≡ Err fault
    → mid.now ≡ with_first old.now bytes done false → AtEachMoment (MayLeave (with_first old.now bytes (length bytes) false)) old mid
    → new ≡ after_append mid rest (Err fault) → AtEachMoment (MayLeave (with_first old.now bytes (length bytes) (whether_failed result))) old new
fails {T = T} old mid new bytes rest done result fault result_is is so_far new_is =
    rw (result_is, new_is) (after_fault T old mid bytes rest done fault is so_far)

-- a crash after the sync may leave only bytes that it might have left before: all of them
all_synced : (contents : Contents) (bytes : List ℕ) → LeavesOnly (MayLeave (with_first contents bytes (length bytes) false)) (only_synced (file_of (with_first contents bytes (length bytes) false)))
all_synced contents bytes left may =
    let all = take (length bytes) bytes in
    let nothing = may.first_part refl in
    record {
      behind = all ++ may.behind;
      is = may.is ∙ append_assoc contents.synced all may.behind;
      first_part = λ _. (
        nothing.0,
        sym (append-nil all) ∙ ap (λ (l : List ℕ). all ++ l) nothing.1 ∙ sym (append_assoc all may.behind nothing.0),
      );
    }

-- a sync, once all bytes are written
pub syncs : (old mid new : History) (bytes : List ℕ) → mid.now ≡ with_first old.now bytes (length bytes) false
    → AtEachMoment (MayLeave (with_first old.now bytes (length bytes) false)) old mid → new ≡ after_sync mid true
    → AtEachMoment (MayLeave (with_first old.now bytes (length bytes) false)) old new
syncs old mid new bytes is so_far new_is =
    let P = MayLeave (with_first old.now bytes (length bytes) false) in
    let leaves = subst (λ (c : Contents). LeavesOnly P (only_synced (file_of c))) (sym is) (all_synced old.now bytes) in
    subst (λ (h : History). AtEachMoment P old h) (sym new_is) (one_more P old mid _ so_far leaves)

pub sync_fails : (old mid new : History) (bytes : List ℕ) → mid.now ≡ with_first old.now bytes (length bytes) false
    → AtEachMoment (MayLeave (with_first old.now bytes (length bytes) false)) old mid → new ≡ after_sync mid false
    → AtEachMoment (MayLeave (with_first old.now bytes (length bytes) true)) old new
sync_fails old mid new bytes is so_far new_is =
    let P = MayLeave (with_first old.now bytes (length bytes) true) in
    let earlier = weaker (MayLeave (with_first old.now bytes (length bytes) false)) P (sure_or_not old.now bytes true) old mid so_far in
    let leaves = subst (λ (c : Contents). LeavesOnly P (failed c)) (sym is) (some_of_all old.now bytes (length bytes) true) in
    subst (λ (h : History). AtEachMoment P old h) (sym new_is) (one_more P old mid _ earlier leaves)

-- without pending bytes
pub nothing_pending : (contents : Contents) (pending : List ℕ) → pending ≡ [] → contents.has_failed ≡ false
    → record contents { appended = pending } ≡ only_synced (file_of (record contents { appended = pending }))
nothing_pending contents pending none usable =
    let same : contents.synced ≡ contents.synced ++ pending = sym (append-nil contents.synced) ∙ ap (λ (l : List ℕ). contents.synced ++ l) (sym none) in
    λ i. record { synced = same i; appended = none i; has_failed = usable i }

-- without pending bytes, no call is made
pub nothing_tried : (history : History) (pending : List ℕ) (count : ℕ) → history.now.appended ≡ take count pending
    → AtEachMoment (MayLeave (record history.now { appended = pending })) history history
nothing_tried history pending count appended_is =
    at_start (MayLeave (record history.now { appended = pending })) history
    (λ left may. record {
      behind = may.behind;
      is = may.is;
      first_part = λ is_sure. part_of_pending may.behind (subst (IsFirstPart may.behind) appended_is (may.first_part is_sure));
    })
  where
    part_of_pending : (part : List ℕ) → IsFirstPart part (take count pending) → IsFirstPart part pending
    part_of_pending part (rest, is) = (
      rest ++ drop count pending,
      sym (take-append-drop count pending) ∙ ap (λ (l : List ℕ). l ++ drop count pending) is ∙ append_assoc part rest (drop count pending),
    )
