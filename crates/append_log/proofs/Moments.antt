-- A run of calls, call by call, and the bytes that a crash may leave at each moment of it.
use Rattle.std.proofs.Common.{ℕ, List, [], ◌∷◌, ◌++◌, refl, sym, ◌∙◌, ap, subst, append_assoc}
use Rattle.std.specs.List.{AllByRecursion}
use Rattle.append_log.specs.Contents.{Contents}
use Rattle.append_log.specs.History.{History, changed, refused, LeavesOnly, AtEachMoment}

-- before the first call
pub at_start : (P : List ℕ → Type 0) (history : History) → LeavesOnly P history.now → AtEachMoment P history history
at_start P history here = record { between = []; goes_on = refl; each = (here, tt) }

-- after one more call
pub one_more : (P : List ℕ → Type 0) (old mid : History) (next : Contents) → AtEachMoment P old mid → LeavesOnly P next → AtEachMoment P old (changed mid next)
one_more P old mid next so_far here = record { between = next ∷ so_far.between; goes_on = ap (λ l. next ∷ l) so_far.goes_on; each = (here, so_far.each) }

-- after one more call that found a full device
pub one_refused : (P : List ℕ → Type 0) (old mid : History) → AtEachMoment P old mid → LeavesOnly P mid.now → AtEachMoment P old (refused mid)
one_refused P old mid so_far here = record { between = mid.now ∷ so_far.between; goes_on = ap (λ l. mid.now ∷ l) so_far.goes_on; each = (here, so_far.each) }

each_weaker : (P Q : List ℕ → Type 0) → ((left : List ℕ) → P left → Q left) → (states : List Contents) → AllByRecursion (LeavesOnly P) states → AllByRecursion (LeavesOnly Q) states
each_weaker P Q weaker [] each = tt
each_weaker P Q weaker (state ∷ states) each = (λ left may. weaker left (each.0 left may), each_weaker P Q weaker states each.1)

pub weaker : (P Q : List ℕ → Type 0) → ((left : List ℕ) → P left → Q left) → (old new : History) → AtEachMoment P old new → AtEachMoment Q old new
weaker P Q implies old new run = record { between = run.between; goes_on = run.goes_on; each = each_weaker P Q implies (run.between ++ old.now ∷ []) run.each }

all_front : (P : Contents → Type 0) (xs ys : List Contents) → AllByRecursion P (xs ++ ys) → AllByRecursion P xs
all_front P [] ys all = tt
all_front P (x ∷ xs) ys all = (all.0, all_front P xs ys all.1)

all_both : (P : Contents → Type 0) (xs ys : List Contents) → AllByRecursion P xs → AllByRecursion P ys → AllByRecursion P (xs ++ ys)
all_both P [] ys none all = all
all_both P (x ∷ xs) ys both all = (both.0, all_both P xs ys both.1 all)

-- one run after another
pub joined : (P : List ℕ → Type 0) (first second third : History) → AtEachMoment P first second → AtEachMoment P second third → AtEachMoment P first third
joined P first second third earlier later =
    let all = all_both (LeavesOnly P) later.between (earlier.between ++ first.now ∷ []) (all_front (LeavesOnly P) later.between (second.now ∷ []) later.each) earlier.each in
    record {
      between = later.between ++ earlier.between;
      goes_on = later.goes_on ∙ ap (λ (l : List Contents). later.between ++ l) earlier.goes_on ∙ sym (append_assoc later.between earlier.between (first.now ∷ first.past));
      each = subst (AllByRecursion (LeavesOnly P)) (sym (append_assoc later.between earlier.between (first.now ∷ []))) all;
    }
