-- The contents of a file of the operating system, now and before, according to the noted calls.
-- They exist only in proofs.
use Rattle.std.specs.Prelude.{ℕ, zero, suc, ◌≡◌, true, false, List, [], ◌∷◌, length, take, slice_index, replicate, refl}
use Rattle.std.proofs.Common.{sym, ◌∙◌, ap}
use Rattle.std.proofs.lemmas.List.{length-replicate}
use Rattle.append_log.specs.Contents.{failed, file_of, only_synced, with_added}
use Rattle.append_log.specs.History.{History, changed, refused}
use Rattle.append_log.specs.AppendedFile.{after_cut, after_sync}
use Rattle.append_log.specs.Lines.{line_feed, before, whole_lines}

-- A file that was just opened. Only the length of its whole lines is known: the equation is
-- unfolded only in this file.
pub opened : ℕ → History
opened end = record { now = record { synced = []; appended = replicate end line_feed; has_failed = false }; past = []; refusals = 0 }

-- no call failed
pub opened-usable : (end : ℕ) → (opened end).now.has_failed ≡ false
unfolding opened
opened-usable end = refl

feeds_are_whole : (end : ℕ) → whole_lines (replicate end line_feed) ≡ replicate end line_feed
feeds_are_whole zero = refl
feeds_are_whole (suc end) = ap (before line_feed) (feeds_are_whole end) ∙ feed (replicate end line_feed)
  where
    feed : (counts : List ℕ) → before line_feed counts ≡ line_feed ∷ counts
    feed [] = refl
    feed (next ∷ rest) = refl

pub opened-end : (end : ℕ) → end ≡ length (whole_lines (file_of (opened end).now))
unfolding opened
opened-end end = sym (ap length (feeds_are_whole end) ∙ length-replicate end line_feed)

-- the effect of a call, by its number, with a count
abbrev pub noted_by : ℕ → ℕ → List ℕ → History → History
-- 0: it was opened, with `count` bytes of whole lines
noted_by zero count bytes history = opened count
-- 1: the first `count` of these bytes were appended
noted_by (suc zero) count bytes history = changed history (with_added history.now (take count bytes))
-- 2: the device was full
noted_by (suc (suc zero)) count bytes history = refused history
-- 3: a write failed
noted_by (suc (suc (suc zero))) count bytes history = changed history (failed history.now)
-- 4: a sync succeeded, 5: a sync failed
noted_by (suc (suc (suc (suc zero)))) count bytes history = after_sync history true
noted_by (suc (suc (suc (suc (suc zero))))) count bytes history = after_sync history false
-- 6: a cut to this length succeeded, 7: it failed
noted_by (suc (suc (suc (suc (suc (suc zero)))))) count bytes history = after_cut history count true
noted_by (suc (suc (suc (suc (suc (suc (suc zero))))))) count bytes history = after_cut history count false
-- 8 and above: the file is in memory, and has these bytes
noted_by (suc (suc (suc (suc (suc (suc (suc (suc more)))))))) count bytes history = record { now = only_synced bytes; past = []; refusals = 0 }

abbrev pub noted : List ℕ → List ℕ → History → History
noted call bytes history = noted_by (slice_index call 0) (slice_index call 1) bytes history
