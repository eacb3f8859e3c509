-- The bytes that a crash leaves while a file is cut behind its whole lines.
use Rattle.std.proofs.Common.{◌≡◌, ℕ, true, false, List, [], ◌∷◌, ◌++◌, length, ◌≤◌, take, drop, refl, sym, ◌∙◌, ap, subst, arith, append_assoc, length-append, take-append-drop}
use Rattle.append_log.specs.Contents.{Contents, IsFirstPart, file_of, only_synced}
use Rattle.append_log.specs.History.{History, LeavesOnly, AtEachMoment}
use Rattle.append_log.specs.AppendedFile.{being_cut, uncut, after_cut}
use Rattle.append_log.specs.Lines.{whole_lines, HasLinesBetween, HasLinesOf}
use Rattle.append_log.proofs.Moments.{at_start, one_more}
use Rattle.append_log.proofs.Lines.{part_of_part, lines_of_part, lines_again, lines_are_part, part_of_cut, take_lines}

module _ (contents : Contents) (usable : contents.has_failed ≡ false) (end : ℕ) (end_is : end ≡ length (whole_lines (file_of contents))) where
  abbrev file : List ℕ
  file = file_of contents

  cut_is : take end file ≡ whole_lines file
  cut_is = take_lines file end end_is

  synced_of_file : IsFirstPart (whole_lines contents.synced) (whole_lines file)
  synced_of_file = lines_of_part contents.synced file (contents.appended, refl)

  -- before the cut
  leaves_old : LeavesOnly (HasLinesBetween contents.synced file) contents
  leaves_old left may =
      let part = may.first_part usable in
      record {
        no_fewer = lines_of_part contents.synced left (may.behind, may.is);
        no_others = lines_of_part left file (
          part.0,
          ap (λ (l : List ℕ). contents.synced ++ l) part.1 ∙ sym (append_assoc contents.synced may.behind part.0) ∙ ap (λ (l : List ℕ). l ++ part.0) (sym may.is),
        );
      }

  -- after the cut, with none, some or all of the bytes cut off
  cut_leaves : (left behind : List ℕ) → left ≡ take end file ++ behind → IsFirstPart left file → HasLinesBetween contents.synced file left
  cut_leaves left behind is part =
      let whole : IsFirstPart (whole_lines (take end file)) (whole_lines left) = lines_of_part (take end file) left (behind, is) in
      let all : whole_lines (take end file) ≡ whole_lines file = ap whole_lines cut_is ∙ lines_again file in
      record {
        no_fewer = part_of_part _ _ _ synced_of_file (subst (λ (l : List ℕ). IsFirstPart l (whole_lines left)) all whole);
        no_others = lines_of_part left file part;
      }

  leaves_being_cut : LeavesOnly (HasLinesBetween contents.synced file) (being_cut end contents)
  leaves_being_cut left may =
      let part = may.first_part refl in
      cut_leaves left may.behind may.is (
        part.0,
        sym (take-append-drop end file) ∙ ap (λ (l : List ℕ). take end file ++ l) part.1 ∙ sym (append_assoc (take end file) may.behind part.0) ∙ ap (λ (l : List ℕ). l ++ part.0) (sym may.is),
      )

  leaves_cut : LeavesOnly (HasLinesBetween contents.synced file) (only_synced (take end file))
  leaves_cut left may = leaves_being_cut left (record { behind = may.behind; is = may.is; first_part = λ _. still may.behind (may.first_part refl) })
    where
      still : (behind : List ℕ) → IsFirstPart behind [] → IsFirstPart behind (drop end file)
      still [] none = (drop end file, refl)
      still (byte ∷ behind) none = absurd (cc none.1)

  -- the whole lines on disk are in front of the cut
  leaves_failed : LeavesOnly (HasLinesOf contents.synced) (uncut end contents)
  leaves_failed left may =
      let lines = whole_lines contents.synced in
      let behind = lines_are_part contents.synced in
      let short : length lines ≤ end = omega (arith, end_is, ap length synced_of_file.1, length-append lines synced_of_file.0) in
      let kept : IsFirstPart lines (take end contents.synced) = subst (λ (l : List ℕ). IsFirstPart lines (take end l)) (sym behind.1) (part_of_cut lines behind.0 end short) in
      let stands : IsFirstPart lines left = part_of_part lines (take end contents.synced) left kept (may.behind, may.is) in
      subst (λ (l : List ℕ). IsFirstPart l (whole_lines left)) (lines_again contents.synced) (lines_of_part lines left stands)

-- the two moments of a cut
pub cuts : (old new : History) (end : ℕ) → old.now.has_failed ≡ false → end ≡ length (whole_lines (file_of old.now))
    → new ≡ after_cut old end true
    → AtEachMoment (HasLinesBetween old.now.synced (file_of old.now)) old new
cuts old new end usable end_is new_is =
    let P = HasLinesBetween old.now.synced (file_of old.now) in
    let start = at_start P old (leaves_old old.now usable end end_is) in
    let during = one_more P old old _ start (leaves_being_cut old.now usable end end_is) in
    subst (λ (h : History). AtEachMoment P old h) (sym new_is) (one_more P old _ _ during (leaves_cut old.now usable end end_is))

pub cut_fails : (old new : History) (end : ℕ) → old.now.has_failed ≡ false → end ≡ length (whole_lines (file_of old.now))
    → new ≡ after_cut old end false
    → AtEachMoment (HasLinesOf old.now.synced) old new
cut_fails old new end usable end_is new_is =
    let P = HasLinesOf old.now.synced in
    let start = at_start P old (λ left may. (leaves_old old.now usable end end_is left may).no_fewer) in
    let during = one_more P old old _ start (λ left may. (leaves_being_cut old.now usable end end_is left may).no_fewer) in
    subst (λ (h : History). AtEachMoment P old h) (sym new_is) (one_more P old _ _ during (leaves_failed old.now usable end end_is))

-- the whole lines are within the file
pub within_file : (file : List ℕ) (end : ℕ) → end ≡ length (whole_lines file) → end ≤ length file
within_file file end is =
    let part = lines_are_part file in
    omega (arith, is, ap length part.1, length-append (whole_lines file) part.0)

-- a file that was cut
pub cut_contents : (contents : Contents) (end : ℕ) (pending : List ℕ) → end ≡ length (whole_lines (file_of contents)) → pending ≡ []
    → record (only_synced (take end (file_of contents))) { appended = pending } ≡ only_synced (whole_lines (file_of contents))
cut_contents contents end pending end_is none =
    λ i. record { synced = take_lines (file_of contents) end end_is i; appended = none i; has_failed = false }
