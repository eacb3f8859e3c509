-- The effect of the loss of a link, and losses one after another.
use Rattle.std.proofs.Common.{◌≡◌, ℕ, zero, suc, ◌+◌, ◌<◌, Bool, true, false, cond, List, [], ◌∷◌, ◌++◌, length, get_or, Option, Some, None, Result, Ok, Err, inl, inr, refl, sym, ap, ◌∙◌, subst, append_assoc, append-nil, arith}
use Rattle.std.specs.Prelude.{slice_set, slice_get, flat_map}
use Rattle.std.specs.List.{AllByRecursion}
use Rattle.std.specs.Str.{bytes_eq}
use Rattle.std.proofs.lemmas.Bool.{cases_lt}
use Rattle.std.proofs.lemmas.Grind.{flat_map-append}
use Rattle.std.proofs.lemmas.List.Quantifiers.{position-Some}
use Rattle.std.proofs.lemmas.Slice.Eq.{bytes_eq-Decides}
use Rattle.ocpp_scalars.specs.ResultSteps.{◌>>=◌}
use Rattle.ocpp_scalars.specs.declared.refusal.Refusal.TheVariants.{Stopped, Superseded}
use Rattle.site_rules.specs.Site.{PointEntry, SiteState, place_of}
use Rattle.site_core.specs.declared.step.Step.TheVariants as steps
use Rattle.site_core.specs.declared.reply.Reply.{Reply}
use Rattle.site_core.specs.declared.reply.Reply.TheVariants.{LinkLost}
use Rattle.site_core.specs.ChargePoint.{ChargePointState, Loses, point_after}
use Rattle.site_core.specs.State.{MachineState, point_in, point_at, outbox_at, link_at, link_of, is_this_number}
use Rattle.site_core.specs.Step.{Made, over_link, loses, made_at, found_place, place_for, stepped, no_answer}
use Rattle.journal.specs.declared.restore_fault.RestoreFault.{RestoreFault}
use Rattle.journal.specs.Line.{LineState, lost, line_text}
use Rattle.journal.specs.Restore.{restored, restored_lines}
use Rattle.journal.specs.LostLinks.{HasNoLinks, IsLossAt, LosesLinks}
use Rattle.journal.specs.ByCases.LostLinks.{HasNoLinkAt, GivesNoLink}
use Rattle.version_store.specs.Theory.Forgetting.{led}
use Rattle.journal.proofs.RestoreLemmas.{made_so}
use Rattle.journal.proofs.NotedLemmas.{losses}

-- ---- points in a list

abbrev no_link : ChargePointState → Type 0
no_link point = point.outbox.link ≡ None

here_none : (points : List ChargePointState) (place : ℕ) (point : ChargePointState) → no_link point
    → no_link (point_in (slice_set points place point) place)
here_none [] place point none = refl
here_none (first ∷ points) zero point none = none
here_none (first ∷ points) (suc place) point none = here_none points place point none

others_none : (points : List ChargePointState) (place other : ℕ) (point : ChargePointState)
    → no_link point → no_link (point_in points other)
    → no_link (point_in (slice_set points place point) other)
others_none [] place other point none had = had
others_none (first ∷ points) zero zero point none had = none
others_none (first ∷ points) zero (suc other) point none had = had
others_none (first ∷ points) (suc place) zero point none had = had
others_none (first ∷ points) (suc place) (suc other) point none had =
    others_none points place other point none had

-- ---- the step

pub record LosesAt (old : MachineState) (point : List ℕ) (new : MachineState) : Type 0 where
  pub here : link_of new point ≡ None
  pub others : GivesNoLink old new

-- a link is lost at the place of its point
place_found : (old : MachineState) (link : ℕ) (stopped : Bool) (found : Option ℕ) (place : ℕ)
    → cond stopped (Err Stopped) (found_place old (over_link [] link loses).via found) ≡ Ok place
    → found ≡ Some place
place_found old link true found place is = absurd (cc is)
place_found old link false None place is = absurd (cc is)
place_found old link false (Some at) place is =
    go (is_this_number link (outbox_at old at).link) is
  where
    go : (this : Bool) → cond this (Ok at) (Err Superseded) ≡ Ok place
        → ◌≡◌ {A = Option ℕ} (Some at) (Some place)
    go true same = let it : at ≡ place = cc same in ap (λ (n : ℕ). Some n) it
    go false same = absurd (cc same)

lost_at : (old : MachineState) (point : List ℕ) (place : ℕ) → place_of old.site point ≡ Some place
    → LosesAt old point (record old {
      points = slice_set old.points place (point_after (point_at old place) Loses);
    })
lost_at old point place found = record {
  here = ap (λ (f : Option ℕ). link_at new f) found
      ∙ here_none old.points place lost_point refl;
  others = record { site = refl; none = λ other had. go (place_of old.site other) had };
}
  where
    lost_point : ChargePointState
    lost_point = point_after (point_at old place) Loses

    new : MachineState
    new = record old { points = slice_set old.points place lost_point }

    go : (f : Option ℕ) → link_at old f ≡ None → link_at new f ≡ None
    go None had = refl
    go (Some other) had = others_none old.points place other lost_point refl had

pub loses_at : (old new : MachineState) (point : List ℕ) (link : ℕ)
    → stepped no_answer old (steps.Lost point link) ≡ Ok (made_so LinkLost new)
    → LosesAt old point new
loses_at old new point link is =
    let step = steps.Lost point link in
    let placed = led (place_for old point (over_link [] link loses).via) (λ (place : ℕ). loses (point_at old place) >>= (λ (reply : Reply). Ok (made_at old step place reply))) (made_so LinkLost new) is in
    let found = place_found old link old.is_stopped (place_of old.site point) placed.a placed.is in
    let same : made_at old step placed.a LinkLost ≡ made_so LinkLost new = cc placed.then in
    subst (LosesAt old point) (ap (λ (m : Made). m.after) same) (lost_at old point placed.a found)

-- ---- lines

each_join : (moment : ℕ) (xs ys : List LineState) → AllByRecursion (IsLossAt moment) xs
    → AllByRecursion (IsLossAt moment) ys → AllByRecursion (IsLossAt moment) (xs ++ ys)
each_join moment [] ys one other = other
each_join moment (x ∷ xs) ys one other = (one.0, each_join moment xs ys one.1 other)

pub lines_join : (old middle new : MachineState) (xs ys : List LineState)
    → restored_lines old xs ≡ Ok middle → restored_lines middle ys ≡ Ok new
    → restored_lines old (xs ++ ys) ≡ Ok new
lines_join old middle new [] ys one other =
    let same : old ≡ middle = cc one in
    ap (λ (s : MachineState). restored_lines s ys) same ∙ other
lines_join old middle new (x ∷ xs) ys one other =
    let first = led (restored old x) (λ (s : MachineState). restored_lines s xs) middle one in
    ap (λ (r : Result MachineState RestoreFault). r >>= (λ (s : MachineState). restored_lines s (xs ++ ys))) first.is
    ∙ lines_join first.a middle new xs ys first.then other

pub no_loss : (moment : ℕ) (state : MachineState) (text : List ℕ)
    → LosesLinks moment state state text text
no_loss moment state text =
    record { lines = []; losses = tt; appended = sym (append-nil text); leads = refl }

pub one_loss : (moment : ℕ) (old new : MachineState) (point : List ℕ) (link : ℕ)
    (before behind : List ℕ)
    → stepped no_answer old (steps.Lost point link) ≡ Ok (made_so LinkLost new)
    → behind ≡ before
    ++ line_text (record { moment = moment; point = point; noted = lost link })
    → LosesLinks moment old new before behind
one_loss moment old new point link before behind is appended =
    let line : LineState = record { moment = moment; point = point; noted = lost link } in
    record {
      lines = line ∷ [];
      losses = (record { at = refl; link = link; noted = refl }, tt);
      appended = appended ∙ ap (λ (t : List ℕ). before ++ t) (sym (append-nil (line_text line)));
      leads = ap (λ (r : Result MachineState RestoreFault). r >>= (λ (s : MachineState). Ok s))
          (losses old moment point link (made_so LinkLost new) is);
    }

pub more_losses : (moment : ℕ) (old middle new : MachineState) (before between behind : List ℕ)
    → LosesLinks moment old middle before between → LosesLinks moment middle new between behind
    → LosesLinks moment old new before behind
more_losses moment old middle new before between behind one other = record {
  lines = one.lines ++ other.lines;
  losses = each_join moment one.lines other.lines one.losses other.losses;
  appended = other.appended ∙ ap (λ (t : List ℕ). t ++ flat_map line_text other.lines) one.appended
      ∙ append_assoc before (flat_map line_text one.lines) (flat_map line_text other.lines)
      ∙ ap (λ (t : List ℕ). before ++ t) (sym (flat_map-append line_text one.lines other.lines));
  leads = lines_join old middle new one.lines other.lines one.leads other.leads;
}

-- ---- all points

still_none : (old new : MachineState) (place : ℕ) → GivesNoLink old new → HasNoLinkAt old place
    → HasNoLinkAt new place
still_none old new place gives none point is =
    gives.none point.id (none point
    (ap (λ (site : SiteState). slice_get site.points place) (sym gives.site) ∙ is))

-- one more place
pub one_place_more : (old new : MachineState) (place : ℕ) → GivesNoLink old new
    → ((k : ℕ) → k < place → HasNoLinkAt old k) → HasNoLinkAt new place
    → (k : ℕ) → k < place + 1 → HasNoLinkAt new k
one_place_more old new place gives before here k within =
    elim (cases_lt k place) [
      | inl below ↦ still_none old new k gives (before k below)
      | inr from ↦
          let same : place ≡ k = omega (arith, within, from) in
          subst (HasNoLinkAt new) same here
    ]

entry_at : (points : List PointEntry) (place : ℕ) (d : PointEntry) → place < length points
    → slice_get points place ≡ Some (get_or points place d)
entry_at [] place d within = absurd (omega (arith, within))
entry_at (point ∷ points) zero d within = refl
entry_at (point ∷ points) (suc place) d within = entry_at points place d (omega (arith, within))

-- if no place has a link, no identity has one
pub no_links : (state : MachineState)
    → ((k : ℕ) → k < length state.site.points → HasNoLinkAt state k) → HasNoLinks state
no_links state none point = go (place_of state.site point) refl
  where
    nobody : PointEntry
    nobody = record { id = []; ceiling = 0; ceilings = [] }

    go : (found : Option ℕ) → place_of state.site point ≡ found → link_of state point ≡ None
    go None is = ap (λ (f : Option ℕ). link_at state f) is
    go (Some place) is =
        let at = position-Some (λ (entry : PointEntry). bytes_eq point entry.id) state.site.points place nobody is in
        let entry = get_or state.site.points place nobody in
        let same : point ≡ entry.id = (bytes_eq-Decides point entry.id).0 at.1 in
        ap (λ (id : List ℕ). link_of state id) same
        ∙ none place at.0 entry (entry_at state.site.points place nobody at.0)
