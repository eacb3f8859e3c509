-- The events of a history determine the points after it.
use Rattle.std.proofs.Common.{◌≡◌, List, [], ◌∷◌, refl, sym, ap, ◌∙◌}
use Rattle.std.proofs.lemmas.List.{set-get_or}
use Rattle.site_core.specs.declared.step.Step.{Step}
use Rattle.site_core.specs.declared.step.Step.TheVariants as steps
use Rattle.site_core.specs.State.{MachineState, no_point}
use Rattle.site_core.specs.Step.{Made}
use Rattle.site_core.specs.History.{Event, Legal}
use Rattle.site_core.specs.CallOrder.{place_named}
use Rattle.site_core.proofs.StepLemmas.{Does, does, leaves, takes_one, compiles_one, hands_one, finishes_all, points_by, keeps_site}

-- an event determines the points after it
points_are : (old : MachineState) (step : Step) (made : Made) → Does old step made
    → made.after.points ≡ points_by old.points (place_named old.site step) step made.reply
points_are old step made (leaves _ _ is) = is.points
points_are old step made (takes_one take place ask point asks going) =
    sym (set-get_or old.points place no_point)
    ∙ ap (λ found. points_by old.points found (steps.Take take) made.reply) (sym point)
points_are old step made (compiles_one number kept answer found unanswered right) = refl
points_are old step made (hands_one number kept answer found has) = refl
points_are old step made (finishes_all going) = refl

-- two states with the same site and points lead by the same events to the same points
pub same_points : (old another one other : MachineState) (events : List Event)
    → old.site ≡ another.site → old.points ≡ another.points
    → Legal old events one → Legal another events other → one.points ≡ other.points
same_points old another one other [] site points legal also =
    ap (λ (s : MachineState). s.points) legal ∙ (points
    ∙ ap (λ (s : MachineState). s.points) (sym also))
same_points old another one other (event ∷ events) site points legal also =
    let made : Made = record { reply = event.reply; after = legal.0 } in
    let made_there : Made = record { reply = event.reply; after = also.0 } in
    let here = does old event.step event.reply legal.0 legal.1 in
    let there = does another event.step event.reply also.0 also.1 in
    same_points legal.0 also.0 one other events
    (keeps_site old event.step made here ∙ (site
    ∙ sym (keeps_site another event.step made_there there)))
    (points_are old event.step made here
    ∙ ((λ i. points_by (points i) (place_named (site i) event.step)
    event.step event.reply)
    ∙ sym (points_are another event.step made_there there)))
    legal.2 also.2
