-- The result of a method for a step: the effect of the step, or nothing, for the first cause or for
-- lack of memory. Only private clauses use this.
use Rattle.std.specs.Prelude.{◌≡◌, ◌≤◌, ℕ, Bool, true, false, List, length, Result, Ok, Err, MatchResult, if◌then◌else◌}
use Rattle.ocpp_scalars.specs.declared.refusal.Refusal.{Refusal}
use Rattle.ocpp_scalars.specs.declared.refusal.Refusal.TheVariants.{OutOfMemory}
use Rattle.site_rules.specs.Site.{SiteState, HasConnector}
use Rattle.site_core.specs.declared.decision.Decision.{Decision}
use Rattle.site_core.specs.declared.decision.Decision.TheVariants.{Answers, Does}
use Rattle.site_core.specs.declared.numbers.Numbers.{Numbers}
use Rattle.site_core.specs.declared.reply.Reply.{Reply}
use Rattle.site_core.specs.declared.step.Step.{Step}
use Rattle.site_core.specs.declared.via.Via.{Via}
use Rattle.site_core.specs.ChargePoint.{ChargePointState, point_with}
use Rattle.site_core.specs.State.{MachineState}
use Rattle.site_core.specs.Step.{Made, IsRefusalOf, Work, AtPoint, facts, answer_alone, wants_memory, deed}

-- made, with this reply and this state after it
abbrev pub IsMade : Result Made Refusal → Reply → MachineState → Type 0
IsMade made reply new = made ≡ Ok (record { reply = reply; after = new })

-- not made, for this cause, and the state is as it was
pub record IsNotMade (old : MachineState) (made : Result Made Refusal) (refusal : Refusal)
    (new : MachineState) : Type 0 where
  pub cause : IsRefusalOf made refusal
  pub unchanged : new ≡ old

-- ---- at a point

-- whether the reply is that of an event, or an answer without a change
abbrev pub decision_of : Result Reply Refusal → Result Decision Refusal
decision_of (Err refusal) = Err refusal
decision_of (Ok reply) = Ok (if (facts reply).is_event false then Does else Answers reply)

-- whether a step with this decision would be an event, or its refusal
abbrev pub outlook_by : Result Decision Refusal → Result Bool Refusal
outlook_by (Err refusal) = Err refusal
outlook_by (Ok Does) = Ok true
outlook_by (Ok (Answers reply)) = Ok false

-- A method's decision agrees with the definition: the reply is this one if something is done, and
-- otherwise the decision's.
abbrev pub ComesTo : Result Reply Refusal → Reply → Result Decision Refusal → Type 0
ComesTo decided reply (Ok Does) = decided ≡ Ok reply
ComesTo decided reply (Ok (Answers answer)) =
    (decided ≡ Ok answer) × (facts answer ≡ answer_alone)
ComesTo decided reply (Err refusal) = decided ≡ Err refusal

-- if something is done
abbrev pub OnDoes : Result Decision Refusal → Type 0 → Type 0
OnDoes (Ok Does) holds = holds
OnDoes (Ok (Answers answer)) holds = Unit {0}
OnDoes (Err refusal) holds = Unit {0}

-- the reason why a decided step isn't made: its cause, or else, if it needs memory, OutOfMemory
abbrev pub IsCauseOf : Result Reply Refusal → Refusal → Type 0
IsCauseOf (Err cause) refusal = refusal ≡ cause
IsCauseOf (Ok reply) refusal = (wants_memory reply ≡ true) × (refusal ≡ OutOfMemory)

-- a decided step is made at a point, with its effect there, or isn't made, and nothing changed
abbrev pub IsMadeAt : Result Reply Refusal → Step → ChargePointState → Result Reply Refusal
    → ChargePointState → Type 0
IsMadeAt decided step old result new = MatchResult result
    (λ reply. (decided ≡ Ok reply) × (new ≡ point_with (deed old step reply) old))
    (λ refusal. IsCauseOf decided refusal × (new ≡ old))

-- ---- a step that names a point

abbrev pub IsAtPoint : Work → Type 0
IsAtPoint (AtPoint at) = Unit {0}
IsAtPoint other = ⊥

-- it names this point, and comes to it this way
abbrev pub IsFor : Work → List ℕ → Via → Type 0
IsFor (AtPoint at) point via = (at.point ≡ point) × (at.via ≡ via)
IsFor other point via = ⊥

-- the connectors of its point in the site file are those of the book
abbrev pub HasConnectorsOf : Work → SiteState → ChargePointState → Type 0
HasConnectorsOf (AtPoint at) site point =
    (connector : ℕ) → HasConnector site at.point connector → connector ≤ length point.book.ceilings
HasConnectorsOf other site point = ⊥

-- the decision on it at its point
abbrev pub IsDecided : Work → SiteState → Numbers → ChargePointState → Result Decision Refusal
    → Type 0
IsDecided (AtPoint at) site numbers point result =
    result ≡ decision_of (at.decided site numbers point)
IsDecided other site numbers point result = ⊥

-- its result there
abbrev pub IsWorked : Work → SiteState → Numbers → Step → ChargePointState → Result Reply Refusal
    → ChargePointState → Type 0
IsWorked (AtPoint at) site numbers step old result new =
    IsMadeAt (at.decided site numbers old) step old result new
IsWorked other site numbers step old result new = ⊥
