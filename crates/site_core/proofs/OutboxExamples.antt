-- A point's day, computed by hand: links come and go, and each call is sent until it is confirmed.
use Rattle.std.proofs.Common.{◌≡◌, refl, pos, List, [], ◌∷◌, map, true, Some, None}
use Rattle.messages.specs.declared.call.Call.{Call}
use Rattle.messages.specs.declared.call.CallBody.{CallBody}
use Rattle.messages.specs.declared.call.CallBody.TheVariants.{Clear}
use Rattle.site_core.specs.Outbox.{opening_outbox, Traffic, Attach, Lose, Add, Send, Confirm, after_all}
use Rattle.site_core.specs.OutboxOrder.{numbers_sent, calls_confirmed}

abbrev seven : CallBody
seven = Clear (record { id = Some (pos 7); connector = None; purpose = None; stack_level = None })

-- two links, of which the second sends; the session is lost, and call 0 goes again over a third; a
-- reply to call 1 confirms nothing, one to call 0 does; call 1 is sent, and again over a fourth
-- link
abbrev day : List Traffic
day =
    Attach 1 ∷ (Attach 2 ∷ (Send ∷ (Send ∷ (Lose ∷ (Send ∷ (Attach 3 ∷ (Send ∷ (Add seven ∷
    (Confirm 1 ∷ (Confirm 0 ∷ (Confirm 1
    ∷ (Send ∷ (Attach 4 ∷ (Confirm 1 ∷ (Send ∷ [])))))))))))))))

sent : numbers_sent opening_outbox day ≡ 0 ∷ (0 ∷ (1 ∷ (1 ∷ [])))
sent = refl

confirmed : map (λ (call : Call). call.number) (calls_confirmed opening_outbox day) ≡ 0 ∷ []
confirmed = refl

left : after_all opening_outbox day ≡ record {
  link = Some 4;
  calls = record { number = 1; body = seven } ∷ [];
  next = 2;
  is_in_flight = true;
}
left = refl
