-- No other request is kept, and there is an `Ask` for the whole and for its first second.
use Rattle.std.proofs.Common.{◌≡◌, length, sym, arith}
use Rattle.std.proofs.lemmas.Bool.Decides.{nat_tests}
use Rattle.std.proofs.lemmas.List.{nil_from_length}
use Rattle.replay.proofs.player.machine_steps.makes_no_difference.Goals as goal

pub returns : goal.returns
returns c = λ short.
    let none : length c.args.machine.now.requests ≡ 0 =
    grind (arith, nat_tests, c.open_requests.ensures.value, c.if-open_requests-gt0.false) in
    record {
      alone = nil_from_length c.args.machine.now.requests none;
      ask = c.in-Ok.ask;
      asks = sym c.in-Ok.ensures.made;
      second = c.in-Ok-try_new._second;
      asks_second = sym c.in-Ok-try_new.ensures.made;
    }
