-- Periods read one after another.
use Rattle.std.proofs.Common.{◌≡◌, List, [], ◌∷◌, ◌++◌, Result, Ok, Err, ap, refl, sym, subst, append_assoc}
use Rattle.ocpp_scalars.specs.ResultSteps.{◌>>=◌}
use Rattle.ocppj_frame.specs.Tree.{Tree}
use Rattle.profile.specs.declared.period.Period.{Period}
use Rattle.messages.specs.declared.call_fault.CallFault.{CallFault}
use Rattle.messages.specs.ProfileFields.{each_period_of, period_of}

-- The periods read so far, and then those of the rest.
abbrev pub after_periods : List Period → Result (List Period) CallFault → Result (List Period) CallFault
after_periods before (Ok periods) = Ok (before ++ periods)
after_periods before (Err fault) = Err fault

by_rest : (before : List Period) (period : Period) (rest : Result (List Period) CallFault)
    → after_periods (before ++ period ∷ []) rest
    ≡ after_periods before (rest >>= (λ (periods : List Period). Ok (period ∷ periods)))
by_rest before period (Ok periods) = ap Ok (append_assoc before (period ∷ []) periods)
by_rest before period (Err fault) = refl

-- one more period is read, and those of the rest follow
pub one_more : (before : List Period) (entry : Tree) (entries : List Tree) (period : Period)
    → period_of entry ≡ Ok period
    → after_periods (before ++ period ∷ []) (each_period_of entries)
    ≡ after_periods before (each_period_of (entry ∷ entries))
one_more before entry entries period is =
    subst (λ (read : Result Period CallFault).
    after_periods (before ++ period ∷ []) (each_period_of entries)
    ≡ after_periods before (read >>= (λ (first : Period).
    each_period_of entries >>= (λ (periods : List Period). Ok (first ∷ periods)))))
    (sym is) (by_rest before period (each_period_of entries))
