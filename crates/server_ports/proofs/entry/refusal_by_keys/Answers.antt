-- A peer is refused if and only if the keys don't admit it.
use Rattle.server_ports.proofs.entry.refusal_by_keys.Goals as goal

pub returns : goal.returns
returns c =
    let refused = c.refusal_of.ensures in
    let admitted = c.in_ok-admission.ensures in (
      λ none. let come = refused.0 none in (come.0, (admitted come.0).0 come.1),
      λ come. refused.1 (come.0, (admitted come.0).1 come.1),
    )
