-- The cases of the sent bytes.
use Rattle.std.proofs.Common.{◌≡◌, List, ℕ, Some, None, Option, Vec, Global, refl, sym, ap, ◌∙◌}
use Rattle.std.specs.Option.{option_map}
use Rattle.std.proofs.lemmas.Result.{IfOk-weaker}
use Rattle.site_keys.specs.declared.admission.Admission.TheVariants.{Unauthorized}
use Rattle.site_keys.specs.ByCases.Credentials.{credentials_of}
use Rattle.site_keys.specs.ByCases.Admission.{decided_of}
use Rattle.site_keys.proofs.AdmissionLemmas.{decides, says_by_bytes, says_nothing}
use Rattle.site_keys.proofs.admission.decide.Goals as goal

abbrev items : Option (Vec ℕ Global) → Option (List ℕ)
items sent = option_map (λ (v : Vec ℕ Global). v.items) sent

pub returns-in-Some : goal.returns-in-Some
returns-in-Some c =
    let header = c.args.header.now in
    let bytes = c.in-Some.bytes.items in
    let sent = (c.in_ok-bytes.ensures bytes).0 (ap items c.in-Some.is) in
    IfOk-weaker c.decide_decoded.result _ _
    (λ admission is. decides admission c.args.keys.now c.args.role c.args.identity.now header (credentials_of bytes)
    (says_by_bytes header bytes sent)
    (is ∙ ap (λ (t : List ℕ). decided_of c.args.keys.now c.args.role c.args.identity.now (credentials_of t)) c.as_slice.ensures.value))
    c.decide_decoded.ensures

pub returns-in-None : goal.returns-in-None
returns-in-None c =
    let header = c.args.header.now in
    decides Unauthorized c.args.keys.now c.args.role c.args.identity.now header None
    (says_nothing header (λ bytes sent.
    let is : None ≡ Some bytes = ap items (sym c.in-None.is) ∙ (c.in_ok-bytes.ensures bytes).1 sent in
    absurd (cc is)))
    refl
