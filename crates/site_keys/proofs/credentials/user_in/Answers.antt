-- The cases of the sent bytes.
use Rattle.std.proofs.Common.{◌≡◌, List, ℕ, Some, None, Option, Vec, Global, String, string_bytes, refl, sym, ap, ◌∙◌}
use Rattle.std.specs.Option.{option_map}
use Rattle.std.proofs.lemmas.Result.{IfOk-weaker}
use Rattle.site_keys.specs.ByCases.Credentials.{CredentialsState, credentials_of}
use Rattle.site_keys.proofs.AdmissionLemmas.{says_by_bytes, says_nothing, user_said}
use Rattle.site_keys.proofs.credentials.user_in.Goals as goal

abbrev items : Option (Vec ℕ Global) → Option (List ℕ)
items sent = option_map (λ (v : Vec ℕ Global). v.items) sent

abbrev user_at : List ℕ → Option (List ℕ)
user_at bytes = option_map (λ (sent : CredentialsState). sent.user) (credentials_of bytes)

pub returns-in-Some : goal.returns-in-Some
returns-in-Some c =
    let header = c.args.header.now in
    let bytes = c.in-Some.bytes.items in
    let sent = (c.in_ok-bytes.ensures bytes).0 (ap items c.in-Some.is) in
    IfOk-weaker c.user_of.result _ _
    (λ found is. user_said header (credentials_of bytes) (says_by_bytes header bytes sent)
    (option_map string_bytes found) (is ∙ ap user_at c.as_slice.ensures.value))
    c.user_of.ensures

pub returns-in-None : goal.returns-in-None
returns-in-None c =
    let header = c.args.header.now in
    user_said header None
    (says_nothing header (λ bytes sent.
    let is : None ≡ Some bytes = ap items (sym c.in-None.is) ∙ (c.in_ok-bytes.ensures bytes).1 sent in
    absurd (cc is)))
    None refl
