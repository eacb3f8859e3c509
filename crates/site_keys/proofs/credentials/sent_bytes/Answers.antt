-- The token after the scheme is the base64.
use Rattle.std.proofs.Common.{sym}
use Rattle.std.proofs.lemmas.Result.{IfOk-weaker}
use Rattle.site_keys.proofs.CredentialsLemmas.{token_reads, no_token}
use Rattle.site_keys.proofs.credentials.sent_bytes.Goals as goal

pub returns-in-Some : goal.returns-in-Some
returns-in-Some c =
    IfOk-weaker c.base64_bytes.result _ _
    (λ decoded are bytes.
    let reads = token_reads c.args.header.now c.in-Some.token.now bytes (sym c.in-Some.ensures) in
    (λ is. reads.0 ((are bytes).0 is), λ sent. (are bytes).1 (reads.1 sent)))
    c.base64_bytes.ensures

pub returns-in-None : goal.returns-in-None
returns-in-None c bytes = (
  λ none. absurd (cc none),
  λ sent. absurd (no_token c.args.header.now bytes (sym c.in-None.ensures) sent),
)
