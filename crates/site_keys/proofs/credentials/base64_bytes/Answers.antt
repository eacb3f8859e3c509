-- The engine is strict: it decodes only texts that it would encode.
use Rattle.std.proofs.Common.{refl}
use Rattle.site_keys.proofs.CredentialsLemmas.{decoded_reads, undecoded}
use Rattle.site_keys.proofs.credentials.base64_bytes.Goals as goal

pub returns-in-Ok : goal.returns-in-Ok
returns-in-Ok c bytes =
    decoded_reads c.args.text.now c.in-Ok.bytes.items bytes (c.in-Ok.ensures.exact (refl, refl)) c.in-Ok.ensures.bytes

pub returns-in-Err-DecodeError : goal.returns-in-Err-DecodeError
returns-in-Err-DecodeError c bytes =
    let error = rw c.in-Err-DecodeError.field-0-is at c.in-Err-DecodeError.ensures.err in (
      λ none. absurd (cc none),
      λ of_bytes. absurd (undecoded c.args.text.now bytes c.in-Err-DecodeError.field-0-0 error of_bytes),
    )
