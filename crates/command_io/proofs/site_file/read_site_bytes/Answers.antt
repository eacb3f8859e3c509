-- A file with more bytes than the limit is a site file that is too large.
use Rattle.std.proofs.Common.{◌≡◌, ℕ, ◌<◌, List, length, Err, refl}
use Rattle.std.proofs.lemmas.Bool.{lt-ltb}
use Rattle.site_rules.specs.Limits.{max_site_bytes}
use Rattle.site_rules.specs.ByCases.SiteReading.{site_of}
use Rattle.site_rules.specs.declared.fault.SiteFault.TheVariants.{TooLarge}
use Rattle.command_io.proofs.site_file.read_site_bytes.Goals as goal

site_of-too_large : (bytes : List ℕ) → max_site_bytes < length bytes → site_of bytes ≡ Err TooLarge
unfolding site_of
site_of-too_large bytes long = rw (lt-ltb max_site_bytes (length bytes) long) refl

pub returns-in-Err-TooLong : goal.returns-in-Err-TooLong
returns-in-Err-TooLong g c =
    let many = c.in-Err-TooLong.ensures.long (rw c.in-Err-TooLong.field-0-is refl) in
    record { stop = (many.0, site_of-too_large many.0 many.2) }
