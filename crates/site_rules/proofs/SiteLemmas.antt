-- The result for a site file, by its first fault.
use Rattle.std.proofs.Common.{◌≡◌, ℕ, ◌<◌, ◌≤◌, List, length, true, false, not, cond, nat_lt, Err, refl}
use Rattle.std.specs.Str.{IsUtf8, is_utf8}
use Rattle.std.proofs.lemmas.Str.{IsUtf8-from_is_utf8, is_utf8-from_IsUtf8}
use Rattle.std.proofs.lemmas.Bool.{le-ltb, lt-ltb}
use Rattle.ocppj_frame.specs.Read.{tree_of_text}
use Rattle.site_rules.specs.Limits.{max_site_bytes}
use Rattle.site_rules.specs.ByCases.SiteReading.{site_of, site_by}
use Rattle.site_rules.specs.declared.fault.SiteFault.TheVariants.{TooLarge, NotUtf8}

pub site_of-text : (bytes : List ℕ) → length bytes ≤ max_site_bytes → IsUtf8 bytes → site_of bytes ≡ site_by (tree_of_text bytes)
unfolding site_of
site_of-text bytes short text = rw (le-ltb max_site_bytes (length bytes) short, is_utf8-from_IsUtf8 bytes text) refl

pub site_of-not_text : (bytes : List ℕ) → length bytes ≤ max_site_bytes → ¬ IsUtf8 bytes → site_of bytes ≡ Err NotUtf8
unfolding site_of
site_of-not_text bytes short other =
    elim (is_utf8 bytes) as (λ b. is_utf8 bytes ≡ b → cond (nat_lt max_site_bytes (length bytes)) (Err TooLarge) (cond (not b) (Err NotUtf8) (site_by (tree_of_text bytes))) ≡ Err NotUtf8) [
      | true ↦ λ here. absurd (other (IsUtf8-from_is_utf8 bytes here))
      | false ↦ λ here. rw (le-ltb max_site_bytes (length bytes) short) refl
    ] refl

pub site_of-too_large : (bytes : List ℕ) → max_site_bytes < length bytes → site_of bytes ≡ Err TooLarge
unfolding site_of
site_of-too_large bytes long = rw (lt-ltb max_site_bytes (length bytes) long) refl
