-- Texts and names.
use Rattle.std.proofs.Common.{◌≡◌, Bool, true, false, List, ℕ, Some, None, refl, cond}
use Rattle.std.specs.Str.{is_utf8}
use Rattle.site_keys.specs.Bytes.{text_in}
use Rattle.site_keys.specs.KeyFile.{is_name}

-- bytes that aren't a text aren't a name
pub name_is_text : (bytes : List ℕ) → text_in bytes ≡ None → is_name bytes ≡ false
unfolding is_name
name_is_text bytes none = go (is_utf8 bytes) refl none
  where
    go : (t : Bool) → is_utf8 bytes ≡ t → cond t (Some bytes) None ≡ None → is_name bytes ≡ false
    go true is none = absurd (cc none)
    go false is none = rw is refl

-- a text has the bytes that it was made of
pub text_is : (bytes text : List ℕ) → text_in bytes ≡ Some text → text ≡ bytes
text_is bytes text is = go (is_utf8 bytes) is
  where
    go : (t : Bool) → cond t (Some bytes) None ≡ Some text → text ≡ bytes
    go true is = cc is
    go false is = absurd (cc is)
