-- The bytes of a text that a writer took, one write after another.
use Rattle.std.proofs.Common.{◌≡◌, ℕ, ◌+◌, List, ◌++◌, Option, take, drop, subst, sym, ap, ◌∙◌}
use Rattle.std.proofs.Math.Seq.{take-add}
use Rattle.std.specs.Io.KnownBytes.{Appends}
use Rattle.std.proofs.KnownBytes.{Appends-trans}

-- a prefix of the text, and then a prefix of the rest, is a prefix of the text
pub prefix_more : (a b d : Option (List ℕ)) (text rest : List ℕ) (done count more : ℕ)
    → Appends a b (take done text) → rest ≡ drop done text → Appends b d (take count rest) → more ≡ done + count → Appends a d (take more text)
prefix_more a b d text rest done count more before here after sum =
    let whole : take done text ++ take count rest ≡ take more text =
    ap (λ l. take done text ++ take count l) here ∙ sym (take-add done count text) ∙ ap (λ n. take n text) (sym sum) in
    subst (Appends a d) whole (Appends-trans a b d _ _ before after)
