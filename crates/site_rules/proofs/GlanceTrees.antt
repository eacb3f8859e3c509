-- A glance at a value: the tree of its tokens, by the first token.
use Rattle.std.proofs.Common.{◌≡◌, ℕ, List, ◌∷◌, Bool, false, Some, unwrap_or, refl, sym, ap, ◌∙◌}
use Rattle.json.specs.Json.{parse_map}
use Rattle.json.specs.Token.{Token}
use Rattle.json.proofs.Grammar.{value_is}
use Rattle.serde_json.specs.Read.{converted, of_json}
use Rattle.ocppj_frame.specs.Read.{tree_of_string}
use Rattle.ocppj_frame.specs.Tree.{Tree, null, boolean, text, number, list, object, is_object}
use Rattle.site_rules.specs.declared.reading.glance.Glance.{Glance}
use Rattle.site_rules.specs.declared.reading.glance.Glance.TheVariants as glances
use Rattle.site_rules.specs.ByCases.Parts.{mended_tree, shown, glance_tree, IsGlanceAt}

shown-glance : (glance : Glance) → glance_tree glance ≡ shown (glance_tree glance)
shown-glance glances.Null = refl
shown-glance glances.Bool = refl
shown-glance (glances.Text t) = refl
shown-glance (glances.Number t) = refl
shown-glance glances.List = refl
shown-glance glances.Object = refl

module _ (depth : ℕ) (rest : List Token) where
  pub null_glance : IsGlanceAt depth (Token.null ∷ rest) rest glances.Null
  null_glance = record { tree = null; here = ap (λ o. parse_map mended_tree (converted of_json o)) (value_is depth (Token.null ∷ rest)); seen = refl }

  pub boolean_glance : (b : Bool) → IsGlanceAt depth (Token.boolean b ∷ rest) rest glances.Bool
  boolean_glance b = record { tree = boolean b; here = ap (λ o. parse_map mended_tree (converted of_json o)) (value_is depth (Token.boolean b ∷ rest)); seen = refl }

  pub string_glance : (bytes : List ℕ) (glance : Glance) → glance_tree glance ≡ unwrap_or (tree_of_string bytes) null
      → IsGlanceAt depth (Token.string bytes ∷ rest) rest glance
  string_glance bytes glance h = record {
    tree = glance_tree glance;
    here = ap (λ o. parse_map mended_tree (converted of_json o)) (value_is depth (Token.string bytes ∷ rest)) ∙ ap (λ (t : Tree). Some (t, rest)) (sym h);
    seen = shown-glance glance;
  }

-- a glance other than that of an object isn't at an object

pub no_object : (glance : Glance) (tree : Tree) → glance_tree glance ≡ shown tree → (glance ≡ glances.Object → ⊥) → is_object tree ≡ false
no_object glance null h other = refl
no_object glance (boolean b) h other = refl
no_object glance (text bytes) h other = refl
no_object glance (number bytes) h other = refl
no_object glance (list ts) h other = refl
no_object glances.Null (object fs) h other = let no : ⊥ = cc in absurd no
no_object glances.Bool (object fs) h other = let no : ⊥ = cc in absurd no
no_object (glances.Text t) (object fs) h other = let no : ⊥ = cc in absurd no
no_object (glances.Number t) (object fs) h other = let no : ⊥ = cc in absurd no
no_object glances.List (object fs) h other = let no : ⊥ = cc in absurd no
no_object glances.Object (object fs) h other = absurd (other refl)
