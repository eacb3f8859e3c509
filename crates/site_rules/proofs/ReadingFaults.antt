-- Each step of reading a site file that finds a fault: the fault, and its condition.
use Rattle.std.proofs.Common.{◌≡◌, ◌⊎◌, inl, inr, ℕ, nat_le, Bool, true, false, List, [], ◌∷◌, length, codes, Option, Some, None, is_some, Result, Ok, Err, refl, ap, sym, ◌∙◌}
use Rattle.std.specs.Prelude.{◌&&◌, if◌then◌else◌}
use Rattle.ocpp_scalars.specs.declared.number.NumberFault.{NumberFault}
use Rattle.ocpp_scalars.specs.ByCases.Number.{tenths_of}
use Rattle.ocpp_scalars.specs.ResultSteps.{◌>>=◌}
use Rattle.ocppj_frame.specs.declared.field.Field.{Field}
use Rattle.ocppj_frame.specs.declared.field.Field.TheVariants.{Absent, WrongKind, WrongValue, Value}
use Rattle.ocppj_frame.specs.Field.{list_field_of}
use Rattle.ocppj_frame.specs.Tree.{Tree, as_number, is_object}
use Rattle.site_rules.specs.declared.fault.SiteFault.{SiteFault}
use Rattle.site_rules.specs.declared.fault.SiteFault.TheVariants as faults
use Rattle.site_rules.specs.Limits.{max_connectors}
use Rattle.site_rules.specs.Site.{SiteState, place_of}
use Rattle.site_rules.specs.ByCases.SiteReading.{or_fault, some_or, object_if, object_or, few_or, unused_id, ceiling_or, ceiling_by, ceiling_of, ceilings_of, connectors_of}

-- a step has no other fault
abbrev pub HasOnly : {A : Type 0} → SiteFault → Result A SiteFault → Type 0
HasOnly {A} fault step = (other : SiteFault) → step ≡ Err other → other ≡ fault

-- a step that has no other fault, and no value, has that fault
pub refused : {A : Type 0} (fault : SiteFault) (step : Result A SiteFault) → HasOnly fault step → ((a : A) → step ≡ Ok a → ⊥) → step ≡ Err fault
refused fault (Ok a) only never = absurd (never a refl)
refused fault (Err other) only never = ap Err (only other refl)

module _ {A B : Type 0} where
  -- of two steps the first has the fault, or it has a value and the second has the fault
  pub went_wrong : (step : Result A SiteFault) (next : A → Result B SiteFault) (fault : SiteFault) → (step >>= next) ≡ Err fault
      → (step ≡ Err fault) ⊎ ((a : A) × (step ≡ Ok a) × (next a ≡ Err fault))
  went_wrong (Ok a) next fault h = inr (a, refl, h)
  went_wrong (Err other) next fault h = let same : other ≡ fault = cc in inl (ap Err same)

  pub goes_wrong : (step : Result A SiteFault) (next : A → Result B SiteFault) (fault : SiteFault) → step ≡ Err fault → (step >>= next) ≡ Err fault
  goes_wrong step next fault h = ap (λ (s : Result A SiteFault). s >>= next) h

  pub both-only : (fault : SiteFault) (step : Result A SiteFault) (next : A → Result B SiteFault) → HasOnly fault step → ((a : A) → HasOnly fault (next a)) → HasOnly fault (step >>= next)
  both-only fault (Ok a) next first second other h = second a other h
  both-only fault (Err e) next first second other h = let same : e ≡ other = cc in first other (ap Err same)

-- two steps without a value have the one fault that each may have
pub two-refused : {A B C : Type 0} (first : Result A SiteFault) (second : A → Result B SiteFault) (next : B → Result C SiteFault) (fault : SiteFault)
    → HasOnly fault first → ((a : A) → HasOnly fault (second a)) → ((a : A) (b : B) → first ≡ Ok a → second a ≡ Ok b → ⊥) → (first >>= (λ (a : A). second a >>= next)) ≡ Err fault
two-refused (Ok a) second next fault f s never = goes_wrong (second a) next fault (refused fault (second a) (s a) (λ b h. never a b refl h))
two-refused (Err e) second next fault f s never = ap Err (f e refl)

-- a step doesn't have both a value and a fault
pub not_both : {A : Type 0} (step : Result A SiteFault) (a : A) (fault : SiteFault) → step ≡ Ok a → step ≡ Err fault → ⊥
not_both step a fault h k = let both : Ok a ≡ Err fault = sym h ∙ k in cc (both)

module _ {A : Type 0} (fault : SiteFault) where
  pub or_fault-only : (field : Field A) → HasOnly fault (or_fault fault field)
  or_fault-only Absent other h = cc (h)
  or_fault-only WrongKind other h = cc (h)
  or_fault-only WrongValue other h = cc (h)
  or_fault-only (Value x) other h = cc (h)

  pub some_or-only : (found : Option A) → HasOnly fault (some_or fault found)
  some_or-only None other h = cc (h)
  some_or-only (Some x) other h = cc (h)

  pub if-only : (b : Bool) (x : A) → HasOnly fault (if b then Ok x else Err fault)
  if-only true x other h = cc (h)
  if-only false x other h = cc (h)

object-fault-by : (fault other : SiteFault) (b : Bool) (tree : Tree) → object_if fault tree b ≡ Err other → (b ≡ false) × (other ≡ fault)
object-fault-by fault other true tree h = let no : ⊥ = cc in absurd no
object-fault-by fault other false tree h = (refl, cc)

pub object-fault : (fault other : SiteFault) (tree : Tree) → object_or fault tree ≡ Err other → (is_object tree ≡ false) × (other ≡ fault)
object-fault fault other tree h = object-fault-by fault other (is_object tree) tree h

unused-fault-by : (b : Bool) (fault other : SiteFault) (id : List ℕ) → (if b then Err fault else Ok id) ≡ Err other → (b ≡ true) × (other ≡ fault)
unused-fault-by true fault other id h = (refl, cc)
unused-fault-by false fault other id h = let no : ⊥ = cc in absurd no

pub unused-fault : (site : SiteState) (id : List ℕ) (other : SiteFault) → unused_id site id ≡ Err other → (is_some (place_of site id) ≡ true) × (other ≡ faults.SameId)
unused-fault site id other h = unused-fault-by (is_some (place_of site id)) faults.SameId other id h

pub few_or-only : (fault : SiteFault) (most : ℕ) (entries : List Tree) → HasOnly fault (few_or fault most entries)
few_or-only fault most entries = if-only fault (nat_le 1 (length entries) && nat_le (length entries) most) entries

worth-only : (found : Result ℕ NumberFault) → HasOnly faults.BadConnectors (ceiling_or found)
worth-only (Ok n) other h = cc (h)
worth-only (Err e) other h = cc (h)

number-only : (found : Option (List ℕ)) → HasOnly faults.BadConnectors (ceiling_by found)
number-only None other h = cc (h)
number-only (Some text) other h = worth-only (tenths_of text) other h

ceilings-only : (trees : List Tree) → HasOnly faults.BadConnectors (ceilings_of trees)
ceilings-only [] other h = let no : ⊥ = cc (h) in absurd no
ceilings-only (t ∷ ts) other h =
    both-only faults.BadConnectors (ceiling_of t) _ (number-only (as_number t))
    (λ (c : ℕ). both-only faults.BadConnectors (ceilings_of ts) _ (ceilings-only ts) (λ (cs : List ℕ) (unlike : SiteFault) e. let no : ⊥ = cc (e) in absurd no)) other h

pub connectors-only : (tree : Tree) → HasOnly faults.BadConnectors (connectors_of tree)
unfolding connectors_of
connectors-only tree =
    both-only faults.BadConnectors (or_fault faults.BadConnectors (list_field_of (codes "connectors") tree)) _ (or_fault-only faults.BadConnectors _)
    (λ (list : List Tree). both-only faults.BadConnectors (few_or faults.BadConnectors max_connectors list) _ (few_or-only faults.BadConnectors max_connectors list) ceilings-only)
