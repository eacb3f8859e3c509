-- Each step of reading a site file, both ways: its value, and the condition of that.
use Rattle.std.proofs.Common.{◌≡◌, ℕ, ◌≤◌, nat_le, Bool, true, false, List, [], ◌∷◌, length, Option, Some, None, is_some, Result, Ok, Err, refl, ap, sym, subst, ◌∙◌, arith}
use Rattle.std.specs.Prelude.{◌&&◌, if◌then◌else◌}
use Rattle.std.specs.List.{AllByRecursion, AllZip, list_all}
use Rattle.std.proofs.lemmas.Bool.{and_parts}
use Rattle.std.proofs.lemmas.Bool.Decides.{nat_tests}
use Rattle.ocpp_scalars.specs.declared.number.NumberFault.{NumberFault}
use Rattle.ocpp_scalars.specs.ByCases.Number.{tenths_of}
use Rattle.ocpp_scalars.specs.ResultSteps.{◌>>=◌}
use Rattle.ocppj_frame.specs.declared.field.Field.{Field}
use Rattle.ocppj_frame.specs.declared.field.Field.TheVariants.{Absent, WrongKind, WrongValue, Value}
use Rattle.ocppj_frame.specs.Tree.{Tree, null, boolean, text, number, list, object, is_object}
use Rattle.site_rules.specs.declared.fault.SiteFault.{SiteFault}
use Rattle.site_rules.specs.Limits.{max_point_id_characters}
use Rattle.site_rules.specs.Site.{SiteState, place_of}
use Rattle.site_rules.specs.SiteFile.{is_id_byte, IsPointId, IsCeiling}
use Rattle.site_rules.specs.ByCases.SiteReading.{or_fault, some_or, object_if, object_or, few_or, is_point_id, id_or_wrong, unused_id, ceiling_or, ceiling_of, ceilings_of}

module _ {A B : Type 0} where
  -- the value of two steps is that of the second
  pub went_on : (step : Result A SiteFault) (next : A → Result B SiteFault) (b : B) → (step >>= next) ≡ Ok b → (a : A) × (step ≡ Ok a) × (next a ≡ Ok b)
  went_on (Ok a) next b h = (a, refl, h)
  went_on (Err fault) next b h = let no : ⊥ = cc in absurd no

  pub goes_on : (step : Result A SiteFault) (next : A → Result B SiteFault) (a : A) (r : Result B SiteFault) → step ≡ Ok a → next a ≡ r → (step >>= next) ≡ r
  goes_on step next a r h k = ap (λ (s : Result A SiteFault). s >>= next) h ∙ k

module _ {A : Type 0} (fault : SiteFault) where
  pub value-or : (field : Field A) (x : A) → or_fault fault field ≡ Ok x → field ≡ Value x
  value-or Absent x h = let no : ⊥ = cc in absurd no
  value-or WrongKind x h = let no : ⊥ = cc in absurd no
  value-or WrongValue x h = let no : ⊥ = cc in absurd no
  value-or (Value y) x h = let same : y ≡ x = cc in ap Value same

  pub some-or : (found : Option A) (x : A) → some_or fault found ≡ Ok x → found ≡ Some x
  some-or None x h = let no : ⊥ = cc in absurd no
  some-or (Some y) x h = let same : y ≡ x = cc in ap Some same

object-by : (fault : SiteFault) (b : Bool) (tree fields : Tree) → object_if fault tree b ≡ Ok fields → (b ≡ true) × (tree ≡ fields)
object-by fault true tree fields h = (refl, cc)
object-by fault false tree fields h = let no : ⊥ = cc in absurd no

pub object-or : (fault : SiteFault) (tree fields : Tree) → object_or fault tree ≡ Ok fields → (is_object tree ≡ true) × (tree ≡ fields)
object-or fault tree fields h = object-by fault (is_object tree) tree fields h

ok_if : {A : Type 0} (fault : SiteFault) (b : Bool) (x y : A) → (if b then Ok x else Err fault) ≡ Ok y → (b ≡ true) × (x ≡ y)
ok_if fault true x y h = (refl, cc)
ok_if fault false x y h = let no : ⊥ = cc in absurd no

at_most : (n most : ℕ) → nat_le n most ≡ true → n ≤ most
at_most n most h = grind (arith, nat_tests)

pub at_most-test : (n most : ℕ) → n ≤ most → nat_le n most ≡ true
at_most-test n most h = grind (arith, nat_tests)

pub few-or : (fault : SiteFault) (most : ℕ) (entries few : List Tree) → few_or fault most entries ≡ Ok few → (1 ≤ length entries) × (length entries ≤ most) × (entries ≡ few)
few-or fault most entries few h =
    let found = ok_if fault (nat_le 1 (length entries) && nat_le (length entries) most) entries few h in
    let both = and_parts (nat_le 1 (length entries)) (nat_le (length entries) most) found.0 in
    (at_most 1 (length entries) both.0, at_most (length entries) most both.1, found.1)

pub few-is : (fault : SiteFault) (most : ℕ) (entries : List Tree) → 1 ≤ length entries → length entries ≤ most → few_or fault most entries ≡ Ok entries
few-is fault most entries some few = rw (at_most-test 1 (length entries) some, at_most-test (length entries) most few) refl

pub bytes-all : (bytes : List ℕ) → list_all is_id_byte bytes ≡ true → AllByRecursion (λ b. is_id_byte b ≡ true) bytes
bytes-all [] h = tt
bytes-all (b ∷ bs) h = let parts = and_parts (is_id_byte b) (list_all is_id_byte bs) h in (parts.0, bytes-all bs parts.1)

pub all-bytes : (bytes : List ℕ) → AllByRecursion (λ b. is_id_byte b ≡ true) bytes → list_all is_id_byte bytes ≡ true
all-bytes [] h = refl
all-bytes (b ∷ bs) h = (λ j. h.0 j && list_all is_id_byte bs) ∙ all-bytes bs h.1

id-test : (id : List ℕ) → is_point_id id ≡ true → IsPointId id
id-test id h =
    let parts = and_parts (nat_le 1 (length id) && nat_le (length id) max_point_id_characters) (list_all is_id_byte id) h in
    let sizes = and_parts (nat_le 1 (length id)) (nat_le (length id) max_point_id_characters) parts.0 in
    record { some = at_most 1 (length id) sizes.0; short = at_most (length id) max_point_id_characters sizes.1; bytes = bytes-all id parts.1 }

test-id : (id : List ℕ) → IsPointId id → is_point_id id ≡ true
test-id id h = λ j. (at_most-test 1 (length id) h.some j && at_most-test (length id) max_point_id_characters h.short j) && all-bytes id h.bytes j

id-by : (b : Bool) (id other : List ℕ) → (if b then Value id else WrongValue) ≡ Value other → (b ≡ true) × (id ≡ other)
id-by true id other h = (refl, cc)
id-by false id other h = let no : ⊥ = cc in absurd no

pub id-or_wrong : (field : Field (List ℕ)) (id : List ℕ) → id_or_wrong field ≡ Value id → (field ≡ Value id) × IsPointId id
id-or_wrong Absent id h = let no : ⊥ = cc in absurd no
id-or_wrong WrongKind id h = let no : ⊥ = cc in absurd no
id-or_wrong WrongValue id h = let no : ⊥ = cc in absurd no
id-or_wrong (Value other) id h = let found = id-by (is_point_id other) other id h in (ap Value found.1, id-test id (sym (ap is_point_id found.1) ∙ found.0))

pub allowed-id : (field : Field (List ℕ)) (id : List ℕ) → field ≡ Value id → IsPointId id → id_or_wrong field ≡ Value id
allowed-id field id h allowed = ap id_or_wrong h ∙ rw (test-id id allowed) refl

unused-by : (b : Bool) (fault : SiteFault) (id other : List ℕ) → (if b then Err fault else Ok id) ≡ Ok other → (b ≡ false) × (id ≡ other)
unused-by true fault id other h = let no : ⊥ = cc in absurd no
unused-by false fault id other h = (refl, cc)

pub unused-id : (site : SiteState) (id other : List ℕ) → unused_id site id ≡ Ok other → (is_some (place_of site id) ≡ false) × (id ≡ other)
unused-id site id other h = unused-by (is_some (place_of site id)) _ id other h

worth-or : (found : Result ℕ NumberFault) (tenths : ℕ) → ceiling_or found ≡ Ok tenths → found ≡ Ok tenths
worth-or (Ok n) tenths h = let same : n ≡ tenths = cc in ap Ok same
worth-or (Err fault) tenths h = let no : ⊥ = cc in absurd no

pub ceiling-is : (tree : Tree) (tenths : ℕ) → ceiling_of tree ≡ Ok tenths → IsCeiling tree tenths
ceiling-is null tenths h = let no : ⊥ = cc in absurd no
ceiling-is (boolean b) tenths h = let no : ⊥ = cc in absurd no
ceiling-is (text bytes) tenths h = let no : ⊥ = cc in absurd no
ceiling-is (number digits) tenths h = record { text = digits; is_number = refl; worth = worth-or (tenths_of digits) tenths h }
ceiling-is (list ts) tenths h = let no : ⊥ = cc in absurd no
ceiling-is (object fs) tenths h = let no : ⊥ = cc in absurd no

pub is-ceiling : (tree : Tree) (tenths : ℕ) → IsCeiling tree tenths → ceiling_of tree ≡ Ok tenths
is-ceiling tree tenths h = ap ceiling_of h.is_number ∙ ap ceiling_or h.worth

pub ceilings-are : (trees : List Tree) (ceilings : List ℕ) → ceilings_of trees ≡ Ok ceilings → AllZip IsCeiling trees ceilings
ceilings-are [] [] h = tt
ceilings-are [] (c ∷ cs) h = let no : ⊥ = cc in absurd no
ceilings-are (t ∷ ts) ceilings h =
    let first = went_on (ceiling_of t) _ ceilings h in
    let second = went_on (ceilings_of ts) _ ceilings first.2 in
    let same : first.0 ∷ second.0 ≡ ceilings = cc (second.2) in
    subst (λ (found : List ℕ). AllZip IsCeiling (t ∷ ts) found) same (ceiling-is t first.0 first.1, ceilings-are ts second.0 second.1)

pub are-ceilings : (trees : List Tree) (ceilings : List ℕ) → AllZip IsCeiling trees ceilings → ceilings_of trees ≡ Ok ceilings
are-ceilings [] [] h = refl
are-ceilings [] (c ∷ cs) h = absurd h
are-ceilings (t ∷ ts) [] h = absurd h
are-ceilings (t ∷ ts) (c ∷ cs) h = rw (is-ceiling t c h.0, are-ceilings ts cs h.1) refl
