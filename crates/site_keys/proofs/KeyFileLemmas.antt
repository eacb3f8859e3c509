-- The keys of a file are those of its lines.
use Rattle.std.proofs.Common.{◌≡◌, ℕ, ◌+◌, Bool, true, false, cond, List, [], ◌∷◌, ◌++◌, length, Option, Some, None, Result, Ok, Err, refl, sym, ap, ◌∙◌, arith, inl, inr}
use Rattle.std.specs.Prelude.{not, ◌⊎◌}
use Rattle.std.specs.List.{AllZip}
use Rattle.std.specs.Option.{option_to_list}
use Rattle.site_keys.specs.declared.line_fault.KeyLineFault.{KeyLineFault}
use Rattle.site_keys.specs.declared.keys_fault.KeysFault.{KeysFault}
use Rattle.site_keys.specs.declared.keys_fault.KeysFault.TheVariants.{Line, OutOfMemory}
use Rattle.site_keys.specs.Bytes.{without_return}
use Rattle.site_keys.specs.ResultSteps.{◌>>=◌}
use Rattle.site_keys.specs.Key.{KeyState}
use Rattle.site_keys.specs.KeyFile.{IsKeyLine, is_left_out, with_keys, lines_of, AreKeysOf}
use Rattle.site_keys.specs.KeysFault.{Gives, IsFaultOf}
use Rattle.site_keys.specs.ByCases.KeyFile.{key_in, at_line, keys_from, keys_in}
use Rattle.site_keys.proofs.LineLemmas.{bind_ok, line_read, line_made}

abbrev later_keys : ℕ → List (List ℕ) → Option KeyState → Result (List KeyState) KeysFault
later_keys number lines key = keys_from number lines >>= λ (keys : List KeyState). Ok (option_to_list key ++ keys)

-- ---- the keys read

-- of a line that isn't left out
abbrev read_or : ℕ → List (List ℕ) → Result KeyState KeyLineFault → Result (List KeyState) KeysFault
read_or number lines said =
    at_line number (said >>= λ (key : KeyState). Ok (Some key)) >>= later_keys (number + 1) lines

pub keys_made : (number : ℕ) (lines : List (List ℕ)) (keys : List KeyState) → keys_from number lines ≡ Ok keys
    → AllZip IsKeyLine (with_keys lines) keys
keys_made number [] keys is =
    let none : [] ≡ keys = cc is in
    rw (← none) tt
keys_made number (line ∷ lines) keys is =
    go (is_left_out (without_return line)) refl (λ more same. keys_made (number + 1) lines more same) is
  where
    kept : (said : Result KeyState KeyLineFault) → key_in (without_return line) ≡ said
        → ((more : List KeyState) → keys_from (number + 1) lines ≡ Ok more → AllZip IsKeyLine (with_keys lines) more)
        → read_or number lines said ≡ Ok keys → AllZip IsKeyLine (without_return line ∷ with_keys lines) keys
    kept (Err fault) says later is = absurd (cc is)
    kept (Ok key) says later is =
        let rest = bind_ok (keys_from (number + 1) lines) _ keys is in
        let same : key ∷ rest.0 ≡ keys = cc (rest.2) in
        rw (← same) (line_made (without_return line) key says, later rest.0 rest.1)

    go : (t : Bool) → is_left_out (without_return line) ≡ t
        → ((more : List KeyState) → keys_from (number + 1) lines ≡ Ok more → AllZip IsKeyLine (with_keys lines) more)
        → at_line number (cond t (Ok None) (key_in (without_return line) >>= λ (key : KeyState). Ok (Some key)))
        >>= later_keys (number + 1) lines ≡ Ok keys
        → AllZip IsKeyLine (cond (not t) (without_return line ∷ with_keys lines) (with_keys lines)) keys
    go true out later is =
        let rest = bind_ok (keys_from (number + 1) lines) _ keys is in
        let same : rest.0 ≡ keys = cc (rest.2) in
        rw (← same) (later rest.0 rest.1)
    go false out later is = kept (key_in (without_return line)) refl later is

pub keys_read : (number : ℕ) (lines : List (List ℕ)) (keys : List KeyState)
    → AllZip IsKeyLine (with_keys lines) keys → keys_from number lines ≡ Ok keys
keys_read number [] [] are = refl
keys_read number [] (key ∷ keys) are = absurd are
keys_read number (line ∷ lines) keys are =
    go (is_left_out (without_return line)) refl (λ more those. keys_read (number + 1) lines more those) are
  where
    kept : (all : List KeyState)
        → ((more : List KeyState) → AllZip IsKeyLine (with_keys lines) more → keys_from (number + 1) lines ≡ Ok more)
        → AllZip IsKeyLine (without_return line ∷ with_keys lines) all
        → read_or number lines (key_in (without_return line)) ≡ Ok all
    kept [] later are = absurd are
    kept (key ∷ more) later are = rw (line_read (without_return line) key are.0, later more are.1) refl

    go : (t : Bool) → is_left_out (without_return line) ≡ t
        → ((more : List KeyState) → AllZip IsKeyLine (with_keys lines) more → keys_from (number + 1) lines ≡ Ok more)
        → AllZip IsKeyLine (cond (not t) (without_return line ∷ with_keys lines) (with_keys lines)) keys
        → at_line number (cond t (Ok None) (key_in (without_return line) >>= λ (key : KeyState). Ok (Some key)))
        >>= later_keys (number + 1) lines ≡ Ok keys
    go true out later are = rw (later keys are) refl
    go false out later are = kept keys later are

-- ---- the first fault

-- of lines, the first of which has this number
record FaultFrom (first : ℕ) (lines : List (List ℕ)) (e : KeysFault) : Type 0 where
  number : ℕ
  fault : KeyLineFault
  is : e ≡ Line number fault
  earlier : List (List ℕ)
  line : List ℕ
  later : List (List ℕ)
  lines_are : lines ≡ earlier ++ line ∷ later
  place : number ≡ length earlier + first
  earlier_keys : List KeyState
  before : AllZip IsKeyLine (with_keys earlier) earlier_keys
  kept : is_left_out (without_return line) ≡ false
  why : key_in (without_return line) ≡ Err fault

bind_err : {A B E : Type 0} (r : Result A E) (f : A → Result B E) (e : E)
    → (r >>= f) ≡ Err e → (r ≡ Err e) ⊎ ((x : A) × (r ≡ Ok x) × (f x ≡ Err e))
bind_err (Ok x) f e is = inr (x, refl, is)
bind_err (Err fault) f e is =
    let same : fault ≡ e = cc is in
    inl (ap Err same)

-- a fault in the later lines
later_fault : (number : ℕ) (lines : List (List ℕ)) (key : Option KeyState) (e : KeysFault)
    → later_keys number lines key ≡ Err e → keys_from number lines ≡ Err e
later_fault number lines key e is = elim (bind_err (keys_from number lines) _ e is) [
  | inl here ↦ here
  | inr read ↦ absurd (cc (read.2))
]

left_out_before : (first : ℕ) (line : List ℕ) (lines : List (List ℕ)) (e : KeysFault)
    → is_left_out (without_return line) ≡ true → FaultFrom (first + 1) lines e → FaultFrom first (line ∷ lines) e
left_out_before first line lines e out later =
    let place = later.place in
    record {
      number = later.number;
      fault = later.fault;
      is = later.is;
      earlier = line ∷ later.earlier;
      line = later.line;
      later = later.later;
      lines_are = ap (λ (rest : List (List ℕ)). line ∷ rest) later.lines_are;
      place = omega (arith, place);
      earlier_keys = later.earlier_keys;
      before = rw out later.before;
      kept = later.kept;
      why = later.why;
    }

key_before : (first : ℕ) (line : List ℕ) (lines : List (List ℕ)) (e : KeysFault) (key : KeyState)
    → is_left_out (without_return line) ≡ false → key_in (without_return line) ≡ Ok key
    → FaultFrom (first + 1) lines e → FaultFrom first (line ∷ lines) e
key_before first line lines e key out says later =
    let place = later.place in
    record {
      number = later.number;
      fault = later.fault;
      is = later.is;
      earlier = line ∷ later.earlier;
      line = later.line;
      later = later.later;
      lines_are = ap (λ (rest : List (List ℕ)). line ∷ rest) later.lines_are;
      place = omega (arith, place);
      earlier_keys = key ∷ later.earlier_keys;
      before = rw out (line_made (without_return line) key says, later.before);
      kept = later.kept;
      why = later.why;
    }

fault_here : (first : ℕ) (line : List ℕ) (lines : List (List ℕ)) (e : KeysFault) (fault : KeyLineFault)
    → is_left_out (without_return line) ≡ false → key_in (without_return line) ≡ Err fault
    → e ≡ Line first fault → FaultFrom first (line ∷ lines) e
fault_here first line lines e fault out says is = record {
  number = first;
  fault = fault;
  is = is;
  earlier = [];
  line = line;
  later = lines;
  lines_are = refl;
  place = omega arith;
  earlier_keys = [];
  before = tt;
  kept = out;
  why = says;
}

fault_from : (first : ℕ) (lines : List (List ℕ)) (e : KeysFault) → keys_from first lines ≡ Err e
    → FaultFrom first lines e
fault_from first [] e is = absurd (cc is)
fault_from first (line ∷ lines) e is =
    go (is_left_out (without_return line)) refl (λ same. fault_from (first + 1) lines e same) is
  where
    kept : (said : Result KeyState KeyLineFault) → is_left_out (without_return line) ≡ false
        → key_in (without_return line) ≡ said
        → (keys_from (first + 1) lines ≡ Err e → FaultFrom (first + 1) lines e)
        → read_or first lines said ≡ Err e → FaultFrom first (line ∷ lines) e
    kept (Err fault) out says later is =
        let same : Line first fault ≡ e = cc is in
        fault_here first line lines e fault out says (sym same)
    kept (Ok key) out says later is =
        key_before first line lines e key out says (later (later_fault (first + 1) lines (Some key) e is))

    go : (t : Bool) → is_left_out (without_return line) ≡ t
        → (keys_from (first + 1) lines ≡ Err e → FaultFrom (first + 1) lines e)
        → at_line first (cond t (Ok None) (key_in (without_return line) >>= λ (key : KeyState). Ok (Some key)))
        >>= later_keys (first + 1) lines ≡ Err e
        → FaultFrom first (line ∷ lines) e
    go true out later is = left_out_before first line lines e out (later (later_fault (first + 1) lines None e is))
    go false out later is = kept (key_in (without_return line)) out refl later is

-- ---- the whole file

pub file_read : (bytes : List ℕ) (keys : List KeyState) → keys_in bytes ≡ Ok keys → AreKeysOf bytes keys
unfolding keys_in
file_read bytes keys is = keys_made 1 (lines_of bytes) keys is

pub file_is : (bytes : List ℕ) (keys : List KeyState) → AreKeysOf bytes keys → keys_in bytes ≡ Ok keys
unfolding keys_in
file_is bytes keys are = keys_read 1 (lines_of bytes) keys are

-- a fault isn't a file of keys, unless memory ran out
pub no_keys : (bytes : List ℕ) (fault : KeysFault) → Gives {A = List KeyState} (Err fault) (keys_in bytes)
    → (keys : List KeyState) → AreKeysOf bytes keys → Gives {A = List KeyState} (Err fault) (Ok keys)
no_keys bytes OutOfMemory gives keys are = tt
no_keys bytes (Line number fault) gives keys are = sym (file_is bytes keys are) ∙ gives

pub fault_of_file : (bytes : List ℕ) (fault : KeysFault) → Gives {A = List KeyState} (Err fault) (keys_in bytes)
    → IsFaultOf bytes fault
unfolding keys_in
fault_of_file bytes OutOfMemory gives = tt
fault_of_file bytes (Line number fault) gives =
    let from = fault_from 1 (lines_of bytes) (Line number fault) gives in
    let is = from.is in
    let place : number ≡ from.number = cc is in
    let which : fault ≡ from.fault = cc is in
    record {
      earlier = from.earlier;
      line = from.line;
      later = from.later;
      lines = from.lines_are;
      place = place ∙ from.place;
      earlier_keys = from.earlier_keys;
      before = from.before;
      kept = from.kept;
      none = λ key looks.
          let looks_so = line_read (without_return from.line) key looks in
          let why = from.why in
          absurd (cc (why, looks_so));
      why = from.why ∙ ap Err (sym which);
    }
