-- The meaning of a fault, and the keys that are read unless memory runs out.
use Rattle.std.specs.Prelude.{ℕ, ◌≡◌, ◌+◌, false, List, ◌∷◌, ◌++◌, length, Result, Ok, Err}
use Rattle.std.specs.List.{AllZip}
use Rattle.site_keys.specs.declared.line_fault.KeyLineFault.{KeyLineFault}
use Rattle.site_keys.specs.declared.keys_fault.KeysFault.{KeysFault}
use Rattle.site_keys.specs.declared.keys_fault.KeysFault.TheVariants.{Line, OutOfMemory}
use Rattle.site_keys.specs.Bytes.{without_return}
use Rattle.site_keys.specs.Key.{KeyState}
use Rattle.site_keys.specs.KeyFile.{IsKeyLine, is_left_out, with_keys, lines_of}
use Rattle.site_keys.specs.ByCases.KeyFile.{key_in}

-- The line of this number, from 1, is the first that is neither left out nor a key. Of several
-- faults of a line, the first is reported.
pub record IsFirstFault (bytes : List ℕ) (number : ℕ) (fault : KeyLineFault) : Type 0 where
  pub earlier : List (List ℕ)
  pub line : List ℕ
  pub later : List (List ℕ)
  pub lines : lines_of bytes ≡ earlier ++ line ∷ later
  pub place : number ≡ length earlier + 1
  pub earlier_keys : List KeyState
  pub before : AllZip IsKeyLine (with_keys earlier) earlier_keys
  pub kept : is_left_out (without_return line) ≡ false
  pub none : (key : KeyState) → ¬ IsKeyLine (without_return line) key
  pub why : key_in (without_return line) ≡ Err fault

-- the fault is the file's, unless memory ran out
abbrev pub IsFaultOf : List ℕ → KeysFault → Type 0
IsFaultOf bytes (Line number fault) = IsFirstFault bytes number fault
IsFaultOf bytes OutOfMemory = Unit {0}

-- the value read is that of the file, unless memory ran out
abbrev pub Gives : {A : Type 0} → Result A KeysFault → Result A KeysFault → Type 0
Gives (Ok read) said = said ≡ Ok read
Gives (Err OutOfMemory) said = Unit {0}
Gives (Err (Line number fault)) said = said ≡ Err (Line number fault)
