-- The keys of a file, line by line.
use Rattle.std.proofs.Common.{◌≡◌, ℕ, ◌+◌, List, [], ◌∷◌, ◌++◌, Option, Some, None, Result, Ok, Err, refl, sym, ap, ◌∙◌, append_assoc, append-nil}
use Rattle.std.specs.List.{slice_split}
use Rattle.std.specs.Option.{option_to_list}
use Rattle.site_keys.specs.declared.keys_fault.KeysFault.{KeysFault}
use Rattle.site_keys.specs.declared.keys_fault.KeysFault.TheVariants.{Line, OutOfMemory}
use Rattle.site_keys.specs.Bytes.{is_byte, cut}
use Rattle.site_keys.specs.Key.{KeyState}
use Rattle.site_keys.specs.ResultSteps.{◌>>=◌}
use Rattle.site_keys.specs.ByCases.KeyFile.{numbered_line, keys_from, Adds}
use Rattle.site_keys.specs.KeysFault.{Gives}
use Rattle.site_keys.proofs.CutLemmas.{cut_some, parts_of_cut, parts_uncut}

-- more keys after these
abbrev pub onto : List KeyState → Result (List KeyState) KeysFault → Result (List KeyState) KeysFault
onto keys said = said >>= λ (more : List KeyState). Ok (keys ++ more)

-- a line's key is added to those before it
line_added : (keys : List KeyState) (number : ℕ) (line : List ℕ) (lines : List (List ℕ)) (key : Option KeyState)
    → numbered_line number line ≡ Ok key
    → onto keys (keys_from number (line ∷ lines))
    ≡ onto (keys ++ option_to_list key) (keys_from (number + 1) lines)
line_added keys number line lines key is = rw is (go (keys_from (number + 1) lines))
  where
    go : (later : Result (List KeyState) KeysFault)
        → onto keys (later >>= λ (more : List KeyState). Ok (option_to_list key ++ more))
        ≡ onto (keys ++ option_to_list key) later
    go (Ok more) = ap Ok (sym (append_assoc keys (option_to_list key) more))
    go (Err fault) = refl

pub line_goes : (keys new : List KeyState) (number : ℕ) (rest line others : List ℕ)
    (whole : Result (List KeyState) KeysFault) → Some (line, others) ≡ cut 10 rest
    → onto keys (keys_from number (slice_split (is_byte 10) rest)) ≡ whole
    → Adds (Ok tt) keys new (numbered_line number line)
    → onto new (keys_from (number + 1) (slice_split (is_byte 10) others)) ≡ whole
line_goes keys new number rest line others whole cuts same adds =
    let parts = parts_of_cut 10 rest line others (cut_some 10 rest line others (sym cuts)) in
    rw adds.2
    (sym (line_added keys number line (slice_split (is_byte 10) others) adds.0 adds.1)
    ∙ ap (λ (lines : List (List ℕ)). onto keys (keys_from number lines)) (sym parts) ∙ same)

pub last_line_goes : (keys new : List KeyState) (number : ℕ) (rest : List ℕ)
    (whole : Result (List KeyState) KeysFault) → None ≡ cut 10 rest
    → onto keys (keys_from number (slice_split (is_byte 10) rest)) ≡ whole
    → Adds (Ok tt) keys new (numbered_line number rest)
    → whole ≡ Ok new
last_line_goes keys new number rest whole uncut same adds =
    sym same
    ∙ ap (λ (lines : List (List ℕ)). onto keys (keys_from number lines)) (parts_uncut 10 rest (sym uncut))
    ∙ line_added keys number rest [] adds.0 adds.1
    ∙ ap Ok (append-nil (keys ++ option_to_list adds.0) ∙ sym adds.2)

fault_ends : (fault : KeysFault) (keys new : List KeyState) (number : ℕ) (line : List ℕ) (lines : List (List ℕ))
    (whole : Result (List KeyState) KeysFault) → onto keys (keys_from number (line ∷ lines)) ≡ whole
    → Adds (Err fault) keys new (numbered_line number line) → Gives {A = List KeyState} (Err fault) whole
fault_ends OutOfMemory keys new number line lines whole same adds = tt
fault_ends (Line at fault) keys new number line lines whole same adds = sym same ∙ rw adds refl

pub fault_at_line : (fault : KeysFault) (keys new : List KeyState) (number : ℕ) (rest line others : List ℕ)
    (whole : Result (List KeyState) KeysFault) → Some (line, others) ≡ cut 10 rest
    → onto keys (keys_from number (slice_split (is_byte 10) rest)) ≡ whole
    → Adds (Err fault) keys new (numbered_line number line) → Gives {A = List KeyState} (Err fault) whole
fault_at_line fault keys new number rest line others whole cuts same adds =
    let parts = parts_of_cut 10 rest line others (cut_some 10 rest line others (sym cuts)) in
    fault_ends fault keys new number line (slice_split (is_byte 10) others) whole
    (ap (λ (lines : List (List ℕ)). onto keys (keys_from number lines)) (sym parts) ∙ same) adds

pub fault_at_last_line : (fault : KeysFault) (keys new : List KeyState) (number : ℕ) (rest : List ℕ)
    (whole : Result (List KeyState) KeysFault) → None ≡ cut 10 rest
    → onto keys (keys_from number (slice_split (is_byte 10) rest)) ≡ whole
    → Adds (Err fault) keys new (numbered_line number rest) → Gives {A = List KeyState} (Err fault) whole
fault_at_last_line fault keys new number rest whole uncut same adds =
    fault_ends fault keys new number rest [] whole
    (ap (λ (lines : List (List ℕ)). onto keys (keys_from number lines)) (sym (parts_uncut 10 rest (sym uncut))) ∙ same) adds
