-- The progress of a log's writes.
use Rattle.std.specs.Prelude.{ℕ, Bool, true, false, List, take, Result, Ok, Err}
use Rattle.append_log.specs.Contents.{Contents}
use Rattle.append_log.specs.declared.write_fault.WriteFault.{WriteFault}
use Rattle.append_log.specs.declared.write_fault.WriteFault.TheVariants.{Full, Failed}

-- after the first `count` of these bytes were appended, and whether a call failed
abbrev pub with_first : Contents → List ℕ → ℕ → Bool → Contents
with_first contents bytes count has_failed = record { synced = contents.synced; appended = take count bytes; has_failed = has_failed }

abbrev pub whether_failed : {T : Type 0} → Result T WriteFault → Bool
whether_failed (Ok _) = false
whether_failed (Err (Full _)) = false
whether_failed (Err (Failed _)) = true

abbrev pub WasFull : {T : Type 0} → Result T WriteFault → Type 0
WasFull (Ok _) = ⊥
WasFull (Err (Full _)) = Unit {0}
WasFull (Err (Failed _)) = ⊥
