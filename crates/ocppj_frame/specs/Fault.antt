-- The faults of a frame's text.
use Rattle.std.specs.Prelude.{Bool, true, false}
use Rattle.ocppj_frame.specs.declared.fault.FrameFault.{FrameFault}
use Rattle.ocppj_frame.specs.declared.fault.FrameFault.TheVariants.{Dropped, Formation, OutOfMemory}

-- whether the fault says nothing about the text
abbrev pub is_memory : FrameFault → Bool
is_memory Dropped = false
is_memory (Formation id) = false
is_memory OutOfMemory = true
