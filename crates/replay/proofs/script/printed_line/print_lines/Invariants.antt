-- The text so far and the lines that are left make the whole.
use Rattle.std.proofs.Common.{◌≡◌, ◌++◌, drop, string_bytes}
use Rattle.replay.specs.PrintedLine.{printed_texts}
use Rattle.replay.proofs.script.printed_line.print_lines.Given as goal

abbrev pub invariant-loop-line : goal.invariant-loop-line
invariant-loop-line l = string_bytes l.text ++ printed_texts (drop l.line-index l.lines) ≡ printed_texts l.fn.lines
