-- The output of a script, line by line.
use Rattle.std.proofs.Common.{◌≡◌, ℕ, ◌+◌, ◌≤◌, List, [], ◌∷◌, ◌++◌, Option, Some, None, IfSome, Bool, true, false, cond, length, take, append_assoc, append-nil, sym, ap, ◌∙◌, subst, arith, inl, inr}
use Rattle.std.specs.List.{fold}
use Rattle.std.specs.Io.KnownBytes.{Appends}
use Rattle.std.proofs.KnownBytes.{Appends-nil, Appends-trans}
use Rattle.std.proofs.lemmas.Bool.{cases_lt}
use Rattle.std.proofs.lemmas.Grind.{flat_map-append}
use Rattle.std.proofs.lemmas.List.{take-append-le, take_all, nil_from_length}
use Rattle.std.proofs.Math.Seq.{take-append-add, take-length}
use mir.Val.{bool_byte}
use Rattle.replay.specs.Lines.{script_lines}
use Rattle.replay.specs.PrintedLine.{PrintedLine, printed_text, printed_texts}
use Rattle.replay.specs.Play.{line_played}
use Rattle.replay.specs.Run.{Played, played_more}
use Rattle.replay.specs.Output.{AppendsPrefix}

-- later lines keep the output so far
lines_grow : (before : Played) (lines : List (List ℕ))
    → (more : List PrintedLine) × ((fold played_more before lines).lines ≡ before.lines ++ more)
lines_grow before [] = ([], sym (append-nil before.lines))
lines_grow before (line ∷ lines) =
    let next = lines_grow (played_more before line) lines in
    let printed = (line_played before.state before.number line).printed in
    (printed ++ next.0, next.1 ∙ append_assoc before.lines printed next.0)

pub texts-append : (one other : List PrintedLine)
    → printed_texts (one ++ other) ≡ printed_texts one ++ printed_texts other
texts-append one other = flat_map-append printed_text one other

pub output_grows : (before : Played) (lines : List (List ℕ))
    → (more : List ℕ)
    × (printed_texts (fold played_more before lines).lines ≡ printed_texts before.lines ++ more)
output_grows before lines =
    let grown = lines_grow before lines in
    (printed_texts grown.0, ap printed_texts grown.1 ∙ texts-append before.lines grown.0)

-- the next line was played
pub next_line : (before all : Played) (rest line others : List ℕ) → script_lines rest ≡ line ∷ script_lines others
    → fold played_more before (script_lines rest) ≡ all
    → fold played_more (played_more before line) (script_lines others) ≡ all
next_line before all rest line others first whole = ap (fold played_more before) (sym first) ∙ whole

-- no line is left
pub no_line : (before all : Played) (rest : List ℕ) → length rest ≡ 0 → fold played_more before (script_lines rest) ≡ all → before ≡ all
no_line before all rest none whole =
    ap (λ r. fold played_more before (script_lines r)) (sym (nil_from_length rest none)) ∙ whole

-- a test as a number counts its fault
pub one_fault : (n : ℕ) (b fault : Bool) → n ≡ bool_byte b → b ≡ fault → n ≡ cond fault 1 0
one_fault n true fault here same = here ∙ ap (λ f. cond f 1 0) same
one_fault n false fault here same = here ∙ ap (λ f. cond f 1 0) same

pub bool_le : (n : ℕ) (b : Bool) → n ≡ bool_byte b → n ≤ 1
bool_le n true here = omega (arith, here)
bool_le n false here = omega (arith, here)

-- a prefix of a text is a prefix of each text that this is a prefix of
prefix_within : (n : ℕ) (text more : List ℕ) → (m : ℕ) × (take n text ≡ take m (text ++ more))
prefix_within n text more =
    elim (cases_lt n (length text)) [
      | inl below ↦ (n, sym (take-append-le n text more (omega arith)))
      | inr above ↦ (length text, take_all n text above ∙ sym (take_all (length text) text (omega arith)) ∙ sym (take-append-le (length text) text more (omega arith)))
    ]

-- a prefix of a part, after all that comes before the part
pub prefix_after : (a b c : Option (List ℕ)) (done text more all : List ℕ) → Appends a b done → AppendsPrefix b c text → all ≡ (done ++ text) ++ more → AppendsPrefix a c all
prefix_after a b c done text more all before prefix whole =
    let within = prefix_within prefix.0 text more in
    let parts = sym (append_assoc done text more) ∙ sym whole in (
      length done + within.0,
      subst (Appends a c)
          (ap (λ l. done ++ l) within.1 ∙ sym (take-append-add done (text ++ more) within.0) ∙ ap (take (length done + within.0)) parts)
          (Appends-trans a b c done (take prefix.0 text) before prefix.1),
    )

-- the whole text is a prefix of itself
pub prefix_whole : (a b : Option (List ℕ)) (text : List ℕ) → Appends a b text → AppendsPrefix a b text
prefix_whole a b text whole = (length text, subst (Appends a b) (sym (take-length text)) whole)

-- if nothing was written, that is a prefix of any output
pub nothing_written : (given a : Option (List ℕ)) (output : List ℕ → List ℕ) → IfSome given (λ script. AppendsPrefix a a (output script))
nothing_written None a output = tt
nothing_written (Some script) a output = (0, Appends-nil a)
