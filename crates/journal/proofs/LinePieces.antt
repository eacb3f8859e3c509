-- A line from its pieces, and from an entry.
use Rattle.std.proofs.Common.{◌≡◌, ℕ, List, [], ◌++◌, codes, Result, Ok, Err, refl, sym, ap, ◌∙◌, append_assoc, append-nil}
use Rattle.std.specs.Fmt.{decimal}
use Rattle.ocpp_scalars.specs.Appending.{Appends}
use Rattle.ocpp_scalars.specs.Writing.{instant_text}
use Rattle.journal.specs.Line.{NotedState, LineState, message, reply, verdict, attached, sent, lost, word_of, number_written, noted_text, numbered_frame, on_one_line, line_words, line_text}
use Rattle.journal.specs.Entry.{numbered, with_number, number_text, drawn_text, draws_number, noted_before, noted_behind, before_number, behind_number}

-- ---- one piece after another

pub then_piece : (start old new done piece : List ℕ) → old ≡ start ++ done → new ≡ old ++ piece
    → new ≡ start ++ (done ++ piece)
then_piece start old new done piece was more =
    more ∙ ap (λ (t : List ℕ). t ++ piece) was ∙ append_assoc start done piece

pub then_last : {A E : Type 0} (result : Result A E) (start old new done piece : List ℕ)
    → old ≡ start ++ done → Appends result old new piece → Appends result start new (done ++ piece)
then_last (Ok a) start old new done piece was more = then_piece start old new done piece was more
then_last (Err e) start old new done piece was begins = record {
  behind = done ++ begins.behind;
  is = begins.is ∙ ap (λ (t : List ℕ). t ++ begins.behind) was
      ∙ append_assoc start done begins.behind;
}

-- ---- the pieces of a line

pieces : (noted : NotedState)
    → noted_before noted ++ drawn_text (number_written noted) ++ noted_behind noted
    ≡ noted_text noted
pieces (message sender number frame) =
    sym (append_assoc (decimal number) (codes " ") (on_one_line frame))
pieces (reply link frame) =
    append-nil (numbered_frame link frame ++ []) ∙ append-nil (numbered_frame link frame)
pieces (verdict call frame) =
    append-nil (numbered_frame call frame ++ []) ∙ append-nil (numbered_frame call frame)
pieces (attached link) = append-nil (decimal link)
pieces (sent link call) = append-nil (decimal link ++ codes " " ++ decimal call)
pieces (lost link) = append-nil (decimal link ++ []) ∙ append-nil (decimal link)

pub put_together : (line : LineState)
    → before_number line ++ drawn_text (number_written line.noted) ++ behind_number line
    ≡ line_text line
unfolding line_words
put_together line =
    let first = instant_text line.moment ++ codes " " ++ word_of line.noted ++ codes " "
    ++ line.point ++ codes " " in
    let drawn = drawn_text (number_written line.noted) in
    let last = noted_behind line.noted in
    sym (append_assoc (before_number line ++ drawn) last (codes "\n"))
    ∙ ap (λ (t : List ℕ). t ++ codes "\n") (
    ap (λ (t : List ℕ). t ++ last) (append_assoc first (noted_before line.noted) drawn)
    ∙ append_assoc first (noted_before line.noted ++ drawn) last
    ∙ ap (λ (t : List ℕ). first ++ t) (pieces line.noted)
    )

-- ---- and from an entry: the number of the line makes no difference to it

record IsSame (noted : NotedState) (number : ℕ) : Type 0 where
  word : word_of (with_number noted number) ≡ word_of noted
  before : noted_before (with_number noted number) ≡ noted_before noted
  drawn : drawn_text (number_written (with_number noted number))
      ≡ number_text (draws_number noted) number
  behind : noted_behind (with_number noted number) ≡ noted_behind noted

same : (noted : NotedState) (number : ℕ) → IsSame noted number
same (message sender _ frame) number =
    record { word = refl; before = refl; drawn = refl; behind = refl }
same (reply link frame) number =
    record { word = refl; before = refl; drawn = refl; behind = refl }
same (verdict call frame) number =
    record { word = refl; before = refl; drawn = refl; behind = refl }
same (attached _) number = record { word = refl; before = refl; drawn = refl; behind = refl }
same (sent link _) number = record { word = refl; before = refl; drawn = refl; behind = refl }
same (lost link) number = record { word = refl; before = refl; drawn = refl; behind = refl }

pub entry_becomes : (line : LineState) (number : ℕ)
    → before_number line ++ number_text (draws_number line.noted) number ++ behind_number line
    ≡ line_text (numbered line number)
entry_becomes line number =
    let is = same line.noted number in
    ap (λ (t : List ℕ). instant_text line.moment ++ codes " " ++ t ++ codes " " ++ line.point
    ++ codes " " ++ noted_before line.noted ++ number_text (draws_number line.noted) number
    ++ behind_number line) (sym is.word)
    ∙ ap (λ (t : List ℕ). instant_text line.moment ++ codes " " ++ word_of (with_number line.noted number)
    ++ codes " " ++ line.point ++ codes " " ++ t
    ++ number_text (draws_number line.noted) number ++ behind_number line) (sym is.before)
    ∙ ap (λ (t : List ℕ). before_number (numbered line number) ++ t ++ behind_number line) (sym is.drawn)
    ∙ ap (λ (t : List ℕ). before_number (numbered line number)
    ++ drawn_text (number_written (with_number line.noted number)) ++ (t ++ codes "\n")) (sym is.behind)
    ∙ put_together (numbered line number)
