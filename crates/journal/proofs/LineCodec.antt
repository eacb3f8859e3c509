-- A written line is read back, and no line feed is inside.
use Rattle.std.proofs.Common.{◌≡◌, ◌≢◌, ℕ, zero, suc, ◌+◌, ◌/◌, ◌%◌, ◌<◌, ◌≤◌, Bool, true, false, cond, eqb, ◌||◌, ◌&&◌, nat_lt, List, [], ◌∷◌, ◌++◌, length, get_or, Some, None, Ok, codes, refl, ap, ◌∙◌, arith, append_assoc, length-append}
use Rattle.std.specs.Prelude.{All}
use Rattle.std.specs.Fmt.{decimal}
use Rattle.std.specs.List.{position_or_len}
use Rattle.std.specs.Str.{bytes_eq}
use Rattle.std.proofs.Math.Seq.{take-append_seam, drop-append-add}
use Rattle.std.proofs.lemmas.Bool.{eqb-true, lt-ltb, ltb-true}
use Rattle.std.proofs.lemmas.Fmt.{decimal_by_steps, decimal_digit, decimal_nonempty, first_decimal}
use Rattle.std.proofs.lemmas.List.Elements.{All-nil, All-cons, All-head, All-tail, All-append, All-weaker, All-map}
use Rattle.std.proofs.lemmas.Slice.Eq.{bytes_eq-Decides}
use Rattle.ocpp_scalars.specs.CalendarDay.{CalendarDay, calendar_day}
use Rattle.ocpp_scalars.specs.Limits.{last_second}
use Rattle.ocpp_scalars.specs.Writing.{in_digits, day_text, time_of_day_text, instant_text}
use Rattle.ocpp_scalars.specs.ByCases.InstantText.{instant_of}
use Rattle.site_core.specs.Limits.{max_number}
use Rattle.texts.specs.Theory.Number.{number_made}
use Rattle.journal.specs.declared.line_word.LineWord.{LineWord}
use Rattle.journal.specs.declared.line_word.LineWord.TheVariants as words
use Rattle.journal.specs.Line.{NotedState, LineState, by_point, by_operator, message, reply, verdict, attached, sent, lost, word_of, noted_text, unbroken, on_one_line, line_words, HasNoLineFeed, IsWord, CanBeNoted, CanBeWritten, noted_on_one_line, line_on_one_line}
use Rattle.journal.specs.ByCases.Line.{LineKind, is_space, unnamed, word_at, kind_of, number_or_fault, number_at, noted_in, line_of}

-- ---- bytes above the space

pub record AreVisible (text : List ℕ) : Type 0 where
  pub each : All (λ b. 32 < b) text

visible_one : (b : ℕ) → 32 < b → AreVisible (b ∷ [])
visible_one b above = record { each = All-cons (λ b. 32 < b) b [] above (All-nil (λ b. 32 < b)) }

visible_both : {xs ys : List ℕ} → AreVisible xs → AreVisible ys → AreVisible (xs ++ ys)
visible_both {xs} {ys} one other =
    record { each = All-append (λ b. 32 < b) xs ys one.each other.each }

no_space : (text : List ℕ) → AreVisible text → All (λ b. b ≢ 32) text
no_space text are =
    All-weaker (λ b. 32 < b) (λ b. b ≢ 32) (λ b above same. omega (arith, above, same)) text are.each

no_feed_in : (text : List ℕ) → AreVisible text → HasNoLineFeed text
no_feed_in text are =
    All-weaker (λ b. 32 < b) (λ b. b ≢ 10) (λ b above same. omega (arith, above, same)) text are.each

visible_digits : (count n : ℕ) → AreVisible (in_digits count n)
visible_digits zero n = record { each = All-nil (λ b. 32 < b) }
visible_digits (suc count) n =
    visible_both (visible_digits count (n / 10)) (visible_one (48 + n % 10) (omega arith))

visible_day : (day : CalendarDay) → AreVisible (day_text day)
unfolding day_text
visible_day day =
    let dash = visible_one 45 (omega arith) in
    visible_both (visible_both (visible_both (visible_both (visible_digits 4 day.year) dash)
    (visible_digits 2 day.month)) dash) (visible_digits 2 day.day)

visible_time : (seconds : ℕ) → AreVisible (time_of_day_text seconds)
unfolding time_of_day_text
visible_time seconds =
    let colon = visible_one 58 (omega arith) in
    visible_both (visible_both (visible_both (visible_both (visible_digits 2 (seconds / 3600)) colon)
    (visible_digits 2 (seconds / 60 % 60))) colon) (visible_digits 2 (seconds % 60))

visible_instant : (instant : ℕ) → AreVisible (instant_text instant)
unfolding instant_text
visible_instant instant =
    visible_both (visible_both (visible_both (visible_day (calendar_day (instant / 86_400)))
    (visible_one 84 (omega arith))) (visible_time (instant % 86_400))) (visible_one 90 (omega arith))

pub visible_decimal : (n : ℕ) → n ≤ max_number → AreVisible (decimal n)
visible_decimal n within =
    decimal_by_steps (λ n text. AreVisible text) (λ n below. visible_one (48 + n) (omega arith))
    (λ n digits above are. visible_both are (visible_one (48 + n % 10) (omega arith)))
    n (omega (arith, within))

-- ---- the first word of a text

test_of_other : (b c : ℕ) → b ≢ c → eqb b c ≡ false
test_of_other b c other = elim (eqb b c) as (λ t. eqb b c ≡ t → t ≡ false) [
  | true ↦ λ is. absurd (other (eqb-true b c is))
  | false ↦ λ is. refl
] refl

one_more : (n : ℕ) → 1 + n ≡ suc n
one_more n = omega arith

word_ends : (word rest : List ℕ) → All (λ b. b ≢ 32) word
    → position_or_len is_space (word ++ 32 ∷ rest) ≡ length word
word_ends [] rest none = refl
word_ends (b ∷ word) rest none =
    rw (test_of_other b 32 (All-head (λ b. b ≢ 32) b word none))
    (ap (λ (n : ℕ). 1 + n) (word_ends word rest (All-tail (λ b. b ≢ 32) b word none))
    ∙ one_more (length word))

-- a text that begins with this word
pub word_read : (word rest : List ℕ) → 0 < length word → All (λ b. b ≢ 32) word
    → word_at (word ++ codes " " ++ rest) ≡ Ok (word, rest)
word_read word rest some none =
    let end = word_ends word rest none in
    rw (append_assoc word (codes " ") rest) (rw (
      end,
      lt-ltb 0 (length word) some,
      lt-ltb (length word) (length (word ++ 32 ∷ rest)) (omega (arith, length-append word (32 ∷ rest))),
      take-append_seam word (32 ∷ rest),
      drop-append-add word (32 ∷ rest) 1,
    ) refl)

-- ---- numbers

pub number_read : (n : ℕ) → n ≤ max_number → number_or_fault (decimal n) ≡ Ok n
number_read zero within = rw (decimal_digit 0 (omega arith)) refl
number_read (suc n) within =
    let first = first_decimal (suc n) (omega arith) (omega (arith, within)) in
    let other : bytes_eq (decimal (suc n)) (codes "0") ≡ false = elim (bytes_eq (decimal (suc n)) (codes "0")) as (λ t. bytes_eq (decimal (suc n)) (codes "0") ≡ t → t ≡ false) [
      | true ↦ λ is. absurd (omega (arith, first, ap (λ (l : List ℕ). get_or l 0 0) ((bytes_eq-Decides (decimal (suc n)) (codes "0")).0 is)))
      | false ↦ λ is. refl
    ] refl in
    rw (other, number_made (suc n) (omega arith) within) refl

pub number_and_rest : (n : ℕ) (rest : List ℕ) → n ≤ max_number
    → number_at (decimal n ++ codes " " ++ rest) ≡ Ok (n, rest)
number_and_rest n rest within =
    rw (word_read (decimal n) rest (decimal_nonempty n (omega (arith, within))) (no_space (decimal n) (visible_decimal n within)))
    (rw (number_read n within) refl)

-- ---- the noted event

abbrev kind_in : NotedState → LineKind
kind_in (message by_point number frame) = unnamed words.Point
kind_in (message (by_operator name) number frame) = record { word = words.Operator; name = name }
kind_in (reply link frame) = unnamed words.Reply
kind_in (verdict call frame) = unnamed words.Verdict
kind_in (attached link) = unnamed words.Attached
kind_in (sent link call) = unnamed words.Sent
kind_in (lost link) = unnamed words.Lost

-- `operator` and a colon come before the name
name_is_read : (name : List ℕ)
    → kind_of (codes "operator:" ++ name) ≡ Some (record { word = words.Operator; name = Some name })
name_is_read name =
    rw (lt-ltb 8 (length (codes "operator:" ++ name)) (omega (arith, length-append (codes "operator:") name))) refl

kind_is_read : (noted : NotedState) → kind_of (word_of noted) ≡ Some (kind_in noted)
kind_is_read (message by_point number frame) = refl
kind_is_read (message (by_operator None) number frame) = refl
kind_is_read (message (by_operator (Some name)) number frame) = name_is_read name
kind_is_read (reply link frame) = refl
kind_is_read (verdict call frame) = refl
kind_is_read (attached link) = refl
kind_is_read (sent link call) = refl
kind_is_read (lost link) = refl

noted_read : (noted : NotedState) → CanBeNoted noted
    → noted_in (kind_in noted) (noted_text noted) ≡ Ok (noted_on_one_line noted)
noted_read (message by_point number frame) can =
    rw (number_and_rest number (on_one_line frame) can.1) refl
noted_read (message (by_operator name) number frame) can =
    rw (number_and_rest number (on_one_line frame) can.1) refl
noted_read (reply link frame) within = rw (number_and_rest link (on_one_line frame) within) refl
noted_read (verdict call frame) within = rw (number_and_rest call (on_one_line frame) within) refl
noted_read (attached link) within = rw (number_read link within) refl
noted_read (sent link call) within =
    rw (number_and_rest link (decimal call) within.0) (rw (number_read call within.1) refl)
noted_read (lost link) within = rw (number_read link within) refl

-- ---- the line

above : List ℕ → Bool
above [] = true
above (b ∷ text) = nat_lt 32 b && above text

all_above : (text : List ℕ) → above text ≡ true → All (λ b. 32 < b) text
unfolding above
all_above [] is = All-nil (λ b. 32 < b)
all_above (b ∷ text) is =
    let parts = both_true (nat_lt 32 b) (above text) is in
    All-cons (λ b. 32 < b) b text (ltb-true 32 b parts.0) (all_above text parts.1)
  where
    both_true : (one other : Bool) → (one && other) ≡ true → (one ≡ true) × (other ≡ true)
    both_true true other is = (refl, is)
    both_true false other is = absurd (cc is)

visible : (text : List ℕ) → above text ≡ true → AreVisible text
visible text is = record { each = all_above text is }

visible_is_word : (text : List ℕ) → 0 < length text → AreVisible text → IsWord text
visible_is_word text some are =
    record { some = some; spaces = no_space text are; breaks = no_feed_in text are }

-- a word behind visible bytes
longer_word : (text word : List ℕ) → AreVisible text → IsWord word → IsWord (text ++ word)
longer_word text word are is = record {
  some = omega (arith, is.some, length-append text word);
  spaces = All-append (λ byte. byte ≢ 32) text word (no_space text are) is.spaces;
  breaks = All-append (λ byte. byte ≢ 10) text word (no_feed_in text are) is.breaks;
}

is_word : (noted : NotedState) → CanBeNoted noted → IsWord (word_of noted)
unfolding above
is_word (message by_point number frame) can =
    visible_is_word (codes "point") (omega arith) (visible (codes "point") refl)
is_word (message (by_operator None) number frame) can =
    visible_is_word (codes "operator") (omega arith) (visible (codes "operator") refl)
is_word (message (by_operator (Some name)) number frame) can =
    longer_word (codes "operator:") name (visible (codes "operator:") refl) can.0
is_word (reply link frame) can =
    visible_is_word (codes "reply") (omega arith) (visible (codes "reply") refl)
is_word (verdict call frame) can =
    visible_is_word (codes "verdict") (omega arith) (visible (codes "verdict") refl)
is_word (attached link) can =
    visible_is_word (codes "attached") (omega arith) (visible (codes "attached") refl)
is_word (sent link call) can =
    visible_is_word (codes "sent") (omega arith) (visible (codes "sent") refl)
is_word (lost link) can =
    visible_is_word (codes "lost") (omega arith) (visible (codes "lost") refl)

some_instant : (instant : ℕ) → 0 < length (instant_text instant)
unfolding instant_text
some_instant instant = omega (
  arith,
  length-append (day_text (calendar_day (instant / 86_400))
      ++ codes "T" ++ time_of_day_text (instant % 86_400)) (codes "Z"),
)

abbrev pub InstantsAreRead : Type 0
InstantsAreRead = (instant : ℕ) → instant ≤ last_second
    → instant_of (instant_text instant) ≡ Ok instant

-- the words one after another
grouped : (a w p n : List ℕ)
    → a ++ codes " " ++ w ++ codes " " ++ p ++ codes " " ++ n
    ≡ (a ++ codes " ") ++ ((w ++ codes " ") ++ ((p ++ codes " ") ++ n))
grouped a w p n =
    let first = a ++ codes " " in
    ap (λ (t : List ℕ). t ++ p ++ codes " " ++ n) (append_assoc first w (codes " "))
    ∙ ap (λ (t : List ℕ). t ++ n) (append_assoc (first ++ (w ++ codes " ")) p (codes " "))
    ∙ append_assoc (first ++ (w ++ codes " ")) (p ++ codes " ") n
    ∙ append_assoc first (w ++ codes " ") ((p ++ codes " ") ++ n)

pub line_read : InstantsAreRead → (line : LineState) → CanBeWritten line
    → line_of (line_words line) ≡ Ok (line_on_one_line line)
unfolding line_words line_of
line_read again line can =
    let noted = line.noted in
    let word = is_word noted can.noted in
    let behind = line.point ++ codes " " ++ noted_text noted in
    rw (grouped (instant_text line.moment) (word_of noted) line.point (noted_text noted))
    (rw (word_read (instant_text line.moment) (word_of noted ++ codes " " ++ behind) (some_instant line.moment) (no_space (instant_text line.moment) (visible_instant line.moment)))
    (rw (word_read (word_of noted) behind word.some word.spaces)
    (rw (word_read line.point (noted_text noted) can.point.some can.point.spaces)
    (rw (kind_is_read noted)
    (rw (again line.moment can.moment)
    (rw (noted_read noted can.noted) refl))))))

-- ---- no line feed

feeds_both : (xs ys : List ℕ) → HasNoLineFeed xs → HasNoLineFeed ys → HasNoLineFeed (xs ++ ys)
feeds_both xs ys one other = All-append (λ byte. byte ≢ 10) xs ys one other

no_space_feed : ◌≢◌ {A = ℕ} 32 10
no_space_feed same = absurd (omega (arith, same))

spaced : (word rest : List ℕ) → HasNoLineFeed word → HasNoLineFeed rest
    → HasNoLineFeed (word ++ codes " " ++ rest)
spaced word rest one other =
    feeds_both (word ++ codes " ") rest (feeds_both word (codes " ") one
    (All-cons (λ byte. byte ≢ 10) 32 [] no_space_feed (All-nil (λ byte. byte ≢ 10)))) other

unbroken_byte : (b : ℕ) → unbroken b ≢ 10
unbroken_byte b = go (eqb b 10) (eqb b 13) refl
  where
    go : (feed return : Bool) → eqb b 10 ≡ feed → ◌≢◌ {A = ℕ} (cond (feed || return) 9 b) 10
    go true return is same = absurd (omega (arith, same))
    go false true is same = absurd (omega (arith, same))
    go false false is same = absurd (cc (is, same))

pub one_line : (frame : List ℕ) → HasNoLineFeed (on_one_line frame)
one_line frame =
    All-map (λ byte. byte ≢ 10) unbroken frame (λ k d within. unbroken_byte (get_or frame k d))

decimal_feeds : (n : ℕ) → n ≤ max_number → HasNoLineFeed (decimal n)
decimal_feeds n within = no_feed_in (decimal n) (visible_decimal n within)

noted_feeds : (noted : NotedState) → CanBeNoted noted → HasNoLineFeed (noted_text noted)
noted_feeds (message sender number frame) can =
    spaced (decimal number) (on_one_line frame) (decimal_feeds number can.1) (one_line frame)
noted_feeds (reply link frame) within =
    spaced (decimal link) (on_one_line frame) (decimal_feeds link within) (one_line frame)
noted_feeds (verdict call frame) within =
    spaced (decimal call) (on_one_line frame) (decimal_feeds call within) (one_line frame)
noted_feeds (attached link) within = decimal_feeds link within
noted_feeds (sent link call) within =
    spaced (decimal link) (decimal call) (decimal_feeds link within.0) (decimal_feeds call within.1)
noted_feeds (lost link) within = decimal_feeds link within

pub line_feeds : (line : LineState) → CanBeWritten line → HasNoLineFeed (line_words line)
unfolding line_words
line_feeds line can =
    let noted = line.noted in
    spaced (instant_text line.moment ++ codes " " ++ word_of noted ++ codes " " ++ line.point)
    (noted_text noted)
    (spaced (instant_text line.moment ++ codes " " ++ word_of noted) line.point
    (spaced (instant_text line.moment) (word_of noted)
    (no_feed_in (instant_text line.moment) (visible_instant line.moment))
    (is_word noted can.noted).breaks) can.point.breaks)
    (noted_feeds noted can.noted)
