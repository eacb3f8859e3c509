-- The form of a line that is found word by word is its form.
use Rattle.std.proofs.Common.{◌≡◌, ◌↔◌, ℕ, ◌+◌, ◌<◌, ◌&&◌, List, ◌∷◌, ◌++◌, length, take, drop, get_or, codes, Bool, true, false, cond, nat_lt, Option, Some, None, unwrap_or, inl, inr, refl, sym, ap, ◌∙◌, subst, arith, length-append, lit<}
use Rattle.std.specs.List.{position_or_len, before_first, after_first}
use Rattle.std.specs.Str.{bytes_eq}
use Rattle.std.proofs.lemmas.Bool.{ltb-true, lt-ltb, eqb-true, eqb-false, ne_eqb}
use Rattle.std.proofs.lemmas.List.{length-take-le, get_or-take}
use Rattle.std.proofs.lemmas.List.Sums.{split_at_first, passes_at_first, fails_before_first, position_or_len_is}
use Rattle.std.proofs.lemmas.Slice.Eq.{bytes_eq-Decides}
use Rattle.std.proofs.Math.ListN.{get_or-append}
use Rattle.std.proofs.Math.Seq.{take-append_seam, drop-append-add, get_or-append_seam}
use Rattle.std.specs.Fmt.{decimal}
use Rattle.replay.specs.declared.script.form.ScriptWord.{ScriptWord}
use Rattle.replay.specs.declared.script.form.ScriptWord.TheVariants.{Operator, Point, Hold}
use Rattle.replay.specs.Form.{Form, text_line, release_line, spelled, IsWord, IsOfForm}
use Rattle.texts.specs.ByCases.Number.{number_of}
use Rattle.texts.specs.Theory.Number.{either, number_is, number_made}
use Rattle.ocpp_scalars.specs.OptionSteps.{◌>>=◌}
use Rattle.replay.specs.ByCases.Form.{is_space, word_at, word_named, release_form, text_form, form_of}

-- both tests held where a choice gave its value
both : {X : Type 0} (a b : Bool) (x y : X) → cond (a && b) (Some x) None ≡ Some y → (a ≡ true) × (b ≡ true) × (x ≡ y)
both true true x y e = (refl, refl, cc)
both true false x y e = absurd (cc)
both false b x y e = absurd (cc)

-- a step with a value started from a value
bound : {A B : Type 0} (f : A → Option B) (o : Option A) (y : B) → (o >>= f) ≡ Some y → (x : A) × (o ≡ Some x) × (f x ≡ Some y)
bound f None y e = absurd (cc)
bound f (Some x) y e = (x, refl, e)

-- the first word of a text
word_is : (text : List ℕ) (parts : List ℕ × List ℕ) → word_at text ≡ Some parts → (text ≡ parts.0 ++ 32 ∷ parts.1) × IsWord parts.0
word_is text parts some =
    let place = position_or_len is_space text in
    let cut = both (nat_lt 0 place) (nat_lt place (length text)) (before_first is_space text, after_first is_space text) parts some in
    let inside : place < length text = ltb-true place (length text) cut.1 in
    let size : length (take place text) ≡ place = length-take-le place text (omega arith) in
    let space : get_or text place 0 ≡ 32 = eqb-true (get_or text place 0) 32 (passes_at_first is_space text 0 inside) in
    let front : before_first is_space text ≡ parts.0 = ap (λ p. p.0) cut.2 in
    let word : IsWord (before_first is_space text) = (
      omega (arith, ltb-true 0 place cut.0, size),
      λ k below here.
          let low : k < place = omega (arith, size, below) in
          eqb-false (get_or text k 0) 32 (fails_before_first is_space text k 0 low) (sym (get_or-take place text k 0 low) ∙ here),
    ) in (
      split_at_first is_space text 0 inside ∙ ap (λ b. before_first is_space text ++ b ∷ after_first is_space text) space ∙ ap (λ p. p.0 ++ 32 ∷ p.1) cut.2,
      subst IsWord front word,
    )

-- a word, a space and a rest are split at that space
word_made : (word rest : List ℕ) → IsWord word → word_at (word ++ 32 ∷ rest) ≡ Some (word, rest)
word_made word rest is =
    let text = word ++ 32 ∷ rest in
    let long : length word < length text = omega (arith, length-append word (32 ∷ rest)) in
    let place : position_or_len is_space text ≡ length word =
    position_or_len_is is_space text (length word) 0 (omega (arith, long))
    (λ k below. ne_eqb (get_or text k 0) 32 (λ here. is.1 k below (sym (get_or-append word (32 ∷ rest) 0 k below) ∙ here)))
    (λ _. ap is_space (get_or-append_seam word 32 rest 0)) in
    let whole : Some (take (length word) text, drop (length word + 1) text) ≡ Some (word, rest) =
    ap (λ l. Some (l, drop (length word + 1) text)) (take-append_seam word (32 ∷ rest)) ∙ ap (λ l. Some (word, l)) (drop-append-add word (32 ∷ rest) 1) in
    ap (λ n. cond (nat_lt 0 n && nat_lt n (length text)) (Some (take n text, drop (n + 1) text)) None) place
    ∙ rw (lt-ltb 0 (length word) is.0, lt-ltb (length word) (length text) long) whole

-- a word names the kind of line that it spells, and no other word does
word_is_spelled : (text : List ℕ) (word : ScriptWord) → word_named text ≡ Some word → text ≡ spelled word
word_is_spelled text word some =
    elim (either (bytes_eq text (codes "operator")) Operator word _ some) [
      | inl test ↦ (bytes_eq-Decides text (codes "operator")).0 test.0 ∙ ap spelled test.1
      | inr more ↦ elim (either (bytes_eq text (codes "point")) Point word _ more.1) [
        | inl test ↦ (bytes_eq-Decides text (codes "point")).0 test.0 ∙ ap spelled test.1
        | inr last ↦ elim (either (bytes_eq text (codes "hold")) Hold word None last.1) [
          | inl test ↦ (bytes_eq-Decides text (codes "hold")).0 test.0 ∙ ap spelled test.1
          | inr none ↦ absurd (cc (none.1))
        ]
      ]
    ]

word_made_named : (word : ScriptWord) → word_named (spelled word) ≡ Some word
word_made_named Operator = refl
word_made_named Point = refl
word_made_named Hold = refl

not_release : (word : ScriptWord) → bytes_eq (spelled word) (codes "release") ≡ false
not_release Operator = refl
not_release Point = refl
not_release Hold = refl

spelled_is_word : (word : ScriptWord) → IsWord (spelled word)
spelled_is_word Operator = (lit< tt, λ k below. eqb-false (get_or (codes "operator") k 0) 32 (fails_before_first is_space (codes "operator") k 0 below))
spelled_is_word Point = (lit< tt, λ k below. eqb-false (get_or (codes "point") k 0) 32 (fails_before_first is_space (codes "point") k 0 below))
spelled_is_word Hold = (lit< tt, λ k below. eqb-false (get_or (codes "hold") k 0) 32 (fails_before_first is_space (codes "hold") k 0 below))

release_is_word : IsWord (codes "release")
release_is_word = (lit< tt, λ k below. eqb-false (get_or (codes "release") k 0) 32 (fails_before_first is_space (codes "release") k 0 below))

text_is : (line : List ℕ) (form : Form) (instant second : List ℕ × List ℕ) → word_at line ≡ Some instant → word_at instant.1 ≡ Some second
    → text_form instant.0 second.0 second.1 ≡ Some form → IsOfForm line form
text_is line form instant second one two some =
    let third = bound _ (word_named second.0) form some in
    let last = bound _ (word_at second.1) form third.2 in
    let same : text_line instant.0 third.0 last.0.0 last.0.1 ≡ form = ap (λ o. unwrap_or o form) last.2 in
    let kind : second.0 ≡ spelled third.0 = word_is_spelled second.0 third.0 third.1 in
    let first = word_is line instant one in
    let next = word_is instant.1 second two in
    let point = word_is second.1 last.0 last.1 in
    subst (IsOfForm line) same
    (first.0 ∙ ap (λ l. instant.0 ++ 32 ∷ l) (next.0 ∙ ap (λ k. k ++ 32 ∷ second.1) kind ∙ ap (λ l. spelled third.0 ++ 32 ∷ l) point.0), first.1, point.1)

release_is : (line : List ℕ) (form : Form) (instant second : List ℕ × List ℕ) → word_at line ≡ Some instant → word_at instant.1 ≡ Some second
    → bytes_eq second.0 (codes "release") ≡ true → release_form instant.0 second.1 ≡ Some form → IsOfForm line form
release_is line form instant second one two test some =
    let third = bound _ (number_of second.1) form some in
    let same : release_line instant.0 third.0 ≡ form = ap (λ o. unwrap_or o form) third.2 in
    let kind : second.0 ≡ codes "release" = (bytes_eq-Decides second.0 (codes "release")).0 test in
    let first = word_is line instant one in
    let next = word_is instant.1 second two in
    let number = number_is second.1 third.0 third.1 in
    subst (IsOfForm line) same
    (first.0 ∙ ap (λ l. instant.0 ++ 32 ∷ l) (next.0 ∙ ap (λ k. k ++ 32 ∷ second.1) kind ∙ ap (λ l. codes "release" ++ 32 ∷ l) number.0), first.1, number.1)

form_is : (line : List ℕ) (form : Form) → form_of line ≡ Some form → IsOfForm line form
unfolding form_of
form_is line form some =
    let first = bound _ (word_at line) form some in
    let second = bound _ (word_at first.0.1) form first.2 in
    elim (bytes_eq second.0.0 (codes "release")) as (λ b. bytes_eq second.0.0 (codes "release") ≡ b → cond b (release_form first.0.0 second.0.1) (text_form first.0.0 second.0.0 second.0.1) ≡ Some form → IsOfForm line form) [
      | true ↦ λ here e. release_is line form first.0 second.0 first.1 second.1 here e
      | false ↦ λ here e. text_is line form first.0 second.0 first.1 second.1 e
    ] refl second.2

form_made : (line : List ℕ) (form : Form) → IsOfForm line form → form_of line ≡ Some form
unfolding form_of
form_made line (text_line instant word point frame) form =
    let tail = point ++ 32 ∷ frame in
    let middle = spelled word ++ 32 ∷ tail in
    ap form_of form.0
    ∙ rw (word_made instant middle form.1) (rw (word_made (spelled word) tail (spelled_is_word word))
    (rw (not_release word) (rw (word_made_named word) (rw (word_made point frame form.2) refl))))
form_made line (release_line instant number) form =
    let middle = codes "release" ++ 32 ∷ decimal number in
    ap form_of form.0
    ∙ rw (word_made instant middle form.1) (rw (word_made (codes "release") (decimal number) release_is_word)
    (rw (number_made number form.2.0 form.2.1) refl))

pub line_form : (line : List ℕ) (form : Form) → (form_of line ≡ Some form) ↔ IsOfForm line form
line_form line form = (form_is line form, form_made line form)
