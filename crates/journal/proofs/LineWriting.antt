-- A message is written on one line, piece by piece.
use Rattle.std.proofs.Common.{◌≡◌, ◌≢◌, ℕ, zero, suc, ◌<◌, true, false, cond, eqb, List, [], ◌∷◌, ◌++◌, map, length, get_or, refl, sym, ap, ◌∙◌, append_assoc, Result, Ok, Err, arith}
use Rattle.std.specs.Prelude.{is_ok}
use Rattle.std.proofs.lemmas.Bool.{eqb-true}
use Rattle.std.proofs.lemmas.List.{map-append}
use Rattle.ocpp_scalars.specs.Appending.{Appends}
use Rattle.journal.specs.Line.{unbroken, on_one_line}
use Rattle.journal.specs.ByCases.Line.{without_returns}

-- a byte is nowhere in a text
abbrev pub Lacks : ℕ → List ℕ → Type 0
Lacks c text = (i : ℕ) → i < length text → get_or text i 0 ≢ c

lacks_tail : (c b : ℕ) (text : List ℕ) → Lacks c (b ∷ text) → Lacks c text
lacks_tail c b text lacks i within = lacks (suc i) (omega (arith, within))

-- two maps that agree on every other byte agree on a text without it
agree : (f g : ℕ → ℕ) (c : ℕ) → ((b : ℕ) → b ≢ c → f b ≡ g b) → (text : List ℕ) → Lacks c text
    → map f text ≡ map g text
agree f g c same [] lacks = refl
agree f g c same (b ∷ text) lacks =
    ap (λ (h : ℕ). h ∷ map f text) (same b (lacks zero (omega arith)))
    ∙ ap (λ (t : List ℕ). g b ∷ t) (agree f g c same text (lacks_tail c b text lacks))

stays : (f : ℕ → ℕ) (c : ℕ) → ((b : ℕ) → b ≢ c → f b ≡ b) → (text : List ℕ) → Lacks c text
    → map f text ≡ text
stays f c same [] lacks = refl
stays f c same (b ∷ text) lacks =
    ap (λ (h : ℕ). h ∷ map f text) (same b (lacks zero (omega arith)))
    ∙ ap (λ (t : List ℕ). b ∷ t) (stays f c same text (lacks_tail c b text lacks))

other_test : (b c : ℕ) → b ≢ c → eqb b c ≡ false
other_test b c other = elim (eqb b c) as (λ t. eqb b c ≡ t → t ≡ false) [
  | true ↦ λ is. absurd (other (eqb-true b c is))
  | false ↦ λ is. refl
] refl

-- ---- a message without line feeds

pub no_feed : (text : List ℕ) → Lacks 10 text → on_one_line text ≡ without_returns text
no_feed text lacks =
    agree unbroken (λ byte. cond (eqb byte 13) 9 byte) 10
    (λ b other. rw (other_test b 10 other) refl) text lacks

-- nor carriage returns
pub no_return : (text : List ℕ) → Lacks 13 text → without_returns text ≡ text
no_return text lacks =
    stays (λ byte. cond (eqb byte 13) 9 byte) 13 (λ b other. rw (other_test b 13 other) refl) text lacks

-- ---- a message that is split at the first of them

pub cut_at_feed : (text piece others : List ℕ) → text ≡ piece ++ 10 ∷ others → Lacks 10 piece
    → on_one_line text ≡ without_returns piece ++ 9 ∷ on_one_line others
cut_at_feed text piece others is lacks =
    ap on_one_line is ∙ map-append unbroken piece (10 ∷ others)
    ∙ ap (λ (t : List ℕ). t ++ 9 ∷ on_one_line others) (no_feed piece lacks)

pub cut_at_return : (text piece others : List ℕ) → text ≡ piece ++ 13 ∷ others → Lacks 13 piece
    → without_returns text ≡ piece ++ 9 ∷ without_returns others
cut_at_return text piece others is lacks =
    ap without_returns is ∙ map-append (λ byte. cond (eqb byte 13) 9 byte) piece (13 ∷ others)
    ∙ ap (λ (t : List ℕ). t ++ 9 ∷ without_returns others) (no_return piece lacks)

-- ---- one more piece and a tab

pub record GoesOn (start new more whole : List ℕ) : Type 0 where
  pub done : List ℕ
  pub is : new ≡ start ++ done
  pub left : done ++ more ≡ whole

pub goes_on : (start old middle new done piece left more whole : List ℕ)
    → old ≡ start ++ done → middle ≡ old ++ piece → new ≡ middle ++ 9 ∷ []
    → left ≡ piece ++ 9 ∷ more → done ++ left ≡ whole → GoesOn start new more whole
goes_on start old middle new done piece left more whole was pieced tabbed cut makes = record {
  done = done ++ (piece ++ 9 ∷ []);
  is = tabbed ∙ ap (λ (t : List ℕ). t ++ 9 ∷ []) (pieced ∙ ap (λ (t : List ℕ). t ++ piece) was)
      ∙ ap (λ (t : List ℕ). t ++ 9 ∷ []) (append_assoc start done piece)
      ∙ append_assoc start (done ++ piece) (9 ∷ [])
      ∙ ap (λ (t : List ℕ). start ++ t) (append_assoc done piece (9 ∷ []));
  left = append_assoc done (piece ++ 9 ∷ []) more
      ∙ ap (λ (t : List ℕ). done ++ t) (append_assoc piece (9 ∷ []) more)
      ∙ ap (λ (t : List ℕ). done ++ t) (sym cut) ∙ makes;
}

-- and the last piece
last_piece : (start old new done piece left whole : List ℕ)
    → old ≡ start ++ done → new ≡ old ++ piece → left ≡ piece → done ++ left ≡ whole
    → new ≡ start ++ whole
last_piece start old new done piece left whole was pieced last makes =
    pieced ∙ ap (λ (t : List ℕ). t ++ piece) was ∙ append_assoc start done piece
    ∙ ap (λ (t : List ℕ). start ++ (done ++ t)) (sym last) ∙ ap (λ (t : List ℕ). start ++ t) makes

-- if memory lasts for it
pub ends : {A E : Type 0} (result : Result A E) (start old new done piece left whole : List ℕ)
    → old ≡ start ++ done → new ≡ cond (is_ok result) (old ++ piece) old → left ≡ piece
    → done ++ left ≡ whole → Appends result start new whole
ends (Ok a) start old new done piece left whole was pieced last makes =
    last_piece start old new done piece left whole was pieced last makes
ends (Err e) start old new done piece left whole was pieced last makes =
    record { behind = done; is = pieced ∙ was }

-- also if a call appended it
pub ends_by_call : {A E : Type 0} (result : Result A E)
    (start old new done piece left whole : List ℕ)
    → old ≡ start ++ done → Appends result old new piece → left ≡ piece → done ++ left ≡ whole
    → Appends result start new whole
ends_by_call (Ok a) start old new done piece left whole was pieced last makes =
    last_piece start old new done piece left whole was pieced last makes
ends_by_call (Err e) start old new done piece left whole was begins last makes = record {
  behind = done ++ begins.behind;
  is = begins.is ∙ ap (λ (t : List ℕ). t ++ begins.behind) was
      ∙ append_assoc start done begins.behind;
}
