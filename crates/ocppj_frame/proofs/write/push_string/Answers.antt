-- The library's print of one string is that string, quoted.
use Rattle.std.proofs.Common.{◌≡◌, ◌∙◌, ◌++◌, ap, sym, subst, ℕ, List, [], ◌∷◌, Result, Ok, Err}
use Rattle.std.specs.Prelude.{MatchResult, OnOk, string_bytes}
use Rattle.std.specs.Str.{IsUtf8}
use Rattle.std.proofs.lemmas.List.{append-nil}
use Rattle.std.proofs.lemmas.Str.{IsUtf8-append, IsUtf8-had}
use Rattle.json.specs.Token.{Token, string}
use Rattle.json.specs.Print.{print, print_from, quoted}
use Rattle.ocppj_frame.proofs.write.push_string.Goals as goal

-- one string, printed
print_string : (text : List ℕ) (tokens : List Token) → tokens ≡ string text ∷ [] → print tokens ≡ quoted text
unfolding print_from
print_string text tokens e = ap print e ∙ append-nil (quoted text)

-- a fact of an Ok, and one that holds of every Err
by_outcome : {E P Q R : Type 0} → (r : Result (Unit {0}) E) → (P → Q) → R → OnOk r P
    → MatchResult r (λ _. Q) (λ _. R)
by_outcome (Ok x) f kept h = f h
by_outcome (Err e) f kept h = kept

pub from_utf8_unchecked-requires : goal.from_utf8_unchecked-requires
from_utf8_unchecked-requires c =
    let old : IsUtf8 (string_bytes c.replace.result) = IsUtf8-had _ c.replace.result.ok in
    let bytes : c.string-written.new.self.before ≡ string_bytes c.replace.result = cc (c.string-written.ensures.room.0) in
    subst IsUtf8 (sym c.into_inner.ensures.items)
    (IsUtf8-append _ _ (subst IsUtf8 (sym bytes) old) c.into_inner.ensures.utf8)

pub returns : goal.returns
returns c =
    let before : c.string-written.new.self.before ≡ string_bytes c.args.out.now = cc (c.string-written.ensures.room.0) in
    by_outcome c.string-written.result (λ tokens.
    let quotes : print c.string-written.new.self.tokens ≡ quoted c.args.text.now =
    print_string c.args.text.now _ (tokens ∙ ap (λ (ts : List Token). ts ++ (string c.args.text.now ∷ [])) c.new-writer.ensures.tokens) in
    cc (quotes, before))
    (record { behind = print c.string-written.new.self.tokens; is = cc before })
    c.string-written.ensures.ok
