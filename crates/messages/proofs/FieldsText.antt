-- The fields of an object, written in two parts.
use Rattle.std.proofs.Common.{◌≡◌, ℕ, List, [], ◌∷◌, ◌++◌, ap, sym, ◌∙◌, append-nil, append_assoc, Option, Some, None, codes, refl}
use Rattle.std.specs.List.{filter_map}
use Rattle.messages.specs.ObjectText.{field_text, fields_text, later_texts, object_text, present, string_text, time_text}
use Rattle.messages.specs.ResponseText.{boot_notification_text, heartbeat_text}
use Rattle.messages.specs.ByCases.ObjectText.{first_field_text, later_fields_text}
use Rattle.messages.proofs.TextPieces.{appended}

later-append : (fields more : List (List ℕ × Option (List ℕ))) → later_texts (filter_map present (fields ++ more)) ≡ later_texts (filter_map present fields) ++ later_texts (filter_map present more)
later-append [] more = refl
later-append ((key, None) ∷ fields) more = later-append fields more
later-append ((key, Some value) ∷ fields) more =
    ap (λ (l : List ℕ). codes "," ++ field_text key value ++ l) (later-append fields more)
    ∙ sym (append_assoc (codes "," ++ field_text key value) (later_texts (filter_map present fields)) (later_texts (filter_map present more)))

-- Fields are written up to one that is present, and the later ones after them.
cut : (before middle after : List (List ℕ × Option (List ℕ))) (key value : List ℕ) → fields_text (before ++ ((key, Some value) ∷ (middle ++ after))) ≡ fields_text (before ++ ((key, Some value) ∷ middle)) ++ later_fields_text after
unfolding fields_text later_fields_text
cut [] middle after key value =
    ap (λ (l : List ℕ). field_text key value ++ l) (later-append middle after)
    ∙ sym (append_assoc (field_text key value) (later_texts (filter_map present middle)) (later_texts (filter_map present after)))
cut ((name, None) ∷ before) middle after key value = cut before middle after key value
cut ((name, Some text) ∷ before) middle after key value =
    ap (λ (l : List ℕ). field_text name text ++ l)
    (ap (λ fields. later_texts (filter_map present fields)) (sym (append_assoc before ((key, Some value) ∷ middle) after))
    ∙ later-append (before ++ ((key, Some value) ∷ middle)) after)
    ∙ sym (append_assoc (field_text name text) (later_texts (filter_map present (before ++ ((key, Some value) ∷ middle)))) (later_texts (filter_map present after)))

pub fields_more : (old : List ℕ) (before middle after : List (List ℕ × Option (List ℕ)))
    (key value s t : List ℕ) → s ≡ old ++ fields_text (before ++ ((key, Some value) ∷ middle))
    → t ≡ s ++ later_fields_text after → t ≡ old ++ fields_text (before ++ ((key, Some value) ∷
    (middle ++ after)))
fields_more old before middle after key value s t p q =
    appended old (fields_text (before ++ ((key, Some value) ∷ middle))) s (later_fields_text after) t p q
    ∙ ap (λ (l : List ℕ). old ++ l) (sym (cut before middle after key value))

-- A comma, a key, its value and the later fields.
later_field : (old key value : List ℕ) (after : List (List ℕ × Option (List ℕ))) (a b c : List ℕ)
    → a ≡ old ++ (codes "," ++ string_text key ++ codes ":") → b ≡ a ++ value
    → c ≡ b ++ later_fields_text after → c ≡ old ++ later_fields_text ((key, Some value) ∷ after)
unfolding later_fields_text
later_field old key value after a b c p q r =
    appended old (codes "," ++ string_text key ++ codes ":" ++ value) b (later_texts (filter_map present after)) c
    (appended old (codes "," ++ string_text key ++ codes ":") a value b p q) r

-- The same without later fields.
pub one_later_field : (old key value a b : List ℕ)
    → a ≡ old ++ (codes "," ++ string_text key ++ codes ":") → b ≡ a ++ value
    → b ≡ old ++ later_fields_text ((key, Some value) ∷ [])
unfolding later_fields_text
one_later_field old key value a b p q =
    later_field old key value [] a b b p q (sym (append-nil b))

-- An object's fields, a comma, a key, its value and the later fields.
pub nested_object : (old : List ℕ) (before middle after : List (List ℕ × Option (List ℕ)))
    (key value name text s t u v w x : List ℕ) → s ≡ old ++ codes "{"
    → t ≡ s ++ fields_text (before ++ ((key, Some value) ∷ middle))
    → u ≡ t ++ (codes "," ++ string_text name ++ codes ":") → v ≡ u ++ text
    → w ≡ v ++ later_fields_text after → x ≡ w ++ codes "}"
    → x ≡ old ++ object_text (before ++ ((key, Some value) ∷ (middle ++
    ((name, Some text) ∷ after))))
unfolding object_text
nested_object old before middle after key value name text s t u v w x h i j k l m =
    let fields = fields_more s before middle ((name, Some text) ∷ after) key value t w i (later_field t name text after u v w j k l) in
    let whole = fields_text (before ++ ((key, Some value) ∷ (middle ++ ((name, Some text) ∷ after)))) in
    appended old (codes "{" ++ whole) w (codes "}") x (appended old (codes "{") s whole w h fields) m

-- The same without later fields.
pub object_of_two : (old : List ℕ) (middle : List (List ℕ × Option (List ℕ)))
    (key value name text s t u v x : List ℕ) → s ≡ old ++ codes "{"
    → t ≡ s ++ fields_text ((key, Some value) ∷ middle)
    → u ≡ t ++ (codes "," ++ string_text name ++ codes ":") → v ≡ u ++ text → x ≡ v ++ codes "}"
    → x ≡ old ++ object_text ((key, Some value) ∷ (middle ++ ((name, Some text) ∷ [])))
unfolding later_fields_text
object_of_two old middle key value name text s t u v x h i j k m = nested_object old [] middle [] key value name text s t u v v x h i j k (sym (append-nil v)) m

-- Two fields, the second of them after its key, and the later fields.
pub fields_of_two_and_later : (old : List ℕ) (middle after : List (List ℕ × Option (List ℕ)))
    (key value name text s t u v : List ℕ) → s ≡ old ++ fields_text ((key, Some value) ∷ middle)
    → t ≡ s ++ (codes "," ++ string_text name ++ codes ":") → u ≡ t ++ text
    → v ≡ u ++ later_fields_text after
    → v ≡ old ++ fields_text ((key, Some value) ∷ (middle ++ ((name, Some text) ∷ after)))
fields_of_two_and_later old middle after key value name text s t u v h i j k =
    fields_more old [] middle ((name, Some text) ∷ after) key value s v h
    (later_field s name text after t u v i j k)

-- Two fields, the second of them after its key.
pub fields_of_two : (old : List ℕ) (middle : List (List ℕ × Option (List ℕ)))
    (key value name text s t u : List ℕ) → s ≡ old ++ fields_text ((key, Some value) ∷ middle)
    → t ≡ s ++ (codes "," ++ string_text name ++ codes ":") → u ≡ t ++ text
    → u ≡ old ++ fields_text ((key, Some value) ∷ (middle ++ ((name, Some text) ∷ [])))
unfolding later_fields_text
fields_of_two old middle key value name text s t u h i j =
    fields_of_two_and_later old middle [] key value name text s t u u h i j (sym (append-nil u))

-- An object's first field is written apart from the fields after it.
pub first_field : (key value : List ℕ) (fields : List (List ℕ × Option (List ℕ))) → object_text ((key, Some value) ∷ fields) ≡ first_field_text key value ++ (later_fields_text fields ++ codes "}")
unfolding fields_text first_field_text later_fields_text object_text
first_field key value fields = ap (λ (l : List ℕ). codes "{" ++ l) (append_assoc (field_text key value) (later_texts (filter_map present fields)) (codes "}"))

pub heartbeat_object : (now : ℕ) → heartbeat_text now ≡ first_field_text (codes "currentTime") (time_text now) ++ codes "}"
unfolding heartbeat_text later_fields_text
heartbeat_object now = first_field (codes "currentTime") (time_text now) []

pub boot_notification_object : (now : ℕ) → boot_notification_text now ≡ first_field_text (codes "currentTime") (time_text now) ++ codes ",\"interval\":300,\"status\":\"Accepted\"}"
unfolding boot_notification_text later_fields_text
boot_notification_object now =
    first_field (codes "currentTime") (time_text now)
    ((codes "interval", Some (codes "300")) ∷ (codes "status", Some (string_text (codes "Accepted"))) ∷ [])
