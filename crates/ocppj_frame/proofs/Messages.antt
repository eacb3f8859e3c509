-- The message element by element is that of the table's row, and no other; that of a text is its tree's.
use Rattle.std.proofs.Common.{◌≡◌, ◌≤◌, ℕ, ◌==◌, ℤ, pos, negsuc, nat_le, length, nat_lt, true, false, List, [], ◌∷◌, slice_get, Option, Some, None, option_map, option_and_then, unwrap_or, Result, Ok, Err, refl, ap, ◌∙◌, subst, inl, inr, arith, ltb-true, ltb-false, lt-ltb, le-ltb}
use Rattle.std.specs.Prelude.{◌≢◌, ◌↔◌}
use Rattle.std.specs.Str.{chars}
use Rattle.std.specs.Result.{result_ok}
use Rattle.std.proofs.lemmas.Bool.{eqb-true, ne_eqb, eqb-false}
use Rattle.std.proofs.lemmas.Bool.Decides.{nat_tests}
use Rattle.ocpp_scalars.specs.ByCases.Number.{whole_of}
use Rattle.ocpp_scalars.specs.declared.number.NumberFault.{NumberFault}
use Rattle.std.specs.Option.{option_map_or}
use Rattle.ocppj_frame.specs.Limits.{max_frame_bytes}
use Rattle.ocppj_frame.specs.Read.{tree_of_text}
use Rattle.ocppj_frame.specs.Tree.{Tree, null, boolean, text, number, list, object, entries, as_text}
use Rattle.ocppj_frame.specs.Message.{Message, call_result, IsId, IsKnownType, IsOtherType, IsPayload, absent_payload, null_payload, object_payload, IsNoPayload, HasNoType, HasNoId, HasNoText, IsFrame, call_row, result_row, malformed_result_row, error_row, other_row, malformed_action, malformed_payload, no_type, no_id, IsMessage, of_list, no_list, IsMessageOfText, long_text, refused_text, read_text, empty_object}
use Rattle.ocppj_frame.specs.ByCases.Message.{call_of, message_by, message_id, message_of_elements, message_of_text, message_of_tree, message_type, payload_of, type_of_number, unless_long}
use Rattle.ocppj_frame.specs.declared.fault.FrameFault.{FrameFault}
use Rattle.ocppj_frame.specs.declared.fault.FrameFault.TheVariants.{Dropped}
use Rattle.ocppj_frame.specs.declared.message.MessageType.{MessageType}
use Rattle.ocppj_frame.specs.declared.message.MessageType.TheVariants as types
use Rattle.ocppj_frame.proofs.Cases.{by_test}

-- ---- the function gives the result of the table

type_is : (digits : List ℕ) (n : ℤ) → whole_of digits ≡ Ok n → message_type (Some (number digits)) ≡ Some (type_of_number n)
type_is digits n e = ap (λ (r : Result ℤ NumberFault). option_map type_of_number (result_ok r)) e

short_id : (id : List ℕ) → IsId id → unless_long id ≡ Some id
short_id id h = grind (arith, nat_tests)

long_id : (id : List ℕ) → ¬ IsId id → unless_long id ≡ None
long_id id h = grind (arith, nat_tests, h)

by_parts : (elements : List Tree) (kind : Option MessageType) (id : Option (List ℕ)) → message_type (slice_get elements 0) ≡ kind → message_id (slice_get elements 1) ≡ id
    → message_of_elements elements ≡ message_by kind id (slice_get elements 2) (slice_get elements 3)
by_parts elements kind id k i = λ at. message_by (k at) (i at) (slice_get elements 2) (slice_get elements 3)

payload_is : (others : List Tree) (payload : Tree) → IsPayload others payload → payload_of (slice_get others 0) ≡ Some payload
payload_is _ _ absent_payload = refl
payload_is _ _ (null_payload others) = refl
payload_is _ _ (object_payload fs others) = refl

no_payload_is : (tree : Tree) → IsNoPayload tree → payload_of (Some tree) ≡ None
no_payload_is null h = cc (h.0)
no_payload_is (boolean b) h = refl
no_payload_is (text bytes) h = refl
no_payload_is (number digits) h = refl
no_payload_is (list ts) h = refl
no_payload_is (object fs) h = cc (h.1)

no_type_is : (elements : List Tree) → HasNoType elements → message_type (slice_get elements 0) ≡ None
no_type_is [] h = refl
no_type_is (null ∷ others) h = refl
no_type_is (boolean b ∷ others) h = refl
no_type_is (text bytes ∷ others) h = refl
no_type_is (number digits ∷ others) h = no_number (whole_of digits) (λ n e. h digits n refl e)
  where
    no_number : (r : Result ℤ NumberFault) → ((n : ℤ) → r ≢ Ok n) → option_map type_of_number (result_ok r) ≡ None
    no_number (Ok n) never = absurd (never n refl)
    no_number (Err e) never = refl
no_type_is (list ts ∷ others) h = refl
no_type_is (object fs ∷ others) h = refl

no_id_is : (others : List Tree) → HasNoId others → message_id (slice_get others 0) ≡ None
no_id_is [] h = refl
no_id_is (null ∷ others) h = refl
no_id_is (boolean b ∷ others) h = refl
no_id_is (text bytes ∷ others) h = long_id bytes (h bytes refl)
no_id_is (number digits ∷ others) h = refl
no_id_is (list ts ∷ others) h = refl
no_id_is (object fs ∷ others) h = refl

no_text_is : (others : List Tree) → HasNoText others → option_and_then as_text (slice_get others 0) ≡ None
no_text_is [] h = refl
no_text_is (first ∷ others) h = h

other_type : (n : ℤ) → IsOtherType n → type_of_number n ≡ types.Other
other_type (pos n) h = rw (ne_eqb n 2 (λ e. h.0 (ap pos e)), ne_eqb n 3 (λ e. h.1 (ap pos e)), ne_eqb n 4 (λ e. h.2 (ap pos e))) refl
other_type (negsuc n) h = refl

dropped : (n : ℤ) (third fourth : Option Tree) → IsKnownType n → message_by (Some (type_of_number n)) None third fourth ≡ Err Dropped
dropped n third fourth (inl e) = rw e refl
dropped n third fourth (inr (inl e)) = rw e refl
dropped n third fourth (inr (inr e)) = rw e refl

only_frame : (elements : List Tree) (result : Result Message FrameFault) → IsFrame elements result → message_of_elements elements ≡ result
only_frame _ _ (call_row two id action others payload k short p) =
    by_parts (number two ∷ (text id ∷ (text action ∷ others))) _ _ (type_is two (pos 2) k) (short_id id short) ∙ ap (call_of id (Some action)) (payload_is others payload p)
only_frame _ _ (result_row three id others payload k short p) =
    by_parts (number three ∷ (text id ∷ others)) _ _ (type_is three (pos 3) k) (short_id id short)
    ∙ ap (λ (o : Option Tree). Ok (call_result id (unwrap_or o empty_object))) (payload_is others payload p)
only_frame _ _ (malformed_result_row three id payload others k short p) =
    by_parts (number three ∷ (text id ∷ (payload ∷ others))) _ _ (type_is three (pos 3) k) (short_id id short)
    ∙ ap (λ (o : Option Tree). Ok (call_result id (unwrap_or o empty_object))) (no_payload_is payload p)
only_frame _ _ (error_row four id others k short) = by_parts (number four ∷ (text id ∷ others)) _ _ (type_is four (pos 4) k) (short_id id short)
only_frame _ _ (other_row digits n others k o) = by_parts (number digits ∷ others) _ _ (type_is digits n k ∙ ap Some (other_type n o)) refl
only_frame _ _ (malformed_action two id others k short h) =
    by_parts (number two ∷ (text id ∷ others)) _ _ (type_is two (pos 2) k) (short_id id short)
    ∙ ap (λ (o : Option (List ℕ)). call_of id o (payload_of (slice_get others 1))) (no_text_is others h)
only_frame _ _ (malformed_payload two id action payload others k short p) =
    by_parts (number two ∷ (text id ∷ (text action ∷ (payload ∷ others)))) _ _ (type_is two (pos 2) k) (short_id id short) ∙ ap (call_of id (Some action)) (no_payload_is payload p)
only_frame _ _ (no_type elements h) = by_parts _ _ _ (no_type_is elements h) refl
only_frame _ _ (no_id digits n others k known h) =
    by_parts (number digits ∷ others) _ _ (type_is digits n k) (no_id_is others h) ∙ dropped n (slice_get others 1) (slice_get others 2) known

only_message : (tree : Tree) (result : Result Message FrameFault) → IsMessage tree result → message_of_tree tree ≡ result
only_message _ _ (of_list elements result row) = only_frame (entries elements) result row
only_message _ _ (no_list null e) = refl
only_message _ _ (no_list (boolean b) e) = refl
only_message _ _ (no_list (text bytes) e) = refl
only_message _ _ (no_list (number digits) e) = refl
only_message _ _ (no_list (list ts) e) = cc (e)
only_message _ _ (no_list (object fs) e) = refl

-- ---- the table has the result of the function

-- the first element, and the function's result for it
data First : List Tree → Option (List ℕ) → Type 0 where
  has_id : (id : List ℕ) (others : List Tree) → IsId id → First (text id ∷ others) (Some id)
  lacks_id : (others : List Tree) → HasNoId others → First others None

is_id : (id : List ℕ) → nat_le (length (chars id)) 36 ≡ true → IsId id
is_id id h = grind (arith, nat_tests)

is_no_id : (id : List ℕ) → nat_le (length (chars id)) 36 ≡ false → ¬ IsId id
is_no_id id h = λ short. grind (arith, nat_tests)

first_of : (others : List Tree) → First others (message_id (slice_get others 0))
first_of [] = lacks_id [] tt
first_of (null ∷ others) = lacks_id _ (λ id e. cc)
first_of (boolean b ∷ others) = lacks_id _ (λ id e. cc)
first_of (text bytes ∷ others) = by_test (nat_le (length (chars bytes)) 36)
    (λ held. rw held (has_id bytes others (is_id bytes held)))
    (λ fails. rw fails (lacks_id (text bytes ∷ others) (λ id e. let same : bytes ≡ id = cc in subst (λ (bs : List ℕ). ¬ IsId bs) same (is_no_id bytes fails))))
first_of (number digits ∷ others) = lacks_id _ (λ id e. cc)
first_of (list ts ∷ others) = lacks_id _ (λ id e. cc)
first_of (object fs ∷ others) = lacks_id _ (λ id e. cc)

-- a CALL, by its action and its payload
call_found : (two id : List ℕ) (others : List Tree) → whole_of two ≡ Ok (pos 2) → IsId id
    → IsFrame (number two ∷ (text id ∷ others)) (call_of id (option_and_then as_text (slice_get others 0)) (payload_of (slice_get others 1)))
call_found two id [] k short = malformed_action two id [] k short tt
call_found two id (null ∷ others) k short = malformed_action two id _ k short refl
call_found two id (boolean b ∷ others) k short = malformed_action two id _ k short refl
call_found two id (text action ∷ []) k short = call_row two id action [] _ k short absent_payload
call_found two id (text action ∷ (null ∷ others)) k short = call_row two id action _ _ k short (null_payload others)
call_found two id (text action ∷ (boolean b ∷ others)) k short = malformed_payload two id action _ others k short (refl, refl)
call_found two id (text action ∷ (text bytes ∷ others)) k short = malformed_payload two id action _ others k short (refl, refl)
call_found two id (text action ∷ (number digits ∷ others)) k short = malformed_payload two id action _ others k short (refl, refl)
call_found two id (text action ∷ (list ts ∷ others)) k short = malformed_payload two id action _ others k short (refl, refl)
call_found two id (text action ∷ (object fs ∷ others)) k short = call_row two id action _ _ k short (object_payload fs others)
call_found two id (number digits ∷ others) k short = malformed_action two id _ k short refl
call_found two id (list ts ∷ others) k short = malformed_action two id _ k short refl
call_found two id (object fs ∷ others) k short = malformed_action two id _ k short refl

-- a CALLRESULT, by its payload
result_found : (three id : List ℕ) (others : List Tree) → whole_of three ≡ Ok (pos 3) → IsId id
    → IsFrame (number three ∷ (text id ∷ others)) (Ok (call_result id (unwrap_or (payload_of (slice_get others 0)) empty_object)))
result_found three id [] k short = result_row three id [] _ k short absent_payload
result_found three id (null ∷ others) k short = result_row three id _ _ k short (null_payload others)
result_found three id (boolean b ∷ others) k short = malformed_result_row three id _ others k short (refl, refl)
result_found three id (text bytes ∷ others) k short = malformed_result_row three id _ others k short (refl, refl)
result_found three id (number digits ∷ others) k short = malformed_result_row three id _ others k short (refl, refl)
result_found three id (list ts ∷ others) k short = malformed_result_row three id _ others k short (refl, refl)
result_found three id (object fs ∷ others) k short = result_row three id _ _ k short (object_payload fs others)

with_call : (two : List ℕ) (others : List Tree) (o : Option (List ℕ)) → whole_of two ≡ Ok (pos 2) → First others o
    → IsFrame (number two ∷ others) (message_by (Some types.Call) o (slice_get others 1) (slice_get others 2))
with_call two _ _ k (has_id id others short) = call_found two id others k short
with_call two _ _ k (lacks_id others h) = no_id two (pos 2) others k (inl refl) h

with_result : (three : List ℕ) (others : List Tree) (o : Option (List ℕ)) → whole_of three ≡ Ok (pos 3) → First others o
    → IsFrame (number three ∷ others) (message_by (Some types.CallResult) o (slice_get others 1) (slice_get others 2))
with_result three _ _ k (has_id id others short) = result_found three id others k short
with_result three _ _ k (lacks_id others h) = no_id three (pos 3) others k (inr (inl refl)) h

with_error : (four : List ℕ) (others : List Tree) (o : Option (List ℕ)) → whole_of four ≡ Ok (pos 4) → First others o
    → IsFrame (number four ∷ others) (message_by (Some types.CallError) o (slice_get others 1) (slice_get others 2))
with_error four _ _ k (has_id id others short) = error_row four id others k short
with_error four _ _ k (lacks_id others h) = no_id four (pos 4) others k (inr (inr refl)) h

typed : (digits : List ℕ) (others : List Tree) (n : ℤ) → whole_of digits ≡ Ok n
    → IsFrame (number digits ∷ others) (message_by (Some (type_of_number n)) (message_id (slice_get others 0)) (slice_get others 1) (slice_get others 2))
typed digits others (negsuc n) k = other_row digits (negsuc n) others k ((λ e. cc), (λ e. cc), (λ e. cc))
typed digits others (pos n) k = by_test (n == 2)
    (λ is. rw is (with_call digits others _ (k ∙ ap (λ (m : ℕ). Ok (pos m)) (eqb-true n 2 is)) (first_of others)))
    (λ not_2. by_test (n == 3)
    (λ is. rw (not_2, is) (with_result digits others _ (k ∙ ap (λ (m : ℕ). Ok (pos m)) (eqb-true n 3 is)) (first_of others)))
    (λ not_3. by_test (n == 4)
    (λ is. rw (not_2, not_3, is) (with_error digits others _ (k ∙ ap (λ (m : ℕ). Ok (pos m)) (eqb-true n 4 is)) (first_of others)))
    (λ not_4. rw (not_2, not_3, not_4) (other_row digits (pos n) others k
    ((λ e. eqb-false n 2 not_2 (pos_is n 2 e)), (λ e. eqb-false n 3 not_3 (pos_is n 3 e)), (λ e. eqb-false n 4 not_4 (pos_is n 4 e)))))))
  where
    pos_is : (m o : ℕ) → pos m ≡ pos o → m ≡ o
    pos_is m o e = cc

numbered : (digits : List ℕ) (others : List Tree) (r : Result ℤ NumberFault) → whole_of digits ≡ r
    → IsFrame (number digits ∷ others) (message_by (option_map type_of_number (result_ok r)) (message_id (slice_get others 0)) (slice_get others 1) (slice_get others 2))
numbered digits others (Ok n) k = typed digits others n k
numbered digits others (Err fault) k = no_type (number digits ∷ others) (λ same n e whole. not_whole same n e whole)
  where
    not_whole : (same : List ℕ) (n : ℤ) → number digits ≡ number same → whole_of same ≢ Ok n
    not_whole same n e whole = let one : digits ≡ same = cc in let twice : whole_of digits ≡ Ok n = ap whole_of one ∙ whole in cc

found_frame : (elements : List Tree) → IsFrame elements (message_of_elements elements)
found_frame [] = no_type [] tt
found_frame (null ∷ others) = no_type _ (λ digits n e. cc)
found_frame (boolean b ∷ others) = no_type _ (λ digits n e. cc)
found_frame (text bytes ∷ others) = no_type _ (λ digits n e. cc)
found_frame (number digits ∷ others) = numbered digits others (whole_of digits) refl
found_frame (list ts ∷ others) = no_type _ (λ digits n e. cc)
found_frame (object fs ∷ others) = no_type _ (λ digits n e. cc)

found_message : (tree : Tree) → IsMessage tree (message_of_tree tree)
found_message null = no_list null refl
found_message (boolean b) = no_list (boolean b) refl
found_message (text bytes) = no_list (text bytes) refl
found_message (number digits) = no_list (number digits) refl
found_message (list ts) = of_list ts _ (found_frame (entries ts))
found_message (object fs) = no_list (object fs) refl

pub messages_by_rows : (tree : Tree) (result : Result Message FrameFault) → (message_of_tree tree ≡ result) ↔ IsMessage tree result
messages_by_rows tree result = (
  λ same. subst (λ (r : Result Message FrameFault). IsMessage tree r) same (found_message tree),
  only_message tree result,
)

-- ---- texts

of_read : (bytes : List ℕ) (o : Option Tree) → length bytes ≤ max_frame_bytes → tree_of_text bytes ≡ o
    → IsMessageOfText bytes (option_map_or message_of_tree o (Err Dropped))
of_read bytes None short e = refused_text bytes short e
of_read bytes (Some tree) short e = read_text bytes tree (message_of_tree tree) short e (found_message tree)

found_text : (bytes : List ℕ) → IsMessageOfText bytes (message_of_text bytes)
found_text bytes = by_test (nat_lt max_frame_bytes (length bytes))
    (λ long. rw long (long_text bytes (ltb-true max_frame_bytes (length bytes) long)))
    (λ short. rw short (of_read bytes (tree_of_text bytes) (ltb-false max_frame_bytes (length bytes) short) refl))

only_text : (bytes : List ℕ) (result : Result Message FrameFault) → IsMessageOfText bytes result → message_of_text bytes ≡ result
only_text _ _ (long_text bytes long) = rw (lt-ltb max_frame_bytes (length bytes) long) refl
only_text _ _ (refused_text bytes short e) = rw (le-ltb max_frame_bytes (length bytes) short, e) refl
only_text _ _ (read_text bytes tree result short e is) = rw (le-ltb max_frame_bytes (length bytes) short, e) (only_message tree result is)

pub messages_of_texts : (bytes : List ℕ) (result : Result Message FrameFault) → (message_of_text bytes ≡ result) ↔ IsMessageOfText bytes result
messages_of_texts bytes result = (
  λ same. subst (λ (r : Result Message FrameFault). IsMessageOfText bytes r) same (found_text bytes),
  only_text bytes result,
)
