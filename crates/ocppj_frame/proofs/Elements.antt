-- Elements taken one after another are those of the list.
use Rattle.std.proofs.Common.{◌≡◌, ℕ, List, [], ◌∷◌, drop, slice_get, Option, Some, None, option_map, option_and_then, Err, refl, sym, ap, ◌∙◌}
use Rattle.std.specs.Option.{option_map_or}
use Rattle.std.specs.Result.{result_ok}
use Rattle.ocpp_scalars.specs.ByCases.Number.{whole_of}
use Rattle.ocppj_frame.specs.ByCases.Message.{message_by, message_id, message_of_elements, message_of_tree, message_type, type_of_number, unless_long}
use Rattle.ocppj_frame.specs.Tree.{Tree, as_list, as_number, as_text}
use Rattle.ocppj_frame.specs.declared.fault.FrameFault.TheVariants.{Dropped}
use Rattle.ocppj_frame.specs.declared.message.MessageType.{MessageType}

second : (xs ys : List Tree) → ys ≡ drop 1 xs → slice_get xs 1 ≡ slice_get ys 0
second [] ys e = rw e refl
second (x ∷ xs) ys e = rw e refl

third : (xs ys : List Tree) → ys ≡ drop 1 xs → slice_get xs 2 ≡ slice_get ys 1
third [] ys e = rw e refl
third (x ∷ xs) ys e = rw e refl

fourth : (xs ys : List Tree) → ys ≡ drop 1 xs → slice_get xs 3 ≡ slice_get ys 2
fourth [] ys e = rw e refl
fourth (x ∷ xs) ys e = rw e refl

abbrev type_of_digits : Option (List ℕ) → Option MessageType
type_of_digits digits = option_map type_of_number (option_and_then (λ ds. result_ok (whole_of ds)) digits)

type_by_digits : (element : Option Tree) → message_type element ≡ type_of_digits (option_and_then as_number element)
type_by_digits None = refl
type_by_digits (Some element) = refl

-- what is left after each of the two elements, and what the element before it holds
pub message_of_taken : (tree : Tree) (all one two : List Tree) (digits text : Option (List ℕ)) (kind : Option MessageType) (id : Option (List ℕ))
    → Some all ≡ as_list tree → one ≡ drop 1 all → two ≡ drop 1 one
    → digits ≡ option_and_then as_number (slice_get all 0) → text ≡ option_and_then as_text (slice_get one 0)
    → kind ≡ option_map type_of_number (option_and_then (λ ds. result_ok (whole_of ds)) digits) → id ≡ option_and_then unless_long text
    → message_of_tree tree ≡ message_by kind id (slice_get two 0) (slice_get two 1)
message_of_taken tree all one two digits text kind id list past_one past_two digits_are text_is kind_is id_is =
    let kinds : message_type (slice_get all 0) ≡ kind = type_by_digits (slice_get all 0) ∙ sym (kind_is ∙ ap type_of_digits digits_are) in
    let ids : message_id (slice_get all 1) ≡ id = sym (id_is ∙ ap (option_and_then unless_long) (text_is ∙ ap (option_and_then as_text) (sym (second all one past_one)))) in
    let thirds : slice_get all 2 ≡ slice_get two 0 = third all one past_one ∙ second one two past_two in
    let fourths : slice_get all 3 ≡ slice_get two 1 = fourth all one past_one ∙ third one two past_two in
    ap (λ l. option_map_or message_of_elements l (Err Dropped)) (sym list) ∙ (λ i. message_by (kinds i) (ids i) (thirds i) (fourths i))
