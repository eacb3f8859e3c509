-- A text as a message (OCPP-J 1.6, section 4.2): the table of frames, a constructor for each row.
--
--   [2, id, action, payload]                  a CALL
--   [3, id, payload]                          a CALLRESULT
--   [4, id, code, description, details]       a CALLERROR
--   [another whole number, ..]                ignored
--
-- Further elements are ignored, and so is everything after the id of a CALLERROR.
use Rattle.std.specs.Prelude.{◌≡◌, ◌≢◌, ◌<◌, ◌≤◌, ◌⊎◌, ℕ, ℤ, pos, length, List, [], ◌∷◌, false, None, Some, Result, Ok, Err}
use Rattle.std.specs.Str.{chars}
use Rattle.ocpp_scalars.specs.ByCases.Number.{whole_of}
use Rattle.ocppj_frame.specs.Limits.{max_frame_bytes, max_id_characters}
use Rattle.ocppj_frame.specs.Read.{tree_of_text}
use Rattle.ocppj_frame.specs.Tree.{Tree, Trees, Fields, null, text, number, list, object, no_fields, entries, as_list, as_text, is_null, is_object}
use Rattle.ocppj_frame.specs.declared.fault.FrameFault.{FrameFault}
use Rattle.ocppj_frame.specs.declared.fault.FrameFault.TheVariants.{Dropped, Formation}

pub data Message : Type 0 where
  -- the id, the action and the payload
  call : List ℕ → List ℕ → Tree → Message
  -- the id and the payload
  call_result : List ℕ → Tree → Message
  -- the id
  call_error : List ℕ → Message
  -- a message of another type
  other : Message

-- the text may be an id (section 4.1.4)
abbrev pub IsId : List ℕ → Type 0
IsId id = length (chars id) ≤ max_id_characters

-- the message types that have an id (section 4.1.3)
abbrev pub IsKnownType : ℤ → Type 0
IsKnownType n = (n ≡ pos 2) ⊎ ((n ≡ pos 3) ⊎ (n ≡ pos 4))

abbrev pub IsOtherType : ℤ → Type 0
IsOtherType n = (n ≢ pos 2) × (n ≢ pos 3) × (n ≢ pos 4)

abbrev pub empty_object : Tree
empty_object = object no_fields

-- the payload in the first element: an object; if it is absent or null, the empty one
pub data IsPayload : List Tree → Tree → Type 0 where
  absent_payload : IsPayload [] empty_object
  null_payload : (others : List Tree) → IsPayload (null ∷ others) empty_object
  object_payload :
      (fields : Fields) (others : List Tree) → IsPayload (object fields ∷ others) (object fields)

abbrev pub IsNoPayload : Tree → Type 0
IsNoPayload tree = (is_null tree ≡ false) × (is_object tree ≡ false)

-- the first element, if there is one, isn't a whole number
abbrev pub HasNoType : List Tree → Type 0
HasNoType [] = Unit {0}
HasNoType (first ∷ others) =
    (digits : List ℕ) (n : ℤ) → first ≡ number digits → whole_of digits ≢ Ok n

-- the first element, if there is one, isn't an id
abbrev pub HasNoId : List Tree → Type 0
HasNoId [] = Unit {0}
HasNoId (first ∷ others) = (id : List ℕ) → first ≡ text id → ¬ IsId id

-- the first element, if there is one, isn't a text
abbrev pub HasNoText : List Tree → Type 0
HasNoText [] = Unit {0}
HasNoText (first ∷ others) = as_text first ≡ None

-- the elements of a list, and the message or the fault
pub data IsFrame : List Tree → Result Message FrameFault → Type 0 where
  call_row : (two id action : List ℕ) (others : List Tree) (payload : Tree)
      → whole_of two ≡ Ok (pos 2) → IsId id → IsPayload others payload
      → IsFrame (number two ∷ (text id ∷ (text action ∷ others))) (Ok (call id action payload))
  result_row : (three id : List ℕ) (others : List Tree) (payload : Tree)
      → whole_of three ≡ Ok (pos 3) → IsId id → IsPayload others payload
      → IsFrame (number three ∷ (text id ∷ others)) (Ok (call_result id payload))
  -- a CALLRESULT gets no answer: a malformed payload counts as empty
  malformed_result_row : (three id : List ℕ) (payload : Tree) (others : List Tree)
      → whole_of three ≡ Ok (pos 3) → IsId id → IsNoPayload payload
      → IsFrame (number three ∷ (text id ∷ (payload ∷ others))) (Ok (call_result id empty_object))
  error_row : (four id : List ℕ) (others : List Tree)
      → whole_of four ≡ Ok (pos 4) → IsId id
      → IsFrame (number four ∷ (text id ∷ others)) (Ok (call_error id))
  other_row : (digits : List ℕ) (n : ℤ) (others : List Tree)
      → whole_of digits ≡ Ok n → IsOtherType n
      → IsFrame (number digits ∷ others) (Ok other)
  -- a CALL with an id whose action or payload is malformed is answered with a FormationViolation
  malformed_action : (two id : List ℕ) (others : List Tree)
      → whole_of two ≡ Ok (pos 2) → IsId id → HasNoText others
      → IsFrame (number two ∷ (text id ∷ others)) (Err (Formation id))
  malformed_payload : (two id action : List ℕ) (payload : Tree) (others : List Tree)
      → whole_of two ≡ Ok (pos 2) → IsId id → IsNoPayload payload
      → IsFrame (number two ∷ (text id ∷ (text action ∷ (payload ∷ others)))) (Err (Formation id))
  -- without a type or an id there is nothing to answer
  no_type : (elements : List Tree) → HasNoType elements → IsFrame elements (Err Dropped)
  no_id : (digits : List ℕ) (n : ℤ) (others : List Tree)
      → whole_of digits ≡ Ok n → IsKnownType n → HasNoId others
      → IsFrame (number digits ∷ others) (Err Dropped)

-- a tree, and the message or the fault
pub data IsMessage : Tree → Result Message FrameFault → Type 0 where
  of_list : (elements : Trees) (result : Result Message FrameFault)
      → IsFrame (entries elements) result → IsMessage (list elements) result
  no_list : (tree : Tree) → as_list tree ≡ None → IsMessage tree (Err Dropped)

-- a text, and the message or the fault
pub data IsMessageOfText : List ℕ → Result Message FrameFault → Type 0 where
  long_text :
      (bytes : List ℕ) → max_frame_bytes < length bytes → IsMessageOfText bytes (Err Dropped)
  refused_text : (bytes : List ℕ) → length bytes ≤ max_frame_bytes → tree_of_text bytes ≡ None
      → IsMessageOfText bytes (Err Dropped)
  read_text : (bytes : List ℕ) (tree : Tree) (result : Result Message FrameFault)
      → length bytes ≤ max_frame_bytes → tree_of_text bytes ≡ Some tree → IsMessage tree result
      → IsMessageOfText bytes result
