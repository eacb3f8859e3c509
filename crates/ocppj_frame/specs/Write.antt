-- The texts of written messages (OCPP-J 1.6, section 4.2), without blanks. A payload is given as
-- its text, between a head and an end.
use Rattle.std.specs.Prelude.{ℕ, List, ◌++◌, codes}
use Rattle.json.specs.Print.{quoted}

-- the part of a CALL before its payload
abbrev pub call_head : List ℕ → List ℕ → List ℕ
call_head id action = codes "[2," ++ quoted id ++ codes "," ++ quoted action ++ codes ","

-- the part of a CALLRESULT before its payload
abbrev pub result_head : List ℕ → List ℕ
result_head id = codes "[3," ++ quoted id ++ codes ","

-- the part of a frame after its payload
abbrev pub frame_end : List ℕ
frame_end = codes "]"

abbrev pub call_text : List ℕ → List ℕ → List ℕ → List ℕ
call_text id action payload = call_head id action ++ (payload ++ frame_end)

abbrev pub call_result_text : List ℕ → List ℕ → List ℕ
call_result_text id payload = result_head id ++ (payload ++ frame_end)

-- the details are an empty object
abbrev pub call_error_text : List ℕ → List ℕ → List ℕ → List ℕ
call_error_text id code description =
    codes "[4," ++ quoted id ++ codes "," ++ quoted code ++ codes "," ++ quoted description
    ++ codes ",{}]"
