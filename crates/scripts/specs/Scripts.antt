-- A whole script: its lines, the calls that they say, and all that is written for them.
use Rattle.std.specs.Prelude.{ℕ, ◌*◌, Bool, List, [], ◌∷◌, ◌++◌, length, map, drop, Ok, Err, Result, ◌==◌, nat_le, if◌then◌else◌}
use Rattle.std.specs.List.{slice_split}
use Rattle.cards.specs.declared.refusal.Refusal.{Refusal}
use Rattle.cards.specs.declared.refusal.Refusal.TheVariants as why
use Rattle.rules.specs.Runs.{answers}
use Rattle.rules.specs.State.{State}
use Rattle.rules.specs.declared.answer.Answer.{Answer}
use Rattle.rules.specs.declared.call.Call.{Call}
use Rattle.scripts.specs.Lines.{read}
use Rattle.scripts.specs.Texts.{answer_text, unread_text}
use Rattle.scripts.specs.declared.line.TheConstants.{MOST_BYTES}

-- the end of a line
abbrev pub is_end : ℕ → Bool
is_end byte = byte == 10

-- the parts of a script without the last, if nothing stands there
abbrev pub without_empty_last : List (List ℕ) → List (List ℕ)
without_empty_last [] = []
without_empty_last ([] ∷ []) = []
without_empty_last (part ∷ parts) = part ∷ without_empty_last parts

-- the lines of a script, each without its end, which is the byte 0A; bytes behind the last 0A are a line too
abbrev pub lines : List ℕ → List (List ℕ)
lines script = without_empty_last (slice_split is_end script)

-- what each line says: a call, or the place of the first word that does not fit
abbrev pub readings : List ℕ → List (Result Call ℕ)
readings script = map read (lines script)

-- the calls of the lines that can be read
abbrev pub calls_in : List (Result Call ℕ) → List Call
calls_in [] = []
calls_in (Ok c ∷ said) = c ∷ calls_in said
calls_in (Err place ∷ said) = calls_in said

-- the line that answers each: a call's takes the next of the answers, of which there is one for each call
abbrev pub answer_lines : List (Result Call ℕ) → List (Result Answer Refusal) → List ℕ
answer_lines (Ok c ∷ said) (r ∷ rs) = answer_text c r ++ answer_lines said rs
answer_lines (Err place ∷ said) rs = unread_text place ++ answer_lines said rs
answer_lines said rs = []

-- all that is written for lines read on a state
abbrev pub whole_text : State → List (Result Call ℕ) → List ℕ
whole_text s said = answer_lines said (answers s (calls_in said))

-- ---- a script that is run on a state, and its answers go into lent memory of n bytes

-- the memory has the room that a script asks for
abbrev pub has_room : List ℕ → ℕ → Bool
has_room script n = nat_le (MOST_BYTES * length (lines script)) n

-- the calls of a script that are made: all or, where the memory has too little room, none
abbrev pub script_calls : List ℕ → ℕ → List Call
script_calls script n = if has_room script n then calls_in (readings script) else []

-- the answers to them
abbrev pub script_answers : State → List ℕ → ℕ → List (Result Answer Refusal)
script_answers s script n = answers s (script_calls script n)

-- what is written
abbrev pub script_text : State → List ℕ → ℕ → List ℕ
script_text s script n = if has_room script n then whole_text s (readings script) else []

-- how many bytes are written, or Short
abbrev pub script_result : State → List ℕ → ℕ → Result ℕ Refusal
script_result s script n = if has_room script n then Ok (length (script_text s script n)) else Err why.Short

-- memory after a text is written at its front
abbrev pub written : List ℕ → List ℕ → List ℕ
written text memory = text ++ drop (length text) memory
