-- What a host in C is told.
use Rattle.std.specs.Prelude.{ℕ, zero, suc, Bool, true, false, List, length, ℤ, pos, negsuc, Ok, Err, Result, nat_le, if◌then◌else◌}
use Rattle.cards.specs.Refusals.{number_of}
use Rattle.cards.specs.declared.refusal.Refusal.{Refusal}
use Rattle.cards.specs.declared.refusal.Refusal.TheVariants as why
use Rattle.nalzeiku.specs.declared.TheConstants.{MOST_SCRIPT}
use Rattle.scratch.specs.Scratch.{scratch, script_result, scratch_memory}

-- a number with a minus before it
abbrev pub minus : ℕ → ℤ
minus zero = pos 0
minus (suc n) = negsuc n

-- a number of bytes as it is; a refusal as its number below 0
abbrev pub signed : Result ℕ Refusal → ℤ
signed (Ok n) = pos n
signed (Err refusal) = minus (number_of refusal)

-- a script may be run by a host: it has 4,096 bytes at most
abbrev pub suits : List ℕ → Bool
suits script = nat_le (length script) MOST_SCRIPT

-- what is answered over memory of n bytes: how many bytes are written, -13 for a longer script, or -16 where the memory has not 64 bytes for each line
abbrev pub host_answer : List ℕ → ℕ → ℤ
host_answer script n = if suits script then signed (script_result scratch script n) else signed (Err why.Sizes)

-- an answer below 0, which is a refusal
abbrev pub is_refused : ℤ → Bool
is_refused (pos n) = false
is_refused (negsuc n) = true

-- the memory after: the answers at its front, and the bytes behind them as they were; all bytes as they were on a refusal
abbrev pub host_memory : List ℕ → List ℕ → ℤ → List ℕ
host_memory script memory answer = if is_refused answer then memory else scratch_memory script memory
