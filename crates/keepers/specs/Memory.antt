-- How much memory a keeper uses.
use Rattle.std.specs.Prelude.{ℕ, min, Ok, Err, Result, nat_lt, if◌then◌else◌}
use Rattle.cards.specs.declared.refusal.Refusal.{Refusal}
use Rattle.cards.specs.declared.refusal.Refusal.TheVariants as why
use Rattle.keepers.specs.declared.memory.TheConstants.{MOST_PLACES}

-- the places used of memory that has n: the first 65,536 at most
abbrev pub used_of : ℕ → ℕ
used_of n = min MOST_PLACES n

-- Sizes for memory that would not be used whole
abbrev pub memory_answer : ℕ → Result (Unit {0}) Refusal
memory_answer n = if nat_lt MOST_PLACES n then Err why.Sizes else Ok tt
