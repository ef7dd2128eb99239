-- Which calls change the keeper, a list of calls whose answers go into lent memory, and the law of a store's history.
use Rattle.std.specs.Prelude.{ℕ, Bool, true, false, List, [], ◌++◌, length, drop, Ok, Err, Result, nat_le, if◌then◌else◌}
use Rattle.cards.specs.declared.refusal.Refusal.{Refusal}
use Rattle.cards.specs.declared.refusal.Refusal.TheVariants as why
use Rattle.rules.specs.Law.{Law}
use Rattle.rules.specs.Runs.{Event, Reached, answers}
use Rattle.rules.specs.State.{State}
use Rattle.rules.specs.declared.answer.Answer.{Answer}
use Rattle.rules.specs.declared.call.Call.{Call}
use Rattle.rules.specs.declared.call.Call.TheVariants as call

-- put and collect change the keeper, and no other call does
abbrev pub changes_keeper : Call → Bool
changes_keeper (call.Put k) = true
changes_keeper (call.Collect n) = true
changes_keeper c = false

-- the calls that are made where so many answers have a place: all or, where that is too few, none
abbrev pub made : List Call → ℕ → List Call
made cs n = if nat_le (length cs) n then cs else []

-- Short where the answers have too few places
abbrev pub made_answer : List Call → ℕ → Result (Unit {0}) Refusal
made_answer cs n = if nat_le (length cs) n then Ok tt else Err why.Short

-- the memory after: the answers to the calls that are made, and what stood behind them
abbrev pub answered_in : State → List Call → List (Result Answer Refusal) → List (Result Answer Refusal)
answered_in s cs rs = answers s (made cs (length rs)) ++ drop (length (made cs (length rs))) rs

-- the events h led from a new store over an empty keeper to the state s, and the law holds of them
abbrev pub LawfulRun : List Event → State → Type 0
LawfulRun h s = Reached h s × Law h s
