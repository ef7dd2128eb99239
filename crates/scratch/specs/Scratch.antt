-- The new store on which a script is run: 2 letters, 1 mark and 1 pair, over a linked keeper of 8 places that holds nothing.
use Rattle.std.specs.Prelude.{ℕ, List, [], length, None}
use Rattle.cards.specs.Holding.{holding}
use Rattle.rules.specs.Law.{Law}
use Rattle.rules.specs.NewStore.{new_store}
use Rattle.rules.specs.Runs.{events, play}
use Rattle.rules.specs.State.{State}
use Rattle.rules.specs.declared.sizes.Sizes.{Sizes}
use Rattle.scratch.specs.declared.TheConstants.{PLACES}
use Rattle.scripts.specs.Scripts.{script_calls, script_answers, script_text, written}
pub use Rattle.scripts.specs.Scripts.{script_result}

abbrev pub scratch_sizes : Sizes
scratch_sizes = record { letters = 2; marks = 1; pairs = 1 }

-- its state
abbrev pub scratch : State
scratch = new_store scratch_sizes (holding PLACES (λ entry time. None))

-- the memory after a script is run
abbrev pub scratch_memory : List ℕ → List ℕ → List ℕ
scratch_memory script memory = written (script_text scratch script (length memory)) memory

-- the law holds of the script's calls and their answers
abbrev pub ScratchLaw : List ℕ → ℕ → Type 0
ScratchLaw script n = Law (events [] (script_calls script n) (script_answers scratch script n)) (play scratch (script_calls script n))
