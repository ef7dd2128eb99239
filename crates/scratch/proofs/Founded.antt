-- The new store stands as the law wants, so the law holds of every script.
use Rattle.std.proofs.Common.{◌≡◌, ℕ, List, [], None, sym, refl}
use Rattle.std.proofs.lemmas.List.{append-nil}
use Rattle.cards.specs.Holding.{holding}
use Rattle.cards.specs.Versions.{Kept, Empty}
use Rattle.cards.proofs.Holdings.{holding_lawful}
use Rattle.rules.specs.Runs.{new}
use Rattle.rules.proofs.NewStores.{new_stores_stand_lem}
use Rattle.rules.proofs.Runs.{lawful_play}
use Rattle.scratch.specs.Scratch.{scratch, scratch_sizes, ScratchLaw}
use Rattle.scratch.specs.declared.TheConstants.{PLACES}
use Rattle.scripts.specs.Scripts.{script_calls, script_answers}

-- an empty keeper of eight places is one keeper
pub founded : (p : ℕ) (m : Kept) → p ≡ PLACES → Empty m → holding p m ≡ holding PLACES (λ entry time. None)
founded p m e none = λ i. holding (e i) (λ entry time. none entry time i)

pub scratch_law : (script : List ℕ) (n : ℕ) → ScratchLaw script n
scratch_law script n =
    let cs = script_calls script n in
    let begun = new (new_stores_stand_lem scratch_sizes _ (λ e t. refl) (holding_lawful PLACES _)) in
    (lawful_play cs scratch _ (script_answers scratch script n) [] refl (sym (append-nil _)) [] begun).1
