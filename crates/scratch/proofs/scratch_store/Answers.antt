use Rattle.std.proofs.Common.{◌≡◌, ◌∙◌, arith}
use Rattle.linked.specs.View.{linked_kept, linked_places}
use Rattle.rules.specs.NewStore.{new_store}
use Rattle.scratch.specs.declared.TheConstants.{PLACES}
use Rattle.scratch.proofs.Founded.{founded}
use Rattle.scratch.proofs.scratch_store.Goals as goal

pub returns : goal.returns
returns c =
    let k = c.new.result in
    let eight : linked_places k ≡ PLACES = grind (arith, c.new.ensures.places) in
    c.new-2.ensures.state ∙ (λ i. new_store (c.sizes.ensures i) (founded (linked_places k) (linked_kept k) eight c.new.ensures.empty i))
