-- A store at first has no stamped edit.
use Rattle.std.proofs.Common.{◌≡◌, ℕ, ◌<◌, Err, ap, ◌∙◌, arith}
use Rattle.std.proofs.lemmas.List.{get_or-replicate}
use Rattle.cards.specs.Holding.{Holding}
use Rattle.cards.specs.declared.refusal.Refusal.TheVariants as why
use Rattle.rules.specs.NewStore.{new_store}
use Rattle.rules.specs.Rules.{settle}
use Rattle.rules.specs.Seat.{idle}
use Rattle.rules.specs.State.{State, seat}
use Rattle.rules.specs.declared.limits.TheConstants.{SEATS}
use Rattle.rules.specs.declared.sizes.Sizes.{Sizes}

pub settle_fresh : (z : Sizes) (h : Holding) (s : State) (k : ℕ) → s ≡ new_store z h → k < SEATS → settle k s ≡ Err why.Stage
settle_fresh z h s k e l =
    let here : seat s k ≡ idle = ap (λ (x : State). seat x k) e ∙ get_or-replicate SEATS k idle idle l in
    grind arith
