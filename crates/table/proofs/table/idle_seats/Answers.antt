use Rattle.std.proofs.Common.{◌≡◌, get_or, sym, ◌∙◌, rules}
use Rattle.std.proofs.lemmas.List.{ext_get_or, length-replicate, get_or-replicate}
use Rattle.rules.specs.Seat.{idle}
use Rattle.rules.specs.declared.limits.TheConstants.{SEATS}
use Rattle.table.proofs.table.idle_seats.Goals as goal

pub returns : goal.returns
returns c =
    let made = c.from_fn.ensures.items in
    ext_get_or idle _ _ (made.long ∙ sym (length-replicate SEATS idle)) (λ i l.
    let (p, q, h) = made.at i idle (search rules) in
    let e : get_or c.from_fn.result i idle ≡ idle = search rules in
    e ∙ sym (get_or-replicate SEATS i idle idle (search rules)))
