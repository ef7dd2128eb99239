use Rattle.std.proofs.Common.{◌≡◌, get_or, rules}
use Rattle.std.specs.Option.{option_map}
use Rattle.table.proofs.Drafts.{no_draft, draft_found}
use Rattle.table.proofs.seat.Seat.draft_of.Goals as goal

pub returns : goal.returns
returns c =
    let is : c.map.result ≡ option_map (λ at. (get_or c.as_slice-drafts.result.now at no_draft).card) c.last_match.result = search rules in
    rw (is, ← c.self.view_is, c.as_slice-drafts.ensures.items) (draft_found c.self.inside.drafts c.args.entry c.last_match.result (rw c.as_slice-drafts.ensures.items at c.last_match.ensures) c.self.invariant)
