use Rattle.table.proofs.Drafts.{once_replaced, draft_replaced, once_pushed, draft_pushed}
use Rattle.table.proofs.seat.Seat.draft.Goals as goal

pub invariant_of-self : goal.invariant_of-self
invariant_of-self c = rw c.replace.ensures (once_replaced _ c.args.entry c.args.card c.self.invariant c.in-Some.at (rw (← c.as_slice.ensures.items) c.in-Some.ensures))

pub invariant_of-self-in-None : goal.invariant_of-self-in-None
invariant_of-self-in-None c = once_pushed _ c.args.entry c.args.card c.self.invariant (rw (← c.as_slice.ensures.items) c.in-None.ensures) _ _ c.push.ensures

pub returns-in-Some : goal.returns-in-Some
returns-in-Some c = rw (← c.self.view_is, c.replace.ensures) (draft_replaced _ c.args.entry c.args.card c.self.invariant c.in-Some.at (rw (← c.as_slice.ensures.items) c.in-Some.ensures) _ _)

pub returns-in-None : goal.returns-in-None
returns-in-None c = rw (← c.self.view_is) (draft_pushed _ c.args.entry c.args.card c.self.invariant (rw (← c.as_slice.ensures.items) c.in-None.ensures) _ _ c.push.ensures _ _)
