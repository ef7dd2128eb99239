-- The walk ends at the version, which is cut out of its chain, or it is not there.
use Rattle.std.proofs.Common.{is_some, sym, refl, ap, ap₂, ◌∙◌, arith}
use Rattle.std.proofs.lemmas.List.{length-set}
use Rattle.cards.specs.Holding.{holding}
use Rattle.keepers.specs.Memory.{used_of}
use Rattle.linked.specs.Chain.{kept_in}
use Rattle.linked.specs.View.{linked_memory, linked_used}
use Rattle.linked.proofs.Held.{bounded_in}
use Rattle.linked.proofs.Chains.{in_places, at_end, found}
use Rattle.linked.proofs.Edits.{used_in, used_read}
use Rattle.linked.proofs.Cuts.{less_by, out_used, out_set, out_rest, out_found, out_means, out_sound}
use Rattle.linked.proofs.Facts.{few, missing}
use Rattle.linked.proofs.keeper.LinkedKeeper.remove.Goals as goal

pub returns-in_default : goal.returns-in_default
returns-in_default c =
    let z = (bounded_in _ _ c.args.self.now.sound.chained).entries _ c.args.time c.in_default.ensures.0 in
    record { answer = sym (ap is_some z); means = missing c.args.self.now _ _ z; same = refl; rest = refl; same_reference = refl }

pub returns-in_default-at : goal.returns-in_default-at
returns-in_default-at c =
    let z = rw c.in-Ok.ensures at (at_end c.args.self.now.sound.chained c.walk-reached.ensures.walked c.walk-reached.ensures.until c.in_default-at.is c.args.time (omega arith)) in
    record { answer = sym (ap is_some z); means = missing c.args.self.now _ _ z; same = refl; rest = refl; same_reference = refl }

pub link_at-link-requires : goal.link_at-link-requires
link_at-link-requires c = (c.walk-reached.ensures.walked.of _ c.in-Some.is).0

pub returns-then-link-time : goal.returns-then-link-time
returns-then-link-time c =
    let n = found c.args.self.now.sound.chained c.walk-reached.ensures.walked _ _ c.in-Some.is c.link_at-link.ensures c.walk-reached.ensures.until in
    let z = rw c.in-Ok.ensures at (n.3 c.args.time (omega (arith, c.if-link-time.true, n.1)) (omega arith)) in
    record { answer = sym (ap is_some z); means = missing c.args.self.now _ _ z; same = refl; rest = refl; same_reference = refl }

pub unlink-requires : goal.unlink-requires
unlink-requires c q so =
    let old = (c.walk-reached.ensures.walked.later q so).0.0 in
    rw (used_read (linked_memory c.args.self.now) q (in_places (linked_used c.args.self.now) q old)) at old

pub bounds-places-from : goal.bounds-places-from
bounds-places-from c = omega (arith, c.from.ensures, c.unlink.auto.places, used_in (linked_memory c.args.self.now) _ (in_places (linked_used c.args.self.now) _ (c.walk-reached.ensures.walked.of _ c.in-Some.is).0))

pub overflow_add-self : goal.overflow_add-self
overflow_add-self c = omega (arith, c.args.self.now.sound.total, few c.args.self.now)

pub overflow_sub-self : goal.overflow_sub-self
overflow_sub-self c = omega (arith, less_by c.args.self.now.sound c.in-Some.p (c.walk-reached.ensures.walked.of _ c.in-Some.is).0)

pub invariant_of-self : goal.invariant_of-self
invariant_of-self c =
    let k = c.args.self.now in
    let w = c.walk-reached.ensures.walked in
    record {
      sound = rw (c.freed.ensures, c.from.ensures, out_set k w c.in-Some.is c.link_at-link.ensures c.unlink.ensures.places _)
          (out_sound k w c.in-Some.is c.link_at-link.ensures c.in-Ok.entry.below (out_used k w c.in-Some.is c.link_at-link.ensures c.unlink.ensures.places) c.unlink.ensures.heads);
    }

pub returns-clause-means : goal.returns-clause-means
returns-clause-means c =
    let k = c.args.self.now in
    let w = c.walk-reached.ensures.walked in
    rw (c.freed.ensures, c.from.ensures, ← c.in-Ok.ensures)
    (ap₂ holding (ap used_of (length-set c.unlink.new.places c.in-Some.p _ ∙ c.unlink.auto.places)) (ap kept_in (out_set k w c.in-Some.is c.link_at-link.ensures c.unlink.ensures.places _))
    ∙ out_means k w c.in-Some.is c.link_at-link.ensures c.in-Ok.entry.below (out_used k w c.in-Some.is c.link_at-link.ensures c.unlink.ensures.places) c.unlink.ensures.heads c.if-link-time.false)

pub returns-clause-answer : goal.returns-clause-answer
returns-clause-answer c = rw (← c.in-Ok.ensures) (sym (out_found c.args.self.now c.walk-reached.ensures.walked c.in-Some.is c.link_at-link.ensures c.if-link-time.false))

pub returns-clause-rest : goal.returns-clause-rest
returns-clause-rest c = rw c.from.ensures (out_rest c.args.self.now c.walk-reached.ensures.walked c.in-Some.is c.link_at-link.ensures c.unlink.ensures.places _)
