-- A version is declined for the first reason that holds, or is put in the first free place.
use Rattle.std.proofs.Common.{refl, ap, ap₂, ◌∙◌, arith, rules}
use Rattle.std.proofs.lemmas.List.{length-set, drop-set-lt}
use Rattle.cards.specs.Holding.{holding}
use Rattle.keepers.specs.Memory.{used_of}
use Rattle.keepers.specs.declared.memory.TheConstants.{MOST_PLACES}
use Rattle.linked.specs.Chain.{kept_in}
use Rattle.linked.specs.View.{linked_memory}
use Rattle.linked.proofs.Adds.{add_kept, add_sound}
use Rattle.linked.proofs.Edits.{used_in, used_set}
use Rattle.linked.proofs.Facts.{few, full, late, taken}
use Rattle.linked.proofs.keeper.LinkedKeeper.add.Goals as goal

pub returns-in_err-p-clause-answer : goal.returns-in_err-p-clause-answer
returns-in_err-p-clause-answer c = rw (full c.args.self.now c.args.version c.in_ok-entry.entry c.in_ok-entry.ensures c.in_err-p.ensures.ok_part) (search (rules, c.in_err-p.ensures.ok_part))

pub returns-in_err-p-clause-means : goal.returns-in_err-p-clause-means
returns-in_err-p-clause-means c = rw (full c.args.self.now c.args.version c.in_ok-entry.entry c.in_ok-entry.ensures c.in_err-p.ensures.ok_part)

pub returns-then-version-head_time : goal.returns-then-version-head_time
returns-then-version-head_time c =
    let e = late c.args.self.now c.args.version c.in_ok-entry.entry c.in_ok-entry.ensures c.in_ok-p.ensures.ok_part (omega (arith, c.head_time.ensures)) in
    record { answer = rw e; means = rw e; same = refl; rest = refl; same_reference = refl }

pub bounds-places-from : goal.bounds-places-from
bounds-places-from c = omega (arith, c.from.ensures, used_in (linked_memory c.args.self.now) _ (c.args.self.now.sound.freed.first.some _ c.in_ok-p.ensures.ok_part).0.0)

pub overflow_add-self : goal.overflow_add-self
overflow_add-self c = omega (arith, c.args.self.now.sound.total, few c.args.self.now)

pub invariant_of-self : goal.invariant_of-self
invariant_of-self c =
    let inn = (c.args.self.now.sound.freed.first.some _ c.in_ok-p.ensures.ok_part).0.0 in
    record {
      sound = rw (c.held.ensures, c.from.ensures, c.from-row.ensures, used_set (linked_memory c.args.self.now) c.in_ok-p.p _ inn)
          (add_sound c.args.self.now.sound c.in_ok-p.p c.args.version c.in_ok-p.ensures.ok_part _ c.in_ok-entry.ensures c.in_ok-entry.entry.below (search rules) (omega (arith, c.head_time.ensures)) _ _ c.others_at-others.ensures);
    }

pub returns-clause-answer : goal.returns-clause-answer
returns-clause-answer c = rw (taken c.args.self.now c.args.version c.in_ok-entry.entry c.in_ok-entry.ensures c.in_ok-p.ensures.ok_part (omega (arith, c.head_time.ensures)))

pub returns-clause-means : goal.returns-clause-means
returns-clause-means c =
    rw (taken c.args.self.now c.args.version c.in_ok-entry.entry c.in_ok-entry.ensures c.in_ok-p.ensures.ok_part (omega (arith, c.head_time.ensures)), c.held.ensures, c.from.ensures, c.from-row.ensures)
    (ap₂ holding (ap used_of (length-set (linked_memory c.args.self.now) c.in_ok-p.p _)) (ap kept_in (used_set (linked_memory c.args.self.now) c.in_ok-p.p _ (c.args.self.now.sound.freed.first.some _ c.in_ok-p.ensures.ok_part).0.0) ∙ add_kept c.args.self.now.sound c.in_ok-p.p c.args.version c.in_ok-p.ensures.ok_part _ c.in_ok-entry.ensures c.in_ok-entry.entry.below (search rules) (omega (arith, c.head_time.ensures))))

pub returns-clause-rest : goal.returns-clause-rest
returns-clause-rest c =
    let k = c.args.self.now in
    rw c.from.ensures (drop-set-lt MOST_PLACES (linked_memory k) c.in_ok-p.p _ (omega (arith, few k, (k.sound.freed.first.some _ c.in_ok-p.ensures.ok_part).0.0)))
