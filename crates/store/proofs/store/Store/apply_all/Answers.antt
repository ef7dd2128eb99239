use Rattle.std.proofs.Common.{refl, arith}
use Rattle.rules.specs.declared.call.Call.TheVariants as call
use Rattle.store.proofs.Applying.{played_none, played_more, ended_all, ended_none}
use Rattle.store.proofs.store.Store.apply_all.Goals as goal

pub returns-then-answers-calls : goal.returns-then-answers-calls
returns-then-answers-calls g c =
    let e = ended_none _ c.args.calls.now c.args.answers.now c.if-answers-calls.true in
    record { state = e.0; answers = e.1; result = e.2; same = refl; law = e.3 }

pub loop-at-init : goal.loop-at-init
loop-at-init g c = played_none _ _ _

pub loop-at-preserved : goal.loop-at-preserved
loop-at-preserved g c =
    let k = c.loop-at.auto.answers in
    let l = c.if-answers-calls.false in
    let t = c.loop-at-test.true in
    played_more _ _ _ c.loop-at.at _ _ c.loop-at.answers (call.Proof 0) c.apply.result t (omega arith) c.apply.ensures.call.state c.apply.ensures.call.answer c.loop-at.invariant

pub returns : goal.returns
returns g c =
    let i = c.loop-at.auto.at-end in
    let e = ended_all _ c.args.calls.now c.args.answers.now c.loop-at.at _ c.loop-at.answers c.if-answers-calls.false (omega arith) c.loop-at.invariant in
    record { state = e.0; answers = e.1; result = e.2; same = tt; law = e.3 }
