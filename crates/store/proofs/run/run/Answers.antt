use Rattle.std.proofs.Common.{◌≡◌, length, Ok, Err, Result, OnErr, ap, ◌∙◌, subst}
use Rattle.cards.specs.declared.refusal.Refusal.{Refusal}
use Rattle.rules.specs.Runs.{play}
use Rattle.rules.specs.State.{State, size}
use Rattle.rules.proofs.Runs.{size_play}
use Rattle.store.specs.Runs.{made, answered_in}
use Rattle.store.specs.View.{view}
use Rattle.store.proofs.run.run.Goals as goal

pub returns : goal.returns
returns g c =
    let n = c.new-store.ensures in
    let e = c.apply_all-result.ensures in
    record {
      state = subst (λ (s : State). view g.K.Keeper.means c.apply_all-result.new.self ≡ play s (made c.args.calls.now (length c.args.answers.now))) n.state e.state;
      answers = subst (λ (s : State). c.apply_all-result.new.answers ≡ answered_in s c.args.calls.now c.args.answers.now) n.state e.answers;
      result = e.result;
      keeper = go c.apply_all-result.result e.same;
      entries = ap size e.state ∙ size_play (made c.args.calls.now (length c.args.answers.now)) _ ∙ ap size n.state;
      law = λ none. (e.law _ (n.history none)).1;
    }
  where
    go : (r : Result (Unit {0}) Refusal) → OnErr r (c.apply_all-result.new.self ≡ c.new-store.result) → OnErr r (c.apply_all-result.new.self.keeper ≡ c.args.keeper)
    go (Ok x) same = tt
    go (Err e) same = ap (λ s. s.keeper) same ∙ c.new-store.ensures.keeper
