use Rattle.std.proofs.Common.{◌≡◌, sym, ap, ◌∙◌, subst, rules}
use Rattle.std.proofs.lemmas.Bool.{ne_eqb, eq-eqb}
use Rattle.std.specs.Prelude.{Bool}
use Rattle.cards.specs.Versions.{held_in}
use Rattle.rules.specs.NewStore.{suited, Fresh, no_sizes, suits, unused}
use Rattle.rules.specs.Runs.{new}
use Rattle.rules.specs.declared.sizes.Sizes.{Sizes}
use Rattle.rules.proofs.NewStores.{new_stores_stand_lem}
use Rattle.std.specs.Prelude.{if◌then◌else◌}
use Rattle.store.proofs.store.Store.new.Goals.{then-held-eq0, else-held-eq0}
use Rattle.store.proofs.store.Store.new.Goals as goal

pub returns-clause-state : goal.returns-clause-state
returns-clause-state g c =
    let h = g.K.Keeper.means c.args.keeper in
    let held = c.held.ensures in
    c.new.ensures h ∙ ap (λ (z : Sizes). unused (suited z) h) (elim c.if-held-eq0.branch [
      | then-held-eq0 w ↦ (let e = eq-eqb (held_in h.kept) 0 (sym held ∙ w.if-held-eq0.true) in w.sizes-is ∙ sym (ap (λ (b : Bool). if b then c.args.sizes else no_sizes) e))
      | else-held-eq0 w ↦ (let e = ne_eqb (held_in h.kept) 0 (λ e. w.if-held-eq0.false (held ∙ e)) in let none : w.default-sizes.result ≡ no_sizes = search rules in w.sizes-is ∙ none ∙ sym (ap (λ (b : Bool). if b then c.args.sizes else no_sizes) e))
    ])

pub returns-clause-history : goal.returns-clause-history
returns-clause-history g c = λ none. new (subst Fresh (sym (returns-clause-state g c)) (new_stores_stand_lem c.args.sizes _ none (g.met.K.Keeper.lawful c.args.keeper)))
