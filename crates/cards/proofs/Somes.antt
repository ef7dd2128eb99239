-- Something is not nothing.
use Rattle.std.proofs.Common.{◌≡◌, Some, None, Option, sym, ◌∙◌}
use Rattle.std.proofs.lemmas.Option.{none-some}

pub some≢none : {X : Type 0} (o : Option X) (x : X) → o ≡ Some x → o ≡ None → ⊥
some≢none o x p q = none-some x (sym q ∙ p)
