use Rattle.keepers.proofs.Fixes.{find_fixed, after_fixed, order_words}
use Rattle.keepers.proofs.theorems.answers_are_fixed.Goals as goal

pub returns : goal.returns
returns c = record { find = find_fixed; after = after_fixed; order = order_words }
