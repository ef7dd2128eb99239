-- The newest version and the next time are each one, and what add's order test says in words.
use Rattle.std.proofs.Common.{◌^◌, Some, None, refl, arith}
use Rattle.keepers.specs.Fixed.{FindFixed, AfterFixed, OrderWords}
use Rattle.cards.proofs.Newest.{below_bounds, newest_below}

pub find_fixed : FindFixed
find_fixed m e u None None n k = refl
find_fixed m e u None (Some w) n k = grind (arith, n w.time)
find_fixed m e u (Some v) None n k = grind (arith, k v.time)
find_fixed m e u (Some v) (Some w) n k = grind (arith, n.3 w.time, k.3 v.time)

pub after_fixed : AfterFixed
after_fixed m e u None None n k = refl
after_fixed m e u None (Some s) n k = grind (arith, n s)
after_fixed m e u (Some r) None n k = grind (arith, k r)
after_fixed m e u (Some r) (Some s) n k = grind (arith, n.2 s, k.2 r)

pub order_words : OrderWords
order_words m e t times = (λ l. (omega arith, λ u some. grind (arith, below_bounds (m e) (2 ^ 32) u, times u)), λ a. newest_below m e t a.0 a.1)
