-- That a keeper of one version a place is as the rules want it.
use Rattle.std.proofs.Common.{◌≡◌, ℕ, ◌<◌, None, arith}
use Rattle.std.proofs.lemmas.Bool.{ne_eqb, lt-leb}
use Rattle.cards.specs.Holding.{Lawful, verdict, places_less_held, holding}
use Rattle.cards.specs.Versions.{Kept, newest_time}
use Rattle.cards.specs.declared.entry.TheConstants.{ENTRIES}
use Rattle.cards.proofs.Counts.{held_most, held_fewer}
use Rattle.cards.proofs.Newest.{newest_below}

-- where a place is spare, a version later than the newest of its entry is taken
pub taken : (spare : Kept → ℕ) (m : Kept) (e t : ℕ) → e < ENTRIES → 0 < spare m → newest_time m e < t → verdict spare m e t ≡ None
taken spare m e t h r l =
    let a = lt-leb ENTRIES e h in
    let b = ne_eqb (spare m) 0 (λ z. omega arith) in
    let c = lt-leb t (newest_time m e) l in
    rw (a, b, c)

pub holding_lawful : (places : ℕ) (m : Kept) → Lawful (holding places m)
holding_lawful places m = record {
  adds = λ m e t c. let z = held_most m e t c in omega arith;
  removes = λ m e t. let z = held_fewer m e t in omega arith;
  takes = λ m e t l r z h. taken (places_less_held places) m e t l r (newest_below m e t z (λ u some. let x = h u in grind arith));
}
