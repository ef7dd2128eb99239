-- What a linked keeper has of itself.
use Rattle.std.specs.Prelude.{◌≡◌, ℕ, ◌<◌, ◌≤◌, Some, None, slice_index_or}
use Rattle.std.proofs.Common.{length, ap, ◌∙◌, arith}
use Rattle.cards.specs.Holding.{places_less_held, holding}
use Rattle.cards.specs.Versions.{newest_time}
use Rattle.cards.specs.declared.entry.EntryNumber.{EntryNumber}
use Rattle.cards.specs.declared.entry.TheConstants.{ENTRIES}
use Rattle.cards.specs.declared.refusal.Refusal.TheVariants.{Full, Order}
use Rattle.cards.proofs.Counts.{without_none}
use Rattle.keepers.specs.Kept.{add_refusal, removed}
use Rattle.keepers.specs.declared.memory.TheConstants.{MOST_PLACES}
use Rattle.keepers.specs.declared.version.Version.{Version}
use Rattle.keepers.proofs.Verdicts.{refuses_full, refuses_order, takes}
use Rattle.linked.specs.Chain.{time_or_zero}
use Rattle.linked.specs.View.{linked_memory, linked_used, linked_kept, linked_places, linked_means}
use Rattle.linked.specs.declared.keeper.Linked.{Linked}
use Rattle.linked.proofs.Chains.{head_newest}
use Rattle.linked.proofs.Edits.{used_len}

module _ (s : Linked) where
  pub few : length (linked_used s) ≤ MOST_PLACES
  few = omega (arith, used_len (linked_memory s))

  pub room_of : places_less_held (linked_places s) (linked_kept s) ≡ s.free.count
  room_of = omega (arith, s.sound.counted, s.sound.total, used_len (linked_memory s))

  -- ---- why a version is declined, or that it is taken: e is its entry's number

  module _ (v : Version) (e : EntryNumber) (same : e.number ≡ v.entry) where
    pub entry_below : v.entry < ENTRIES
    entry_below = omega (arith, e.below)

    pub full : s.free.first ≡ None → add_refusal (linked_means s) v ≡ Some Full
    full is = refuses_full (linked_places s) (linked_kept s) v entry_below (room_of ∙ s.sound.freed.first.none is)

    module _ {p : ℕ} (is : s.free.first ≡ Some p) where
      some_room : 0 < places_less_held (linked_places s) (linked_kept s)
      some_room = omega (arith, room_of, (s.sound.freed.first.some p is).1)

      newest_is : newest_time (linked_kept s) v.entry ≡ time_or_zero (linked_used s) (slice_index_or s.heads e.number None)
      newest_is = rw (← same) (head_newest s.sound.chained e.number e.below)

      pub late : v.time ≤ time_or_zero (linked_used s) (slice_index_or s.heads e.number None) → add_refusal (linked_means s) v ≡ Some Order
      late l = refuses_order (linked_places s) (linked_kept s) v entry_below some_room (omega (arith, newest_is))

      pub taken : time_or_zero (linked_used s) (slice_index_or s.heads e.number None) < v.time → add_refusal (linked_means s) v ≡ None
      taken l = takes (linked_places s) (linked_kept s) v entry_below some_room (omega (arith, newest_is))

  -- a version that is not there is not missed
  pub missing : (e t : ℕ) → linked_kept s e t ≡ None → linked_means s ≡ removed (linked_means s) e t
  missing e t z = ap (holding (linked_places s)) (without_none (linked_kept s) e t z)
