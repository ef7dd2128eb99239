-- What a roll means.
use Rattle.std.specs.Prelude.{◌≡◌, ℕ, List, length, take, drop}
use Rattle.cards.specs.Holding.{Holding, holding}
use Rattle.cards.specs.Versions.{Kept}
use Rattle.keepers.specs.Memory.{used_of}
use Rattle.keepers.specs.declared.version.Version.{Version}
use Rattle.roll.specs.Arrivals.{kept_in}
use Rattle.roll.specs.declared.keeper.Roll.{Roll}

-- the memory that it is lent, all of it
abbrev pub roll_memory : Roll → List Version
roll_memory s = s.places.now

-- the versions that it holds, in their order of arrival
abbrev pub roll_front : Roll → List Version
roll_front s = take s.held (roll_memory s)

-- what they mean together
abbrev pub roll_kept : Roll → Kept
roll_kept s = kept_in (roll_front s)

-- how many it has room for, with those that it holds
abbrev pub roll_places : Roll → ℕ
roll_places s = used_of (length (roll_memory s))

-- what it means as a keeper
abbrev pub roll_means : Roll → Holding
roll_means s = holding (roll_places s) (roll_kept s)

-- the memory behind the first k places is the same in both
abbrev pub KeptBehind : ℕ → Roll → Roll → Type 0
KeptBehind k s s' = drop k (roll_memory s') ≡ drop k (roll_memory s)
