-- The numbers of the subject, which stand in the code as constants.
use Rattle.std.specs.Prelude.{◌≡◌}
use Rattle.cards.specs.declared.entry.TheConstants.{ENTRIES}
use Rattle.keepers.specs.declared.memory.TheConstants.{MOST_PLACES}
use Rattle.rules.specs.declared.limits.TheConstants.{SEATS, MOST_READS, MOST_DRAFTS, LAST_TIME}

-- sixteen seats, 32 reads and 16 drafts of an edit, 1,024 entries, 1,000,000 times, and 65,536 places that a keeper uses
pub record NumbersStand : Type 0 where
  pub entries : ENTRIES ≡ 1024
  pub places : MOST_PLACES ≡ 65536
  pub seats : SEATS ≡ 16
  pub reads : MOST_READS ≡ 32
  pub drafts : MOST_DRAFTS ≡ 16
  pub times : LAST_TIME ≡ 1000000
