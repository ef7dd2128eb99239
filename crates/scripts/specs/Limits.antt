-- The numbers of lines, which stand in the code as constants.
use Rattle.std.specs.Prelude.{◌≡◌}
use Rattle.scripts.specs.declared.line.TheConstants.{MOST_BYTES}
use Rattle.scripts.specs.declared.reader.TheConstants.{MOST_LINE, MOST_NUMBER, MOST_MAP}
use Rattle.scripts.specs.declared.word.TheConstants.{MOST_FIELD, MOST_BELOW}

-- a line has 80 bytes at most and its answer 64; a number is at most 65,535, a bit map 63, and a field is from -32,768 to 32,767
pub record LimitsStand : Type 0 where
  pub line : MOST_LINE ≡ 80
  pub answer : MOST_BYTES ≡ 64
  pub number : MOST_NUMBER ≡ 65535
  pub map : MOST_MAP ≡ 63
  pub field : MOST_FIELD ≡ 32767
  pub below : MOST_BELOW ≡ 32768
