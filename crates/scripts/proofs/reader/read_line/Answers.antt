use Rattle.std.proofs.Common.{rules}
use Rattle.scripts.specs.Lines.{read_words}
use Rattle.scripts.proofs.Once.{answer_once}
use Rattle.scripts.proofs.reader.read_line.Goals as goal

-- the call that was read is what the line is read to
pub returns-clause-line : goal.returns-clause-line
unfolding read_words
returns-clause-line c = answer_once c.args.line.now c.call_of.result (search rules)
