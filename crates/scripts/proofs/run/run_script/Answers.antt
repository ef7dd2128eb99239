use Rattle.std.proofs.Common.{[], length, sym, append-nil, rules}
use Rattle.rules.proofs.Runs.{lawful_play}
use Rattle.scripts.specs.Scripts.{script_calls}
use Rattle.scripts.proofs.run.run_script.Goals as goal

pub returns-then-memory-count_lines-clause-law : goal.returns-then-memory-count_lines-clause-law
returns-then-memory-count_lines-clause-law g c = lawful_play (script_calls c.args.script.now (length c.args.memory.now)) _ _ _ [] (search rules) (sym (append-nil _))

pub returns-clause-law : goal.returns-clause-law
returns-clause-law g c = lawful_play (script_calls c.args.script.now (length c.args.memory.now)) _ _ _ [] (search rules) (sym (append-nil _))
