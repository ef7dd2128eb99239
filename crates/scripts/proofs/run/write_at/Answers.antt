use Rattle.std.proofs.Common.{arith, ◌≡◌, ℕ, ◌+◌, ◌≤◌, List, ◌++◌, length, take, drop, sym, ◌∙◌}
use Rattle.std.proofs.Math.Seq.{drop-append_seam}
use Rattle.std.proofs.lemmas.Grind.{common_steps}
use Rattle.std.proofs.lemmas.List.{append_assoc, length-append, length-take-le}
use Rattle.scripts.proofs.run.write_at.Goals as goal

drop_put : (at : ℕ) (m t p : List ℕ) → at ≤ length m → drop (at + length t) (take at m ++ (t ++ p)) ≡ p
drop_put at m t p l =
    let long : at + length t ≡ length (take at m ++ t) = omega (arith, length-append (take at m) t, length-take-le at m l) in
    (λ i. drop (long i) (sym (append_assoc (take at m) t p) i)) ∙ drop-append_seam (take at m ++ t) p

pub returns-clause-behind : goal.returns-clause-behind
returns-clause-behind c = grind (arith, common_steps, drop_put c.args.at c.args.memory.now c.args.text.now (drop (c.args.at + length c.args.text.now) c.args.memory.now) (omega arith))
