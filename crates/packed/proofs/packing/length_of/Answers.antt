-- The table is its rule, written out.
use Rattle.std.proofs.Common.{◌≡◌, ℕ, ◌+◌, ◌*◌, ◌∙◌, List, map, get_or, refl, ap, arith, rules}
use Rattle.std.specs.List.{range_with_len}
use Rattle.std.proofs.lemmas.List.FromFn.{get_or-map-range_with_len}
use Rattle.packed.specs.Packed.{bits_set}
use Rattle.packed.specs.declared.packing.TheConstants.{LENGTHS}
use Rattle.packed.proofs.packing.length_of.Goals as goal

rule : ℕ → ℕ
rule m = 1 + 2 * bits_set m

table : LENGTHS ≡ map rule (range_with_len 0 64)
unfolding rule
table = refl

pub returns : goal.returns
unfolding rule
returns c =
    let m = c.args.map in
    let read : c.from-2.result ≡ get_or LENGTHS m 0 = search rules in
    read ∙ ap (λ (xs : List ℕ). get_or xs m 0) table ∙ get_or-map-range_with_len rule 0 64 m m 0 c.requires (omega arith)
