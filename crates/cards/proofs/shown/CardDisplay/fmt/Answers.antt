use Rattle.std.proofs.Common.{rules, ◌<◌, length}
use Rattle.std.proofs.Output.{has_written_append, has_written_of_eq}
use Rattle.cards.proofs.Joined.{one_absent, comma, joined_there}
use Rattle.cards.proofs.shown.CardDisplay.fmt.Goals as goal

pub loop-name-preserved : goal.loop-name-preserved
loop-name-preserved g c =
    let fs = c.fields-name-items.result in
    let inside : c.loop-name.name-index < length fs = search rules in
    let (valid, before, written) = c.loop-name.invariant in
    elim c.match-value.branch [
      | goal.in-Some+in_ok-write w ↦
          let there = w.in-Some.is in
          let after = comma fs _ _ _ inside there in
          (search rules, search rules, λ plain. has_written_of_eq _ _ _ _ _ (joined_there fs _ _ _ _ inside there before) (has_written_append _ _ _ _ _ _ (written plain) (search rules)))
      | goal.in_default w ↦
          let less = one_absent fs _ _ inside w.in_default.is in (search rules, search rules, rw (less, w.f-is) written)
    ]
