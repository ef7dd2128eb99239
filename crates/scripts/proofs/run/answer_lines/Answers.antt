use Rattle.std.proofs.Common.{◌∙◌, ap, length, arith}
use Rattle.scripts.proofs.Answered.{answered_more}
use Rattle.scripts.proofs.run.answer_lines.Goals as goal

pub loop-rest-preserved : goal.loop-rest-preserved
loop-rest-preserved g c =
    let bytes = c.as_bytes.ensures.value ∙ c.as_str.ensures.value in
    answered_more _ _ _ _ _ _ _ _ c.as_bytes.result.now c.loop-rest.at c.len-at.result _ _ c.cut_line.ensures.lines c.answer-text.ensures.state (bytes ∙ c.answer-text.ensures.text)
    (omega (arith, c.len-at.ensures.value, ap length bytes)) (omega (arith, c.len-at.ensures.value, c.answer-text.ensures.short)) c.write_at.ensures.front c.write_at.ensures.behind c.write_at.ensures.len c.loop-rest.invariant
