use Rattle.std.proofs.Common.{◌∙◌}
use Rattle.rp_http.proofs.Answering.{no_memory, prepared}
use Rattle.rp_http.proofs.turn.answer_turn.Goals as goal

pub returns-in-Ok : goal.returns-in-Ok
returns-in-Ok c =
    prepared c.args.repository.now.content c.prepare-pending.new.self c.answer_prepared.new.repository.content c.args.partner c.args.request c.prepare-pending.result _
    (rw c.caller_at-caller.ensures at c.prepare-pending.ensures.prepared) c.prepare-pending.ensures.content c.in-Ok.ensures.made c.in-Ok.ensures.changed

pub returns-in-Err : goal.returns-in-Err
returns-in-Err c =
    let same = c.in-Err.ensures.refused ∙ c.prepare-pending.ensures.content in
    rw same (no_memory c.args.repository.now.content _ _ c.no_memory_answer.ensures)
