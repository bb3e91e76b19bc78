use Rattle.std.proofs.Common.{true≢false}
use Rattle.rp_plain.specs.declared.messages.Reply.TheVariants.{Refused}
use Rattle.rp_plain.specs.declared.messages.Refusal.TheVariants.{NoMemory}
use Rattle.rp_repo.proofs.RunLemmas.{on_ok}
use Rattle.rp_repo.proofs.run.serve.Goals as goal

pub returns-in-Err-clause-served : goal.returns-in-Err-clause-served
returns-in-Err-clause-served g c = λ line held. record {
  reply = Refused NoMemory;
  may = λ told. absurd (true≢false told);
  content = c.in-Err.ensures.refused;
  front = rw c.no_memory_line.ensures at c.write_all-in-Err.ensures.front;
  all = λ e. rw c.no_memory_line.ensures at (on_ok c.write_all-in-Err.result _ c.write_all-in-Err.ensures.ok e);
}

pub returns-in-Ok-clause-served : goal.returns-in-Ok-clause-served
returns-in-Ok-clause-served g c = λ line held.
    let answers = c.in-Ok.ensures.made line held in
    record {
      reply = answers.reply;
      may = answers.may;
      content = answers.content;
      front = rw (c.deref.ensures.value, answers.is) at c.write_all.ensures.front;
      all = λ e. rw (c.deref.ensures.value, answers.is) at (on_ok c.write_all.result _ c.write_all.ensures.ok e);
    }
