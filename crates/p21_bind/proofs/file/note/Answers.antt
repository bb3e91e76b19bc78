use Rattle.graphs.proofs.Sets.{inserted}
use Rattle.p21_bind.proofs.file.note.Goals as goal

pub returns : goal.returns
returns c = λ n. rw c.if-are_distinct.false (inserted c.args.before.now.keys c.insert.new.self.keys c.args.name c.in_ok-insert.ensures.keys n)
