use Rattle.graphs.proofs.Sets.{inserted}
use Rattle.ex_selects.proofs.kept.add_if.Goals as goal

pub returns-in_ok-insert : goal.returns-in_ok-insert
returns-in_ok-insert c = λ k.
    rw c.if-is_added.true (inserted c.args.found.now.keys c.insert.new.self.keys c.args.number c.in_ok-insert.ensures.keys k)
