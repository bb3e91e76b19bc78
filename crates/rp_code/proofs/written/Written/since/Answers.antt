use Rattle.std.proofs.Common.{◌∙◌, ◌-◌, ap, length}
use Rattle.rp_code.specs.Denoted.{at}
use Rattle.rp_code.proofs.Places.{begins}
use Rattle.rp_code.proofs.written.Written.since.Goals as goal

pub returns-clause-tree : goal.returns-clause-tree
returns-clause-tree c = ap (λ n. at c.args.self.now (n - c.args.count)) c.len.ensures ∙ begins c.args.self.now (length c.args.self.now - c.args.count)
