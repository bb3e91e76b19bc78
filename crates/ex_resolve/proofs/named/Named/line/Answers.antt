use Rattle.ex_resolve.proofs.Cycles.{acyclic}
use Rattle.ex_resolve.proofs.named.Named.line.Goals as goal

pub line-requires : goal.line-requires
line-requires c = rw c.as_slice.ensures (acyclic (record { schema = c.self.inside.schema; supertypes = c.self.inside.supertypes }) c.self.invariant.0)
