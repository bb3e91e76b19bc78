use Rattle.std.proofs.Common.{◌≡◌, false, refl, rules}
use Rattle.text_forms.specs.Forms.{repeat_from}
use Rattle.ex_expressions.specs.Operators as spec
use Rattle.ex_expressions.proofs.operators.chain.Goals as goal

pub returns-then-not-continues-clause-reads : goal.returns-then-not-continues-clause-reads
unfolding spec.chain repeat_from
returns-then-not-continues-clause-reads g c =
    let stops : spec.continues c.args.rank c.read.new.source ≡ false = search rules in
    rw c.in_ok-first.ensures.reads (rw stops refl)
