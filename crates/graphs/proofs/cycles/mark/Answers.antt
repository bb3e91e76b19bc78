use Rattle.std.proofs.Common.{◌≡◌, ◌<◌, ℕ, length, true, ◌∙◌}
use Rattle.graphs.specs.Traces as traced
use Rattle.graphs.proofs.Certain.{level_exact}
use Rattle.graphs.proofs.cycles.mark.Goals as goal

pub returns-then-is_certain : goal.returns-then-is_certain
returns-then-is_certain c =
    let all : (m : ℕ) → m < length c.args.graph.now → traced.is_certain c.args.graph.now c.args.traces.now m ≡ true = λ m within. c.requires.certain c.if-is_certain.true m within in
    c.has_level.ensures ∙ level_exact c.args.graph.now c.args.traces.now all c.args.member
