use Rattle.std.proofs.Common.{◌∙◌, ap, sym, ◌≤◌, length, arith}
use Rattle.std.proofs.lemmas.List.{drop_all, take_rest}
use Rattle.rp_code.specs.Denoted.{at}
use Rattle.rp_code.proofs.Places.{begins}
use Rattle.rp_code.proofs.code.behind.Goals as goal

pub returns-then-distance-code-clause-tree : goal.returns-then-distance-code-clause-tree
returns-then-distance-code-clause-tree c = ap (λ xs. at xs 0) (take_rest c.args.code.now c.args.distance) ∙ sym (begins c.args.code.now c.args.distance)

pub returns-else-distance-code-clause-tree : goal.returns-else-distance-code-clause-tree
returns-else-distance-code-clause-tree c =
    let h : length c.args.code.now ≤ c.args.distance = omega (arith, c.if-distance-code.false) in
    sym (begins c.args.code.now c.args.distance ∙ ap (λ xs. at xs 0) (drop_all c.args.distance c.args.code.now h))
