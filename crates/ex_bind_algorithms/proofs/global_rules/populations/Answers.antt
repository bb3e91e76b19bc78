use Rattle.std.proofs.Common.{◌≡◌, drop, [], arith}
use Rattle.std.proofs.lemmas.List.{drop_all}
use Rattle.ex_bind_algorithms.specs.Algorithms.{entities_of}
use Rattle.ex_bind_algorithms.proofs.Populations.{in_order_is, or_none}
use Rattle.ex_bind_algorithms.proofs.global_rules.populations.Goals as goal

pub returns : goal.returns
returns c =
    let none_left : drop c.loop-name.name-index c.args.names.now ≡ [] = drop_all c.loop-name.name-index c.args.names.now (omega arith) in
    in_order_is c.loop-name.found.keys (entities_of c.args.declarations.now c.args.names.now) c.loop-name.invariant.rising
    (λ k. or_none _ _ (rw none_left at (c.loop-name.invariant.named k)))
