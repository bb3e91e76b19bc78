use Rattle.std.proofs.Common.{◌≡◌, [], Ok, map, drop}
use Rattle.ex_named.specs.Outcomes.{given}
use Rattle.ex_bind_entities.specs.Entities.{once_redeclared_after}
use Rattle.ex_bind_entities.specs.Inherited.{read, redeclared_of}
use Rattle.ex_bind_entities.proofs.repeated.all_once.Given as goal

abbrev pub invariant-loop-sorts : goal.invariant-loop-sorts
invariant-loop-sorts l =
    let again = redeclared_of l.context.declarations.now l.context.supertypes.now l.context.entity in
    once_redeclared_after l.context.declarations.now l.context.supertypes.now l.before (given (λ found. tt {0}) l.found) (map again (read (drop l.sorts-index l.list)))
    ≡ once_redeclared_after l.context.declarations.now l.context.supertypes.now [] (Ok (tt {0})) (map again (read l.list))
