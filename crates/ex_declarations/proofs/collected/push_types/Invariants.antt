use Rattle.std.proofs.Common.{◌≡◌, map, drop}
use Rattle.plain_data.specs.Numbers.{numbered, numbered_from}
use Rattle.ex_declarations.specs.Declared as spec
use Rattle.ex_declarations.specs.Steps.{and_types}
use Rattle.ex_declarations.proofs.collected.push_types.Given as goal

abbrev pub invariant-loop-number : goal.invariant-loop-number
invariant-loop-number l =
    and_types l.found (spec.concatenated (numbered_from spec.items_of_type l.number (map (λ x. x.now) (drop l.number l.types)))) (map (λ x. spec.is_enumeration x.underlying) (map (λ x. x.now) (drop l.number l.types)))
    ≡ and_types l.initial.found (spec.concatenated (numbered spec.items_of_type (map (λ x. x.now) l.types))) (map (λ x. spec.is_enumeration x.underlying) (map (λ x. x.now) l.types))
