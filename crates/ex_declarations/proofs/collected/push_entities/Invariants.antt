use Rattle.std.proofs.Common.{◌≡◌, map, drop}
use Rattle.plain_data.specs.Numbers.{numbered, numbered_from}
use Rattle.ex_declarations.specs.Declared as spec
use Rattle.ex_declarations.specs.Steps.{and_attributes}
use Rattle.ex_declarations.proofs.collected.push_entities.Given as goal

abbrev pub invariant-loop-number : goal.invariant-loop-number
invariant-loop-number l =
    and_attributes l.found (spec.concatenated (numbered_from spec.attributes_of_entity l.number (map (λ e. e.now) (drop l.number l.entities)))) ≡ and_attributes l.initial.found (spec.concatenated (numbered spec.attributes_of_entity (map (λ e. e.now) l.entities)))
