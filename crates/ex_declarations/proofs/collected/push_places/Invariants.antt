use Rattle.std.proofs.Common.{◌≡◌, map, drop}
use Rattle.plain_data.specs.Numbers.{numbered_from}
use Rattle.ex_declarations.specs.Declared as spec
use Rattle.ex_declarations.specs.Steps.{and_attributes}
use Rattle.ex_declarations.proofs.collected.push_places.Given as goal

abbrev pub invariant-loop-place : goal.invariant-loop-place
invariant-loop-place l =
    and_attributes l.found (numbered_from (λ k n. (n.text, record { entity = l.entity; sort = l.sort; place = k })) l.place (map (λ n. n.now) (drop l.place l.names))) ≡ and_attributes l.initial.found (spec.placed l.entity l.sort (map (λ n. n.now) l.names))
