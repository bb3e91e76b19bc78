use Rattle.std.proofs.Common.{◌≡◌, drop}
use Rattle.plain_data.specs.Numbers.{numbered, numbered_from}
use Rattle.ex_declarations.specs.Steps.{and_items}
use Rattle.ex_declarations.proofs.collected.push_items.Given as goal

abbrev pub invariant-loop-place : goal.invariant-loop-place
invariant-loop-place l =
    and_items l.found (numbered_from (λ k n. (n.text, record { type_number = l.type_number; place = k })) l.place (drop l.place l.names)) ≡ and_items l.initial.found (numbered (λ k n. (n.text, record { type_number = l.type_number; place = k })) l.names)
