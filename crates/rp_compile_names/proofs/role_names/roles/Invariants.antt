use Rattle.std.proofs.Common.{◌≡◌, drop, ◌++◌}
use Rattle.std.specs.List.{flat_map}
use Rattle.plain_data.specs.Numbers.{numbered, numbered_from}
use Rattle.rp_meaning.specs.CompiledNames as names_spec
use Rattle.rp_compile_names.proofs.role_names.roles.Given as goal

abbrev pub invariant-loop-number : goal.invariant-loop-number
invariant-loop-number l = l.found ++ flat_map (λ r. r) (numbered_from (λ number x. names_spec.roles_of l.entities l.graph number (names_spec.joined l.schema_name x.name.text)) l.number (drop l.number l.entities)) ≡ flat_map (λ r. r) (numbered (λ number x. names_spec.roles_of l.entities l.graph number (names_spec.joined l.schema_name x.name.text)) l.entities)
