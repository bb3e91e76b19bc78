use Rattle.std.proofs.Common.{◌≡◌, drop, map, ◌++◌}
use Rattle.std.specs.List.{filter_map}
use Rattle.ex_attributes.specs.Attributes.{redeclaration}
use Rattle.rp_meaning.specs.Compiled as compiled
use Rattle.rp_compile.proofs.entities.push_redeclarations.Given as goal

abbrev pub invariant-loop-attribute : goal.invariant-loop-attribute
invariant-loop-attribute l = l.found ++ map (λ r. record { attribute = compiled.declaration r.attribute; declaration = compiled.explicit_declaration l.explicit }) (filter_map redeclaration (drop l.attribute-index l.explicit.attributes)) ≡ l.initial.found ++ compiled.redeclarations_in l.explicit
