use Rattle.std.proofs.Common.{◌≡◌, ◌++◌, drop}
use Rattle.std.specs.List.{filter_map}
use Rattle.rp_faults.specs.Declarations.{all_now}
use Rattle.rp_meaning.specs.TypeRules.{element_type}
use Rattle.rp_rules.proofs.choices.Choosing.element_types.Given as goal

abbrev pub invariant-loop-data_type : goal.invariant-loop-data_type
invariant-loop-data_type g l =
    let of = element_type l.self.types.now (g.D.Domain.population l.self.domain.now) l.written l.read in
    all_now l.found.items ++ filter_map of (all_now (drop l.data_type-index l.declared)) ≡ filter_map of (all_now l.declared)
