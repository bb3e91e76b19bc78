use Rattle.std.proofs.Common.{◌≡◌, List, drop}
use Rattle.ex_named.specs.declared.expression.NamedDataType.{NamedDataType}
use Rattle.rp_faults.specs.Declarations.{all_now}
use Rattle.rp_meaning.specs.TypeRules.{is_tried}
use Rattle.rp_rules.proofs.choices.Choosing.is_tried.Given as goal

abbrev pub invariant-loop-data_type : goal.invariant-loop-data_type
invariant-loop-data_type g l =
    let by = λ (declared : List NamedDataType). is_tried l.self.types.now (g.D.Domain.population l.self.domain.now) l.number declared l.written l.read in
    by (all_now (drop l.data_type-index l.declared)) ≡ by (all_now l.declared)
