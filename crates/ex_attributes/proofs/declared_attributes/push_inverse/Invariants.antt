use Rattle.std.proofs.Common.{◌≡◌, ◌++◌, map, drop}
use Rattle.plain_data.specs.Numbers.{numbered_from}
use Rattle.ex_named.specs.declared.reference.AttributeSort.TheVariants.{Inverse}
use Rattle.ex_attributes.specs.Attributes as spec
use Rattle.ex_attributes.proofs.declared_attributes.push_inverse.Given as goal

abbrev pub invariant-loop-place : goal.invariant-loop-place
invariant-loop-place l =
    l.found ++ numbered_from (λ k r. record { name = r.0; place = record { entity = l.entity; sort = Inverse; place = k }; kinds = r.1 }) l.place (map spec.inverse_name (drop l.place l.list))
    ≡ l.initial.found ++ spec.placed l.entity Inverse (map spec.inverse_name l.list)
