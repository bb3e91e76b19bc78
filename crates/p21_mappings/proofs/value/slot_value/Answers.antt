use Rattle.std.proofs.Common.{◌≡◌, if◌then◌else◌, Some, Ok, Err, sym, ◌∙◌, ap}
use Rattle.p21_tree.specs.declared.fault.InstanceFaultKind.TheVariants.{Undefined}
use Rattle.p21_values.specs.Taking.{meaning, place}
use Rattle.p21_mappings.proofs.Stars.{by_type}
use Rattle.p21_mappings.proofs.value.slot_value.Goals as goal

pub returns-then-is_defined : goal.returns-then-is_defined
returns-then-is_defined g c =
    let taken : place (meaning c.args.schema.now.named.schema.types c.args.value.now) c.args.slot.now.expected ≡ Some c.in-Some.found =
    (λ i. place (meaning (sym c.defined_types.ensures i) c.args.value.now) c.args.slot.now.expected) ∙ sym c.in_ok-found.ensures ∙ c.in-Some.is in
    by_type c.args.schema.now (g.N.DefinedNames.is_defined c.args.names.now) c.args.slot.now c.args.value.now c.in-Some.found c.if-slot.false taken
    ∙ ap (λ b. if b then Ok c.in-Some.found else Err Undefined) (sym c.is_defined.ensures ∙ c.if-is_defined.true)

pub returns-else-is_defined : goal.returns-else-is_defined
returns-else-is_defined g c =
    let taken : place (meaning c.args.schema.now.named.schema.types c.args.value.now) c.args.slot.now.expected ≡ Some c.in-Some.found =
    (λ i. place (meaning (sym c.defined_types.ensures i) c.args.value.now) c.args.slot.now.expected) ∙ sym c.in_ok-found.ensures ∙ c.in-Some.is in
    by_type c.args.schema.now (g.N.DefinedNames.is_defined c.args.names.now) c.args.slot.now c.args.value.now c.in-Some.found c.if-slot.false taken
    ∙ ap (λ b. if b then Ok c.in-Some.found else Err Undefined) (sym c.is_defined.ensures ∙ c.if-is_defined.false)
