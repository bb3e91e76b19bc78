use Rattle.std.proofs.Common.{◌≡◌, ◌++◌, ◌∙◌, IfOk, ap, subst}
use Rattle.rp_meaning.specs.Attributes.{aggregate}
use Rattle.rp_meaning.specs.Bare.{bare, carried}
use Rattle.rp_meaning.specs.TypeNames.{simple_names}
use Rattle.rp_operators.specs.Naming.{texts, texts_at, defined_types, unnamed}
use Rattle.rp_operators.proofs.Texts.{all_names}
use Rattle.rp_operators.proofs.naming.value_names.Goals as goal
use Rattle.rp_value.specs.declared.value.AggregateKind.TheVariants as k
use Rattle.rp_value.specs.declared.value.Value.{out-Value}

pub returns : goal.returns
returns g c =
    let schema = c.args.schema.now in
    let population = g.D.Domain.population c.args.domain.now in
    let y = out-Value (bare c.args.value.now) in
    let first = c.push_carried.new.found in
    let second = c.push_unnamed.new.found in
    subst (λ zs. IfOk c.aggregate.result (λ x. x ≡ aggregate k.Set zs))
    (all_names schema (defined_types schema (carried c.args.value.now)) y (simple_names schema population y) first second c.push_undefined.new.found
    (c.in_ok-push_carried.ensures ∙ (λ i. c.new-found.ensures i ++ texts_at ((c.requires i).types) (defined_types schema (c.carried-carried.ensures i))))
    (c.in_ok-push_unnamed.ensures ∙ (λ i. first ++ texts_at ((c.requires i).types) (unnamed (defined_types schema (c.carried-carried.ensures i)) (c.beneath_names-x.ensures.value i))))
    (c.in_ok-push_undefined.ensures ∙ ap (λ z. second ++ texts schema (simple_names schema population z)) c.beneath_names-x.ensures.value))
    c.aggregate.ensures
