use Rattle.std.proofs.Common.{◌≡◌, ◌∙◌, ap}
use Rattle.rp_meaning.specs.declared.schema.Schema.{Schema}
use Rattle.rp_domain.specs.declared.combination.Combination.{Combination}
use Rattle.rp_domain.specs.Combinations as spec
use Rattle.rp_domain.proofs.Sharing.{kept_is, kept_uses}
use Rattle.rp_domain.proofs.read.kept.Goals as goal

pub new-requires : goal.new-requires
new-requires c =
    let shared = c.in_ok-combination.combination in
    let is : shared ≡ spec.combination c.args.readings.now.0 c.args.instance.entities =
    c.in_ok-combination.ensures.found ∙ ap (λ (s : Schema). spec.combination s c.args.instance.entities) c.requires in
    let attributes : c.as_slice-2.result.now ≡ shared.attributes = c.as_slice-2.ensures ∙ ap (λ (x : Combination). x.attributes) c.get-2.ensures in
    rw c.in_ok-differing.ensures.shared (kept_uses c.args.readings.now.0 c.args.readings.now.1 c.args.instance.entities shared c.without_derived-written.result c.find_others.new.found.items is (rw (attributes, c.as_slice-3.ensures) at c.in_ok-find_others.ensures.found))

pub returns-clause-kept : goal.returns-clause-kept
returns-clause-kept c =
    let shared = c.in_ok-combination.combination in
    let is : shared ≡ spec.combination c.args.readings.now.0 c.args.instance.entities =
    c.in_ok-combination.ensures.found ∙ ap (λ (s : Schema). spec.combination s c.args.instance.entities) c.requires in
    let derived : c.as_slice.result.now ≡ shared.derived = c.as_slice.ensures ∙ ap (λ (x : Combination). x.derived) c.get.ensures in
    let attributes : c.as_slice-2.result.now ≡ shared.attributes = c.as_slice-2.ensures ∙ ap (λ (x : Combination). x.attributes) c.get-2.ensures in
    c.new.ensures
    ∙ rw c.in_ok-differing.ensures.shared (kept_is c.args.readings.now.0 c.args.readings.now.1 c.args.instance.entities shared c.args.instance.values c.without_derived-written.result c.find_others.new.found.items is (rw derived at c.without_derived-written.ensures) (rw (attributes, c.as_slice-3.ensures) at c.in_ok-find_others.ensures.found))
