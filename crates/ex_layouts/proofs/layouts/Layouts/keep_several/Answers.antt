use Rattle.std.proofs.Common.{◌≡◌, ℕ, List, IfSome, slice_get, sym, subst, arith}
use Rattle.ex_schemas.specs.Schemas.{Checked}
use Rattle.ex_layouts.specs.declared.layout.Layout.{Layout}
use Rattle.ex_layouts.specs.Layouts as spec
use Rattle.ex_layouts.proofs.Kept.{kept_more}
use Rattle.ex_layouts.proofs.layouts.Layouts.keep_several.Goals as goal

pub invariant_of-self-then-size-self : goal.invariant_of-self-then-size-self
invariant_of-self-then-size-self c =
    let schema = c.self.inside.schema.now in
    let one : c.args.layout ≡ spec.of_several schema c.args.layout.entities =
    subst (λ (s : Checked). c.args.layout ≡ spec.of_several s c.args.layout.entities) (sym c.self.view_is) c.requires in
    let all = kept_more (λ (x : Layout). x ≡ spec.of_several schema x.entities) c.self.inside.combinations.items c.args.layout c.self.invariant.combinations one in
    record {
      spellings = c.self.invariant.spellings;
      leaves = c.self.invariant.leaves;
      combinations = subst (λ (xs : List Layout). (k : ℕ) → IfSome (slice_get xs k) (λ x. x ≡ spec.of_several schema x.entities)) (sym c.in_ok-push.ensures.items) all;
      few = (c.self.invariant.few.0, c.self.invariant.few.1, omega arith);
    }
