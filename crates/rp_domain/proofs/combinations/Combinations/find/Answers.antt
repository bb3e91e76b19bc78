use Rattle.std.proofs.Common.{◌≡◌, ◌∙◌, ℕ, List, IfSome, slice_get, sym, subst}
use Rattle.rp_domain.specs.declared.combination.Combination.{Combination}
use Rattle.rp_domain.specs.Combinations as spec
use Rattle.rp_domain.proofs.Sharing.{itself_is, kept_more}
use Rattle.rp_domain.proofs.combinations.Combinations.find.Goals as goal

pub invariant_of-self-2 : goal.invariant_of-self-2
invariant_of-self-2 c =
    let schema = c.self.inside.schema.now in
    let one = itself_is schema c.args.entities c.in_ok-share.field-0 (c.in_ok-share.ensures ∙ c.in_ok-combination.ensures) in
    let all = kept_more (λ (x : Combination). x ≡ spec.combination schema x.entities) c.self.inside.found.items c.in_ok-share.field-0 c.self.invariant one in
    subst (λ (xs : List Combination). (k : ℕ) → IfSome (slice_get xs k) (λ x. x ≡ spec.combination schema x.entities)) (sym {A = List Combination} c.in_ok-push.ensures.items) all
