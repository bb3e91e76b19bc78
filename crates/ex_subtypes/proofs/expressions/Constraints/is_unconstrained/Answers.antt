use Rattle.std.proofs.Common.{◌≡◌, ◌∙◌, ℕ, true, false, List, Option, None, refl, sym, ap}
use Rattle.plain_data.specs.Numbers.{is_among}
use Rattle.ex_subtypes.specs.declared.constraints.Constraint.{Constraint}
use Rattle.ex_subtypes.specs.Legal.{graph, is_abstract}
use Rattle.ex_subtypes.specs.Nodes.{all_kept, kept_at}
use Rattle.ex_subtypes.proofs.Legality.{line_legal}
use Rattle.ex_subtypes.proofs.expressions.Constraints.is_unconstrained.Goals as goal

pub returns-then-not-is_abstract : goal.returns-then-not-is_abstract
returns-then-not-is_abstract c = λ free set up same.
    let es = c.args.entities.now in
    let e = c.args.entity in
    let plain : is_abstract es e ≡ false = sym c.is_abstract.ensures ∙ c.if-not-is_abstract.true in
    let kept = c.deref.ensures.value ∙ c.self.view_is ∙ c.requires.kept in
    let none : (m : ℕ) → is_among c.args.line.now m ≡ true → kept_at (all_kept es) m ≡ None =
    (λ m h. ap (λ (ks : List (Option Constraint)). kept_at ks m) (sym kept) ∙ c.are_free.ensures free m h) in
    line_legal es (graph es) e c.args.line.now refl c.requires.line plain none set up same
