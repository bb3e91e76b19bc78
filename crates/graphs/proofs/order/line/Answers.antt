use Rattle.std.proofs.Common.{◌≡◌, [], ◌∷◌, ◌++◌, Some, arith, sym, ◌∙◌, ap}
use Rattle.std.proofs.lemmas.List.{nil_from_length}
use Rattle.plain_data.proofs.Numbers.{is_among-push}
use Rattle.graphs.specs.declared.steps.Step.TheVariants.{Enter, Place}
use Rattle.std.specs.Option.{option_map}
use Rattle.graphs.specs.Graphs as spec
use Rattle.graphs.proofs.Lines.{line_of, line_is}
use Rattle.graphs.proofs.Placing.{with_known}
use Rattle.graphs.proofs.Walk.{walk_start, enter_known, enter_new, place_known, place_new, walk_done, enter_less, pass_less, place_less}
use Rattle.graphs.proofs.order.line.Goals as goal

pub loop-step-init : goal.loop-step-init
loop-step-init c = rw (c.new-order.ensures, c.in_ok-push.ensures.items, c.new-steps.ensures.items) (walk_start c.args.graph.now c.requires c.args.member)

pub loop-step-smaller-in-Continue-branch-3 : goal.loop-step-smaller-in-Continue-branch-3
loop-step-smaller-in-Continue-branch-3 c =
    let rest = c.pop.new.self.items in
    let was : c.loop-step.steps.items ≡ rest ++ Enter c.in-Enter.next ∷ [] = c.in-Some.ensures.items ∙ ap (λ s. rest ++ s ∷ []) c.in-Enter.is in
    rw (c.in_ok-enter_all-in-Enter.ensures, c.in_ok-push-in-Enter.ensures.items, c.supertypes.ensures, was) (enter_less c.args.graph.now c.requires c.args.member rest c.in-Enter.next)

pub loop-step-preserved-in-Continue-branch-3 : goal.loop-step-preserved-in-Continue-branch-3
loop-step-preserved-in-Continue-branch-3 c =
    let rest = c.pop.new.self.items in
    let was : c.loop-step.steps.items ≡ rest ++ Enter c.in-Enter.next ∷ [] = c.in-Some.ensures.items ∙ ap (λ s. rest ++ s ∷ []) c.in-Enter.is in
    rw (c.in_ok-enter_all-in-Enter.ensures, c.in_ok-push-in-Enter.ensures.items, c.supertypes.ensures)
    (enter_new c.args.graph.now c.requires c.args.member c.loop-step.order c.loop-step.order rest c.in-Enter.next (rw was at c.loop-step.invariant))

pub loop-step-smaller-else-not-has : goal.loop-step-smaller-else-not-has
loop-step-smaller-else-not-has c =
    let rest = c.pop.new.self.items in
    let was : c.loop-step.steps.items ≡ rest ++ Enter c.in-Enter.next ∷ [] = c.in-Some.ensures.items ∙ ap (λ s. rest ++ s ∷ []) c.in-Enter.is in
    rw was (pass_less c.args.graph.now c.requires c.args.member rest c.in-Enter.next)

pub loop-step-preserved-else-not-has : goal.loop-step-preserved-else-not-has
loop-step-preserved-else-not-has c =
    let rest = c.pop.new.self.items in
    let was : c.loop-step.steps.items ≡ rest ++ Enter c.in-Enter.next ∷ [] = c.in-Some.ensures.items ∙ ap (λ s. rest ++ s ∷ []) c.in-Enter.is in
    enter_known c.args.graph.now c.requires c.args.member c.loop-step.order c.loop-step.order rest c.in-Enter.next (rw was at c.loop-step.invariant)
    (sym c.has.ensures ∙ c.if-not-has.false)

pub loop-step-smaller-in-Continue-branch-4 : goal.loop-step-smaller-in-Continue-branch-4
loop-step-smaller-in-Continue-branch-4 c =
    let rest = c.pop.new.self.items in
    let was : c.loop-step.steps.items ≡ rest ++ Place c.in-Place.next ∷ [] = c.in-Some.ensures.items ∙ ap (λ s. rest ++ s ∷ []) c.in-Place.is in
    rw was (place_less c.args.graph.now c.requires c.args.member rest c.in-Place.next)

pub loop-step-preserved-in-Continue-branch-4 : goal.loop-step-preserved-in-Continue-branch-4
loop-step-preserved-in-Continue-branch-4 c =
    let rest = c.pop.new.self.items in
    let order = c.loop-step.order in
    let next = c.in-Place.next in
    let was : c.loop-step.steps.items ≡ rest ++ Place next ∷ [] = c.in-Some.ensures.items ∙ ap (λ s. rest ++ s ∷ []) c.in-Place.is in
    rw c.in_ok-push-in-Place.ensures
    (place_new c.args.graph.now c.requires c.args.member order order rest next (order ++ next ∷ []) (is_among-push order next) (rw was at c.loop-step.invariant)
    (sym c.has-in-Place.ensures ∙ c.if-not-has-2.true))

pub loop-step-smaller : goal.loop-step-smaller
loop-step-smaller c =
    let rest = c.pop.new.self.items in
    let was : c.loop-step.steps.items ≡ rest ++ Place c.in-Place.next ∷ [] = c.in-Some.ensures.items ∙ ap (λ s. rest ++ s ∷ []) c.in-Place.is in
    rw was (place_less c.args.graph.now c.requires c.args.member rest c.in-Place.next)

pub loop-step-preserved : goal.loop-step-preserved
loop-step-preserved c =
    let rest = c.pop.new.self.items in
    let order = c.loop-step.order in
    let next = c.in-Place.next in
    let was : c.loop-step.steps.items ≡ rest ++ Place next ∷ [] = c.in-Some.ensures.items ∙ ap (λ s. rest ++ s ∷ []) c.in-Place.is in
    let known = sym c.has-in-Place.ensures ∙ c.if-not-has-2.false in
    place_known c.args.graph.now c.requires c.args.member order order rest next order (with_known order next known) (rw was at c.loop-step.invariant) known

pub returns : goal.returns
returns c =
    let graph = c.args.graph.now in
    let member = c.args.member in
    let none : c.loop-step.steps.items ≡ [] = nil_from_length _ (omega (arith, c.in_default.ensures.cases)) in
    let order : c.into_rows.result ≡ spec.each_once (line_of graph member) = c.into_rows.ensures ∙ walk_done graph c.requires member c.loop-step.order c.loop-step.order (rw none at c.loop-step.invariant) in
    ap (option_map spec.each_once) (line_is graph c.requires member) ∙ ap (λ l. Some l) (sym order)
