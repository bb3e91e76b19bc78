use Rattle.std.proofs.Common.{◌≡◌, ◌++◌, OnOk, List, sym, ap, ◌∙◌, subst, append-nil, append_assoc}
use Rattle.std.specs.List.{filter_map}
use Rattle.rp_faults.specs.Declarations.{all_now}
use Rattle.rp_meaning.specs.TypeRules.{element_type}
use Rattle.rp_rules.specs.Tried.{elements_at, inside_at, itself_at}
use Rattle.rp_rules.proofs.Values.{inside-Agg, inside-Named, inside-scalar, values-aggregate, values-unset}
use Rattle.rp_rules.proofs.tried.Trying.+trying.Goals as goal
use Rattle.rp_value.specs.declared.value.Value.{Value}

pub push-returns-then-is_indeterminate : goal.push-returns-then-is_indeterminate
push-returns-then-is_indeterminate g t c =
    let types = c.args.self.now.choosing.types.now in
    let population = g.D.Domain.population c.args.self.now.choosing.domain.now in
    let none = values-unset types population c.args.self.now.number (all_now c.args.declared.now) c.args.written.now c.args.read.now (sym c.is_indeterminate.ensures ∙ c.if-is_indeterminate.true) in
    rw none (sym (append-nil c.args.found.now))

pub push-returns-in-Agg : goal.push-returns-in-Agg
push-returns-in-Agg g t c =
    let types = c.args.self.now.choosing.types.now in
    let population = g.D.Domain.population c.args.self.now.choosing.domain.now in
    let number = c.args.self.now.number in
    let declared = all_now c.args.declared.now in
    let inner = filter_map (element_type types population c.args.written.now c.args.read.now) declared in
    let itself = itself_at types population number declared c.args.written.now c.args.read.now in
    let items = c.in-Some.items.now.items in
    let all = values-aggregate types population number declared c.args.written.now c.args.read.now c.in-Some.field-0-0 c.in-Some.items.now (sym c.is_indeterminate.ensures ∙ c.if-is_indeterminate.false) (sym c.in-Some.ensures)
    ∙ ap (λ (xs : List Value). itself ++ xs) (sym (inside-Agg types population number inner items c.args.written.now c.in-Agg.kind c.in-Agg.elements c.in-Agg.is)) in
    let same = append_assoc c.args.found.now itself (elements_at types population number inner c.in-Agg.elements.items items) ∙ ap (λ (xs : List Value). c.args.found.now ++ xs) (sym all) in
    let found = rw (c.in_ok-push_itself.ensures, c.as_slice.ensures, c.as_slice-in-Agg.ensures, c.as_slice-in-Agg-2.ensures.value, c.in_ok-inner.ensures) at c.push_elements.ensures in
    subst (λ (xs : List Value). OnOk c.push_elements.result (c.push_elements.new.found ≡ xs)) same found

pub push-returns-in-Named : goal.push-returns-in-Named
push-returns-in-Named g t c =
    let types = c.args.self.now.choosing.types.now in
    let population = g.D.Domain.population c.args.self.now.choosing.domain.now in
    let number = c.args.self.now.number in
    let declared = all_now c.args.declared.now in
    let inner = filter_map (element_type types population c.args.written.now c.args.read.now) declared in
    let itself = itself_at types population number declared c.args.written.now c.args.read.now in
    let items = c.in-Some.items.now.items in
    let all = values-aggregate types population number declared c.args.written.now c.args.read.now c.in-Some.field-0-0 c.in-Some.items.now (sym c.is_indeterminate.ensures ∙ c.if-is_indeterminate.false) (sym c.in-Some.ensures)
    ∙ ap (λ (xs : List Value). itself ++ xs) (sym (inside-Named types population number inner items c.args.written.now c.in-Named.defined_type c.in-Named.value c.in-Named.is)) in
    let same = append_assoc c.args.found.now itself (inside_at types population number inner c.in-Named.value items) ∙ ap (λ (xs : List Value). c.args.found.now ++ xs) (sym all) in
    let found = rw (c.in_ok-push_itself.ensures, c.get.ensures, c.as_slice-in-Named.ensures, c.as_slice-in-Named-2.ensures.value, c.in_ok-inner.ensures) at c.push_inside.ensures in
    subst (λ (xs : List Value). OnOk c.push_inside.result (c.push_inside.new.found ≡ xs)) same found

pub push_inside-returns-in_default : goal.push_inside-returns-in_default
push_inside-returns-in_default g t c =
    let types = c.args.self.now.choosing.types.now in
    let population = g.D.Domain.population c.args.self.now.choosing.domain.now in
    rw (inside-scalar types population c.args.self.now.number (all_now c.args.declared.now) c.args.read.now c.args.written.now c.in_default.not-Agg c.in_default.not-Named) (sym (append-nil c.args.found.now))
