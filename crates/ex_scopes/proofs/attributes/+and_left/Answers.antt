use Rattle.std.proofs.Common.{◌≡◌, ◌∙◌, ap, sym, subst, IfOk, List, drop, filter, rules}
use Rattle.plain_data.specs.Numbers.{is_among}
use Rattle.ex_named.specs.declared.reference.AttributePlace.{AttributePlace}
use Rattle.ex_scopes.specs.declared.seen.Seen.{Seen}
use Rattle.ex_scopes.specs.Attributes.{seen_after}
use Rattle.ex_scopes.specs.Sorts.{admitted}
use Rattle.ancestors.proofs.InTurn.{of_members}
use Rattle.ex_scopes.proofs.Told.{settled, seen_split}
use Rattle.ex_scopes.proofs.attributes.+and_left.Goals as goal

pub returns-then-is_settled : goal.returns-then-is_settled
returns-then-is_settled t c =
    let can = admitted c.args.sorts in
    let keep = λ (a : AttributePlace). is_among c.args.family.now a.entity in
    let rest = filter keep (drop c.args.count c.args.left.now) in
    let front = c.in_ok-seen.ensures ∙ ap (λ (ps : List AttributePlace). seen_after can c.args.before (filter keep ps)) c.split_at.ensures.front in
    sym (settled can c.in_ok-seen.seen rest (sym c.is_settled.ensures ∙ c.if-is_settled.true))
    ∙ ap (λ (s : Seen). seen_after can s rest) front
    ∙ seen_split can c.args.before keep c.args.left.now c.args.count

pub returns-in-Some : goal.returns-in-Some
returns-in-Some t c =
    let can = admitted c.args.sorts in
    let entity_of = λ (a : AttributePlace). a.entity in
    let exact = rw c.in-Some.is at c.in_ok-members.ensures.exact in
    let ascending = rw c.in-Some.is at c.in_ok-members.ensures.ascending in
    let order = c.requires.ascending (search (rules, c.if-is_ascending.true)) in
    c.and_of_each.ensures
    ∙ rw c.deref.ensures.value (ap (seen_after can c.args.before) (of_members entity_of c.in-Some.members.items c.args.family.now c.args.left.now exact ascending order))

pub returns : goal.returns
returns t c =
    let can = admitted c.args.sorts in
    let keep = λ (a : AttributePlace). is_among c.args.family.now a.entity in
    let rest = filter keep (drop c.args.count c.args.left.now) in
    let front = c.in_ok-seen.ensures ∙ ap (λ (ps : List AttributePlace). seen_after can c.args.before (filter keep ps)) c.split_at.ensures.front in
    let whole = ap (λ (ps : List AttributePlace). seen_after can c.in_ok-seen.seen (filter keep ps)) c.split_at.ensures.back
    ∙ ap (λ (s : Seen). seen_after can s rest) front
    ∙ seen_split can c.args.before keep c.args.left.now c.args.count in
    subst (λ (s : Seen). IfOk c.and_left.result (λ found. found ≡ s)) whole c.and_left.ensures
