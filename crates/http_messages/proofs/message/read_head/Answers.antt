use Rattle.std.proofs.Common.{length, take, ap, ◌∙◌, arith}
use Rattle.std.proofs.lemmas.List.{with_items_is}
use Rattle.http_messages.proofs.Parsing.{head_parsed, head_held, none_parsed, may_parsed, never_head_parsed}
use Rattle.http_messages.proofs.message.read_head.Goals as goal

pub returns-clause-head : goal.returns-clause-head
returns-clause-head c =
    let whole = with_items_is c.args.scratch.now.copy c.copy_masked.new.copy (omega (arith, ap length c.deref_mut.ensures.value)) in
    let text = ap (λ l. take (length c.args.cut.now) l) c.deref.ensures.value in
    let same = text ∙ ap (λ l. take (length c.args.cut.now) l) whole ∙ c.copy_masked.ensures in
    let spans = with_items_is c.args.scratch.now.spans c.parse.new.spans (omega (arith, ap length c.deref_mut-2.ensures.value)) in
    head_held c.parse.result c.args.cut.now _ _ c.parse.new.spans _ text spans (head_parsed c.parse.result c.args.cut.now _ c.parse.new.spans same c.parse.ensures.complete)

pub returns-clause-none : goal.returns-clause-none
returns-clause-none c =
    let whole = with_items_is c.args.scratch.now.copy c.copy_masked.new.copy (omega (arith, ap length c.deref_mut.ensures.value)) in
    let text = ap (λ l. take (length c.args.cut.now) l) c.deref.ensures.value in
    let same = text ∙ ap (λ l. take (length c.args.cut.now) l) whole ∙ c.copy_masked.ensures in
    none_parsed c.parse.result c.args.cut.now _ same c.parse.ensures.none

pub returns-clause-may : goal.returns-clause-may
returns-clause-may c =
    let whole = with_items_is c.args.scratch.now.copy c.copy_masked.new.copy (omega (arith, ap length c.deref_mut.ensures.value)) in
    let text = ap (λ l. take (length c.args.cut.now) l) c.deref.ensures.value in
    let same = text ∙ ap (λ l. take (length c.args.cut.now) l) whole ∙ c.copy_masked.ensures in
    may_parsed c.parse.result c.args.cut.now _ same c.parse.ensures.may

pub returns-clause-never : goal.returns-clause-never
returns-clause-never c =
    let whole = with_items_is c.args.scratch.now.copy c.copy_masked.new.copy (omega (arith, ap length c.deref_mut.ensures.value)) in
    let text = ap (λ l. take (length c.args.cut.now) l) c.deref.ensures.value in
    let same = text ∙ ap (λ l. take (length c.args.cut.now) l) whole ∙ c.copy_masked.ensures in
    never_head_parsed c.parse.result c.args.cut.now _ same c.parse.ensures.never
