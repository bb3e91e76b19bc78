use Rattle.std.proofs.Common.{◌≡◌, sym, ◌∙◌, ap, subst, OnOk}
use Rattle.std.specs.Prelude.{is_some}
use Rattle.ex_tree.specs.declared.data_type.SimpleType.TheVariants as s
use Rattle.name_tables.specs.Names.{first_in, place_of}
use Rattle.ex_selects.specs.Ends.{Plain}
use Rattle.ex_selects.specs.Items.{has_item}
use Rattle.ex_selects.specs.Seen.{seen}
use Rattle.ex_selects.specs.Takers.{with_taker}
use Rattle.ex_selects.proofs.takers.add.Goals as goal

pub returns-in-Plain-Boolean : goal.returns-in-Plain-Boolean
returns-in-Plain-Boolean c = λ other.
    let field : c.in-Plain-Boolean.field-0 ≡ s.Boolean = rw c.in-Plain-Boolean.is at c.in-Plain-Boolean.field-0-is in
    let base : seen c.args.base.now ≡ Plain s.Boolean = ap seen c.in-Plain-Boolean.is ∙ ap (λ f. Plain f) field in
    subst (λ b. OnOk c.add_boolean.result (first_in other c.add_boolean.new.takers ≡ with_taker b (first_in other c.args.takers.now) c.args.number))
    (ap (has_item c.args.types.now other) (sym base)) (c.add_boolean.ensures other)

pub returns-in-Plain-Logical : goal.returns-in-Plain-Logical
returns-in-Plain-Logical c = λ other.
    let field : c.in-Plain-Logical.field-0 ≡ s.Logical = rw c.in-Plain-Logical.is at c.in-Plain-Logical.field-0-is in
    let base : seen c.args.base.now ≡ Plain s.Logical = ap seen c.in-Plain-Logical.is ∙ ap (λ f. Plain f) field in
    subst (λ b. OnOk c.add_logical.result (first_in other c.add_logical.new.takers ≡ with_taker b (first_in other c.args.takers.now) c.args.number))
    (ap (has_item c.args.types.now other) (sym base)) (c.add_logical.ensures other)

pub returns-in-Enumeration : goal.returns-in-Enumeration
returns-in-Enumeration c = λ other.
    subst (λ b. OnOk c.add_items.result (first_in other c.add_items.new.takers ≡ with_taker b (first_in other c.args.takers.now) c.args.number))
    (ap (λ ns. is_some (place_of other ns)) c.items_of.ensures ∙ ap (has_item c.args.types.now other) (sym (ap seen c.in-Enumeration.is))) (c.add_items.ensures other)
