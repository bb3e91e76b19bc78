use Rattle.std.proofs.Common.{sym, ◌∙◌, ap, arith}
use Rattle.ex_named.specs.declared.reference.EnumerationItem.{EnumerationItem}
use Rattle.ex_named.specs.Scopes.{first}
use Rattle.ex_scopes.proofs.Lists.{first_found, no_first, first_at}
use Rattle.ex_scopes.proofs.items.first_of_type.Goals as goal

pub returns-in-empty : goal.returns-in-empty
returns-in-empty c = sym (no_first c.run_of.result.now (omega (arith, c.in-empty.len_below))) ∙ ap first c.run_of.ensures
    ∙ first_found (λ (i : EnumerationItem). i.type_number) c.args.number c.args.items.now

pub returns-in-len1-up : goal.returns-in-len1-up
returns-in-len1-up c = sym (first_at c.run_of.result.now _ (omega (arith, c.in-len1-up.len_at_least))) ∙ ap first c.run_of.ensures
    ∙ first_found (λ (i : EnumerationItem). i.type_number) c.args.number c.args.items.now
