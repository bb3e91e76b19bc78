use Rattle.std.proofs.Common.{◌≡◌, false, ◌&&◌, nat_lt, length, sym, subst, arith}
use Rattle.ex_named.specs.declared.declaration.NamedRedeclaration.{NamedRedeclaration}
use Rattle.ex_named.specs.Outcomes.{Binds, Outcome}
use Rattle.graphs.specs.Graphs.{is_ancestor}
use Rattle.ex_scopes.specs.Sorts.{admitted}
use Rattle.ex_bind_entities.proofs.Inherited.{redeclaration_refused}
use Rattle.ex_bind_entities.proofs.redeclarations.redeclaration.Goals as goal

pub returns-then-not-branch : goal.returns-then-not-branch
returns-then-not-branch c =
    let graph = c.args.context.now.supertypes.now in
    let none : (nat_lt c.in_ok-entity.entity (length graph) && is_ancestor graph c.args.context.now.entity c.in_ok-entity.entity) ≡ false = grind arith in
    let P : Outcome NamedRedeclaration → Type 0 = λ o. Binds c.refused.result o in
    subst P (sym (redeclaration_refused c.args.context.now.declarations.now graph (admitted c.args.sorts) c.args.context.now.entity c.args.inherited.now c.in_ok-entity.entity none c.in_ok-entity.ensures)) c.refused.ensures
