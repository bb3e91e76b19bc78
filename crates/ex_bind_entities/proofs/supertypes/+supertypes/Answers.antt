use Rattle.std.proofs.Common.{rules}
use Rattle.ex_bind_entities.proofs.Constraints.{one_of, and, and_or}
use Rattle.ex_bind_entities.proofs.supertypes.+supertypes.Goals as goal

pub supertype-returns-in_err-parts-in-OneOf : goal.supertype-returns-in_err-parts-in-OneOf
supertype-returns-in_err-parts-in-OneOf t c = rw (one_of c.args.declarations.now c.args.tree.now c.in-OneOf.parts c.in-OneOf.is) (search rules)

pub supertype-returns-in_ok-parts-in-OneOf : goal.supertype-returns-in_ok-parts-in-OneOf
supertype-returns-in_ok-parts-in-OneOf t c = rw (one_of c.args.declarations.now c.args.tree.now c.in-OneOf.parts c.in-OneOf.is) (search rules)

pub supertype-returns-in_err-parts-in-And : goal.supertype-returns-in_err-parts-in-And
supertype-returns-in_err-parts-in-And t c = rw (and c.args.declarations.now c.args.tree.now c.in-And.parts c.in-And.is) (search rules)

pub supertype-returns-in_ok-parts-in-And : goal.supertype-returns-in_ok-parts-in-And
supertype-returns-in_ok-parts-in-And t c = rw (and c.args.declarations.now c.args.tree.now c.in-And.parts c.in-And.is) (search rules)

pub supertype-returns-in_err-parts-in-AndOr : goal.supertype-returns-in_err-parts-in-AndOr
supertype-returns-in_err-parts-in-AndOr t c = rw (and_or c.args.declarations.now c.args.tree.now c.in-AndOr.parts c.in-AndOr.is) (search rules)

pub supertype-returns-in_ok-parts-in-AndOr : goal.supertype-returns-in_ok-parts-in-AndOr
supertype-returns-in_ok-parts-in-AndOr t c = rw (and_or c.args.declarations.now c.args.tree.now c.in-AndOr.parts c.in-AndOr.is) (search rules)
