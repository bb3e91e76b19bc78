use Rattle.std.proofs.Common.{arith}
use Rattle.name_tables.proofs.Places.{length-bytes_of}
use Rattle.ex_scopes.proofs.Lists.{position-place_of}
use Rattle.ex_scopes.proofs.scope.Scope.nested_variable.Goals as goal

pub returns-in_err-depth : goal.returns-in_err-depth
returns-in_err-depth c =
    let depth = rw (c.deref.ensures.value, position-place_of c.args.name.now c.self.inside.nested.items) at c.place_among.ensures.place in
    grind (arith, depth)

pub returns : goal.returns
returns c =
    let depth = rw (c.deref.ensures.value, position-place_of c.args.name.now c.self.inside.nested.items) at c.place_among.ensures.place in
    grind (arith, depth, length-bytes_of c.self.inside.nested.items)
