use Rattle.std.proofs.Common.{sym, arith}
use Rattle.rp_delivery.proofs.PutLemmas.{name_there, name_past}
use Rattle.rp_delivery.proofs.delivering.name_at.Goals as goal

pub returns-in-Some : goal.returns-in-Some
returns-in-Some c =
    let found = c.in-Some.ensures.lookup in
    rw (c.name.ensures, c.checked.ensures) (sym (name_there c.args.schemas.now c.args.place c.in-Some.schema.now (grind (arith, found.0)) found.1))

pub returns-in-None : goal.returns-in-None
returns-in-None c = sym (name_past c.args.schemas.now c.args.place c.in-None.ensures.lookup.3)
