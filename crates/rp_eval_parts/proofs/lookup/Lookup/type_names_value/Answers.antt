use Rattle.std.proofs.Common.{rules, sym}
use Rattle.rp_meaning.specs.TypeNames.{type_names}
use Rattle.rp_eval_parts.proofs.Found.{names_count}
use Rattle.rp_eval_parts.proofs.lookup.Lookup.type_names_value.Goals as goal

pub returns-in_err-charge : goal.returns-in_err-charge
returns-in_err-charge g c =
    let w = g.W.Setting.world c.args.self.now.world.now in
    let counted = names_count w.schema w.population (type_names w.schema w.population c.args.into.now) c.in_ok-names.names c.in_ok-names.ensures in
    rw (sym counted, sym c.count.ensures) (search rules)

pub returns : goal.returns
returns g c =
    let w = g.W.Setting.world c.args.self.now.world.now in
    let counted = names_count w.schema w.population (type_names w.schema w.population c.args.into.now) c.in_ok-names.names c.in_ok-names.ensures in
    rw (sym counted, sym c.count.ensures, sym c.in_ok-names.ensures) (search rules)
