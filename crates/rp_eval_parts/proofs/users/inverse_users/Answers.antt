use Rattle.std.proofs.Common.{rules, sym, None}
use Rattle.rp_eval_parts.proofs.Found.{inverse_set, unrepeated}
use Rattle.rp_eval_parts.proofs.users.inverse_users.Goals as goal

pub returns-then-not-any_again : goal.returns-then-not-any_again
returns-then-not-any_again g c =
    let once = sym (unrepeated None c.in_ok-users.users (search rules)) in
    inverse_set (g.W.Setting.world c.args.world.now).population c.args.inverse.now c.args.place c.in_ok-users.users c.in_ok-users.users (search rules) (search rules) once

pub returns : goal.returns
returns g c = inverse_set (g.W.Setting.world c.args.world.now).population c.args.inverse.now c.args.place c.in_ok-users.users c.in_ok-found.found (search rules) (search rules) (search rules)
