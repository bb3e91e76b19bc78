use Rattle.std.proofs.Common.{◌≡◌, ◌++◌, ◌∷◌, [], length, arith}
use Rattle.std.proofs.lemmas.Grind.{common_steps}
use Rattle.ex_selects.proofs.Groups.{keeps_push, pushed_there}
use Rattle.ex_selects.proofs.levels.Distinct.push.Goals as goal

pub returns-clause-kept : goal.returns-clause-kept
returns-clause-kept c =
    let pushed : c.push.new.self.items ≡ c.args.self.now ++ c.args.target ∷ [] = grind (arith, common_steps) in
    keeps_push c.args.self.now c.push.new.self.items c.args.target pushed

pub returns-clause-there : goal.returns-clause-there
returns-clause-there c =
    let pushed : c.push.new.self.items ≡ c.args.self.now ++ c.args.target ∷ [] = grind (arith, common_steps) in
    let last : c.len-place.result ≡ length c.args.self.now = grind (arith, common_steps) in
    rw last (pushed_there c.args.self.now c.push.new.self.items c.args.target pushed)
