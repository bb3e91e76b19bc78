use Rattle.std.proofs.Common.{◌≡◌, ◌++◌, ◌∷◌, [], subst, arith}
use Rattle.std.proofs.lemmas.Grind.{common_steps}
use Rattle.ex_selects.specs.Levels.{IsLevel, last_asking}
use Rattle.ex_selects.proofs.Groups.{levels_more}
use Rattle.ex_selects.proofs.levels.levels_of.Goals as goal

pub loop-preserved : goal.loop-preserved
loop-preserved c =
    let types = c.args.types.now in
    let asking = c.args.asking.now in
    let levels = c.loop.levels.items in
    let level = c.in_ok-level.level in
    let is : IsLevel types (last_asking asking levels) level = subst (λ ls. IsLevel types (last_asking asking ls) level) c.deref.ensures.value c.in_ok-level.ensures in
    let pushed : c.push.new.self.items ≡ levels ++ level ∷ [] = grind (arith, common_steps) in
    rw pushed (levels_more types asking levels level c.loop.invariant is)
