use Rattle.std.proofs.Common.{◌≡◌, ◌<◌, ◌+◌, ◌++◌, ◌∷◌, [], length, take, sym, ap, ◌∙◌, arith}
use Rattle.std.proofs.lemmas.Grind.{common_steps}
use Rattle.std.proofs.lemmas.List.{take_more}
use Rattle.ex_selects.proofs.Groups.{groups_kept, groups_more}
use Rattle.ex_selects.proofs.levels.level_of.Goals as goal

pub loop-target-preserved : goal.loop-target-preserved
loop-target-preserved c =
    let types = c.args.types.now in
    let ts = c.args.asking.now in
    let i = c.loop-target.target-index in
    let x = c.target-item.result in
    let before = c.loop-target.groups.items in
    let within : i < length ts = c.loop-target-test.true in
    let longer : take (i + 1) ts ≡ take i ts ++ x ∷ [] = take_more ts i x within ∙ ap (λ t. take i ts ++ t ∷ []) (sym c.target-item.is) in
    let pushed : c.push.new.self.items ≡ before ++ c.in_ok-group_of.field-0 ∷ [] = grind (arith, common_steps) in
    rw (longer, pushed) (groups_more types c.group_of.new.targets (take i ts) before x c.in_ok-group_of.field-0
    (groups_kept types c.loop-target.targets c.group_of.new.targets (take i ts) before c.in_ok-group_of.ensures.kept c.loop-target.invariant) c.in_ok-group_of.ensures.group)

pub returns : goal.returns
returns c = grind (arith, common_steps)
