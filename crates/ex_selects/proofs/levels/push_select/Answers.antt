use Rattle.std.proofs.Common.{◌++◌, subst, sym, OnOk}
use Rattle.std.specs.List.{filter_map}
use Rattle.ex_selects.specs.Levels.{chosen_aggregate, IsGroup}
use Rattle.ex_selects.proofs.Chosen.{asked_kept}
use Rattle.ex_selects.proofs.levels.push_select.Goals as goal

pub returns-in-Some-clause-more : goal.returns-in-Some-clause-more
returns-in-Some-clause-more c = λ aggregates is.
    let types = c.args.types.now in
    let lists = c.in-Some.lists.now in
    let pushed = subst (λ ts. OnOk c.push_choices.result (IsGroup c.push_choices.new.targets c.push_choices.new.group (aggregates ++ filter_map (chosen_aggregate ts) lists)))
    c.types.ensures (c.push_choices.ensures.more aggregates is) in
    subst (λ qs. OnOk c.push_choices.result (IsGroup c.push_choices.new.targets c.push_choices.new.group (aggregates ++ qs)))
    (sym (asked_kept types c.args.number lists c.in-Some.ensures)) pushed
