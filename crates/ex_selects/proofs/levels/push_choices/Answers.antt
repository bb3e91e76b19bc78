use Rattle.std.proofs.Common.{◌<◌, ◌++◌, Some, length, take, get_or, subst}
use Rattle.std.specs.List.{filter_map}
use Rattle.std.specs.Option.{option_to_list}
use Rattle.ex_selects.specs.Levels.{aggregate_at, chosen_aggregate, IsGroup}
use Rattle.ex_selects.proofs.Groups.{choices_more, keeps_both}
use Rattle.ex_selects.proofs.levels.push_choices.Goals as goal

pub loop-number-preserved : goal.loop-number-preserved
loop-number-preserved c =
    let types = c.args.types.now in
    let ks = c.args.numbers.now in
    let i = c.loop-number.number-index in
    let within : i < length ks = c.loop-number-test.true in
    let new = c.push_candidate.new.targets in
    let group = c.push_candidate.new.group in
    record {
      kept = keeps_both c.args.targets.now c.loop-number.targets new c.loop-number.invariant.kept c.in_ok-push_candidate.ensures.kept;
      more = λ aggregates is.
          let before = aggregates ++ filter_map (chosen_aggregate types) (take i ks) in
          let pushed = c.in_ok-push_candidate.ensures.more before (c.loop-number.invariant.more aggregates is) in
          choices_more types new group aggregates ks i within
          (subst (λ b. IsGroup new group (before ++ option_to_list (aggregate_at types b (Some (get_or ks i 0))))) c.base_of.ensures pushed);
    }
