use Rattle.std.proofs.Common.{◌≡◌, ◌++◌, ◌∷◌, [], Some, refl, sym, ◌∙◌, ap, arith}
use Rattle.std.proofs.lemmas.Grind.{common_steps}
use Rattle.std.specs.Option.{option_map}
use Rattle.ex_selects.specs.Seen.{seen, seen_target}
use Rattle.ex_selects.specs.Levels.{PossibleAggregate, element}
use Rattle.ex_selects.proofs.Groups.{group_kept, group_more}
use Rattle.ex_selects.proofs.levels.push_candidate.Goals as goal

pub returns-in_ok-push-in-Some-clause-more : goal.returns-in_ok-push-in-Some-clause-more
returns-in_ok-push-in-Some-clause-more c = λ aggregates is.
    let found : element c.args.types.now (seen c.args.base.now) ≡ Some (seen_target c.in-Some.target) =
    sym c.element.ensures ∙ ap (option_map seen_target) c.in-Some.is in
    let one : PossibleAggregate = record { number = c.args.number; target = seen_target c.in-Some.target } in
    let pushed : c.push.new.self ≡ c.args.group.now ++ record { number = c.args.number; place = c.in_ok-place-in-Some.place } ∷ [] = grind (arith, common_steps) in
    rw (found, pushed) (group_more c.put.new.self c.args.group.now aggregates (record { number = c.args.number; place = c.in_ok-place-in-Some.place }) one
    (group_kept c.args.targets.now c.put.new.self c.args.group.now aggregates c.in_ok-place-in-Some.ensures.kept is) refl c.in_ok-place-in-Some.ensures.there)
