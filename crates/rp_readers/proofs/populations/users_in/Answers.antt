use Rattle.std.proofs.Common.{ap, ◌∙◌, arith}
use Rattle.std.specs.List.{flat_map}
use Rattle.std.proofs.lemmas.List.{take_all}
use Rattle.rp_population.specs.Populations.{placed_all}
use Rattle.rp_readers.specs.Listed.{counted_of}
use Rattle.rp_readers.proofs.Walking.{told_users, users_walked}
use Rattle.rp_readers.proofs.populations.users_in.Goals as goal

pub returns : goal.returns
returns c =
    let schema = c.args.users.schema in
    let role = c.args.users.role in
    let of = c.args.users.of in
    let ms = c.args.counted.now in
    c.from_vec.ensures
    ∙ c.loop-model.invariant.1
    ∙ ap (flat_map (λ m. told_users schema role of (placed_all (counted_of m)))) (take_all c.loop-model.model-index ms (omega (arith, c.loop-model-test.false)))
    ∙ users_walked schema role of ms
