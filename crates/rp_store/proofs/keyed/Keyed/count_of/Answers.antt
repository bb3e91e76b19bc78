use Rattle.std.proofs.Common.{arith}
use Rattle.rp_store.proofs.Counting.{up_to_owner}
use Rattle.rp_store.proofs.keyed.Keyed.count_of.Goals as goal

pub overflow_sub-result : goal.overflow_sub-result
overflow_sub-result g c =
    let sum = up_to_owner c.args.owner.now c.args.self.now.entries in
    omega (arith, c.last_place.ensures, c.first_place.ensures)

pub returns : goal.returns
returns g c =
    let sum = up_to_owner c.args.owner.now c.args.self.now.entries in
    omega (arith, c.last_place.ensures, c.first_place.ensures)
