use Rattle.std.proofs.Common.{◌≤◌, [], length, rules, arith}
use Rattle.rp_delivery.proofs.PutLemmas.{ended, all_put}
use Rattle.rp_delivery.proofs.delivering.put_and_validate.Goals as goal

pub returns-then-not-branch : goal.returns-then-not-branch
returns-then-not-branch g c =
    let xs = c.args.paths.now in
    let i = c.loop-place.place in
    ended (λ path. path.now) (g.D.Folder.files c.args.folder.now) c.args.ground.now.schemas.now c.args.repository.now.content c.loop-place.repository.content c.loop-place.delivered.schema xs i record { ref_ptr = (0, 0); now = [] } c.loop-place-test.true
    c.loop-place.invariant.1 c.deliver_file.new.delivered.reply (c.in_ok-deliver_file.ensures.refused (search rules))

pub returns : goal.returns
returns g c =
    let xs = c.args.paths.now in
    let i = c.loop-place.place in
    let schema = c.loop-place.delivered.schema in
    let past : length xs ≤ i = omega (arith, c.loop-place-test.false) in
    let within : i ≤ length xs = omega (arith, c.loop-place.auto.place-end) in
    all_put (λ path. path.now) (g.D.Folder.files c.args.folder.now) c.args.ground.now.schemas.now c.args.repository.now.content c.loop-place.repository.content schema xs i c.in_ok-delivered.field-0 past within
    c.loop-place.invariant.1 (rw c.name_at-schema.ensures at c.in_ok-delivered.ensures)
