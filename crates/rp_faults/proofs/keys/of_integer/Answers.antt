use Rattle.std.proofs.Common.{◌≡◌, ◌∙◌, unsigned_abs, rules}
use Rattle.rp_faults.proofs.Sharing.{size-whole}
use Rattle.rp_faults.proofs.keys.of_integer.Goals as goal

pub returns : goal.returns
returns c =
    let size : c.magnitude.result ≡ unsigned_abs c.args.number = search rules in
    (rw size at c.raised.ensures) ∙ size-whole c.args.number
