use Rattle.std.proofs.Common.{◌∙◌, ap}
use Rattle.rp_domain.specs.Rows.{uses_in}
use Rattle.rp_domain.proofs.Uses.{uses-in}
use Rattle.rp_domain.proofs.users.put_instance.Goals as goal

pub returns : goal.returns
returns c =
    let same = ap (uses_in c.args.place) c.uses.ensures ∙ uses-in c.args.place c.args.instance.now in
    rw same at c.put_attributes.ensures
