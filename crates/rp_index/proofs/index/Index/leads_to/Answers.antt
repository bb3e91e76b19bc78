use Rattle.std.proofs.lemmas.Option.{IfSome_then}
use Rattle.std.proofs.lemmas.Result.{IfOk-weaker}
use Rattle.plain_data.specs.Numbers.{numbered}
use Rattle.rp_index.specs.Index.{lead, has}
use Rattle.rp_index.proofs.Candidates.{leads_cover}
use Rattle.rp_index.proofs.index.Index.leads_to.Goals as goal

pub returns : goal.returns
returns c =
    IfOk-weaker c.seconds_of.result _ _
    (λ found h. IfSome_then found h (λ places e. λ is links covers. leads_cover c.args.target places.items (has c.args.self.now.leads) (e covers.leads_order) (numbered lead links) covers.leads))
    c.seconds_of.ensures
