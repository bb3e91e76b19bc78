use Rattle.std.proofs.lemmas.Option.{IfSome_then}
use Rattle.std.proofs.lemmas.Result.{IfOk-weaker}
use Rattle.rp_index.specs.Index.{has}
use Rattle.rp_index.proofs.Candidates.{users_cover}
use Rattle.rp_index.proofs.index.Index.users_of.Goals as goal

pub returns : goal.returns
returns c =
    IfOk-weaker c.ascending_seconds_of.result _ _
    (λ found h. IfSome_then found h (λ users e. λ is links covers. users_cover c.args.names.now.keys users.keys (has c.args.self.now.uses) (e covers.uses_order) is covers.uses))
    c.ascending_seconds_of.ensures
