use Rattle.std.proofs.Common.{◌≡◌, true, sym, ◌∙◌}
use Rattle.rp_listers.specs.Kept.{number_of, tells}
use Rattle.rp_listers.proofs.Told.{all_still}
use Rattle.rp_listers.proofs.listers.Listers.drop_model.Goals as goal

pub returns-clause-own : goal.returns-clause-own
returns-clause-own c =
    let g = c.args.group.now in
    all_still (λ m. tells g m c.args.self.now ≡ true) (λ m. tells g m c.drop_at.new.self ≡ true) c.number_of-number.result (λ m apart. c.drop_at.ensures.numbers g (number_of m) apart)
    c.args.models.now (sym c.has_number.ensures ∙ c.if-has_number.false)
