use Rattle.std.proofs.Common.{◌≡◌, true, sym, ◌∙◌, subst}
use Rattle.std.specs.List.{AllByRecursion}
use Rattle.std.proofs.lemmas.List.{take_all}
use Rattle.rp_listers.specs.Kept.{number_of, tells_at, tells}
use Rattle.rp_listers.proofs.Told.{told_next}
use Rattle.rp_listers.proofs.listers.Listers.list.Goals as goal

pub returns-in_err-add-clause-kept : goal.returns-in_err-add-clause-kept
returns-in_err-add-clause-kept c = λ k m was. c.add.ensures.kept k (number_of m) (c.loop-model.invariant.kept k m was)

pub loop-model-preserved : goal.loop-model-preserved
loop-model-preserved c =
    let g = c.args.group.now in
    let m = c.model-item.result in
    let told : tells g m c.add.new.self ≡ true = (λ i. tells_at (sym c.in_ok-lister.ensures i) (sym c.number_of.ensures i) c.add.new.self) ∙ c.in_ok-add.ensures.added in
    record {
      kept = λ k j was. c.add.ensures.kept k (number_of j) (c.loop-model.invariant.kept k j was);
      told = told_next g c.args.models.now c.loop-model.model-index m c.loop-model.self c.add.new.self c.add.ensures.kept c.loop-model-test.true c.model-item.is told c.loop-model.invariant.told;
    }

pub returns-clause-told : goal.returns-clause-told
returns-clause-told c =
    subst (AllByRecursion (λ m. tells c.args.group.now m c.loop-model.self ≡ true)) (take_all c.loop-model.model-index c.args.models.now c.loop-model-test.false) c.loop-model.invariant.told
