use Rattle.rp_listers.proofs.listers.Listers.unlist.Goals as goal

pub loop-model-preserved : goal.loop-model-preserved
loop-model-preserved c = record {
  others = λ k m apart was. c.drop_model.ensures.others k m apart (c.loop-model.invariant.others k m apart was);
  own = λ told. c.drop_model.ensures.own (c.loop-model.invariant.own told);
}
