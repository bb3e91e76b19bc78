use Rattle.rp_index.proofs.indexed.index_with.Goals as goal

pub returns : goal.returns
returns c = λ links covers. c.in_ok-enter.ensures c.args.instances.now links (c.index_without-index.ensures links covers)
