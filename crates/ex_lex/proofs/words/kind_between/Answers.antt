use Rattle.std.proofs.lemmas.List.{take-map, drop-map}
use Rattle.ex_lex.proofs.words.kind_between.Goals as goal

pub returns : goal.returns
returns c = rw (drop-map, take-map) c.kind_in.ensures
