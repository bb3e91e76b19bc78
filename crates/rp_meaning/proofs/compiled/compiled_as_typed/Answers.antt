use Rattle.rp_meaning.proofs.CompiledKinds.{expression-same, qualifier-same}
use Rattle.rp_meaning.proofs.compiled.compiled_as_typed.Goals as goal

pub returns : goal.returns
returns c = record {
  expressions = λ schema x. expression-same schema x;
  qualifiers = λ schema x. qualifier-same schema x;
}
