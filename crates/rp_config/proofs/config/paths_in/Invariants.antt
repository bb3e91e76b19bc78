use Rattle.serde_json.specs.Find.{as_str}
use Rattle.rp_config.proofs.ConfigLemmas.{Found}
use Rattle.rp_config.proofs.config.paths_in.Given as goal

abbrev pub invariant-loop-schema : goal.invariant-loop-schema
invariant-loop-schema l = Found as_str l.schemas l.schema-index l.paths
