use Rattle.std.proofs.Common.{◌≡◌, ◌++◌, drop}
use Rattle.rp_population.specs.Populations.{population}
use Rattle.rp_group_domain.proofs.models.population_of.Given as goal

abbrev pub invariant-loop-model : goal.invariant-loop-model
invariant-loop-model l = l.found.items ++ population (drop l.model-index l.models) ≡ population l.models
