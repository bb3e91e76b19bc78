use Rattle.std.proofs.Common.{ℕ, List, sym, subst}
use Rattle.graphs.specs.Graphs.{IsAcyclic}
use Rattle.ex_loaded.proofs.loaded.dictionary_of.Goals as goal

pub of-requires-clause-acyclic : goal.of-requires-clause-acyclic
of-requires-clause-acyclic c = subst (λ (graph : List (List ℕ)). IsAcyclic graph) (sym c.supertypes.ensures) c.proved-2.ensures.acyclic
