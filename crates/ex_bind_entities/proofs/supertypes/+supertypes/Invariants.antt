use Rattle.std.proofs.Common.{◌≡◌, [], drop}
use Rattle.ex_named.specs.Outcomes.{each, each_after}
use Rattle.ex_bind_entities.specs.Entities.{supertype}
use Rattle.ex_bind_entities.proofs.supertypes.+supertypes.Given as goal

abbrev pub invariant-supertypes-loop-tree : goal.invariant-supertypes-loop-tree
invariant-supertypes-loop-tree l = each_after (supertype l.declarations []) l.gathered (drop l.tree-index l.trees) ≡ each (supertype l.declarations []) l.trees
