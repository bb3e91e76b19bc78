use Rattle.std.proofs.Common.{◌≡◌, ◌++◌, take}
use Rattle.std.specs.List.{flat_map}
use Rattle.ex_check.specs.Check as check
use Rattle.ex_check.specs.Explained as spec
use Rattle.ex_check.proofs.explain.push_explained.Given as goal

abbrev pub invariant-loop-at : goal.invariant-loop-at
invariant-loop-at l =
    record {
      position : l.position ≡ check.position l.text l.position.at;
      told : l.told.items ≡ l.initial.told.items ++ flat_map (spec.explained_warning l.text) (take l.at-index l.warnings);
    }
