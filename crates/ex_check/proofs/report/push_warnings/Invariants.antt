use Rattle.std.proofs.Common.{◌≡◌, ◌++◌, take, string_bytes}
use Rattle.std.specs.List.{flat_map}
use Rattle.ex_check.specs.Check as spec
use Rattle.ex_check.proofs.report.push_warnings.Given as goal

abbrev pub invariant-loop-at : goal.invariant-loop-at
invariant-loop-at l =
    record {
      position : l.position ≡ spec.position l.text l.position.at;
      told : string_bytes l.told ≡ string_bytes l.initial.told ++ flat_map (spec.warning_at l.text) (take l.at-index l.warnings);
    }
