use Rattle.std.proofs.Common.{◌≡◌, ◌++◌, drop}
use Rattle.rp_faults.specs.Declarations.{all_now, redeclared_types}
use Rattle.rp_faults.proofs.declared.push_types.Given as goal

abbrev pub invariant-loop-redeclaration : goal.invariant-loop-redeclaration
invariant-loop-redeclaration l =
    all_now l.found.items ++ redeclared_types l.attribute (drop l.redeclaration-index l.redeclarations) ≡ all_now l.fn.found.items ++ redeclared_types l.attribute l.redeclarations
