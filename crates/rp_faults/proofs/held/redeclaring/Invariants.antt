use Rattle.std.proofs.Common.{◌≡◌, drop}
use Rattle.std.specs.List.{flat_map}
use Rattle.ex_named.specs.declared.reference.AttributePlace.{AttributePlace}
use Rattle.rp_meaning.specs.Faults.{redeclared_by}
use Rattle.rp_faults.proofs.held.redeclaring.Given as goal

abbrev pub invariant-loop-place : goal.invariant-loop-place
invariant-loop-place l = (a : AttributePlace) → flat_map (redeclared_by l.schema a) (drop l.place l.entities) ≡ flat_map (redeclared_by l.schema a) l.entities
