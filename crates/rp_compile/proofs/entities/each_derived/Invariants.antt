use Rattle.std.proofs.Common.{◌≡◌, drop, ◌++◌}
use Rattle.plain_data.specs.Numbers.{numbered, numbered_from}
use Rattle.rp_compile.specs.Declarations as spec
use Rattle.rp_compile.proofs.entities.each_derived.Given as goal

abbrev pub invariant-loop-place : goal.invariant-loop-place
invariant-loop-place l = l.found ++ numbered_from (spec.derived l.rederived l.entity) l.place (drop l.place l.own) ≡ numbered (spec.derived l.rederived l.entity) l.own
