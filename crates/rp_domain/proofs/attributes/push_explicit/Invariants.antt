use Rattle.std.proofs.Common.{◌≡◌, ◌++◌, map}
use Rattle.std.specs.List.{range_with_len}
use Rattle.rp_meaning.specs.Reading as spec
use Rattle.rp_domain.proofs.attributes.push_explicit.Given as goal

abbrev pub invariant-loop-place : goal.invariant-loop-place
invariant-loop-place l = l.found ≡ l.initial.found ++ map (spec.explicit_place l.schema l.entity) (range_with_len 0 l.place)
