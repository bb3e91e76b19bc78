use Rattle.std.proofs.Common.{◌≡◌, ◌++◌, ℕ, List, Bool, not, filter, drop}
use Rattle.ex_named.specs.declared.reference.AttributePlace.{AttributePlace}
use Rattle.plain_data.specs.Numbers.{is_among}
use Rattle.rp_meaning.specs.CompiledExpressions as spec
use Rattle.rp_compile_trees.proofs.leaves.nearest_first.Given as goal

abbrev is_near : List ℕ → AttributePlace → Bool
is_near near p = is_among near p.entity

abbrev is_far : List ℕ → AttributePlace → Bool
is_far near p = not (is_among near p.entity)

abbrev pub invariant-loop-place : goal.invariant-loop-place
invariant-loop-place l =
    (l.nearest ++ filter (is_near (spec.near l.schema.known.attributes.supertypes l.kinds)) (drop l.place-index l.places) ≡ filter (is_near (spec.near l.schema.known.attributes.supertypes l.kinds)) l.places)
    × (l.others ++ filter (is_far (spec.near l.schema.known.attributes.supertypes l.kinds)) (drop l.place-index l.places) ≡ filter (is_far (spec.near l.schema.known.attributes.supertypes l.kinds)) l.places)
