use denote.Param.Weighed.{most}
use Rattle.std.proofs.Common.{◌≡◌, ◌+◌, ◌*◌, max, drop}
use Rattle.std.specs.List.{list_all}
use Rattle.rp_numbers.specs.Logical.{conjunction}
use Rattle.rp_operations.specs.Equality.{equal_in_places, occurrences, occurs_equally}
use Rattle.rp_operations.specs.Relations.{equality_by}
use Rattle.rp_value.proofs.value.Value.TheLaws as v
use Rattle.rp_operations.proofs.equality.+equality.Given as goal

abbrev pub invariant-equal_in_places-places : goal.invariant-equal_in_places-places
invariant-equal_in_places-places l = conjunction l.all (equal_in_places (equality_by l.relation) (drop l.place l.xs) (drop l.place l.ys)) ≡ equal_in_places (equality_by l.relation) l.xs l.ys

abbrev pub invariant-occur_equally-loop-value : goal.invariant-occur_equally-loop-value
invariant-occur_equally-loop-value l = list_all (occurs_equally (equality_by l.relation) l.xs l.ys) (drop l.value-index l.values) ≡ list_all (occurs_equally (equality_by l.relation) l.xs l.ys) l.values

abbrev pub invariant-occurrences-values : goal.invariant-occurrences-values
invariant-occurrences-values l = l.count + occurrences (equality_by l.relation) l.value (drop l.other-index l.values) ≡ occurrences (equality_by l.relation) l.value l.values

-- by the depth of the values, where what takes the elements of two stands above what takes some of them, and that above one
abbrev pub decreases-equality : goal.decreases-equality
decreases-equality l = 6 * max (v.the_size l.x.now) (v.the_size l.y.now)

abbrev pub decreases-equal_elements : goal.decreases-equal_elements
decreases-equal_elements l = 6 * max (most v.the_size l.xs.now) (most v.the_size l.ys.now) + 5

abbrev pub decreases-equal_in_places : goal.decreases-equal_in_places
decreases-equal_in_places l = 6 * max (most v.the_size l.xs.now) (most v.the_size l.ys.now) + 3

abbrev pub decreases-occur_equally : goal.decreases-occur_equally
decreases-occur_equally l = 6 * max (most v.the_size l.values.now) (max (most v.the_size l.xs.now) (most v.the_size l.ys.now)) + 4

abbrev pub decreases-occurs_equally : goal.decreases-occurs_equally
decreases-occurs_equally l = 6 * max (v.the_size l.value.now) (max (most v.the_size l.xs.now) (most v.the_size l.ys.now)) + 3

abbrev pub decreases-occurrences : goal.decreases-occurrences
decreases-occurrences l = 6 * max (v.the_size l.value.now) (most v.the_size l.values.now) + 2
