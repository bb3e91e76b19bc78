use Rattle.std.proofs.Common.{◌≤◌, rules, length, ◌∙◌, ap, arith}
use Rattle.std.specs.Prelude.{filter}
use Rattle.std.proofs.lemmas.List.Sorted.{IsPartitionPoint-from_clause}
use Rattle.sorted_tables.proofs.Searching.{point_counts}
use Rattle.rp_store.proofs.Counting.{is_earlier, earlier_splits}
use Rattle.rp_store.proofs.keyed.Keyed.first_place.Goals as goal

pub returns : goal.returns
returns g c =
    let who = c.args.owner.now in
    let ring = c.self.inside.entries in
    let place = c.partition_point.result in
    let within : place ≤ length ring.items = omega (arith, c.partition_point.ensures.bound, ring.ok.0) in
    let point = IsPartitionPoint-from_clause (is_earlier who) ring.items place c.partition_point.ensures.partitioned (earlier_splits who ring.items c.self.invariant) (λ a r f called. search rules) in
    point_counts (is_earlier who) ring.items place within point
    ∙ ap (λ s. length (filter (is_earlier who) s.entries)) c.self.view_is
