use Rattle.std.proofs.Common.{◌≡◌, ◌||◌, ℕ, drop}
use Rattle.std.specs.List.{list_any}
use Rattle.plain_data.specs.Numbers.{is_among}
use Rattle.rp_population.specs.Populations.{links_to}
use Rattle.rp_population.proofs.names.insert_all_leading.Given as goal

abbrev pub invariant-loop-link : goal.invariant-loop-link
invariant-loop-link l = (name : ℕ) →
    (is_among l.names.keys name || list_any (links_to name l.of) (drop l.link-index l.links)) ≡ (is_among l.initial.names.keys name || list_any (links_to name l.of) l.links)
