use Rattle.std.proofs.Common.{◌≡◌, ◌||◌, ℕ, drop}
use Rattle.std.specs.List.{list_any}
use Rattle.plain_data.specs.Numbers.{is_among}
use Rattle.rp_population.specs.Populations.{links_to}
use Rattle.rp_population.specs.Candidates.{passes_at}
use Rattle.rp_population.proofs.names.insert_each_leading.Given as goal

abbrev pub invariant-loop-place : goal.invariant-loop-place
invariant-loop-place l = (name : ℕ) →
    (is_among l.names.keys name || list_any (passes_at (links_to name l.of) l.links) (drop l.place-index l.candidates))
    ≡ (is_among l.initial.names.keys name || list_any (passes_at (links_to name l.of) l.links) l.candidates)
