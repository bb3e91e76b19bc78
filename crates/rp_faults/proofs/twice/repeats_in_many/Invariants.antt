use Rattle.std.proofs.Common.{◌≡◌, ℕ, [], take, drop}
use Rattle.std.specs.List.{list_any}
use Rattle.std.specs.HashSet.{contains}
use Rattle.std.specs.Prelude.{nat_eq}
use Rattle.rp_faults.specs.Twice.{repeats}
use Rattle.rp_faults.proofs.twice.repeats_in_many.Given as goal

abbrev pub invariant-loop-place : goal.invariant-loop-place
invariant-loop-place l = record {
  same : repeats (take l.place-index l.places) (drop l.place-index l.places) ≡ repeats [] l.places;
  has : (q : ℕ) → contains nat_eq l.before q ≡ list_any (nat_eq q) (take l.place-index l.places);
}
