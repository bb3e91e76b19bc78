use Rattle.std.proofs.Common.{◌≡◌, ℕ, Bor, List, take, false}
use Rattle.std.specs.Cmp.Lexicographic.{slice_cmp}
use Rattle.std.specs.Ordering.{nat_cmp}
use Rattle.std.specs.BTreeSet as sorted
use Rattle.rp_plain.specs.Meaning.{has_text}
use Rattle.rp_plain.specs.Opening.{has_twice}
use Rattle.rp_core.proofs.opening.has_twice.Given as goal

abbrev pub invariant-loop-text : goal.invariant-loop-text
invariant-loop-text l =
    record {
      known : (q : Bor (List ℕ)) → sorted.contains (λ x y. slice_cmp nat_cmp x.now y.now) l.before q ≡ has_text (take l.text-index l.texts) q.now;
      once : has_twice (take l.text-index l.texts) ≡ false;
    }
