use Rattle.std.proofs.Common.{◌≡◌, drop}
use Rattle.rp_meaning.specs.Populations.{as_read}
use Rattle.rp_eval_parts.specs.Counts.{value_in}
use Rattle.rp_eval_parts.proofs.attributes.value_in.Given as goal

abbrev pub invariant-loop-place : goal.invariant-loop-place
invariant-loop-place l =
    let read = as_read l.differing l.written in
    value_in l.attribute (drop l.place l.attributes) (drop l.place l.written) (drop l.place read) ≡ value_in l.attribute l.attributes l.written read
