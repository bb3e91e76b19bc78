use Rattle.std.proofs.Common.{◌≡◌, ◌+◌, true, false, slice_index, length, length-drop, drop, ap, ◌∙◌, rules, arith}
use Rattle.std.specs.Option.{option_map}
use Rattle.p21_escapes.specs.Digits.{are_four}
use Rattle.p21_escapes.specs.Decoding.{is_end, groups}
use Rattle.p21_escapes.proofs.Spelling.{groups_step, four_there}
use Rattle.p21_escapes.proofs.escape.groups.Goals as goal

pub returns-then-is_end-clause-fits : goal.returns-then-is_end-clause-fits
returns-then-is_end-clause-fits c =
    let whole : length c.after-z.result ≡ length (drop 4 c.args.z.now) = ap length c.after-z.ensures.value in
    (omega arith, omega arith)

pub groups-preserved : goal.groups-preserved
groups-preserved c =
    let z = c.groups.z in
    let goes : is_end (slice_index z 0) (slice_index z 1) (slice_index z 2) (slice_index z 3) ≡ false = search rules in
    let digits : are_four (slice_index z 0) (slice_index z 1) (slice_index z 2) (slice_index z 3) ≡ true = search rules in
    let shorter : length c.after-z-in-groups.result ≡ length (drop 4 z) = ap length c.after-z-in-groups.ensures.value in (
      ap (λ l. option_map (λ k. c.groups.n + 1 + k) (groups l)) c.after-z-in-groups.ensures.value ∙ groups_step c.groups.n z _ goes digits c.groups.invariant.0,
      omega (arith, length-drop 4 z, four_there z digits),
      c.groups.invariant.2,
    )
