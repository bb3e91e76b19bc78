use Rattle.std.proofs.Common.{◌≡◌, ◌+◌, map}
use Rattle.std.specs.List.{range_with_len}
use Rattle.rp_value.specs.Blocks.{begun_in}
use Rattle.rp_value.proofs.characters.counted_blocks.Given as goal

abbrev pub invariant-loop-block : goal.invariant-loop-block
invariant-loop-block l = (l.count ≡ begun_in l.text l.block) × (l.starts.items ≡ map (begun_in l.text) (range_with_len 0 (l.block + 1)))
