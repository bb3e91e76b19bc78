use Rattle.std.proofs.Common.{◌≡◌, ◌++◌, drop}
use Rattle.std.specs.List.{flat_map}
use Rattle.plain_data.specs.Numbers.{numbered, numbered_from}
use Rattle.p21_spelling.specs.Instances.{record_text}
use Rattle.p21_canonical.specs.Trees.{own_part, records}
use Rattle.p21_canonical.proofs.instance.write_records.Given as goal

abbrev pub invariant-loop-place : goal.invariant-loop-place
invariant-loop-place l =
    l.out ++ flat_map record_text (records l.schema (numbered_from (own_part l.layout.slots) l.place (drop l.place l.all)) l.left)
    ≡ l.fn.out ++ flat_map record_text (records l.schema (numbered (own_part l.layout.slots) l.all) l.values)
