use Rattle.std.proofs.Common.{map}
use Rattle.p21_spelling.specs.Values.{header_spelling, listed}
use Rattle.p21_canonical.specs.Trees.{header_value_tree}
use Rattle.p21_write.proofs.Written.{entity_written, map_twice}
use Rattle.p21_write.proofs.file.write_entity.Goals as goal

pub returns : goal.returns
returns c =
    let written = entity_written c.args.out.now c.push_str.new.self c.write_values.new.out c.args.word.now (listed (map (λ v. header_spelling (header_value_tree v)) c.args.values.now))
    c.in_ok-push_str.ensures c.in_ok-write_values.ensures in
    rw (map_twice header_spelling header_value_tree c.args.values.now, ← written) c.push_str-2.ensures
