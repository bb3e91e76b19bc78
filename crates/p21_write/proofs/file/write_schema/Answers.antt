use Rattle.p21_escapes.specs.Encoding.{encoded}
use Rattle.p21_write.proofs.Written.{schema_written}
use Rattle.p21_write.proofs.file.write_schema.Goals as goal

pub returns : goal.returns
returns c =
    let written = schema_written c.args.out.now c.push_str.new.self c.write_string.new.out (encoded c.args.name.now) c.in_ok-push_str.ensures c.in_ok-write_string.ensures in
    rw (← written) c.push_str-2.ensures
