use Rattle.std.proofs.Common.{◌++◌, ◌∙◌, ap, map}
use Rattle.std.specs.Prelude.{codes}
use Rattle.p21_spelling.specs.Files.{line, entity_text, schema_text}
use Rattle.p21_escapes.specs.Encoding.{encoded}
use Rattle.p21_canonical.specs.Trees.{header_value_tree}
use Rattle.p21_write.proofs.Written.{lines_written}
use Rattle.p21_write.proofs.file.write_header.Goals as goal

pub returns : goal.returns
returns c =
    let header = c.args.header.now in
    let out = c.args.out.now in
    let word = c.write_word.new.out in
    let description = c.write_entity.new.out in
    let written = lines_written out word description c.write_entity-2.new.out c.write_schema.new.out
    (codes "HEADER") (entity_text (codes "FILE_DESCRIPTION") (map header_value_tree header.description)) (entity_text (codes "FILE_NAME") (map header_value_tree header.name))
    (schema_text (encoded c.args.schema.now)) (codes "ENDSEC")
    c.in_ok-write_word.ensures
    (c.in_ok-write_entity.ensures ∙ ap (λ vs. word ++ line (entity_text (codes "FILE_DESCRIPTION") (map header_value_tree vs))) c.as_slice.ensures)
    (c.in_ok-write_entity-2.ensures ∙ ap (λ vs. description ++ line (entity_text (codes "FILE_NAME") (map header_value_tree vs))) c.as_slice-2.ensures)
    c.in_ok-write_schema.ensures in
    rw (← written) c.write_word-2.ensures
