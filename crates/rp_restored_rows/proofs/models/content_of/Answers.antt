use Rattle.std.proofs.Common.{Err, sym, ◌∙◌, ap, subst}
use Rattle.std.specs.Option.{option_copied}
use Rattle.rp_rows.specs.Contents.{link_names}
use Rattle.rp_restored_rows.specs.Models.{Reads}
use Rattle.rp_restored_rows.proofs.ModelRows.{not_read}
use Rattle.rp_restored_rows.proofs.models.content_of.Goals as goal

pub returns-in_err-content : goal.returns-in_err-content
returns-in_err-content c =
    let schema = c.in-Some-schema_named.schema.now in
    let e = c.in_err-content.field-0.0 in
    not_read c.args.schemas.now c.args.partners.now c.args.saved.now c.args.file.now schema (sym c.schema_named.ensures ∙ ap option_copied c.in-Some-schema_named.is) e
    (subst (λ links. Reads schema (link_names links) c.args.file.now (Err e)) c.as_slice.ensures c.in_err-content.ensures) c.from_residual.result c.from_residual.ensures.1
