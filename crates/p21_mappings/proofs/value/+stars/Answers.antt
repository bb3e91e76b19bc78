use Rattle.std.proofs.Common.{◌∙◌, ap, sym}
use Rattle.std.specs.List.{list_any}
use Rattle.p21_mappings.specs.Instances as spec
use Rattle.p21_mappings.proofs.References.{stars-list}
use Rattle.p21_mappings.proofs.value.+stars.Goals as goal

pub has_star-returns-in-List : goal.has_star-returns-in-List
has_star-returns-in-List t c =
    c.have_star.ensures ∙ ap (list_any spec.has_star) c.as_slice.ensures ∙ sym (stars-list c.args.value.now c.in-List.values c.in-List.is)
