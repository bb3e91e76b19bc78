use Rattle.std.proofs.Common.{◌≡◌, ◌++◌, OnOk, sym, ◌∙◌, ap, subst}
use Rattle.std.specs.List.{flat_map}
use Rattle.p21_instances.specs.Instances.{references}
use Rattle.p21_mappings.proofs.References.{references-list}
use Rattle.p21_mappings.proofs.referred.+references.Goals as goal

pub put_references-returns-in-List : goal.put_references-returns-in-List
put_references-returns-in-List t c =
    subst (λ ns. OnOk c.put_all_references.result (c.put_all_references.new.found.items ≡ c.args.found.now.items ++ ns))
    (ap (flat_map references) c.as_slice.ensures ∙ sym (references-list c.args.value.now c.in-List.values c.in-List.is))
    c.put_all_references.ensures
