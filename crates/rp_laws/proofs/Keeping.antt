-- Edits keep the order of the rows.
use Rattle.std.proofs.Common.{List, [], ◌∷◌, refl}
use Rattle.std.specs.Prelude.{filter}
use Rattle.sorted_tables.proofs.Ascending.{map_ascends, filter_ascends}
use Rattle.rp_plain.specs.declared.messages.Request.{Request}
use Rattle.rp_rows.specs.Rows.{Text, key_cmp, row_key}
use Rattle.rp_rows.specs.Sight.{sees, shown, sees_group, shown_group}
use Rattle.rp_rows.proofs.Keys.{key_total, altered_ascends}
use Rattle.rp_plain.specs.Plain.{Plain, part}
use Rattle.rp_plain.specs.Edits.{Edit, EditModel, EditGroup, edited_by, changed}
use Rattle.rp_plain.specs.Readers.{asked}
use Rattle.rp_plain.specs.Step.{answer, next}
use Rattle.rp_plain.specs.Valid.{IsOrdered}

pub edited_ordered : (e : Edit) (r : Plain) → IsOrdered r → IsOrdered (edited_by e r)
edited_ordered (EditModel k a) r ordered = record { models = altered_ascends k a r.models ordered.models; groups = ordered.groups }
edited_ordered (EditGroup k a) r ordered = record { models = ordered.models; groups = altered_ascends k a r.groups ordered.groups }

pub changed_ordered : (es : List Edit) (r : Plain) → IsOrdered r → IsOrdered (changed es r)
changed_ordered [] r ordered = ordered
changed_ordered (e ∷ es) r ordered = changed_ordered es (edited_by e r) (edited_ordered e r ordered)

pub next_ordered : (r : Plain) (c : Text) (q : Request) → IsOrdered r → IsOrdered (next r c q)
next_ordered r c q ordered = changed_ordered (answer (asked r c) c q).edits r ordered

pub part_ordered : (r : Plain) (c : Text) → IsOrdered r → IsOrdered (part r c)
part_ordered r c ordered = record {
  models = map_ascends key_cmp row_key key_total (shown r.groups c) (λ m. refl) (filter (sees r.groups c) r.models) (filter_ascends key_cmp row_key key_total (sees r.groups c) r.models ordered.models);
  groups = map_ascends key_cmp row_key key_total (shown_group c) (λ g. refl) (filter (sees_group c) r.groups) (filter_ascends key_cmp row_key key_total (sees_group c) r.groups ordered.groups);
}
