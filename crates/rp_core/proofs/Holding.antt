-- A model that is held in both halves, with its grants.
use Rattle.std.proofs.Common.{◌≡◌, List, map, Some, refl}
use Rattle.sorted_tables.specs.Table.{with_row}
use Rattle.rp_rows.specs.declared.rows.Grant.{Grant}
use Rattle.rp_rows.specs.declared.rows.Key.{Key}
use Rattle.rp_rows.specs.declared.rows.ModelContent.{ModelContent}
use Rattle.rp_rows.specs.Rows.{key_cmp}
use Rattle.rp_store.specs.Entries.{entry_key}
use Rattle.rp_store.specs.Models.{Held, model, with_model}
use Rattle.rp_sight.specs.Stored.{joined}
use Rattle.rp_sight.proofs.Joining.{joined-with, same_with}
use Rattle.rp_access.specs.Kept.{Rights}
use Rattle.rp_restore_laws.specs.Restoring.{row_of, restored}

-- these are the grants on the model of a key from now on
abbrev pub granted_at : Key → List Grant → List Rights → List Rights
granted_at k gs es = with_row key_cmp entry_key k (Some (record { key = k; value = gs })) es

-- both halves make the rows with its row, and go on alike
pub held_rows : (k : Key) (h : ModelContent) (gs : List Grant) (ms : List Held) (es : List Rights) → map entry_key ms ≡ map entry_key es → joined (with_model k (Some h) ms) (granted_at k gs es) ≡ restored (row_of k h gs) (joined ms es)
held_rows k h gs ms es same =
    let y : Rights = record { key = k; value = gs } in
    joined-with k (Some (model k h)) (Some y) ms es same refl

pub held_alike : (k : Key) (h : ModelContent) (gs : List Grant) (ms : List Held) (es : List Rights) → map entry_key ms ≡ map entry_key es → map entry_key (with_model k (Some h) ms) ≡ map entry_key (granted_at k gs es)
held_alike k h gs ms es same =
    let y : Rights = record { key = k; value = gs } in
    same_with k (Some (model k h)) (Some y) ms es same refl
