-- The text of rows is its first line, the pieces of its rows, and what stands around these.
use Rattle.std.proofs.Common.{◌≡◌, ◌<◌, ◌≤◌, ◌+◌, suc, ℕ, Bool, true, false, List, [], ◌∷◌, ◌++◌, map, drop, length, get_or, codes, refl, sym, ap, ◌∙◌, append_assoc, arith}
use Rattle.std.proofs.lemmas.List.{drop_all}
use Rattle.std.proofs.Math.Seq.{drop-cons}
use Rattle.json.specs.Print.{escape_byte}
use Rattle.serde_json.specs.Data.{Data, array, object, no_members, member}
use Rattle.serde_json.specs.View.{items_of}
use Rattle.serde_json.specs.Written.{comma_if, compact_text, items_text}
use Rattle.rp_rows.specs.declared.rows.ModelContent.{ModelContent}
use Rattle.rp_rows.specs.Rows.{Model, GroupRow}
use Rattle.rp_snapshot_rows.specs.Written.{group_data}
use Rattle.rp_snapshot_texts.specs.Texts.{first_line, model_by, rows_text}
use Rattle.rp_snapshot_texts.specs.Pieces.{piece, pieces, before_groups, between, foot, group_pieces, model_pieces}

items_text-pieces : (later : Bool) (ds : List Data) → items_text later (items_of ds) ≡ pieces later ds ++ 93 ∷ []
items_text-pieces later [] = refl
items_text-pieces later (d ∷ ds) =
    ap (λ l. comma_if later ++ (compact_text d ++ l)) (items_text-pieces true ds)
    ∙ sym (append_assoc (comma_if later) (compact_text d) (pieces true ds ++ 93 ∷ []))
    ∙ sym (append_assoc (piece later d) (pieces true ds) (93 ∷ []))

-- what stands behind the bracket that closes the groups
abbrev models_text : List Data → List ℕ
models_text ms = 44 ∷ (codes "\"models\":[" ++ (items_text false (items_of ms) ++ 125 ∷ []))

models_cut : (ms : List Data) → 93 ∷ models_text ms ≡ between ++ (pieces false ms ++ foot)
models_cut ms = ap (λ l. between ++ l) (ap (λ l. l ++ 125 ∷ []) (items_text-pieces false ms) ∙ append_assoc (pieces false ms) (93 ∷ []) (125 ∷ []))

object_cut : (gs ms : List Data) → compact_text (object (member (codes "groups") (array (items_of gs)) (member (codes "models") (array (items_of ms)) no_members)))
    ≡ before_groups ++ (items_text false (items_of gs) ++ models_text ms)
unfolding escape_byte
object_cut gs ms = refl

body_cut : (gs ms : List Data) → compact_text (object (member (codes "groups") (array (items_of gs)) (member (codes "models") (array (items_of ms)) no_members)))
    ≡ before_groups ++ (pieces false gs ++ (between ++ (pieces false ms ++ foot)))
body_cut gs ms =
    object_cut gs ms
    ∙ ap (λ l. before_groups ++ (l ++ models_text ms)) (items_text-pieces false gs)
    ∙ ap (λ l. before_groups ++ l) (append_assoc (pieces false gs) (93 ∷ []) (models_text ms) ∙ ap (λ l. pieces false gs ++ l) (models_cut ms))

pub in_pieces : (version : ℕ) (file : ModelContent → List ℕ) (groups : List GroupRow) (models : List Model) → rows_text version file groups models
    ≡ first_line version ++ (before_groups ++ (group_pieces groups ++ (between ++ (model_pieces file models ++ foot))))
in_pieces version file groups models = ap (λ l. first_line version ++ l) (body_cut (map group_data groups) (map (model_by file) models))

-- the same in three parts
pub in_parts : (version : ℕ) (file : ModelContent → List ℕ) (groups : List GroupRow) (models : List Model) → rows_text version file groups models
    ≡ first_line version ++ ((before_groups ++ group_pieces groups) ++ (between ++ (model_pieces file models ++ foot)))
in_parts version file groups models = in_pieces version file groups models ∙ ap (λ l. first_line version ++ l) (sym (append_assoc before_groups (group_pieces groups) (between ++ (model_pieces file models ++ foot))))

-- ---- the pieces from a row on

next_row : {X : Type 0} (xs : List X) (i : ℕ) (x : X) → i < length xs → x ≡ get_or xs i x → drop i xs ≡ x ∷ drop (i + 1) xs
next_row xs i x within is =
    let same : suc i ≡ i + 1 = omega arith in
    drop-cons xs i x within ∙ ap (λ y. y ∷ drop (suc i) xs) (sym is) ∙ ap (λ n. x ∷ drop n xs) same

pub at_row : {X : Type 0} (make : X → Data) (later : Bool) (rows : List X) (i : ℕ) (x : X) → i < length rows → get_or rows i x ≡ x
    → pieces later (map make (drop i rows)) ≡ piece later (make x) ++ pieces true (map make (drop (i + 1) rows))
at_row make later rows i x within is = ap (λ l. pieces later (map make l)) (next_row rows i x within (sym is))

pub at_end : {X : Type 0} (make : X → Data) (later : Bool) (rows : List X) (i : ℕ) → length rows ≤ i → pieces later (map make (drop i rows)) ≡ []
at_end make later rows i all = ap (λ l. pieces later (map make l)) (drop_all i rows all)
