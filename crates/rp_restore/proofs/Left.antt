-- What is left of the rows, while they are read and held one after another.
use Rattle.std.proofs.Common.{◌≡◌, ℕ, List, [], ◌∷◌, ◌++◌, Some, None, refl, sym, ap, ◌∙◌, subst, append_assoc}
use Rattle.std.specs.List.{flat_map}
use Rattle.json.specs.Token.{Token, end_array}
use Rattle.json.specs.Json.{after_end_array}
use Rattle.rp_rows.specs.declared.rows.ModelContent.{ModelContent}
use Rattle.rp_rows.specs.Rows.{Model, GroupRow}
use Rattle.rp_plain.specs.Plain.{Plain}
use Rattle.rp_restore_laws.specs.Restoring.{with_group, with_model, with_models, with_rows}
use Rattle.rp_restore_laws.specs.Laws.{MayTakeGroup, MayTakeModel, MayTakeModels, MayTakeRows}
use Rattle.rp_json.specs.Tokens.{listed}
use Rattle.rp_restore.specs.Again.{group_tokens, model_tokens}

cut : {X : Type 0} (each : X → List Token) (x : X) (xs : List X) (rest : List Token) → listed each (x ∷ xs) ++ rest ≡ each x ++ (listed each xs ++ rest)
cut each x xs rest = ap (λ l. l ++ rest) (append_assoc (each x) (flat_map each xs) (end_array ∷ [])) ∙ append_assoc (each x) (listed each xs) rest

-- ---- groups

-- these are left; from what is held they and the models make what all make from the start
abbrev pub GroupsLeft : List GroupRow → List Model → Plain → Plain → List Token → List Token → Type 0
GroupsLeft gs ms start held now rest = (left : List GroupRow) × MayTakeRows left ms held × (with_rows left ms held ≡ with_rows gs ms start) × (now ≡ listed group_tokens left ++ rest)

-- so it is, whatever groups they were
abbrev pub GroupsReadOn : List Token → Plain → List Token → Plain → Type 0
GroupsReadOn begun start now held = (gs : List GroupRow) (ms : List Model) (rest : List Token) → MayTakeRows gs ms start → begun ≡ listed group_tokens gs ++ rest → GroupsLeft gs ms start held now rest

-- one more is there
abbrev pub GroupNext : List GroupRow → List Model → Plain → Plain → List Token → List Token → Type 0
GroupNext gs ms start held now rest =
    (g : GroupRow) × (left : List GroupRow) × MayTakeGroup held g × MayTakeRows left ms (with_group g held)
    × (with_rows left ms (with_group g held) ≡ with_rows gs ms start) × (now ≡ group_tokens g ++ (listed group_tokens left ++ rest))

group_opens : (g : GroupRow) (ts : List Token) → after_end_array (group_tokens g ++ ts) ≡ None
group_opens g ts = refl

pub groups_closed : (gs : List GroupRow) (ms : List Model) (start held : Plain) (now rest new : List Token) → GroupsLeft gs ms start held now rest → after_end_array now ≡ Some new → MayTakeModels ms held × (with_models ms held ≡ with_rows gs ms start) × (new ≡ rest)
groups_closed gs ms start held now rest new ([], may, makes, here) closed =
    let same : Some rest ≡ Some new = sym (ap after_end_array here) ∙ closed in
    (may, makes, cc)
groups_closed gs ms start held now rest new (g ∷ left, may, makes, here) closed =
    let none : None ≡ Some new = sym (ap after_end_array (here ∙ cut group_tokens g left rest) ∙ group_opens g (listed group_tokens left ++ rest)) ∙ closed in
    absurd (cc)

pub group_next : (gs : List GroupRow) (ms : List Model) (start held : Plain) (now rest : List Token) → GroupsLeft gs ms start held now rest → after_end_array now ≡ None → GroupNext gs ms start held now rest
group_next gs ms start held now rest ([], may, makes, here) none =
    let some : Some rest ≡ None = sym (ap after_end_array here) ∙ none in
    absurd (cc)
group_next gs ms start held now rest (g ∷ left, may, makes, here) none = (g, left, may.0, may.1, makes, here ∙ cut group_tokens g left rest)

pub group_held : (gs : List GroupRow) (ms : List Model) (start held later : Plain) (now rest new : List Token) (next : GroupNext gs ms start held now rest) → (later ≡ with_group next.0 held) × (new ≡ listed group_tokens next.1 ++ rest) → GroupsLeft gs ms start later new rest
group_held gs ms start held later now rest new next e = (next.1, subst (MayTakeRows next.1 ms) (sym e.0) next.3, ap (with_rows next.1 ms) e.0 ∙ next.4, e.1)

-- ---- models

module _ (file : ModelContent → List ℕ) where
  abbrev pub ModelsLeft : List Model → Plain → Plain → List Token → List Token → Type 0
  ModelsLeft ms start held now rest = (left : List Model) × MayTakeModels left held × (with_models left held ≡ with_models ms start) × (now ≡ listed (model_tokens file) left ++ rest)

  abbrev pub ModelsReadOn : List Token → Plain → List Token → Plain → Type 0
  ModelsReadOn begun start now held = (ms : List Model) (rest : List Token) → MayTakeModels ms start → begun ≡ listed (model_tokens file) ms ++ rest → ModelsLeft ms start held now rest

  abbrev pub ModelNext : List Model → Plain → Plain → List Token → List Token → Type 0
  ModelNext ms start held now rest =
      (m : Model) × (left : List Model) × MayTakeModel held m × MayTakeModels left (with_model m held)
      × (with_models left (with_model m held) ≡ with_models ms start) × (now ≡ model_tokens file m ++ (listed (model_tokens file) left ++ rest))

  model_opens : (m : Model) (ts : List Token) → after_end_array (model_tokens file m ++ ts) ≡ None
  model_opens m ts = refl

  pub models_closed : (ms : List Model) (start held : Plain) (now rest new : List Token) → ModelsLeft ms start held now rest → after_end_array now ≡ Some new → (held ≡ with_models ms start) × (new ≡ rest)
  models_closed ms start held now rest new ([], may, makes, here) closed =
      let same : Some rest ≡ Some new = sym (ap after_end_array here) ∙ closed in
      (makes, cc)
  models_closed ms start held now rest new (m ∷ left, may, makes, here) closed =
      let none : None ≡ Some new = sym (ap after_end_array (here ∙ cut (model_tokens file) m left rest) ∙ model_opens m (listed (model_tokens file) left ++ rest)) ∙ closed in
      absurd (cc)

  pub model_next : (ms : List Model) (start held : Plain) (now rest : List Token) → ModelsLeft ms start held now rest → after_end_array now ≡ None → ModelNext ms start held now rest
  model_next ms start held now rest ([], may, makes, here) none =
      let some : Some rest ≡ None = sym (ap after_end_array here) ∙ none in
      absurd (cc)
  model_next ms start held now rest (m ∷ left, may, makes, here) none = (m, left, may.0, may.1, makes, here ∙ cut (model_tokens file) m left rest)

  pub model_held : (ms : List Model) (start held later : Plain) (now rest new : List Token) (next : ModelNext ms start held now rest) → (later ≡ with_model next.0 held) × (new ≡ listed (model_tokens file) next.1 ++ rest) → ModelsLeft ms start later new rest
  model_held ms start held later now rest new next e = (next.1, subst (MayTakeModels next.1) (sym e.0) next.3, ap (with_models next.1) e.0 ∙ next.4, e.1)
