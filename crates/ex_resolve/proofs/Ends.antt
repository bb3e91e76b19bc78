-- Lists whose last item is taken.
use Rattle.std.proofs.Common.{◌≡◌, List, [], ◌∷◌, ◌++◌, append_assoc, Option, Some, None, refl, sym, ◌∙◌, ap}
use Rattle.std.specs.Prelude.{reverse}
use Rattle.std.proofs.lemmas.List.{reverse-append}
use Rattle.std.proofs.lemmas.List.Elements.{filter_map-append}
use Rattle.std.specs.List.{cons_option, filter_map}

in_front : {A : Type 0} (o : Option A) (others : List A) → cons_option o [] ++ others ≡ cons_option o others
in_front None others = refl
in_front (Some a) others = refl

-- what the last item gives stands before what those behind it gave
taken_last : {A B : Type 0} (f : A → Option B) (all xs : List A) (x : A) (ys : List B) → all ≡ xs ++ x ∷ []
    → filter_map f all ++ ys ≡ filter_map f xs ++ cons_option (f x) ys
taken_last f all xs x ys is =
    ap (λ l. filter_map f l ++ ys) is
    ∙ ap (λ l. l ++ ys) (filter_map-append f xs (x ∷ []))
    ∙ append_assoc (filter_map f xs) (cons_option (f x) []) ys
    ∙ ap (λ l. filter_map f xs ++ l) (in_front (f x) ys)

-- what was found, with what the last item gives before it
pub kept : {A B : Type 0} (f : A → Option B) (all others : List A) (x : A) (before now whole : List B) → all ≡ others ++ x ∷ [] → now ≡ cons_option (f x) before
    → filter_map f all ++ before ≡ whole → filter_map f others ++ now ≡ whole
kept f all others x before now whole is put held = ap (λ l. filter_map f others ++ l) put ∙ sym (taken_last f all others x before is) ∙ held

-- what stands last is the first in reverse
pub last_is_first : {A : Type 0} (all others : List A) (x : A) → all ≡ others ++ x ∷ [] → reverse all ≡ x ∷ reverse others
last_is_first all others x is = ap reverse is ∙ reverse-append others (x ∷ [])
