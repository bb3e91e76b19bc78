-- The tokens of a list, one item after another.
use Rattle.std.proofs.lemmas.List.{take_all}
use Rattle.std.proofs.Common.{◌≡◌, ◌≤◌, ℕ, length, take, List, [], ◌∷◌, ◌++◌, map, refl, sym, ap, ◌∙◌, append_assoc}
use Rattle.std.specs.List.{flat_map}
use Rattle.json.specs.Token.{Token, begin_array, end_array}
use Rattle.json.specs.Tree.{items_tokens}
use Rattle.serde_json.specs.Data.{Data}
use Rattle.serde_json.specs.View.{items_of}
use Rattle.serde_json.specs.Written.{items_outline}
use Rattle.rp_json.specs.Tokens.{listed, tokens_of}

pub items_tokens-map : {A : Type 0} (make : A → Data) (xs : List A) → items_tokens (items_outline (items_of (map make xs))) ≡ listed (λ x. tokens_of (make x)) xs
items_tokens-map make [] = refl
items_tokens-map make (x ∷ xs) = ap (λ ts. tokens_of (make x) ++ ts) (items_tokens-map make xs) ∙ sym (append_assoc (tokens_of (make x)) _ _)

-- two writes, one after the other
pub joined : (before first between second after : List Token) → between ≡ before ++ first → after ≡ between ++ second → after ≡ before ++ (first ++ second)
joined before first between second after e f = f ∙ ap (λ ts. ts ++ second) e ∙ append_assoc before first second

-- a list, once its brackets are written
pub bracketed : {A : Type 0} (make : A → Data) (xs : List A) (n : ℕ) (before begun within after : List Token) → begun ≡ before ++ begin_array ∷ []
    → within ≡ begun ++ flat_map (λ x. tokens_of (make x)) (take n xs) → length xs ≤ n → after ≡ within ++ end_array ∷ []
    → after ≡ before ++ begin_array ∷ items_tokens (items_outline (items_of (map make xs)))
bracketed make xs n before begun within after begins holds whole ends =
    let items = flat_map (λ x. tokens_of (make x)) xs in
    let all : within ≡ begun ++ items = holds ∙ ap (λ ys. begun ++ flat_map (λ x. tokens_of (make x)) ys) (take_all n xs whole) in
    joined before (begin_array ∷ []) begun (items ++ end_array ∷ []) after begins (joined begun items within (end_array ∷ []) after all ends)
    ∙ ap (λ ts. before ++ begin_array ∷ ts) (sym (items_tokens-map make xs))
