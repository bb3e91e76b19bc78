-- The tokens of two lists.
use Rattle.std.proofs.Common.{◌≡◌, List, [], ◌∷◌, ◌++◌, ap, sym, ◌∙◌, append_assoc}
use Rattle.json.specs.Token.{Token}

-- what stands between the brackets of two objects: a list, a key and a list
pub two_lists : (first second : List Token) (between end : Token) → (first ++ between ∷ second) ++ end ∷ end ∷ [] ≡ (first ++ between ∷ (second ++ end ∷ [])) ++ end ∷ []
two_lists first second between end =
    append_assoc first (between ∷ second) (end ∷ end ∷ []) ∙ ap (λ ts. first ++ between ∷ ts) (sym (append_assoc second (end ∷ []) (end ∷ [])))
    ∙ sym (append_assoc first (between ∷ (second ++ end ∷ [])) (end ∷ []))
