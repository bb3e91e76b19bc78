-- Lists that are read one item after another.
use Rattle.std.proofs.Common.{◌≡◌, List, [], ◌∷◌, ◌++◌, Some, None, sym, ap, ◌∙◌, append_assoc, append-nil}
use Rattle.std.specs.List.{AllByRecursion, flat_map}
use Rattle.json.specs.Token.{Token, end_array}
use Rattle.json.specs.Json.{after_end_array}
use Rattle.rp_json.specs.Tokens.{listed}

module _ {X : Type 0} (each : X → List Token) where
  -- these were read of all, and the tokens of the others come next
  abbrev pub AreLeft : List X → List X → List Token → List Token → Type 0
  AreLeft all read now rest = (left : List X) × (all ≡ read ++ left) × (now ≡ listed each left ++ rest)

  -- what was read so far, whatever list it was
  abbrev pub ReadsOn : List Token → List X → List Token → Type 0
  ReadsOn start read now = (all : List X) (rest : List Token) → start ≡ listed each all ++ rest → AreLeft all read now rest

  -- one more is there
  abbrev pub IsNext : List X → List X → List Token → List Token → Type 0
  IsNext all read now rest = (x : X) × (xs : List X) × (all ≡ read ++ x ∷ xs) × (now ≡ each x ++ (listed each xs ++ rest))

  cut : (x : X) (xs : List X) (rest : List Token) → listed each (x ∷ xs) ++ rest ≡ each x ++ (listed each xs ++ rest)
  cut x xs rest = ap (λ l. l ++ rest) (append_assoc (each x) (flat_map each xs) (end_array ∷ [])) ∙ append_assoc (each x) (listed each xs) rest

  module _ (opens : (x : X) (ts : List Token) → after_end_array (each x ++ ts) ≡ None) where
    pub at_last : (all read : List X) (now rest new : List Token) → AreLeft all read now rest → after_end_array now ≡ Some new → (read ≡ all) × (new ≡ rest)
    at_last all read now rest new ([], is, here) closed =
        let same : Some rest ≡ Some new = sym (ap after_end_array here) ∙ closed in
        (sym (is ∙ append-nil read), cc)
    at_last all read now rest new (x ∷ xs, is, here) closed =
        let none : None ≡ Some new = sym (ap after_end_array (here ∙ cut x xs rest) ∙ opens x (listed each xs ++ rest)) ∙ closed in
        absurd (cc)

    pub at_next : (all read : List X) (now rest : List Token) → AreLeft all read now rest → after_end_array now ≡ None → IsNext all read now rest
    at_next all read now rest ([], is, here) none =
        let some : Some rest ≡ None = sym (ap after_end_array here) ∙ none in
        absurd (cc)
    at_next all read now rest (x ∷ xs, is, here) none = (x, xs, is, here ∙ cut x xs rest)

  pub read_one : (all read : List X) (now rest new : List Token) (y : X) (next : IsNext all read now rest) → (y ≡ next.0) × (new ≡ listed each next.1 ++ rest) → AreLeft all (read ++ y ∷ []) new rest
  read_one all read now rest new y next is =
      (next.1, next.2 ∙ sym (append_assoc read (y ∷ []) next.1 ∙ ap (λ z. read ++ z ∷ next.1) is.0), is.1)

pub there : {X : Type 0} (P : X → Type 0) (xs : List X) (y : X) (ys : List X) → AllByRecursion P (xs ++ y ∷ ys) → P y
there P [] y ys all = all.0
there P (x ∷ xs) y ys all = there P xs y ys all.1
