-- A text that is compared with bytes piece by piece.
use Rattle.std.proofs.Common.{◌≡◌, ℕ, Bool, true, false, List, ◌++◌, Option, Some, None, MatchOption, bytes_eq, true≢false, subst, sym, ap, ◌∙◌, append_assoc}
use Rattle.std.proofs.lemmas.List.{append_cancel_left}
use Rattle.std.proofs.lemmas.Slice.Eq.{bytes_eq-Decides}
use Rattle.std.specs.Bool.{MatchBool}

-- what is left behind a piece
pub left_behind : (p rest bytes left : List ℕ) → bytes ≡ p ++ left → bytes ≡ p ++ rest → left ≡ rest
left_behind p rest bytes left front is = append_cancel_left p left rest (sym front ∙ is)

-- one piece more
pub passed : (p others left new rest : List ℕ) → left ≡ p ++ new → left ≡ (p ++ others) ++ rest → new ≡ others ++ rest
passed p others left new rest front is = append_cancel_left p new (others ++ rest) (sym front ∙ is ∙ append_assoc p others rest)

pub passed_back : (p others left new rest : List ℕ) → left ≡ p ++ new → new ≡ others ++ rest → left ≡ (p ++ others) ++ rest
passed_back p others left new rest front is = front ∙ ap (λ l. p ++ l) is ∙ sym (append_assoc p others rest)

pub when_none : {X : Type 0} (A : Type 0) (B : X → Type 0) (o : Option X) → o ≡ None → MatchOption o A B → A
when_none A B None e m = m
when_none A B (Some x) e m = absurd (cc)

pub when_some : {X : Type 0} (A : Type 0) (B : X → Type 0) (o : Option X) (x : X) → o ≡ Some x → MatchOption o A B → B x
when_some A B None x e m = absurd (cc)
when_some A B (Some y) x e m = let same : y ≡ x = cc in subst B same m

pub told : (A : Type 0) (b : Bool) (xs ys : List ℕ) → b ≡ bytes_eq xs ys → (xs ≡ ys → A) → (A → xs ≡ ys) → MatchBool b A (A → ⊥)
told A true xs ys e f g = f ((bytes_eq-Decides xs ys).0 (sym e))
told A false xs ys e f g = λ a. true≢false (sym ((bytes_eq-Decides xs ys).1 (g a)) ∙ sym e)
