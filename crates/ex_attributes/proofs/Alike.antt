-- What is found of a name in types that have it alike.
use Rattle.std.proofs.Common.{◌≡◌, ◌<◌, ℕ, zero, suc, Bool, true, false, ◌||◌, List, [], ◌∷◌, ◌++◌, length, refl, sym, ◌∙◌, ap, arith}
use Rattle.std.specs.Cmp.Lexicographic.{bytes_decides}
use Rattle.std.specs.List.{list_any, flat_map}
use Rattle.std.specs.Prelude.{Some}
use Rattle.std.specs.Str.{bytes_eq}
use Rattle.graphs.specs.Graphs.{family}
use Rattle.ex_kinds.specs.Kinds.{Kinds}
use Rattle.ex_renamings.specs.Leading.{is_marked, leading}
use Rattle.ex_kinds.specs.Types.{declared, own, alternative, alternatives, meanings_by, plain}
use Rattle.ex_kinds.specs.declared.kind.ValueKind.{ValueKind}
use Rattle.ex_renamings.proofs.Marks.{leading_at}
use Rattle.ex_attributes.specs.Attributes.{Attributes, found_nothing, found_after, found_at}
use Rattle.ex_attributes.specs.Kept.{found_if, after_own, type_found, IsAlike, IsKept}
use Rattle.ex_attributes.specs.declared.found.Found.{Found}
use Rattle.ex_attributes.specs.declared.kept.Kept.{Kept}

after_both : (schema : Attributes) (name : List ℕ) (found : Found) (first second : Kinds) → found_after schema name found (first ++ second) ≡ found_after schema name (found_after schema name found first) second
after_both schema name found [] second = refl
after_both schema name found (kind ∷ first) second = after_both schema name (found_at schema name found kind.depth kind.sort) first second

module _ (types : List Kinds) (schema : Attributes) (name : List ℕ) (found : Found) where
  -- what one type more gives
  after_one : (before mark : Bool) (m : ℕ) → IsAlike types schema name found m mark → after_own types schema name (found_if before found) m ≡ found_if (before || mark) found
  after_one true mark m alike = alike.1
  after_one false mark m alike = alike.0

  after_all : (marks : List Bool) → ((m : ℕ) → IsAlike types schema name found m (is_marked marks m)) → (before : Bool) (members : List ℕ)
      → found_after schema name (found_if before found) (flat_map (λ m. own (declared types m)) members) ≡ found_if (before || list_any (is_marked marks) members) found
  after_all marks alike true [] = refl
  after_all marks alike false [] = refl
  after_all marks alike before (m ∷ members) =
      after_both schema name (found_if before found) (own (declared types m)) (flat_map (λ m. own (declared types m)) members)
      ∙ ap (λ f. found_after schema name f (flat_map (λ m. own (declared types m)) members)) (after_one before (is_marked marks m) m (alike m))
      ∙ after_all marks alike (before || is_marked marks m) members
      ∙ ap (λ b. found_if b found) (moved before (is_marked marks m) (list_any (is_marked marks) members))
    where
      moved : (a b c : Bool) → ((a || b) || c) ≡ (a || (b || c))
      moved true b c = refl
      moved false b c = refl

  pub found_in_type : (marks : List Bool) → ((m : ℕ) → IsAlike types schema name found m (is_marked marks m)) → (n : ℕ)
      → found_if (is_marked (leading (alternatives types) marks) n) found ≡ type_found types schema name n
  found_in_type marks alike n = ap (λ b. found_if b found) (leading_at (alternatives types) marks n) ∙ sym (after_all marks alike false (family (alternatives types) n))

-- what is kept of a name is what is found of it where one kind stands for a type
pub kept_plainly : (types : List Kinds) (schema : Attributes) (kept : Kept) → IsKept types schema kept → (name : List ℕ) → bytes_eq kept.name name ≡ true
    → (kind : ValueKind) (n : ℕ) → alternative kind ≡ Some n → found_if (is_marked kept.marks.items n) kept.found ≡ found_after schema name found_nothing (plain types (kind ∷ []))
unfolding IsKept plain
kept_plainly types schema kept is name same kind n stands =
    is n
    ∙ ap (λ text. type_found types schema text n) ((bytes_decides kept.name name).0 same)
    ∙ ap (λ kinds. found_after schema name found_nothing kinds) (sym (nil (meanings_by types kind (Some n))))
    ∙ ap (λ o. found_after schema name found_nothing (meanings_by types kind o ++ [])) (sym stands)
  where
    nil : (kinds : Kinds) → kinds ++ [] ≡ kinds
    nil [] = refl
    nil (k ∷ kinds) = ap (λ l. k ∷ l) (nil kinds)

-- one mark more
pub marked_next : (P : ℕ → Bool → Type 0) (marks : List Bool) (mark : Bool) → ((m : ℕ) → m < length marks → P m (is_marked marks m)) → P (length marks) mark
    → (m : ℕ) → m < length (marks ++ mark ∷ []) → P m (is_marked (marks ++ mark ∷ []) m)
marked_next P [] mark before here zero within = here
marked_next P [] mark before here (suc m) within = absurd (omega arith)
marked_next P (x ∷ marks) mark before here zero within = before zero (omega arith)
marked_next P (x ∷ marks) mark before here (suc m) within = marked_next (λ k. P (suc k)) marks mark (λ k less. before (suc k) (omega arith)) here m (omega arith)
