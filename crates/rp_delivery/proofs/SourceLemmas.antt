-- The schemas in files whose paths are lent, one after another.
use Rattle.std.proofs.Common.{◌≡◌, ◌<◌, ◌+◌, ℕ, List, [], ◌∷◌, ◌++◌, drop, get_or, length, map, Option, Some, None, IfSome, Result, Ok, Err, refl, sym, ap, ◌∙◌, append_assoc, add-one}
use Rattle.std.proofs.Math.Seq.{drop-cons}
use Rattle.ex_types.specs.Checked.{Checked}
use Rattle.rp_files.specs.declared.fault.LoadFault.{LoadFault}
use Rattle.rp_files.specs.Files.{Held}
use Rattle.rp_config.specs.Loading.{and_then, schema_at, schemas_at}

one_before : (found : List Checked) (x : Checked) (o : Result (List Checked) LoadFault) → and_then (and_then o (λ more. Ok (x ∷ more))) (λ more. Ok (found ++ more)) ≡ and_then o (λ more. Ok ((found ++ x ∷ []) ++ more))
one_before found x (Ok xs) = ap Ok (sym (append_assoc found (x ∷ []) xs))
one_before found x (Err e) = refl

module _ {A : Type 0} (path : A → List ℕ) where
  -- the schemas of the paths before i stand in front of those of the others
  abbrev pub Found : Held → List A → ℕ → List Checked → Type 0
  Found held paths i found = schemas_at held (map path paths) ≡ and_then (schemas_at held (map path (drop i paths))) (λ more. Ok (found ++ more))

  -- the schema of the path at i behind them
  pub one_more : (known : Option Held) (paths : List A) (i : ℕ) (d : A) (found : List Checked) (s : Checked) → i < length paths
      → IfSome known (λ held. Found held paths i found) → IfSome known (λ held. schema_at held (path (get_or paths i d)) ≡ Ok s) → IfSome known (λ held. Found held paths (i + 1) (found ++ s ∷ []))
  one_more None paths i d found s within before e = tt
  one_more (Some held) paths i d found s within before e =
      let next : drop i paths ≡ get_or paths i d ∷ drop (i + 1) paths = drop-cons paths i d within ∙ rw add-one refl in
      before ∙ rw (next, e) (one_before found s (schemas_at held (map path (drop (i + 1) paths))))
