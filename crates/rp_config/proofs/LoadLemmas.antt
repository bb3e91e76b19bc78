-- The schemas in the files of a folder, one after another.
use Rattle.std.proofs.Common.{◌≡◌, ◌<◌, ◌+◌, ℕ, List, [], ◌∷◌, ◌++◌, drop, get_or, length, Option, Some, None, IfSome, Result, Ok, Err, refl, sym, ap, ◌∙◌, append_assoc, add-one}
use Rattle.std.proofs.Math.Seq.{drop-cons}
use Rattle.ex_types.specs.Checked.{Checked}
use Rattle.rp_files.specs.declared.fault.LoadFault.{LoadFault}
use Rattle.rp_files.specs.Files.{Held}
use Rattle.rp_config.specs.Loading.{and_then, schema_at, schemas_at}

-- the schemas of the paths before i stand in front of those of the others
abbrev pub Found : Held → List (List ℕ) → ℕ → List Checked → Type 0
Found held paths i found = schemas_at held paths ≡ and_then (schemas_at held (drop i paths)) (λ more. Ok (found ++ more))

one_before : (found : List Checked) (x : Checked) (o : Result (List Checked) LoadFault) → and_then (and_then o (λ more. Ok (x ∷ more))) (λ more. Ok (found ++ more)) ≡ and_then o (λ more. Ok ((found ++ x ∷ []) ++ more))
one_before found x (Ok xs) = ap Ok (sym (append_assoc found (x ∷ []) xs))
one_before found x (Err e) = refl

-- the schema of the path at i behind them
pub one_more : (known : Option Held) (paths : List (List ℕ)) (i : ℕ) (path : List ℕ) (found : List Checked) (x : Checked) → i < length paths → path ≡ get_or paths i path
    → IfSome known (λ held. Found held paths i found) → IfSome known (λ held. schema_at held path ≡ Ok x) → IfSome known (λ held. Found held paths (i + 1) (found ++ x ∷ []))
one_more None paths i path found x within is before e = tt
one_more (Some held) paths i path found x within is before e =
    let next : drop i paths ≡ path ∷ drop (i + 1) paths = drop-cons paths i path within ∙ rw (add-one, ← is) refl in
    before ∙ rw (next, e) (one_before found x (schemas_at held (drop (i + 1) paths)))
