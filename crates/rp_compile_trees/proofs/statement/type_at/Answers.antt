use Rattle.std.proofs.Common.{◌≡◌, ℕ, ◌<◌, ◌≤◌, List, map, length, get_or, IfOk, arith, sym, ◌∙◌, ap, subst}
use Rattle.std.proofs.lemmas.List.{get_or-map, get_or_past, length-map}
use Rattle.ex_named.specs.declared.expression.NamedDataType.{NamedDataType}
use Rattle.ex_named.specs.declared.expression.NamedDataType.TheVariants.{Generic}
use Rattle.rp_compile_trees.proofs.statement.type_at.Goals as goal

there : {A B : Type 0} (xs : List A) (i : ℕ) (x : A) (f : A → B) (other : B) → i < length xs → x ≡ get_or xs i x → f x ≡ get_or (map f xs) i other
there xs i x f other within is = ap f is ∙ sym (get_or-map f xs i x other within)

beyond : {A B : Type 0} (xs : List A) (i : ℕ) (f : A → B) (other : B) → length xs ≤ i → other ≡ get_or (map f xs) i other
beyond xs i f other past = sym (get_or_past (map f xs) i other (omega (arith, length-map xs f, past)))

pub returns-in-Some : goal.returns-in-Some
returns-in-Some c =
    let lookup = c.in-Some.ensures.lookup in
    subst (λ (t : NamedDataType). IfOk c.copied_type.result (λ found. found ≡ t))
    (there c.args.types.now c.args.slot c.in-Some.found.now (λ t. t.now) Generic lookup.3.0 lookup.1) c.copied_type.ensures

pub returns-in-None : goal.returns-in-None
returns-in-None c = beyond c.args.types.now c.args.slot (λ t. t.now) Generic c.in-None.ensures.lookup.3
