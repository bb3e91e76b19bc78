-- Instances that were bound as if each name were defined are those of their file, where each name is.
use Rattle.std.proofs.Common.{◌≡◌, ℕ, Bool, true, false, ◌&&◌, ◌||◌, ◌==◌, List, [], ◌∷◌, ◌++◌, map, Option, None, Some, IfSome, Result, Ok, Err, IfOk, refl, sym, ◌∙◌, ap}
use Rattle.std.proofs.lemmas.List.{append_assoc, append-nil}
use Rattle.std.specs.List.{AllByRecursion, list_all, list_any}
use Rattle.plain_data.specs.Numbers.{is_among}
use Rattle.ex_schemas.specs.Schemas.{Checked}
use Rattle.p21_instances.specs.Instances.{has_twice, names}
use Rattle.p21_instances.proofs.SortedNames.{is_one}
use Rattle.p21_grammar.specs.Schemas.{is_of_schema}
use Rattle.p21_grammar.specs.Visited.{ShownAll}
use Rattle.p21_tree.specs.declared.fault.FileFault.{FileFault}
use Rattle.p21_tree.specs.declared.fault.InstanceFault.{InstanceFault}
use Rattle.p21_tree.specs.declared.instance.Instance as tree
use Rattle.p21_tree.specs.declared.raw.Raw.{Raw}
use Rattle.rp_content.specs.declared.content.Content.{Content}
use Rattle.rp_content.specs.declared.instance.Instance.{Instance}
use Rattle.p21_bind.specs.declared.loading.Loading.{Loading}
use Rattle.p21_mappings.specs.Contents.{content}
use Rattle.p21_bind.specs.Files.{Instances, first_of, told, one, instances, instances_after, bound_file}
use Rattle.p21_bind.specs.OnePass.{any_name, no_name, apart, all_references, Becomes, loaded}
use Rattle.p21_mappings.specs.Instances.{Mapped, instance}
use Rattle.p21_mappings.specs.Referred.{mapping_references}
use Rattle.p21_mappings.proofs.Agreement.{instance_same}
use Rattle.p21_bind.proofs.Ascending.{instance_named}
use Rattle.p21_bind.proofs.Reading.{neither, apart_from, alike}

-- ---- one more

first_more : (o : Result Instance InstanceFault) (r more : Instances) (ys : List Instance) (y : Instance) → first_of o r ≡ Ok ys → ((zs : List Instance) → r ≡ Ok zs → more ≡ Ok (zs ++ y ∷ []))
    → first_of o more ≡ Ok (ys ++ y ∷ [])
first_more (Ok z) (Ok zs) more ys y e next = let same : z ∷ zs ≡ ys = cc in rw (next zs refl) (ap (λ l. Ok (l ++ y ∷ [])) same)
first_more (Ok z) (Err fault) more ys y e next = cc
first_more (Err fault) r more ys y e next = cc

pub apart_more : (schema : Checked) (xs : List tree.Instance) (x : tree.Instance) (ys : List Instance) (y : Instance) → apart schema xs ≡ Ok ys → one schema any_name no_name x ≡ Ok y
    → apart schema (xs ++ x ∷ []) ≡ Ok (ys ++ y ∷ [])
apart_more schema [] x ys y all ok = let none : [] ≡ ys = cc in rw ok (ap (λ l. Ok (l ++ y ∷ [])) none)
apart_more schema (z ∷ xs) x ys y all ok =
    first_more (one schema any_name no_name z) (apart schema xs) (apart schema (xs ++ x ∷ [])) ys y all (λ zs e. apart_more schema xs x zs y e ok)

pub references_more : (xs : List tree.Instance) (x : tree.Instance) → all_references (xs ++ x ∷ []) ≡ all_references xs ++ mapping_references x.mapping
references_more [] x = append-nil (mapping_references x.mapping)
references_more (z ∷ xs) x =
    ap (λ l. mapping_references z.mapping ++ l) (references_more xs x) ∙ sym (append_assoc (mapping_references z.mapping) (all_references xs) (mapping_references x.mapping))

-- ---- their names

abbrev name_of : Instance → ℕ
name_of i = i.name

one_named : (name : ℕ) (o : Mapped Instance) (y : Instance) → ((i : Instance) → o ≡ Ok i → i.name ≡ name) → told name o ≡ Ok y → y.name ≡ name
one_named name (Ok i) y named e = let same : i ≡ y = cc in ap name_of (sym same) ∙ named i refl
one_named name (Err kind) y named e = cc

first_named : (name : ℕ) (names : List ℕ) (o : Result Instance InstanceFault) (r : Instances) (ys : List Instance) → first_of o r ≡ Ok ys → ((y : Instance) → o ≡ Ok y → y.name ≡ name)
    → ((zs : List Instance) → r ≡ Ok zs → map name_of zs ≡ names) → map name_of ys ≡ name ∷ names
first_named name names (Ok z) (Ok zs) ys e first next =
    let same : z ∷ zs ≡ ys = cc in
    ap (map name_of) (sym same) ∙ (λ i. first z refl i ∷ next zs refl i)
first_named name names (Ok z) (Err fault) ys e first next = cc
first_named name names (Err fault) r ys e first next = cc

-- instances that are bound have the names that they have in the file
pub apart_named : (schema : Checked) (xs : List tree.Instance) (ys : List Instance) → apart schema xs ≡ Ok ys → map name_of ys ≡ names xs
apart_named schema [] ys e = let none : [] ≡ ys = cc in ap (map name_of) (sym none)
apart_named schema (x ∷ xs) ys e =
    first_named x.name (names xs) (one schema any_name no_name x) (apart schema xs) ys e
    (λ y is. one_named x.name (instance schema any_name false x) y (λ i made. (instance_named schema any_name false x i made).1) is)
    (λ zs rest. apart_named schema xs zs rest)

pub loaded_named : (first now : Loading) (rest : Raw) (file : Result Raw FileFault) → ShownAll (Becomes first) rest now file → now.names.items ≡ map name_of now.instances.items
loaded_named first now rest (Err fault) shown = cc
loaded_named first now rest (Ok raw) shown = sym shown.1.names ∙ sym (apart_named first.layouts raw.instances now.instances.items shown.1.instances)

-- ---- all of them

-- of what is found, where three statements make a fourth
pub of_found : {X E : Type 0} (r : Result (Option X) E) (A B C D : X → Type 0) → ((x : X) → A x → B x → C x → D x)
    → IfOk r (λ o. IfSome o A) → IfOk r (λ o. IfSome o B) → IfOk r (λ o. IfSome o C) → IfOk r (λ o. IfSome o D)
of_found (Ok (Some x)) A B C D next a b c = next x a b c
of_found (Ok None) A B C D next a b c = tt
of_found (Err e) A B C D next a b c = tt

both : (a b : Bool) → (a && b) ≡ true → (a ≡ true) × (b ≡ true)
both true b e = (refl, e)
both false b e = cc

first_all : (p : ℕ → Bool) (ms ns : List ℕ) → list_all p (ms ++ ns) ≡ true → AllByRecursion (λ n. any_name n ≡ p n) ms × (list_all p ns ≡ true)
first_all p [] ns all = (tt, all)
first_all p (m ∷ ms) ns all =
    let parts = both (p m) (list_all p (ms ++ ns)) all in
    let rest = first_all p ms ns parts.1 in
    ((sym parts.0, rest.0), rest.1)

first_same : (o : Result Instance InstanceFault) (r more : Instances) (ys : List Instance) → first_of o r ≡ Ok ys → ((zs : List Instance) → r ≡ Ok zs → more ≡ Ok zs) → first_of o more ≡ Ok ys
first_same (Ok z) (Ok zs) more ys e next = rw (next zs refl) e
first_same (Ok z) (Err fault) more ys e next = cc
first_same (Err fault) r more ys e next = cc

whole : (schema : Checked) (p : ℕ → Bool) (xs : List tree.Instance) (ys : List Instance) → apart schema xs ≡ Ok ys → has_twice is_one (names xs) ≡ false → list_all p (all_references xs) ≡ true
    → instances_after schema p no_name xs ≡ Ok ys
whole schema p [] ys all once defined = all
whole schema p (x ∷ xs) ys all once defined =
    let parts = neither (list_any (is_one x.name) (names xs)) (has_twice is_one (names xs)) once in
    let refers = first_all p (mapping_references x.mapping) (all_references xs) defined in
    let here : one schema p no_name x ≡ one schema any_name no_name x = ap (told x.name) (sym (instance_same schema any_name p false x refers.0)) in
    let later : instances_after schema p (λ n. (x.name == n) || no_name n) xs ≡ instances_after schema p no_name xs =
    alike schema p (λ n. (x.name == n) || no_name n) no_name xs (λ n there. rw (apart_from x.name n (names xs) parts.0 there) refl) in
    rw (here, later)
    (first_same (one schema any_name no_name x) (apart schema xs) (instances_after schema p no_name xs) ys all (λ zs e. whole schema p xs zs e parts.1 refers.1))

pub loaded_whole : (schema : Checked) (name linked : List ℕ) (first now : Loading) (rest : Raw) (held : Content) (file : Result Raw FileFault)
    → ShownAll (Becomes first) rest now file → first.layouts ≡ schema → is_of_schema name rest ≡ true
    → has_twice is_one now.names.items ≡ false → list_all (is_among (now.names.items ++ linked)) now.references.items ≡ true → held ≡ content rest.header now.instances.items
    → loaded schema name linked file ≡ Some held
unfolding bound_file instances
loaded_whole schema name linked first now rest held (Err fault) shown layouts is once defined made = cc
loaded_whole schema name linked first now rest held (Ok raw) shown layouts is once defined made =
    let becomes = shown.1 in
    let same : is_of_schema name raw ≡ true = ap (is_of_schema name) shown.0 ∙ is in
    let all : apart schema raw.instances ≡ Ok now.instances.items = ap (λ s. apart s raw.instances) (sym layouts) ∙ becomes.instances in
    let once2 : has_twice is_one (names raw.instances) ≡ false = ap (has_twice is_one) becomes.names ∙ once in
    let defined2 : list_all (is_among (names raw.instances ++ linked)) (all_references raw.instances) ≡ true =
    (λ i. list_all (is_among (becomes.names i ++ linked)) (becomes.references i)) ∙ defined in
    let found = whole schema (is_among (names raw.instances ++ linked)) raw.instances now.instances.items all once2 defined2 in
    rw (same, found) (ap Some (ap (λ r. content r.header now.instances.items) shown.0 ∙ sym made))
