-- A schema that is accepted declares each name once.
use Rattle.std.proofs.Common.{◌≡◌, ◌≤◌, ◌+◌, ℕ, zero, suc, Bool, true, false, cond, if◌then◌else◌, List, [], ◌∷◌, ◌++◌, map, length, append_assoc, Option, Some, None, is_some, Ok, refl, sym, ap, subst, ◌∙◌, arith}
use Rattle.std.proofs.lemmas.List.{map-append}
use Rattle.std.proofs.lemmas.Slice.Eq.{bytes_eq-Decides}
use Rattle.std.specs.List.{filter, filter_map}
use Rattle.std.specs.Option.{option_map}
use Rattle.std.specs.Str.{bytes_eq}
use Rattle.plain_data.specs.Numbers.{numbered_from}
use Rattle.name_tables.specs.Names.{place_of}
use Rattle.ex_tree.specs.declared.expression.Name.{Name}
use Rattle.ex_tree.specs.declared.declaration.Constant.{Constant}
use Rattle.ex_tree.specs.declared.declaration.Declaration.{Declaration}
use Rattle.ex_tree.specs.declared.declaration.Declaration.TheVariants as t
use Rattle.ex_tree.specs.declared.declaration.Entity.{Entity}
use Rattle.ex_tree.specs.declared.declaration.Function.{Function}
use Rattle.ex_tree.specs.declared.declaration.Rule.{Rule}
use Rattle.ex_tree.specs.declared.declaration.Schema.{Schema}
use Rattle.ex_tree.specs.declared.declaration.TypeDeclaration.{TypeDeclaration}
use Rattle.ex_named.specs.declared.declaration.NamedConstant.{NamedConstant}
use Rattle.ex_named.specs.declared.declaration.NamedEntity.{NamedEntity}
use Rattle.ex_named.specs.declared.declaration.NamedFunction.{NamedFunction}
use Rattle.ex_named.specs.declared.declaration.NamedRule.{NamedRule}
use Rattle.ex_named.specs.declared.declaration.NamedSchema.{NamedSchema}
use Rattle.ex_named.specs.declared.declaration.NamedType.{NamedType}
use Rattle.ex_named.specs.declared.fault.NameFaultKind.TheVariants.{DeclaredTwice}
use Rattle.ex_named.specs.declared.reference.Declared.{Declared}
use Rattle.ex_named.specs.declared.reference.Declared.TheVariants as d
use Rattle.ex_named.specs.Outcomes.{Outcome, given, both, refused}
use Rattle.ex_named.specs.Scopes.{Declarations}
use Rattle.ex_declarations.specs.Declared.{declarations, declared_names, names_from, type_of, entity_of, function_of, rule_of, entities, types, functions, rules, once, once_after, fresh, supertype_graph, type_graph}
use Rattle.ex_bind_entities.specs.Entities.{named_entity, named_type}
use Rattle.ex_bind_algorithms.specs.Algorithms.{constant, named_function, function_in, named_rule, rule_in}
use Rattle.ex_resolve.proofs.Wholes.{given_ok, both_ok, each_ok}
use Rattle.ex_resolve.proofs.Wholes as plain
use Rattle.ex_resolve.proofs.Accepted.{each_numbered_ok, gave_map, Parts}
use Rattle.ex_resolve.specs.Proved.{count, DeclaresOnce}
use Rattle.ex_resolve.specs.Schemas.{named_types, named_entities, named_functions, named_rules}

-- ---- how often a name stands

abbrev one : Bool → ℕ
one true = 1
one false = 0

length-kept : (b : Bool) (x : List ℕ) (xs : List (List ℕ)) → length (cond b (x ∷ xs) xs) ≡ one b + length xs
length-kept true x xs = omega arith
length-kept false x xs = omega arith

count-cons : (name x : List ℕ) (xs : List (List ℕ)) → count name (x ∷ xs) ≡ one (bytes_eq x name) + count name xs
count-cons name x xs = length-kept (bytes_eq x name) x (filter (λ n. bytes_eq n name) xs)

count-append : (name : List ℕ) (xs ys : List (List ℕ)) → count name (xs ++ ys) ≡ count name xs + count name ys
count-append name [] ys = omega arith
count-append name (x ∷ xs) ys = omega (arith, count-cons name x (xs ++ ys), count-cons name x xs, count-append name xs ys)

-- ---- names that were found once

not_there_if : (b : Bool) (rest : Option ℕ) → is_some (if b then Some zero else option_map suc rest) ≡ false → (b ≡ false) × (is_some rest ≡ false)
not_there_if true rest h = absurd cc
not_there_if false None h = (refl, refl)
not_there_if false (Some k) h = absurd cc

none_counted : (name : List ℕ) (before : List (List ℕ)) → is_some (place_of name before) ≡ false → count name before ≡ 0
none_counted name [] h = refl
none_counted name (n ∷ ns) h =
    let parts = not_there_if (bytes_eq n name) (place_of name ns) h in
    let none = none_counted name ns parts.1 in
    let here = ap one parts.0 in
    omega (arith, count-cons name n ns, none, here)

accepted_if : (b : Bool) (at : ℕ) (x : Unit {0}) → (if b then refused DeclaredTwice at else Ok (tt {0})) ≡ Ok x → b ≡ false
accepted_if true at x h = absurd cc
accepted_if false at x h = refl

abbrev AtMostOnce : List (List ℕ) → Type 0
AtMostOnce names = (name : List ℕ) → count name names ≤ 1

one_more_if : (b : Bool) (name x : List ℕ) (before : List (List ℕ)) → bytes_eq x name ≡ b → count x before ≡ 0 → count name before ≤ 1 → one b + count name before ≤ 1
one_more_if true name x before is none h = let same : x ≡ name = (bytes_eq-Decides x name).0 is in let no = ap (λ n. count n before) (sym same) ∙ none in omega arith
one_more_if false name x before is none h = omega arith

one_more : (before : List (List ℕ)) (x : List ℕ) → AtMostOnce before → count x before ≡ 0 → AtMostOnce (before ++ x ∷ [])
one_more before x before_once none name =
    let more = one_more_if (bytes_eq x name) name x before refl none (before_once name) in
    omega (arith, count-append name before (x ∷ []), count-cons name x [], more)

-- what was accepted so far
found_ok : (before : List (List ℕ)) (found : Outcome (Unit {0})) (ns : List Name) (u : Unit {0}) → once_after before found ns ≡ Ok u → (v : Unit {0}) × (found ≡ Ok v)
found_ok before found [] u h = (u, h)
found_ok before found (n ∷ ns) u h =
    let next = found_ok (before ++ n.text ∷ []) (given (λ p. tt {0}) (both found (fresh before n))) ns u h in
    let pair = given_ok (λ p. tt {0}) (both found (fresh before n)) next.0 next.1 in
    (pair.0.0, (both_ok found (fresh before n) pair.0 pair.1.0).0)

once_ok : (before : List (List ℕ)) (found : Outcome (Unit {0})) (ns : List Name) (u : Unit {0}) → once_after before found ns ≡ Ok u → AtMostOnce before
    → AtMostOnce (before ++ map (λ n. n.text) ns)
once_ok before found [] u h before_once = λ name. omega (arith, count-append name before [], before_once name)
once_ok before found (n ∷ ns) u h before_once =
    let next = found_ok (before ++ n.text ∷ []) (given (λ p. tt {0}) (both found (fresh before n))) ns u h in
    let pair = given_ok (λ p. tt {0}) (both found (fresh before n)) next.0 next.1 in
    let is_fresh = (both_ok found (fresh before n) pair.0 pair.1.0).1 in
    let none = none_counted n.text before (accepted_if (is_some (place_of n.text before)) n.at pair.0.1 is_fresh) in
    let all = once_ok (before ++ n.text ∷ []) (given (λ p. tt {0}) (both found (fresh before n))) ns u h (one_more before n.text before_once none) in
    subst AtMostOnce (append_assoc before (n.text ∷ []) (map (λ n. n.text) ns)) all

once_names : (ns : List Name) → once ns ≡ Ok (tt {0}) → AtMostOnce (map (λ n. n.text) ns)
unfolding once
once_names ns h = once_ok [] (Ok tt) ns tt h (λ name. omega arith)

-- ---- the tree's names, sort by sort

abbrev texts : List (Name × Declared) → List (List ℕ)
texts rows = map (λ n. n.text) (map (λ r. r.0) rows)

constant_texts : (k : ℕ) (cs : List Constant) → texts (numbered_from (λ k c. (c.name, d.Constant k)) k cs) ≡ map (λ c. c.name.text) cs
constant_texts k [] = refl
constant_texts k (c ∷ cs) = ap (λ l. c.name.text ∷ l) (constant_texts (suc k) cs)

module _ (name : List ℕ) where
  counted : (a b c e : ℕ) (ds : List Declaration) → count name (texts (names_from a b c e ds))
      ≡ count name (map (λ x. x.name.text) (filter_map type_of ds)) + count name (map (λ e. e.head.name.text) (filter_map entity_of ds))
      + count name (map (λ f. f.head.name.text) (filter_map function_of ds)) + count name (map (λ r. r.head.name.text) (filter_map rule_of ds))
  counted a b c e [] = omega arith
  counted a b c e (t.Type x ∷ ds) = omega (
    arith,
    counted (suc a) b c e ds,
    count-cons name x.name.text (texts (names_from (suc a) b c e ds)),
    count-cons name x.name.text (map (λ x. x.name.text) (filter_map type_of ds)),
  )
  counted a b c e (t.Entity x ∷ ds) = omega (
    arith,
    counted a (suc b) c e ds,
    count-cons name x.head.name.text (texts (names_from a (suc b) c e ds)),
    count-cons name x.head.name.text (map (λ e. e.head.name.text) (filter_map entity_of ds)),
  )
  counted a b c e (t.Function x ∷ ds) = omega (
    arith,
    counted a b (suc c) e ds,
    count-cons name x.head.name.text (texts (names_from a b (suc c) e ds)),
    count-cons name x.head.name.text (map (λ f. f.head.name.text) (filter_map function_of ds)),
  )
  counted a b c e (t.Rule x ∷ ds) = omega (
    arith,
    counted a b c (suc e) ds,
    count-cons name x.head.name.text (texts (names_from a b c (suc e) ds)),
    count-cons name x.head.name.text (map (λ r. r.head.name.text) (filter_map rule_of ds)),
  )

-- ---- the names of what was found

constant_name : (schema : Declarations) (c : Constant) (y : NamedConstant) → constant schema c ≡ Ok y → y.name.text ≡ c.name.text
unfolding constant
constant_name schema c y h = let found = given_ok _ _ y h in ap (λ z. z.name.text) (sym found.1.1)

type_name : (schema : Declarations) (graph held : List (List ℕ)) (k : ℕ) (x : TypeDeclaration) (y : NamedType) → named_type schema graph held k x ≡ Ok y → y.name.text ≡ x.name.text
unfolding named_type
type_name schema graph held k x y h = let found = given_ok _ _ y h in ap (λ z. z.name.text) (sym found.1.1)

entity_name : (schema : Declarations) (graph : List (List ℕ)) (k : ℕ) (e : Entity) (y : NamedEntity) → named_entity schema graph k e ≡ Ok y → y.name.text ≡ e.head.name.text
unfolding named_entity
entity_name schema graph k e y h = let found = given_ok _ _ y h in ap (λ z. z.name.text) (sym found.1.1)

function_name : (schema : Declarations) (f : Function) (y : NamedFunction) → named_function schema f ≡ Ok y → y.name.text ≡ f.head.name.text
unfolding named_function function_in
function_name schema f y h =
    let whole = given_ok _ _ y h in
    let found = given_ok _ _ whole.0.1 (both_ok _ _ whole.0 whole.1.0).1 in
    ap (λ z. z.name.text) (sym whole.1.1) ∙ ap (λ z. z.name.text) (sym found.1.1)

rule_name : (schema : Declarations) (r : Rule) (y : NamedRule) → named_rule schema r ≡ Ok y → y.name.text ≡ r.head.name.text
unfolding named_rule rule_in
rule_name schema r y h =
    let whole = given_ok _ _ y h in
    let found = given_ok _ _ whole.0.1 (both_ok _ _ whole.0 whole.1.0).1 in
    ap (λ z. z.name.text) (sym whole.1.1) ∙ ap (λ z. z.name.text) (sym found.1.1)

pub declares_once : (tree : Schema) (found : NamedSchema) → Parts tree found → DeclaresOnce found
unfolding named_types named_entities named_functions named_rules
declares_once tree found parts name =
    let schema = declarations tree in
    let graph = supertype_graph schema (entities tree) in
    let held = type_graph schema (types tree) in
    let cs : map (λ c. c.name.text) found.constants ≡ map (λ c. c.name.text) tree.constants =
    plain.gave_map (constant schema) (λ c. c.name.text) (λ c. c.name.text) (constant_name schema) tree.constants found.constants (each_ok (constant schema) tree.constants found.constants parts.constants) in
    let ts : map (λ x. x.name.text) found.types ≡ map (λ x. x.name.text) (types tree) =
    gave_map (named_type schema [] held) (λ x. x.name.text) (λ x. x.name.text) (type_name schema [] held) 0 (types tree) found.types (each_numbered_ok (named_type schema [] held) (types tree) found.types parts.types) in
    let es : map (λ e. e.name.text) found.entities ≡ map (λ e. e.head.name.text) (entities tree) =
    gave_map (named_entity schema graph) (λ e. e.name.text) (λ e. e.head.name.text) (entity_name schema graph) 0 (entities tree) found.entities (each_numbered_ok (named_entity schema graph) (entities tree) found.entities parts.entities) in
    let fs : map (λ f. f.name.text) found.functions ≡ map (λ f. f.head.name.text) (functions tree) =
    plain.gave_map (named_function schema) (λ f. f.name.text) (λ f. f.head.name.text) (function_name schema) (functions tree) found.functions (each_ok (named_function schema) (functions tree) found.functions parts.functions) in
    let rs : map (λ r. r.name.text) found.rules ≡ map (λ r. r.head.name.text) (rules tree) =
    plain.gave_map (named_rule schema) (λ r. r.name.text) (λ r. r.head.name.text) (rule_name schema) (rules tree) found.rules (each_ok (named_rule schema) (rules tree) found.rules parts.rules) in
    let whole = once_names (map (λ r. r.0) (declared_names tree)) parts.names name in
    let split : map (λ n. n.text) (map (λ r. r.0) (declared_names tree)) ≡ map (λ c. c.name.text) tree.constants ++ texts (names_from 0 0 0 0 tree.declarations) =
    ap (map (λ n. n.text)) (map-append (λ r. r.0) (numbered_from (λ k c. (c.name, d.Constant k)) 0 tree.constants) (names_from 0 0 0 0 tree.declarations))
    ∙ map-append (λ n. n.text) _ _ ∙ ap (λ l. l ++ texts (names_from 0 0 0 0 tree.declarations)) (constant_texts 0 tree.constants) in
    omega (
      arith,
      whole,
      ap (count name) split,
      count-append name (map (λ c. c.name.text) tree.constants) (texts (names_from 0 0 0 0 tree.declarations)),
      counted name 0 0 0 0 tree.declarations,
      ap (count name) cs,
      ap (count name) ts,
      ap (count name) es,
      ap (count name) fs,
      ap (count name) rs,
      count-append name (map (λ c. c.name.text) found.constants ++ map (λ x. x.name.text) found.types ++ map (λ e. e.name.text) found.entities ++ map (λ f. f.name.text) found.functions) (map (λ r. r.name.text) found.rules),
      count-append name (map (λ c. c.name.text) found.constants ++ map (λ x. x.name.text) found.types ++ map (λ e. e.name.text) found.entities) (map (λ f. f.name.text) found.functions),
      count-append name (map (λ c. c.name.text) found.constants ++ map (λ x. x.name.text) found.types) (map (λ e. e.name.text) found.entities),
      count-append name (map (λ c. c.name.text) found.constants) (map (λ x. x.name.text) found.types),
    )
