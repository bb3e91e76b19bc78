-- What a computation takes doesn't depend on how much it may take.
use Rattle.std.proofs.Common.{◌≡◌, ℕ, zero, suc, ◌+◌, ◌-◌, ◌≤◌, max, Bool, true, false, Option, Some, None, List, [], ◌∷◌, ◌++◌, map, refl, sym, ap, ◌∙◌, subst, arith, cond, nat_le, slice_get, add_assoc, zero-add}
use Rattle.std.proofs.lemmas.Bool.Decides.{nat_tests}
use Rattle.ex_named.specs.declared.reference.AttributePlace.{AttributePlace}
use Rattle.ex_named.specs.declared.reference.AttributeSort.{AttributeSort}
use Rattle.ex_named.specs.declared.reference.AttributeSort.TheVariants as sort
use Rattle.ex_tree.specs.declared.expression.BuiltInFunction.{BuiltInFunction}
use Rattle.ex_tree.specs.declared.expression.BuiltInFunction.TheVariants as f
use Rattle.rp_value.specs.Elements.{Elements}
use Rattle.rp_value.specs.declared.value.AggregateKind.{AggregateKind}
use Rattle.rp_value.specs.declared.value.Value.{Value}
use Rattle.rp_value.specs.declared.value.Value.TheVariants as v
use Rattle.rp_meaning.specs.declared.counter.Counter.{Counter}
use Rattle.rp_meaning.specs.declared.body.Body.{Body}
use Rattle.rp_meaning.specs.declared.body.Body.TheVariants as b
use Rattle.rp_code.specs.declared.role.Role.{Role}
use Rattle.rp_meaning.specs.declared.rule.Rule.{Rule}
use Rattle.rp_meaning.specs.declared.rule.Rule.TheVariants as r
use Rattle.rp_meaning.specs.declared.schema.Algorithm.{Algorithm}
use Rattle.rp_meaning.specs.declared.schema.Derivation.{Derivation}
use Rattle.rp_meaning.specs.declared.schema.Function.{Function}
use Rattle.rp_meaning.specs.declared.schema.Given.{Given}
use Rattle.rp_meaning.specs.declared.schema.GlobalRule.{GlobalRule}
use Rattle.rp_meaning.specs.declared.schema.Initial.{Initial}
use Rattle.rp_meaning.specs.declared.schema.Inverse.{Inverse}
use Rattle.rp_code.specs.declared.tree.Expression.{Expression, map-Expression, roll-Expression}
use Rattle.rp_code.specs.declared.tree.Expression.TheFolds.{fold-roll-Expression, fold-roll-Qualifier, fold-roll-Interval, fold-roll-Operation, fold-roll-Query, ind-Expression}
use Rattle.rp_code.specs.declared.tree.Expression.TheOpen.{Expression-F, Qualifier-F, Interval-F, Operation-F, Query-F}
use Rattle.rp_code.specs.declared.tree.Interval.{Interval, map-Interval, roll-Interval}
use Rattle.rp_code.specs.declared.tree.Operation.{Operation, map-Operation, roll-Operation}
use Rattle.rp_code.specs.declared.tree.Qualifier.{Qualifier, map-Qualifier, roll-Qualifier}
use Rattle.rp_code.specs.declared.tree.Query.{Query, map-Query, roll-Query}
use Rattle.rp_code.specs.declared.tree.CaseAction.{CaseAction, map-CaseAction, roll-CaseAction}
use Rattle.rp_code.specs.declared.tree.Control.{Control}
use Rattle.rp_code.specs.declared.tree.Increment.{Increment}
use Rattle.rp_code.specs.declared.tree.Statement.{Statement, map-Statement, roll-Statement}
use Rattle.rp_code.specs.declared.tree.Statement.TheFolds.{fold-roll-Statement, fold-roll-CaseAction, ind-Statement}
use Rattle.rp_code.specs.declared.tree.Statement.TheOpen.{Statement-F, CaseAction-F}
use Rattle.rp_meaning.specs.Attributes.{chosen, derivation, inverse_at, role_named}
use Rattle.rp_meaning.specs.Bare.{is_true, place_of, text_of}
use Rattle.rp_meaning.specs.Computations.{Computation, pure, no_more, steps, around, in_body, and_then, ◌>>=◌, ◌>>◌}
use Rattle.rp_meaning.specs.Expressions.{Scope, World, Meaning, Operating, expression, qualifier, interval, operation, query, expression_layer, qualifier_layer, interval_layer, operation_layer, query_layer, costing, each_after, in_turn, tested, kept_after, kept_one, queried, derived_by, inverse_by, attribute_by, attribute_of, attribute_at, attribute_in, attribute, used_in_role, used_in_by, of_one, of_two, built_in}
use Rattle.rp_meaning.specs.Laws.{Taken, Steady}
use Rattle.rp_meaning.specs.Levels.{alone, given_by, called, body_with, level, most_turns}
use Rattle.rp_meaning.specs.Operators.{equal}
use Rattle.rp_meaning.specs.Outcomes.{value_by, attribute_value, bounds_value, condition_after, rule_value, evaluation}
use Rattle.rp_meaning.specs.Populations.{Instance, is_of}
use Rattle.rp_meaning.specs.Statements.{Action, After, Next, Skipped, Escaped, Returned, Turn, Again, Over, Running, going_on, one_by_one, asked, turned, turn, again, advanced, running, started, from_start, repeated, counted, step_value, repeats, any_equal, is_hit, Labelled, matched, statement_layer, action_layer, statement, labelled, statements, given_value, initialized, all_assigned, algorithm}

pub parts : {A : Type 0} (a x : A) (c d : Counter) → ◌≡◌ {A = Option (A × Counter)} (Some (a, c)) (Some (x, d)) → (a ≡ x) × (c ≡ d)
parts {A} a x c d h = let e : ◌≡◌ {A = A × Counter} (a, c) (x, d) = cc in (ap (λ (p : A × Counter). p.0) e, ap (λ (p : A × Counter). p.1) e)

count : (left left' nesting nesting' : ℕ) → left ≡ left' → nesting ≡ nesting' → ◌≡◌ {A = Counter} (record { left = left; nesting = nesting }) (record { left = left'; nesting = nesting' })
count left left' nesting nesting' e f = rw (e, f) refl

-- ---- how computations are made

pub steady-pure : {A : Type 0} (a : ℕ → A) (levels : ℕ) → ((l l' : ℕ) → a l ≡ a l') → Steady (λ l. pure (a l)) levels
steady-pure a levels same = record {
  taken = λ old new x h.
      let e = parts (a levels) x old new h in
      record {
        steps = 0;
        bodies = 0;
        left = ap (λ (c : Counter). c.left) e.1 ∙ sym (zero-add new.left);
        nesting = sym (ap (λ (c : Counter). c.nesting) e.1) ∙ omega arith;
        nests = omega arith;
        same = λ others left nesting h. rw (same others levels, e.0) (ap (λ c. Some (x, c)) (count (0 + left) left nesting (max nesting 0) (omega arith) (omega arith)));
      };
}

steps-cases : (n : ℕ) (c d : Counter) (x : Unit {0}) (t : Bool) → nat_le n c.left ≡ t → cond {A = Option (Unit {0} × Counter)} t (Some (tt, record { left = c.left - n; nesting = c.nesting })) None ≡ Some (x, d)
    → (n ≤ c.left) × (c.left ≡ n + d.left) × (d.nesting ≡ c.nesting)
steps-cases n c d x false e h = absurd (cc)
steps-cases n c d x true e h =
    let p = parts tt x (record { left = c.left - n; nesting = c.nesting }) d h in
    let enough : n ≤ c.left = grind (arith, nat_tests, e) in
    let rest : c.left - n ≡ d.left = ap (λ (k : Counter). k.left) p.1 in
    (enough, omega (arith, enough, rest), sym (ap (λ (k : Counter). k.nesting) p.1))

steps-take : (n : ℕ) (c d : Counter) (x : Unit {0}) → steps n c ≡ Some (x, d) → (n ≤ c.left) × (c.left ≡ n + d.left) × (d.nesting ≡ c.nesting)
steps-take n c d x h = steps-cases n c d x (nat_le n c.left) refl h

steps-give : (n left nesting : ℕ) → steps n (record { left = n + left; nesting = nesting }) ≡ Some (tt, record { left = left; nesting = nesting })
steps-give n left nesting = let e : (n + left) - n ≡ left = omega arith in grind (arith, nat_tests, e)

pub steady-steps : (n levels : ℕ) → Steady (λ l. steps n) levels
steady-steps n levels = record {
  taken = λ old new x h.
      let t = steps-take n old new x h in
      record {
        steps = n;
        bodies = 0;
        left = t.1;
        nesting = t.2 ∙ omega arith;
        nests = omega arith;
        same = λ others left nesting h. steps-give n left nesting ∙ ap (λ c. Some (tt, c)) (count left left nesting (max nesting 0) refl (omega arith));
      };
}

module _ {A B : Type 0} (m : ℕ → Computation A) (f : ℕ → A → Computation B) (levels : ℕ) (c : Steady m levels) (d : (a : A) → Steady (λ l. f l a) levels) where
  taken-from : (old new : Counter) (x : B) (o : Option (A × Counter)) → m levels old ≡ o → and_then o (f levels) ≡ Some (x, new) → Taken (λ l. m l >>= f l) levels old new x
  taken-from old new x None e h = absurd (cc)
  taken-from old new x (Some p) e h =
      let one = c.taken old p.1 p.0 e in
      let two = (d p.0).taken p.1 new x h in
      record {
        steps = one.steps + two.steps;
        bodies = max one.bodies two.bodies;
        left = omega (arith, one.left, two.left);
        nesting = omega (arith, one.nesting, two.nesting);
        nests = omega (arith, one.nests, two.nests);
        same = λ others left nesting h.
            let first = one.same others (two.steps + left) nesting (omega arith) in
            let second = two.same others left (max nesting one.bodies) (omega arith) in
            rw (add_assoc one.steps two.steps left, first, second) (ap (λ k. Some (x, k)) (count left left _ _ refl (omega arith)));
      }

  pub steady-bind : Steady (λ l. m l >>= f l) levels
  steady-bind = record { taken = λ old new x h. taken-from old new x (m levels old) refl h }

-- the same value, whatever the level
pub steady-same : {A : Type 0} (a : A) (levels : ℕ) → Steady (λ l. pure a) levels
steady-same a levels = steady-pure (λ l. a) levels (λ l k. refl)

pub steady-if : {A : Type 0} (t : Bool) (m n : ℕ → Computation A) (levels : ℕ) → Steady m levels → Steady n levels → Steady (λ l. cond t (m l) (n l)) levels
steady-if true m n levels c d = c
steady-if false m n levels c d = d

pub steady-none : {A : Type 0} (levels : ℕ) → Steady (λ l. no_more {A = A}) levels
steady-none levels = record { taken = λ old new x h. absurd (cc) }

pub steady-costing : (n : ℕ) (x : Value) (levels : ℕ) → Steady (λ l. costing n x) levels
steady-costing n x levels = steady-bind (λ l. steps n) _ levels (steady-steps n levels) (λ u. steady-same x levels)

-- behind some steps
pub steady-after : {A : Type 0} (n : ℕ) (m : ℕ → Computation A) (levels : ℕ) → Steady m levels → Steady (λ l. steps n >> m l) levels
steady-after n m levels c = steady-bind (λ l. steps n) (λ l u. m l) levels (steady-steps n levels) (λ u. c)

-- ---- lists

module _ (levels : ℕ) (m : ℕ → Meaning) (c : (s : Scope) → Steady (λ l. m l s) levels) where
  steady-tested : (s : Scope) (x : Value) → Steady (λ l. tested (m l) s x) levels
  steady-tested s x = steady-bind (λ l. steps 1) _ levels (steady-steps 1 levels) (λ u. steady-bind _ _ levels (c _) (λ a. steady-same _ levels))

  steady-kept : (s : Scope) (found xs : List Value) → Steady (λ l. kept_after (m l) s found xs) levels
  steady-kept s found [] = steady-same found levels
  steady-kept s found (x ∷ xs) = steady-bind _ _ levels (steady-tested s x) (λ holds. steady-kept s (kept_one found x holds) xs)

  steady-queried : (s : Scope) (o : Option (AggregateKind × Elements Value)) → Steady (λ l. queried (m l) s o) levels
  steady-queried s None = steady-same _ levels
  steady-queried s (Some a) = steady-bind _ _ levels (steady-kept s [] a.1.items) (λ found. steady-same _ levels)

-- ---- expressions

module _ (world : World) (levels : ℕ) (below : ℕ → Body → Computation Value) (c : (body : Body) → Steady (λ l. below l body) levels) where
  -- ---- attributes

  steady-derived_by : (o : Option Derivation) (stored : Value) (place : ℕ) → Steady (λ l. derived_by world (below l) o stored place) levels
  steady-derived_by None stored place = steady-same _ levels
  steady-derived_by (Some d) stored place = c (b.Derived d.entity d.place place)

  steady-inverse_by : (o : Option Inverse) (place : ℕ) → Steady (λ l. inverse_by world (below l) o place) levels
  steady-inverse_by None place = steady-same _ levels
  steady-inverse_by (Some x) place = steady-costing _ _ levels

  steady-attribute_by : (sort : AttributeSort) (a : AttributePlace) (i : Instance) (place : ℕ) → Steady (λ l. attribute_by world (below l) sort a i place) levels
  steady-attribute_by sort.Explicit a i place = steady-derived_by _ _ place
  steady-attribute_by sort.Derived a i place = steady-derived_by _ _ place
  steady-attribute_by sort.Inverse a i place = steady-inverse_by _ place

  steady-attribute_of : (o : Option AttributePlace) (i : Instance) (place : ℕ) → Steady (λ l. attribute_of world (below l) o i place) levels
  steady-attribute_of None i place = steady-same _ levels
  steady-attribute_of (Some a) i place = steady-if (is_of i a.entity) _ _ levels (steady-attribute_by a.sort a i place) (steady-same _ levels)

  steady-attribute_at : (attributes : List AttributePlace) (o : Option Instance) (place : ℕ) → Steady (λ l. attribute_at world (below l) attributes o place) levels
  steady-attribute_at attributes None place = steady-same _ levels
  steady-attribute_at attributes (Some i) place = steady-attribute_of (chosen attributes i) i place

  steady-attribute_in : (attributes : List AttributePlace) (o : Option ℕ) → Steady (λ l. attribute_in world (below l) attributes o) levels
  steady-attribute_in attributes None = steady-same _ levels
  steady-attribute_in attributes (Some place) = steady-attribute_at attributes (slice_get world.population place) place

  steady-attribute : (attributes : List AttributePlace) (x : Value) → Steady (λ l. attribute world (below l) attributes x) levels
  steady-attribute attributes x = steady-attribute_in attributes (place_of x)

  -- ---- functions

  steady-used_in_role : (role : Option Role) (o : Option ℕ) → Steady (λ l. used_in_role world (below l) role o) levels
  steady-used_in_role role None = steady-same _ levels
  steady-used_in_role role (Some place) = steady-costing _ _ levels

  steady-used_in_by : (text : Option (List ℕ)) (o : Option ℕ) → Steady (λ l. used_in_by world (below l) text o) levels
  steady-used_in_by None o = steady-same _ levels
  steady-used_in_by (Some text) o = steady-used_in_role (role_named world.schema.roles text) o

  steady-of_one : (function : BuiltInFunction) (x : Value) → Steady (λ l. of_one world (below l) function x) levels
  steady-of_one f.TypeOf x = steady-costing _ _ levels
  steady-of_one _ x = steady-same _ levels

  steady-of_two : (function : BuiltInFunction) (x y : Value) → Steady (λ l. of_two world (below l) function x y) levels
  steady-of_two f.UsedIn x y = steady-used_in_by (text_of y) (place_of x)
  steady-of_two f.ValueIn x y = steady-costing _ _ levels
  steady-of_two _ x y = steady-same _ levels

  steady-built_in : (function : BuiltInFunction) (values : List Value) → Steady (λ l. built_in world (below l) function values) levels
  steady-built_in function [] = steady-same _ levels
  steady-built_in function (x ∷ []) = steady-of_one function x
  steady-built_in function (x ∷ y ∷ []) = steady-of_two function x y
  steady-built_in function (x ∷ y ∷ z ∷ more) = steady-same _ levels

  -- ---- the tree

  abbrev IsSteady : Expression → Type 0
  IsSteady e = (s : Scope) → Steady (λ l. expression world (below l) e s) levels

  abbrev IsSteadyQualifier : Qualifier → Type 0
  IsSteadyQualifier q = (s : Scope) (a : Value) → Steady (λ l. qualifier world (below l) q s a) levels

  abbrev IsSteadyInterval : Interval → Type 0
  IsSteadyInterval x = (s : Scope) → Steady (λ l. interval world (below l) x s) levels

  abbrev IsSteadyOperation : Operation → Type 0
  IsSteadyOperation x = (s : Scope) (a : Value) → Steady (λ l. operation world (below l) x s a) levels

  abbrev IsSteadyQuery : Query → Type 0
  IsSteadyQuery q = (s : Scope) → Steady (λ l. query world (below l) q s) levels

  abbrev Part : Type 0
  Part = (e : Expression) × IsSteady e

  abbrev QualifierPart : Type 0
  QualifierPart = (q : Qualifier) × IsSteadyQualifier q

  abbrev IntervalPart : Type 0
  IntervalPart = (x : Interval) × IsSteadyInterval x

  abbrev OperationPart : Type 0
  OperationPart = (x : Operation) × IsSteadyOperation x

  abbrev QueryPart : Type 0
  QueryPart = (q : Query) × IsSteadyQuery q

  steady-each : (s : Scope) (found : List Value) (ys : List Part) → Steady (λ l. each_after s found (map (expression world (below l)) (map (λ y. y.0) ys))) levels
  steady-each s found [] = steady-same found levels
  steady-each s found (y ∷ ys) = steady-bind _ _ levels (y.1 s) (λ a. steady-each s (found ++ a ∷ []) ys)

  steady-qualified : (s : Scope) (ys : List QualifierPart) (a : Value) → Steady (λ l. in_turn s (map (qualifier world (below l)) (map (λ y. y.0) ys)) a) levels
  steady-qualified s [] a = steady-same a levels
  steady-qualified s (y ∷ ys) a = steady-bind _ _ levels (y.1 s a) (steady-qualified s ys)

  steady-chain : (s : Scope) (ys : List OperationPart) (a : Value) → Steady (λ l. in_turn s (map (operation world (below l)) (map (λ y. y.0) ys)) a) levels
  steady-chain s [] a = steady-same a levels
  steady-chain s (y ∷ ys) a = steady-bind _ _ levels (y.1 s a) (steady-chain s ys)

  expression-roll : (under : Body → Computation Value) (x : Expression-F Expression Qualifier Interval Operation Query) (s : Scope) → expression world under (roll-Expression x) s
      ≡ expression_layer world under (map-Expression Expression Qualifier Interval Operation Query Meaning Operating Meaning Operating Meaning (expression world under) (qualifier world under) (interval world under) (operation world under) (query world under) x) s
  unfolding expression qualifier interval operation query
  expression-roll under x s = ap (λ b. b s) (fold-roll-Expression Meaning Operating Meaning Operating Meaning (expression_layer world under) (qualifier_layer world under) (interval_layer world under) (operation_layer world under) (query_layer world under) x)

  abbrev expression_parts : Expression-F Part QualifierPart IntervalPart OperationPart QueryPart → Expression-F Expression Qualifier Interval Operation Query
  expression_parts y = map-Expression Part QualifierPart IntervalPart OperationPart QueryPart Expression Qualifier Interval Operation Query (λ e. e.0) (λ e. e.0) (λ e. e.0) (λ e. e.0) (λ e. e.0) y

  abbrev step : ℕ → Expression-F Part QualifierPart IntervalPart OperationPart QueryPart → Meaning
  step l y = expression_layer world (below l) (map-Expression Expression Qualifier Interval Operation Query Meaning Operating Meaning Operating Meaning (expression world (below l)) (qualifier world (below l)) (interval world (below l)) (operation world (below l)) (query world (below l)) (expression_parts y))

  qualifier-roll : (under : Body → Computation Value) (x : Qualifier-F Expression Qualifier Interval Operation Query) (s : Scope) (a : Value) → qualifier world under (roll-Qualifier x) s a
      ≡ qualifier_layer world under (map-Qualifier Expression Qualifier Interval Operation Query Meaning Operating Meaning Operating Meaning (expression world under) (qualifier world under) (interval world under) (operation world under) (query world under) x) s a
  unfolding expression qualifier interval operation query
  qualifier-roll under x s a = ap (λ b. b s a) (fold-roll-Qualifier Meaning Operating Meaning Operating Meaning (expression_layer world under) (qualifier_layer world under) (interval_layer world under) (operation_layer world under) (query_layer world under) x)

  abbrev qualifier_parts : Qualifier-F Part QualifierPart IntervalPart OperationPart QueryPart → Qualifier-F Expression Qualifier Interval Operation Query
  qualifier_parts y = map-Qualifier Part QualifierPart IntervalPart OperationPart QueryPart Expression Qualifier Interval Operation Query (λ e. e.0) (λ e. e.0) (λ e. e.0) (λ e. e.0) (λ e. e.0) y

  abbrev qualifier_step : ℕ → Qualifier-F Part QualifierPart IntervalPart OperationPart QueryPart → Operating
  qualifier_step l y = qualifier_layer world (below l) (map-Qualifier Expression Qualifier Interval Operation Query Meaning Operating Meaning Operating Meaning (expression world (below l)) (qualifier world (below l)) (interval world (below l)) (operation world (below l)) (query world (below l)) (qualifier_parts y))

  interval-roll : (under : Body → Computation Value) (x : Interval-F Expression Qualifier Interval Operation Query) (s : Scope) → interval world under (roll-Interval x) s
      ≡ interval_layer world under (map-Interval Expression Qualifier Interval Operation Query Meaning Operating Meaning Operating Meaning (expression world under) (qualifier world under) (interval world under) (operation world under) (query world under) x) s
  unfolding expression qualifier interval operation query
  interval-roll under x s = ap (λ b. b s) (fold-roll-Interval Meaning Operating Meaning Operating Meaning (expression_layer world under) (qualifier_layer world under) (interval_layer world under) (operation_layer world under) (query_layer world under) x)

  abbrev interval_parts : Interval-F Part QualifierPart IntervalPart OperationPart QueryPart → Interval-F Expression Qualifier Interval Operation Query
  interval_parts y = map-Interval Part QualifierPart IntervalPart OperationPart QueryPart Expression Qualifier Interval Operation Query (λ e. e.0) (λ e. e.0) (λ e. e.0) (λ e. e.0) (λ e. e.0) y

  abbrev interval_step : ℕ → Interval-F Part QualifierPart IntervalPart OperationPart QueryPart → Meaning
  interval_step l y = interval_layer world (below l) (map-Interval Expression Qualifier Interval Operation Query Meaning Operating Meaning Operating Meaning (expression world (below l)) (qualifier world (below l)) (interval world (below l)) (operation world (below l)) (query world (below l)) (interval_parts y))

  operation-roll : (under : Body → Computation Value) (x : Operation-F Expression Qualifier Interval Operation Query) (s : Scope) (a : Value) → operation world under (roll-Operation x) s a
      ≡ operation_layer world under (map-Operation Expression Qualifier Interval Operation Query Meaning Operating Meaning Operating Meaning (expression world under) (qualifier world under) (interval world under) (operation world under) (query world under) x) s a
  unfolding expression qualifier interval operation query
  operation-roll under x s a = ap (λ b. b s a) (fold-roll-Operation Meaning Operating Meaning Operating Meaning (expression_layer world under) (qualifier_layer world under) (interval_layer world under) (operation_layer world under) (query_layer world under) x)

  abbrev operation_parts : Operation-F Part QualifierPart IntervalPart OperationPart QueryPart → Operation-F Expression Qualifier Interval Operation Query
  operation_parts y = map-Operation Part QualifierPart IntervalPart OperationPart QueryPart Expression Qualifier Interval Operation Query (λ e. e.0) (λ e. e.0) (λ e. e.0) (λ e. e.0) (λ e. e.0) y

  abbrev operation_step : ℕ → Operation-F Part QualifierPart IntervalPart OperationPart QueryPart → Operating
  operation_step l y = operation_layer world (below l) (map-Operation Expression Qualifier Interval Operation Query Meaning Operating Meaning Operating Meaning (expression world (below l)) (qualifier world (below l)) (interval world (below l)) (operation world (below l)) (query world (below l)) (operation_parts y))

  query-roll : (under : Body → Computation Value) (x : Query-F Expression Qualifier Interval Operation Query) (s : Scope) → query world under (roll-Query x) s
      ≡ query_layer world under (map-Query Expression Qualifier Interval Operation Query Meaning Operating Meaning Operating Meaning (expression world under) (qualifier world under) (interval world under) (operation world under) (query world under) x) s
  unfolding expression qualifier interval operation query
  query-roll under x s = ap (λ b. b s) (fold-roll-Query Meaning Operating Meaning Operating Meaning (expression_layer world under) (qualifier_layer world under) (interval_layer world under) (operation_layer world under) (query_layer world under) x)

  abbrev query_parts : Query-F Part QualifierPart IntervalPart OperationPart QueryPart → Query-F Expression Qualifier Interval Operation Query
  query_parts y = map-Query Part QualifierPart IntervalPart OperationPart QueryPart Expression Qualifier Interval Operation Query (λ e. e.0) (λ e. e.0) (λ e. e.0) (λ e. e.0) (λ e. e.0) y

  abbrev query_step : ℕ → Query-F Part QualifierPart IntervalPart OperationPart QueryPart → Meaning
  query_step l y = query_layer world (below l) (map-Query Expression Qualifier Interval Operation Query Meaning Operating Meaning Operating Meaning (expression world (below l)) (qualifier world (below l)) (interval world (below l)) (operation world (below l)) (query world (below l)) (query_parts y))

  expression-step : (y : Expression-F Part QualifierPart IntervalPart OperationPart QueryPart) (s : Scope) → Steady (λ l. step l y s) levels
  expression-step (Expression-F.Literal x) s = steady-after 1 _ levels (steady-same _ levels)
  expression-step Expression-F.Itself s = steady-after 1 _ levels (steady-same _ levels)
  expression-step (Expression-F.Variable slot) s = steady-after 1 _ levels (steady-same _ levels)
  expression-step (Expression-F.«Expression::Attribute» a) s = steady-after 1 _ levels (steady-attribute (a ∷ []) s.itself)
  expression-step (Expression-F.Constant number) s = steady-after 1 _ levels (c (b.Constant number))
  expression-step (Expression-F.Population entity) s = steady-after 1 _ levels (steady-costing _ _ levels)
  expression-step (Expression-F.Call number arguments) s = steady-after 1 _ levels (steady-bind _ _ levels (steady-each s [] arguments) (λ values. c (b.Function number values)))
  expression-step (Expression-F.BuiltIn function arguments) s = steady-after 1 _ levels (steady-bind _ _ levels (steady-each s [] arguments) (steady-built_in function))
  expression-step (Expression-F.UsedIn x role) s = steady-after 2 _ levels (steady-bind _ _ levels (x.1 s) (λ a. steady-used_in_role role (place_of a)))
  expression-step (Expression-F.Qualified x qualifiers) s = steady-bind _ _ levels (x.1 s) (steady-qualified s qualifiers)
  expression-step (Expression-F.Unary operator x) s = steady-after 1 _ levels (steady-bind _ _ levels (x.1 s) (λ a. steady-same _ levels))
  expression-step (Expression-F.Chain x operations) s = steady-bind _ _ levels (x.1 s) (steady-chain s operations)
  expression-step (Expression-F.Interval x) s = steady-after 1 _ levels (x.1 s)
  expression-step (Expression-F.Query q) s = steady-after 1 _ levels (q.1 s)
  expression-step (Expression-F.Initializer elements) s = steady-after 1 _ levels (steady-bind _ _ levels (steady-each s [] elements) (λ values. steady-costing _ _ levels))

  qualifier-step : (y : Qualifier-F Part QualifierPart IntervalPart OperationPart QueryPart) (s : Scope) (a : Value) → Steady (λ l. qualifier_step l y s a) levels
  qualifier-step (Qualifier-F.«Qualifier::Attribute» attributes) s a = steady-after 1 _ levels (steady-attribute attributes a)
  qualifier-step (Qualifier-F.Group entity) s a = steady-after 1 _ levels (steady-same _ levels)
  qualifier-step (Qualifier-F.Index x) s a = steady-after 1 _ levels (steady-bind _ _ levels (x.1 s) (λ at. steady-same _ levels))
  qualifier-step (Qualifier-F.Range x y) s a = steady-after 1 _ levels (steady-bind _ _ levels (x.1 s) (λ first. steady-bind _ _ levels (y.1 s) (λ last. steady-same _ levels)))

  interval-step : (y : Interval-F Part QualifierPart IntervalPart OperationPart QueryPart) (s : Scope) → Steady (λ l. interval_step l y s) levels
  interval-step y s = steady-bind _ _ levels (y.low.1 s) (λ low. steady-bind _ _ levels (y.item.1 s) (λ item. steady-bind _ _ levels (y.high.1 s) (λ high. steady-costing _ _ levels)))

  operation-step : (y : Operation-F Part QualifierPart IntervalPart OperationPart QueryPart) (s : Scope) (a : Value) → Steady (λ l. operation_step l y s a) levels
  operation-step y s a = steady-after 1 _ levels (steady-bind _ _ levels (y.right.1 s) (λ b. steady-costing _ _ levels))

  query-step : (y : Query-F Part QualifierPart IntervalPart OperationPart QueryPart) (s : Scope) → Steady (λ l. query_step l y s) levels
  query-step y s = steady-bind _ _ levels (y.source.1 s) (λ a. steady-queried levels (λ l. expression world (below l) y.condition.0) y.condition.1 s _)

  pub steady-expression : (e : Expression) (s : Scope) → Steady (λ l. expression world (below l) e s) levels
  steady-expression = ind-Expression IsSteady IsSteadyQualifier IsSteadyInterval IsSteadyOperation IsSteadyQuery
      (λ x y is. subst (λ z. IsSteady (roll-Expression z)) is (λ s. subst (λ (m : ℕ → Computation Value). Steady m levels) (λ i l. sym (expression-roll (below l) (expression_parts y) s) i) (expression-step y s)))
      (λ x y is. subst (λ z. IsSteadyQualifier (roll-Qualifier z)) is (λ s a. subst (λ (m : ℕ → Computation Value). Steady m levels) (λ i l. sym (qualifier-roll (below l) (qualifier_parts y) s a) i) (qualifier-step y s a)))
      (λ x y is. subst (λ z. IsSteadyInterval (roll-Interval z)) is (λ s. subst (λ (m : ℕ → Computation Value). Steady m levels) (λ i l. sym (interval-roll (below l) (interval_parts y) s) i) (interval-step y s)))
      (λ x y is. subst (λ z. IsSteadyOperation (roll-Operation z)) is (λ s a. subst (λ (m : ℕ → Computation Value). Steady m levels) (λ i l. sym (operation-roll (below l) (operation_parts y) s a) i) (operation-step y s a)))
      (λ x y is. subst (λ z. IsSteadyQuery (roll-Query z)) is (λ s. subst (λ (m : ℕ → Computation Value). Steady m levels) (λ i l. sym (query-roll (below l) (query_parts y) s) i) (query-step y s)))

-- ---- statements

steady-going_on : (levels : ℕ) (f : ℕ → Action) → ((s : Scope) → Steady (λ l. f l s) levels) → (a : After) → Steady (λ l. going_on (f l) a) levels
steady-going_on levels f c (Next s) = c s
steady-going_on levels f c (Skipped s) = steady-same _ levels
steady-going_on levels f c (Escaped s) = steady-same _ levels
steady-going_on levels f c (Returned x) = steady-same _ levels

steady-again : (levels : ℕ) (f : ℕ → Action) → ((s : Scope) → Steady (λ l. f l s) levels) → (t : Turn) → Steady (λ l. again (f l) t) levels
steady-again levels f c (Again s) = c s
steady-again levels f c (Over a) = steady-same _ levels

steady-from_start : (levels : ℕ) (one : ℕ → Scope → Computation Turn) (next : ℕ → Action) (c : (s : Scope) → Steady (λ l. one l s) levels) (d : (s : Scope) → Steady (λ l. next l s) levels)
    → (s : Scope) (o : Option Scope) → Steady (λ l. from_start (one l) (next l) s o) levels
steady-from_start levels one next c d s None = steady-same _ levels
steady-from_start levels one next c d s (Some t) = steady-bind _ _ levels (c t) (steady-again levels next d)

module _ (levels : ℕ) (one : ℕ → Scope → Computation Turn) (c : (s : Scope) → Steady (λ l. one l s) levels) where
  steady-repeated : (turns : ℕ) (r : Option Running) (s : Scope) → Steady (λ l. repeated turns (one l) r s) levels
  unfolding repeated
  steady-repeated zero r s = steady-none levels
  steady-repeated (suc n) r s = steady-from_start levels one (λ l. repeated n (one l) (advanced r)) c (steady-repeated n (advanced r)) s (started r s)

  steady-counted : (turns : ℕ) (r : Option Running) (s : Scope) → Steady (λ l. counted turns (one l) r s) levels
  steady-counted turns None s = steady-same _ levels
  steady-counted turns (Some r) s = steady-bind _ _ levels (steady-repeated turns (Some r) _) (λ a. steady-same _ levels)

module _ (levels : ℕ) (value : ℕ → Expression → Meaning) (c : (e : Expression) (s : Scope) → Steady (λ l. value l e s) levels) where
  steady-asked : (none : Bool) (o : Option Expression) (s : Scope) → Steady (λ l. asked (value l) none o s) levels
  steady-asked none None s = steady-same _ levels
  steady-asked none (Some x) s = steady-bind _ _ levels (c x s) (λ a. steady-same _ levels)

  steady-turned : (until : Option Expression) (a : After) → Steady (λ l. turned (asked (value l) false until) a) levels
  steady-turned until (Next s) = steady-bind _ _ levels (steady-asked false until s) (λ t. steady-same _ levels)
  steady-turned until (Skipped s) = steady-bind _ _ levels (steady-asked false until s) (λ t. steady-same _ levels)
  steady-turned until (Escaped s) = steady-same _ levels
  steady-turned until (Returned x) = steady-same _ levels

  steady-step : (o : Option Expression) (s : Scope) → Steady (λ l. step_value (value l) o s) levels
  steady-step None s = steady-same _ levels
  steady-step (Some x) s = c x s

  steady-repeats : (turns : ℕ) (one : ℕ → Scope → Computation Turn) → ((s : Scope) → Steady (λ l. one l s) levels) → (o : Option Increment) (s : Scope) → Steady (λ l. repeats turns (value l) (one l) o s) levels
  steady-repeats turns one d None s = steady-repeated levels one d turns None s
  steady-repeats turns one d (Some i) s = steady-bind _ _ levels (c i.first s) (λ a. steady-bind _ _ levels (c i.last s) (λ b. steady-bind _ _ levels (steady-step i.step s) (λ x. steady-counted levels one d turns (running a b x) s)))

  steady-any_equal : (a : Value) (labels : List Expression) (s : Scope) → Steady (λ l. any_equal (value l) a labels s) levels
  steady-any_equal a [] s = steady-same _ levels
  steady-any_equal a (x ∷ labels) s = steady-bind _ _ levels (c x s) (λ b. steady-if (is_true (equal a b)) _ _ levels (steady-same _ levels) (steady-any_equal a labels s))

  steady-is_hit : (a : Value) (o : Option (List Expression)) (s : Scope) → Steady (λ l. is_hit (value l) a o s) levels
  steady-is_hit a None s = steady-same _ levels
  steady-is_hit a (Some labels) s = steady-any_equal a labels s

  module _ (body : ℕ → Action) (d : (s : Scope) → Steady (λ l. body l s) levels) where
    steady-turn : (control : Control) (s : Scope) → Steady (λ l. turn (value l) control (body l) s) levels
    steady-turn control s = steady-bind _ _ levels (steady-asked true control.while_condition s)
        (λ goes. steady-if goes _ _ levels (steady-bind _ _ levels (d s) (steady-turned control.until_condition)) (steady-same _ levels))

module _ (world : World) (turns levels : ℕ) (below : ℕ → Body → Computation Value) (c : (body : Body) → Steady (λ l. below l body) levels) where
  abbrev value : ℕ → Expression → Meaning
  value l = expression world (below l)

  abbrev IsSteadyStatement : Statement → Type 0
  IsSteadyStatement x = (s : Scope) → Steady (λ l. statement world turns (below l) x s) levels

  -- the labels are the same on each level
  record IsSteadyAction (x : CaseAction) : Type 0 where
    labels : Option (List Expression)
    same : (l : ℕ) → (labelled world turns (below l) x).0 ≡ labels
    steady : (s : Scope) → Steady (λ l. (labelled world turns (below l) x).1 s) levels

  abbrev StatementPart : Type 0
  StatementPart = (x : Statement) × IsSteadyStatement x

  abbrev ActionPart : Type 0
  ActionPart = (x : CaseAction) × IsSteadyAction x

  steady-one_by_one : (ys : List StatementPart) (s : Scope) → Steady (λ l. one_by_one s (map (statement world turns (below l)) (map (λ y. y.0) ys))) levels
  steady-one_by_one [] s = steady-same _ levels
  steady-one_by_one (y ∷ ys) s = steady-bind _ _ levels (y.1 s) (steady-going_on levels (λ l t. one_by_one t (map (statement world turns (below l)) (map (λ y. y.0) ys))) (steady-one_by_one ys))

  steady-matched : (a : Value) (ys : List ActionPart) (s : Scope) → Steady (λ l. matched (value l) a (map (labelled world turns (below l)) (map (λ y. y.0) ys)) s) levels
  steady-matched a [] s = steady-same _ levels
  steady-matched a (y ∷ ys) s =
      steady-bind (λ l. is_hit (value l) a (labelled world turns (below l) y.0).0 s) _ levels
      (subst (λ (m : ℕ → Computation Bool). Steady m levels) (λ i l. is_hit (value l) a (sym (y.1.same l) i) s) (steady-is_hit levels value (steady-expression world levels below c) a y.1.labels s))
      (λ hit. steady-if hit _ _ levels (y.1.steady s) (steady-matched a ys s))

  statement-roll : (under : Body → Computation Value) (x : Statement-F Statement CaseAction) (s : Scope) → statement world turns under (roll-Statement x) s
      ≡ statement_layer world turns under (map-Statement Statement CaseAction Action Labelled (statement world turns under) (labelled world turns under) x) s
  unfolding statement labelled
  statement-roll under x s = ap (λ b. b s) (fold-roll-Statement Action Labelled (statement_layer world turns under) (action_layer world turns under) x)

  labelled-roll : (under : Body → Computation Value) (x : CaseAction-F Statement CaseAction) → labelled world turns under (roll-CaseAction x)
      ≡ action_layer world turns under (map-CaseAction Statement CaseAction Action Labelled (statement world turns under) (labelled world turns under) x)
  unfolding statement labelled
  labelled-roll under x = fold-roll-CaseAction Action Labelled (statement_layer world turns under) (action_layer world turns under) x

  abbrev statement_step : ℕ → Statement-F StatementPart ActionPart → Action
  statement_step l y = statement_layer world turns (below l) (map-Statement Statement CaseAction Action Labelled (statement world turns (below l)) (labelled world turns (below l)) (map-Statement StatementPart ActionPart Statement CaseAction (λ e. e.0) (λ e. e.0) y))

  statement-step : (y : Statement-F StatementPart ActionPart) (s : Scope) → Steady (λ l. statement_step l y s) levels
  statement-step Statement-F.Null s = steady-after 1 _ levels (steady-same _ levels)
  statement-step (Statement-F.Assignment slot data_type x) s = steady-after 1 _ levels (steady-bind _ _ levels (steady-expression world levels below c x s) (λ a. steady-same _ levels))
  statement-step (Statement-F.Compound list) s = steady-after 1 _ levels (steady-one_by_one list s)
  statement-step (Statement-F.Case selector actions) s =
      steady-bind (λ l. steps 1) _ levels (steady-steps 1 levels) (λ u. steady-bind _ _ levels (steady-expression world levels below c selector s) (λ a. steady-matched a actions s))
  statement-step (Statement-F.If test then_part else_part) s =
      steady-bind (λ l. steps 1) _ levels (steady-steps 1 levels) (λ u. steady-bind _ _ levels (steady-expression world levels below c test s) (λ a. steady-if (is_true a) _ _ levels (steady-one_by_one then_part s) (steady-one_by_one else_part s)))
  statement-step (Statement-F.Repeat control body) s =
      steady-bind (λ l. steps 1) _ levels (steady-steps 1 levels) (λ u. steady-repeats levels value (steady-expression world levels below c) turns
      (λ l. turn (value l) control (λ t. one_by_one t (map (statement world turns (below l)) (map (λ y. y.0) body))))
      (steady-turn levels value (steady-expression world levels below c) (λ l t. one_by_one t (map (statement world turns (below l)) (map (λ y. y.0) body))) (steady-one_by_one body) control)
      control.increment s)
  statement-step Statement-F.Escape s = steady-bind (λ l. steps 1) _ levels (steady-steps 1 levels) (λ u. steady-same _ levels)
  statement-step Statement-F.Skip s = steady-bind (λ l. steps 1) _ levels (steady-steps 1 levels) (λ u. steady-same _ levels)
  statement-step (Statement-F.Return x) s = steady-bind (λ l. steps 1) _ levels (steady-steps 1 levels) (λ u. steady-bind _ _ levels (steady-expression world levels below c x s) (λ a. steady-same _ levels))

  abbrev parts_of : CaseAction-F StatementPart ActionPart → CaseAction-F Statement CaseAction
  parts_of y = map-CaseAction StatementPart ActionPart Statement CaseAction (λ e. e.0) (λ e. e.0) y

  action-step : (y : CaseAction-F StatementPart ActionPart) → IsSteadyAction (roll-CaseAction (parts_of y))
  action-step y = record {
    labels = y.labels;
    same = λ l. ap (λ (x : Labelled). x.0) (labelled-roll (below l) (parts_of y));
    steady = λ s. subst (λ (m : ℕ → Computation After). Steady m levels) (λ i l. (sym (labelled-roll (below l) (parts_of y)) i).1 s) (y.statement.1 s);
  }

  steady-statement : (x : Statement) (s : Scope) → Steady (λ l. statement world turns (below l) x s) levels
  steady-statement = ind-Statement IsSteadyStatement IsSteadyAction
      (λ x y is. subst (λ z. IsSteadyStatement (roll-Statement z)) is (λ s. subst (λ (m : ℕ → Computation After). Steady m levels) (λ i l. sym (statement-roll (below l) (map-Statement StatementPart ActionPart Statement CaseAction (λ e. e.0) (λ e. e.0) y) s) i) (statement-step y s)))
      (λ x y is. subst (λ z. IsSteadyAction (roll-CaseAction z)) is (action-step y))

  steady-statements : (list : List Statement) (s : Scope) → Steady (λ l. statements world turns (below l) list s) levels
  steady-statements [] s = steady-same _ levels
  steady-statements (x ∷ list) s = steady-bind _ _ levels (steady-statement x s) (steady-going_on levels (λ l. statements world turns (below l) list) (steady-statements list))

  -- ---- algorithms

  steady-given_value : (x : Given) (s : Scope) → Steady (λ l. given_value world turns (below l) x s) levels
  steady-given_value x s = steady-bind _ _ levels (steady-expression world levels below c x.value s) (λ a. steady-same _ levels)

  steady-initialized : (list : List Initial) (s : Scope) → Steady (λ l. initialized world turns (below l) list s) levels
  steady-initialized [] s = steady-same s levels
  steady-initialized (x ∷ list) s = steady-bind _ _ levels (steady-given_value x.given s) (λ a. steady-initialized list (all_assigned x.slot x.count a s))

  steady-algorithm : (x : Algorithm) (s : Scope) → Steady (λ l. algorithm world turns (below l) x s) levels
  steady-algorithm x s = steady-bind _ _ levels (steady-initialized x.initial s) (steady-statements x.statements)

  -- ---- bodies

  steady-given_by : (o : Option Given) (itself : Value) → Steady (λ l. given_by world turns (below l) o itself) levels
  steady-given_by None itself = steady-same _ levels
  steady-given_by (Some x) itself = steady-given_value x (alone itself)

  steady-called : (o : Option Function) (arguments : List Value) → Steady (λ l. called world turns (below l) o arguments) levels
  steady-called None arguments = steady-same _ levels
  steady-called (Some f) arguments = steady-bind _ _ levels (steady-algorithm f.algorithm _) (λ a. steady-same _ levels)

  steady-body : (body : Body) → Steady (λ l. body_with world turns (below l) body) levels
  steady-body (b.Derived entity place instance) = steady-given_by (derivation world.schema entity place) (v.Inst instance)
  steady-body (b.Constant number) = steady-given_by (slice_get world.schema.constants number) v.Indet
  steady-body (b.Function number arguments) = steady-called (slice_get world.schema.functions number) arguments

module _ (world : World) (turns n : ℕ) (body : Body) (c : Steady (λ l. body_with world turns (level world turns l) body) n) where
  again-at : (count levels left nesting bodies : ℕ) (x : Value) → ((others left nesting : ℕ) → bodies ≤ others → body_with world turns (level world turns others) body (record { left = count + left; nesting = nesting }) ≡ Some (x, record { left = left; nesting = max nesting bodies }))
      → bodies + 1 ≤ levels → level world turns levels body (record { left = count + left; nesting = nesting }) ≡ Some (x, record { left = left; nesting = max nesting (bodies + 1) })
  unfolding level
  again-at count zero left nesting bodies x same h = absurd (omega arith)
  again-at count (suc o) left nesting bodies x same h =
      rw (same o left 0 (omega arith)) (ap (λ (k : ℕ). Some (x, record { left = left; nesting = max nesting k })) (omega arith))

  nested-from : (old new : Counter) (x : Value) (o : Option (Value × Counter)) → body_with world turns (level world turns n) body (in_body old) ≡ o → and_then o (around old.nesting) ≡ Some (x, new)
      → Taken (λ l. level world turns l body) (suc n) old new x
  nested-from old new x None e h = absurd (cc)
  nested-from old new x (Some p) e h =
      let one = c.taken (in_body old) p.1 p.0 e in
      let q = parts p.0 x (record { left = p.1.left; nesting = max old.nesting (p.1.nesting + 1) }) new h in
      let left_is : p.1.left ≡ new.left = ap (λ (k : Counter). k.left) q.1 in
      let nesting_is : max old.nesting (p.1.nesting + 1) ≡ new.nesting = ap (λ (k : Counter). k.nesting) q.1 in
      record {
        steps = one.steps;
        bodies = one.bodies + 1;
        left = omega (arith, one.left, left_is);
        nesting = omega (arith, one.nesting, nesting_is);
        nests = omega (arith, one.nests);
        same = λ others left nesting h. rw (sym q.0) (again-at one.steps others left nesting one.bodies p.0 one.same h);
      }

pub steady-level : (world : World) (turns levels : ℕ) (body : Body) → Steady (λ l. level world turns l body) levels
unfolding level
steady-level world turns zero body = record { taken = λ old new x h. absurd (cc) }
steady-level world turns (suc n) body =
    let c = steady-body world turns n (level world turns) (steady-level world turns n) body in
    record { taken = λ old new x h. nested-from world turns n body c old new x (body_with world turns (level world turns n) body (in_body old)) refl h }

-- ---- rules

module _ (world : World) (levels : ℕ) (below : ℕ → Body → Computation Value) (c : (body : Body) → Steady (λ l. below l body) levels) where
  steady-value_by : (o : Option Expression) (s : Scope) → Steady (λ l. value_by world (below l) o s) levels
  steady-value_by None s = steady-same _ levels
  steady-value_by (Some x) s = steady-expression world levels below c x s

  steady-attribute_value : (o : Option AttributePlace) (itself : Value) → Steady (λ l. attribute_value world (below l) o itself) levels
  steady-attribute_value None itself = steady-same _ levels
  steady-attribute_value (Some a) itself = steady-after 1 _ levels (steady-attribute world levels below c (a ∷ []) itself)

  steady-bounds_value : (o : Option Inverse) (place : Option ℕ) → Steady (λ l. bounds_value world (below l) o place) levels
  steady-bounds_value None place = steady-same _ levels
  steady-bounds_value (Some x) None = steady-same _ levels
  steady-bounds_value (Some x) (Some place) = steady-after _ _ levels (steady-same _ levels)

  steady-condition_after : (o : Option Expression) (a : After) → Steady (λ l. condition_after world (below l) o a) levels
  steady-condition_after o (Next s) = steady-value_by o s
  steady-condition_after o (Skipped s) = steady-same _ levels
  steady-condition_after o (Escaped s) = steady-same _ levels
  steady-condition_after o (Returned x) = steady-same _ levels

  steady-rule_value : (o : Option GlobalRule) (place : ℕ) → Steady (λ l. rule_value world (below l) o place) levels
  steady-rule_value None place = steady-same _ levels
  steady-rule_value (Some x) place = steady-bind _ _ levels (steady-algorithm world most_turns levels below c x.algorithm _) (steady-condition_after (slice_get x.domain_rules place))

  pub steady-evaluation : (rule : Rule) (itself : Value) → Steady (λ l. evaluation world (below l) rule itself) levels
  steady-evaluation (r.Type number place) itself = steady-value_by _ (alone itself)
  steady-evaluation (r.Entity number place) itself = steady-value_by _ (alone itself)
  steady-evaluation (r.Global number place) itself = steady-rule_value (slice_get world.schema.rules number) place
  steady-evaluation (r.Unique number place at) itself = steady-attribute_value _ itself
  steady-evaluation (r.Inverse number place) itself = steady-bounds_value (inverse_at world.schema number place) (place_of itself)

-- ---- what a caller's code needs of them

module _ (world : World) (turns levels : ℕ) (old new : Counter) (x : Value) where
  pub left-falls : (e : Expression) (s : Scope) → expression world (level world turns levels) e s old ≡ Some (x, new) → new.left ≤ old.left
  left-falls e s h = let t = (steady-expression world levels (level world turns) (steady-level world turns levels) e s).taken old new x h in omega (arith, t.left)

  pub nesting-within : (body : Body) → body_with world turns (level world turns levels) body old ≡ Some (x, new) → new.nesting ≤ max old.nesting levels
  nesting-within body h = let t = (steady-body world turns levels (level world turns) (steady-level world turns levels) body).taken old new x h in omega (arith, t.nesting, t.nests)
