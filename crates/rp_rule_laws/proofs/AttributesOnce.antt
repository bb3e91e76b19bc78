-- What the typing of an expression refuses: an attribute whose name means several.
use Rattle.std.proofs.Common.{◌≡◌, ℕ, Bool, true, ◌&&◌, List, [], ◌∷◌, map, Option, Some, None, refl, sym, ◌∙◌, ap, subst}
use Rattle.std.proofs.lemmas.Bool.{and_from}
use Rattle.ex_kinds.specs.declared.fault.TypeFault.{TypeFault}
use Rattle.ex_kinds.specs.declared.typed.Typed.{Typed}
use Rattle.ex_kinds.specs.Faults.{either, ruled}
use Rattle.ex_kinds.specs.Types.{plain}
use Rattle.ex_operators.specs.Operators.{comparison}
use Rattle.ex_operators.specs.Taken.{elements_of, indexed, queried, ranged}
use Rattle.ex_attributes.specs.Attributes.{used}
use Rattle.ex_attributes.specs.Attributes as attributes
use Rattle.ex_named.specs.declared.reference.AttributeMeaning.{AttributeMeaning}
use Rattle.ex_named.specs.declared.reference.AttributeMeaning.TheVariants as m
use Rattle.ex_named.specs.declared.reference.AttributeUse.{AttributeUse}
use Rattle.ex_named.specs.declared.expression.NamedExpression.{NamedExpression, roll-NamedExpression, map-NamedExpression}
use Rattle.ex_named.specs.declared.expression.NamedExpression.TheFolds.{fold-roll-NamedExpression, fold-roll-NamedQualifier, fold-roll-NamedInterval, fold-roll-NamedOperation, fold-roll-NamedQuery, ind-NamedExpression}
use Rattle.ex_named.specs.declared.expression.NamedExpression.TheOpen.{NamedExpression-F, NamedQualifier-F, NamedInterval-F, NamedOperation-F, NamedQuery-F}
use Rattle.ex_named.specs.declared.expression.NamedInterval.{NamedInterval, roll-NamedInterval, map-NamedInterval}
use Rattle.ex_named.specs.declared.expression.NamedOperation.{NamedOperation, roll-NamedOperation, map-NamedOperation}
use Rattle.ex_named.specs.declared.expression.NamedQualifier.{NamedQualifier, roll-NamedQualifier, map-NamedQualifier}
use Rattle.ex_named.specs.declared.expression.NamedQuery.{NamedQuery, roll-NamedQuery, map-NamedQuery}
use Rattle.ex_typing.specs.Expressions as typing
use Rattle.ex_typing.specs.Expressions.{Known, TypedExpression, TypedList, TypedOperation, TypedQualifier, TypingScope, each_after, one_after_another, typed_expression, within}
use Rattle.ex_typing.specs.Trees.{typed_interval, typed_operation, typed_qualifier, typed_query}
use Rattle.rp_rule_laws.specs.Attributes as law

-- ---- faults

pub neither : (a b : Option TypeFault) → either a b ≡ None → (a ≡ None) × (b ≡ None)
neither None b none = (refl, none)
neither (Some f) None none = cc
neither (Some f) (Some g) none = cc

first_none : (a b : Option TypeFault) → either a b ≡ None → a ≡ None
first_none a b none = (neither a b none).0

abbrev Layer : Type 0
Layer = NamedExpression-F NamedExpression NamedQualifier NamedInterval NamedOperation NamedQuery

-- ---- whose attributes mean one

pub one-roll : (x : Layer) → law.expression (roll-NamedExpression x) ≡ law.expression_layer (map-NamedExpression NamedExpression NamedQualifier NamedInterval NamedOperation NamedQuery Bool Bool Bool Bool Bool law.expression law.qualifier law.interval law.operation law.query x)
unfolding law.expression law.qualifier law.interval law.operation law.query
one-roll x = fold-roll-NamedExpression Bool Bool Bool Bool Bool law.expression_layer law.qualifier_layer law.interval_layer law.operation_layer law.query_layer x

pub one_qualifier-roll : (x : NamedQualifier-F NamedExpression NamedQualifier NamedInterval NamedOperation NamedQuery) → law.qualifier (roll-NamedQualifier x) ≡ law.qualifier_layer (map-NamedQualifier NamedExpression NamedQualifier NamedInterval NamedOperation NamedQuery Bool Bool Bool Bool Bool law.expression law.qualifier law.interval law.operation law.query x)
unfolding law.expression law.qualifier law.interval law.operation law.query
one_qualifier-roll x = fold-roll-NamedQualifier Bool Bool Bool Bool Bool law.expression_layer law.qualifier_layer law.interval_layer law.operation_layer law.query_layer x

pub one_interval-roll : (x : NamedInterval-F NamedExpression NamedQualifier NamedInterval NamedOperation NamedQuery) → law.interval (roll-NamedInterval x) ≡ law.interval_layer (map-NamedInterval NamedExpression NamedQualifier NamedInterval NamedOperation NamedQuery Bool Bool Bool Bool Bool law.expression law.qualifier law.interval law.operation law.query x)
unfolding law.expression law.qualifier law.interval law.operation law.query
one_interval-roll x = fold-roll-NamedInterval Bool Bool Bool Bool Bool law.expression_layer law.qualifier_layer law.interval_layer law.operation_layer law.query_layer x

pub one_operation-roll : (x : NamedOperation-F NamedExpression NamedQualifier NamedInterval NamedOperation NamedQuery) → law.operation (roll-NamedOperation x) ≡ law.operation_layer (map-NamedOperation NamedExpression NamedQualifier NamedInterval NamedOperation NamedQuery Bool Bool Bool Bool Bool law.expression law.qualifier law.interval law.operation law.query x)
unfolding law.expression law.qualifier law.interval law.operation law.query
one_operation-roll x = fold-roll-NamedOperation Bool Bool Bool Bool Bool law.expression_layer law.qualifier_layer law.interval_layer law.operation_layer law.query_layer x

pub one_query-roll : (x : NamedQuery-F NamedExpression NamedQualifier NamedInterval NamedOperation NamedQuery) → law.query (roll-NamedQuery x) ≡ law.query_layer (map-NamedQuery NamedExpression NamedQualifier NamedInterval NamedOperation NamedQuery Bool Bool Bool Bool Bool law.expression law.qualifier law.interval law.operation law.query x)
unfolding law.expression law.qualifier law.interval law.operation law.query
one_query-roll x = fold-roll-NamedQuery Bool Bool Bool Bool Bool law.expression_layer law.qualifier_layer law.interval_layer law.operation_layer law.query_layer x

-- ---- what is said of trees

module _ (known : Known) where
  abbrev typed : NamedExpression → TypedExpression
  typed = typed_expression known

  typed-roll : (x : Layer) → typed (roll-NamedExpression x) ≡ typing.expression_layer known (map-NamedExpression NamedExpression NamedQualifier NamedInterval NamedOperation NamedQuery TypedExpression TypedQualifier (TypingScope → Typed) TypedOperation (TypingScope → Typed)
      typed (typed_qualifier known) (typed_interval known) (typed_operation known) (typed_query known) x)
  unfolding typed_expression typed_qualifier typed_interval typed_operation typed_query
  typed-roll x = fold-roll-NamedExpression TypedExpression TypedQualifier (TypingScope → Typed) TypedOperation (TypingScope → Typed) (typing.expression_layer known) (typing.qualifier_layer known) (typing.interval_layer known) (typing.operation_layer known) (typing.query_layer known) x

  qualifier-roll : (x : NamedQualifier-F NamedExpression NamedQualifier NamedInterval NamedOperation NamedQuery) → typed_qualifier known (roll-NamedQualifier x) ≡ typing.qualifier_layer known (map-NamedQualifier NamedExpression NamedQualifier NamedInterval NamedOperation NamedQuery TypedExpression TypedQualifier (TypingScope → Typed) TypedOperation (TypingScope → Typed)
      typed (typed_qualifier known) (typed_interval known) (typed_operation known) (typed_query known) x)
  unfolding typed_expression typed_qualifier typed_interval typed_operation typed_query
  qualifier-roll x = fold-roll-NamedQualifier TypedExpression TypedQualifier (TypingScope → Typed) TypedOperation (TypingScope → Typed) (typing.expression_layer known) (typing.qualifier_layer known) (typing.interval_layer known) (typing.operation_layer known) (typing.query_layer known) x

  interval-roll : (x : NamedInterval-F NamedExpression NamedQualifier NamedInterval NamedOperation NamedQuery) → typed_interval known (roll-NamedInterval x) ≡ typing.interval_layer known (map-NamedInterval NamedExpression NamedQualifier NamedInterval NamedOperation NamedQuery TypedExpression TypedQualifier (TypingScope → Typed) TypedOperation (TypingScope → Typed)
      typed (typed_qualifier known) (typed_interval known) (typed_operation known) (typed_query known) x)
  unfolding typed_expression typed_qualifier typed_interval typed_operation typed_query
  interval-roll x = fold-roll-NamedInterval TypedExpression TypedQualifier (TypingScope → Typed) TypedOperation (TypingScope → Typed) (typing.expression_layer known) (typing.qualifier_layer known) (typing.interval_layer known) (typing.operation_layer known) (typing.query_layer known) x

  operation-roll : (x : NamedOperation-F NamedExpression NamedQualifier NamedInterval NamedOperation NamedQuery) → typed_operation known (roll-NamedOperation x) ≡ typing.operation_layer known (map-NamedOperation NamedExpression NamedQualifier NamedInterval NamedOperation NamedQuery TypedExpression TypedQualifier (TypingScope → Typed) TypedOperation (TypingScope → Typed)
      typed (typed_qualifier known) (typed_interval known) (typed_operation known) (typed_query known) x)
  unfolding typed_expression typed_qualifier typed_interval typed_operation typed_query
  operation-roll x = fold-roll-NamedOperation TypedExpression TypedQualifier (TypingScope → Typed) TypedOperation (TypingScope → Typed) (typing.expression_layer known) (typing.qualifier_layer known) (typing.interval_layer known) (typing.operation_layer known) (typing.query_layer known) x

  query-roll : (x : NamedQuery-F NamedExpression NamedQualifier NamedInterval NamedOperation NamedQuery) → typed_query known (roll-NamedQuery x) ≡ typing.query_layer known (map-NamedQuery NamedExpression NamedQualifier NamedInterval NamedOperation NamedQuery TypedExpression TypedQualifier (TypingScope → Typed) TypedOperation (TypingScope → Typed)
      typed (typed_qualifier known) (typed_interval known) (typed_operation known) (typed_query known) x)
  unfolding typed_expression typed_qualifier typed_interval typed_operation typed_query
  query-roll x = fold-roll-NamedQuery TypedExpression TypedQualifier (TypingScope → Typed) TypedOperation (TypingScope → Typed) (typing.expression_layer known) (typing.qualifier_layer known) (typing.interval_layer known) (typing.operation_layer known) (typing.query_layer known) x

  -- ---- what is proved of each tree, in the scope of an entity

  module _ (entity : ℕ) where
    abbrev Fine : (TypingScope → Typed) → Bool → Type 0
    Fine typed one = (s : TypingScope) → s.entity ≡ Some entity → (typed s).fault ≡ None → one ≡ true

    -- of what follows a value, whose fault it keeps
    abbrev FineBehind : (TypingScope → Typed → Typed) → Bool → Type 0
    FineBehind typed one = (s : TypingScope) → s.entity ≡ Some entity → (base : Typed) → (typed s base).fault ≡ None → (base.fault ≡ None) × (one ≡ true)

    abbrev IsFine : NamedExpression → Type 0
    IsFine x = Fine (typed x) (law.expression x)

    abbrev QualifierIsFine : NamedQualifier → Type 0
    QualifierIsFine x = FineBehind (typed_qualifier known x) (law.qualifier x)

    abbrev IntervalIsFine : NamedInterval → Type 0
    IntervalIsFine x = Fine (typed_interval known x) (law.interval x)

    abbrev OperationIsFine : NamedOperation → Type 0
    OperationIsFine x = FineBehind (typed_operation known x) (law.operation x)

    abbrev QueryIsFine : NamedQuery → Type 0
    QueryIsFine x = Fine (typed_query known x) (law.query x)

    abbrev Part : Type 0
    Part = (x : NamedExpression) × IsFine x

    abbrev QualifierPart : Type 0
    QualifierPart = (x : NamedQualifier) × QualifierIsFine x

    abbrev IntervalPart : Type 0
    IntervalPart = (x : NamedInterval) × IntervalIsFine x

    abbrev OperationPart : Type 0
    OperationPart = (x : NamedOperation) × OperationIsFine x

    abbrev QueryPart : Type 0
    QueryPart = (x : NamedQuery) × QueryIsFine x

    -- ---- lists

    each_fine : (s : TypingScope) → s.entity ≡ Some entity → (found : TypedList) (ps : List Part) → (each_after s found (map typed (map (λ p. p.0) ps))).1 ≡ None → (found.1 ≡ None) × (law.all (map law.expression (map (λ p. p.0) ps)) ≡ true)
    each_fine s in_entity found [] none = (none, refl)
    each_fine s in_entity found (p ∷ ps) none =
        let rest = each_fine s in_entity (typing.and_one found (typed p.0 s)) ps none in
        let both = neither found.1 (typed p.0 s).fault rest.0 in
        (both.0, and_from (law.expression p.0) (law.all (map law.expression (map (λ p. p.0) ps))) (p.1 s in_entity both.1) rest.1)

    qualifiers_fine : (s : TypingScope) → s.entity ≡ Some entity → (found : Typed) (ps : List QualifierPart) → (one_after_another s found (map (typed_qualifier known) (map (λ p. p.0) ps))).fault ≡ None
        → (found.fault ≡ None) × (law.all (map law.qualifier (map (λ p. p.0) ps)) ≡ true)
    qualifiers_fine s in_entity found [] none = (none, refl)
    qualifiers_fine s in_entity found (p ∷ ps) none =
        let rest = qualifiers_fine s in_entity (typed_qualifier known p.0 s found) ps none in
        let both = p.1 s in_entity found rest.0 in
        (both.0, and_from (law.qualifier p.0) (law.all (map law.qualifier (map (λ p. p.0) ps))) both.1 rest.1)

    operations_fine : (s : TypingScope) → s.entity ≡ Some entity → (found : Typed) (ps : List OperationPart) → (one_after_another s found (map (typed_operation known) (map (λ p. p.0) ps))).fault ≡ None
        → (found.fault ≡ None) × (law.all (map law.operation (map (λ p. p.0) ps)) ≡ true)
    operations_fine s in_entity found [] none = (none, refl)
    operations_fine s in_entity found (p ∷ ps) none =
        let rest = operations_fine s in_entity (typed_operation known p.0 s found) ps none in
        let both = p.1 s in_entity found rest.0 in
        (both.0, and_from (law.operation p.0) (law.all (map law.operation (map (λ p. p.0) ps))) both.1 rest.1)

    -- ---- a name

    meaning_fine : (at : ℕ) (meaning : AttributeMeaning) → (attributes.used_by known.attributes entity at meaning).fault ≡ None → law.is_one meaning ≡ true
    meaning_fine at (m.One place) none = refl
    meaning_fine at m.Several none = cc

    use_fine : (name : AttributeUse) (o : Option ℕ) → o ≡ Some entity → (typing.used_by known.attributes o name).fault ≡ None → law.means_one name ≡ true
    unfolding used
    use_fine name o is none = meaning_fine name.at name.meaning (subst (λ (o : Option ℕ). (typing.used_by known.attributes o name).fault ≡ None) is none)

    -- ---- layers

    abbrev parts : NamedExpression-F Part QualifierPart IntervalPart OperationPart QueryPart → Layer
    parts = map-NamedExpression Part QualifierPart IntervalPart OperationPart QueryPart NamedExpression NamedQualifier NamedInterval NamedOperation NamedQuery (λ p. p.0) (λ p. p.0) (λ p. p.0) (λ p. p.0) (λ p. p.0)

    abbrev said : Layer → TypedExpression
    said x = typing.expression_layer known (map-NamedExpression NamedExpression NamedQualifier NamedInterval NamedOperation NamedQuery TypedExpression TypedQualifier (TypingScope → Typed) TypedOperation (TypingScope → Typed) typed (typed_qualifier known) (typed_interval known) (typed_operation known) (typed_query known) x)

    abbrev one : Layer → Bool
    one x = law.expression_layer (map-NamedExpression NamedExpression NamedQualifier NamedInterval NamedOperation NamedQuery Bool Bool Bool Bool Bool law.expression law.qualifier law.interval law.operation law.query x)

    layer_fine : (y : NamedExpression-F Part QualifierPart IntervalPart OperationPart QueryPart) → Fine (said (parts y)) (one (parts y))
    layer_fine (NamedExpression-F.«NamedExpression::Attribute» name) s in_entity none = use_fine name s.entity in_entity none
    layer_fine (NamedExpression-F.Call function at arguments) s in_entity none = (each_fine s in_entity ([], None) arguments (neither (each_after s ([], None) (map typed (map (λ p. p.0) arguments))).1 (typing.called_by known function at (each_after s ([], None) (map typed (map (λ p. p.0) arguments))).0).fault none).0).1
    layer_fine (NamedExpression-F.BuiltIn word at arguments) s in_entity none = (each_fine s in_entity ([], None) arguments (neither (each_after s ([], None) (map typed (map (λ p. p.0) arguments))).1 (typing.built_in_at known word at (each_after s ([], None) (map typed (map (λ p. p.0) arguments))).0).fault none).0).1
    layer_fine (NamedExpression-F.Qualified base qualifiers) s in_entity none =
        let both = qualifiers_fine s in_entity (typed base.0 s) qualifiers none in
        and_from (law.expression base.0) (law.all (map law.qualifier (map (λ p. p.0) qualifiers))) (base.1 s in_entity both.0) both.1
    layer_fine (NamedExpression-F.Unary operator at operand) s in_entity none = operand.1 s in_entity (neither (typed operand.0 s).fault (typing.unary_at known operator at (typed operand.0 s).kinds).fault none).0
    layer_fine (NamedExpression-F.Chain left operations) s in_entity none =
        let both = operations_fine s in_entity (typed left.0 s) operations none in
        and_from (law.expression left.0) (law.all (map law.operation (map (λ p. p.0) operations))) (left.1 s in_entity both.0) both.1
    layer_fine (NamedExpression-F.Interval interval) s in_entity none = interval.1 s in_entity none
    layer_fine (NamedExpression-F.Query query) s in_entity none = query.1 s in_entity none
    layer_fine (NamedExpression-F.Initializer elements) s in_entity none = (each_fine s in_entity ([], None) elements none).1
    layer_fine _ s in_entity none = refl

    abbrev qualifier_parts : NamedQualifier-F Part QualifierPart IntervalPart OperationPart QueryPart → NamedQualifier-F NamedExpression NamedQualifier NamedInterval NamedOperation NamedQuery
    qualifier_parts = map-NamedQualifier Part QualifierPart IntervalPart OperationPart QueryPart NamedExpression NamedQualifier NamedInterval NamedOperation NamedQuery (λ p. p.0) (λ p. p.0) (λ p. p.0) (λ p. p.0) (λ p. p.0)

    abbrev qualifier_said : NamedQualifier-F NamedExpression NamedQualifier NamedInterval NamedOperation NamedQuery → TypedQualifier
    qualifier_said x = typing.qualifier_layer known (map-NamedQualifier NamedExpression NamedQualifier NamedInterval NamedOperation NamedQuery TypedExpression TypedQualifier (TypingScope → Typed) TypedOperation (TypingScope → Typed) typed (typed_qualifier known) (typed_interval known) (typed_operation known) (typed_query known) x)

    abbrev qualifier_one : NamedQualifier-F NamedExpression NamedQualifier NamedInterval NamedOperation NamedQuery → Bool
    qualifier_one x = law.qualifier_layer (map-NamedQualifier NamedExpression NamedQualifier NamedInterval NamedOperation NamedQuery Bool Bool Bool Bool Bool law.expression law.qualifier law.interval law.operation law.query x)

    qualifier_fine : (y : NamedQualifier-F Part QualifierPart IntervalPart OperationPart QueryPart) → FineBehind (qualifier_said (qualifier_parts y)) (qualifier_one (qualifier_parts y))
    qualifier_fine (NamedQualifier-F.«NamedQualifier::Attribute» at name) s in_entity base none = (first_none base.fault (attributes.taken known.attributes (plain known.types base.kinds) at name).fault none, refl)
    qualifier_fine (NamedQualifier-F.Group at n) s in_entity base none = (first_none base.fault (typing.grouped_at known at base.kinds n).fault none, refl)
    qualifier_fine (NamedQualifier-F.Index at index) s in_entity base none =
        let parts = neither base.fault (typed index.0 s).fault (first_none (either base.fault (typed index.0 s).fault) (ruled at (indexed known.types base.kinds (typed index.0 s).kinds)).fault none) in
        (parts.0, index.1 s in_entity parts.1)
    qualifier_fine (NamedQualifier-F.Range at low high) s in_entity base none =
        let all = first_none (either (either base.fault (typed low.0 s).fault) (typed high.0 s).fault) (ruled at (ranged known.types base.kinds (typed low.0 s).kinds (typed high.0 s).kinds)).fault none in
        let both = neither (either base.fault (typed low.0 s).fault) (typed high.0 s).fault all in
        let parts = neither base.fault (typed low.0 s).fault both.0 in
        (parts.0, and_from (law.expression low.0) (law.expression high.0) (low.1 s in_entity parts.1) (high.1 s in_entity both.1))

    interval_fine : (y : NamedInterval-F Part QualifierPart IntervalPart OperationPart QueryPart) → (s : TypingScope) → s.entity ≡ Some entity
        → (first second : Option TypeFault) → either (either (either (typed y.low.0 s).fault (typed y.item.0 s).fault) (typed y.high.0 s).fault) (either first second) ≡ None
        → (law.expression y.low.0 && law.expression y.item.0 && law.expression y.high.0) ≡ true
    interval_fine y s in_entity first second none =
        let all = first_none (either (either (typed y.low.0 s).fault (typed y.item.0 s).fault) (typed y.high.0 s).fault) (either first second) none in
        let both = neither (either (typed y.low.0 s).fault (typed y.item.0 s).fault) (typed y.high.0 s).fault all in
        let parts = neither (typed y.low.0 s).fault (typed y.item.0 s).fault both.0 in
        and_from (law.expression y.low.0 && law.expression y.item.0) (law.expression y.high.0)
        (and_from (law.expression y.low.0) (law.expression y.item.0) (y.low.1 s in_entity parts.0) (y.item.1 s in_entity parts.1)) (y.high.1 s in_entity both.1)

    query_fine : (y : NamedQuery-F Part QualifierPart IntervalPart OperationPart QueryPart) → (s : TypingScope) → s.entity ≡ Some entity
        → either (either (typed y.source.0 s).fault (typed y.condition.0 (within s (elements_of known.types (typed y.source.0 s).kinds))).fault) (ruled y.at (queried known.types (typed y.source.0 s).kinds)).fault ≡ None
        → (law.expression y.source.0 && law.expression y.condition.0) ≡ true
    query_fine y s in_entity none =
        let variable : TypingScope = within s (elements_of known.types (typed y.source.0 s).kinds) in
        let parts = neither (typed y.source.0 s).fault (typed y.condition.0 variable).fault (first_none (either (typed y.source.0 s).fault (typed y.condition.0 variable).fault) (ruled y.at (queried known.types (typed y.source.0 s).kinds)).fault none) in
        and_from (law.expression y.source.0) (law.expression y.condition.0) (y.source.1 s in_entity parts.0) (y.condition.1 variable in_entity parts.1)

    -- ---- whole trees

    made : (x : Layer) (y : NamedExpression-F Part QualifierPart IntervalPart OperationPart QueryPart) → parts y ≡ x → IsFine (roll-NamedExpression x)
    made x y is = subst (λ z. IsFine (roll-NamedExpression z)) is (λ s in_entity none.
        one-roll (parts y) ∙ layer_fine y s in_entity (ap (λ (t : TypedExpression). (t s).fault) (sym (typed-roll (parts y))) ∙ none))

    qualifier_made : (x : NamedQualifier-F NamedExpression NamedQualifier NamedInterval NamedOperation NamedQuery) (y : NamedQualifier-F Part QualifierPart IntervalPart OperationPart QueryPart) → qualifier_parts y ≡ x → QualifierIsFine (roll-NamedQualifier x)
    qualifier_made x y is = subst (λ z. QualifierIsFine (roll-NamedQualifier z)) is (λ s in_entity base none.
        let both = qualifier_fine y s in_entity base (ap (λ (t : TypedQualifier). (t s base).fault) (sym (qualifier-roll (qualifier_parts y))) ∙ none) in
        (both.0, one_qualifier-roll (qualifier_parts y) ∙ both.1))

    abbrev interval_parts : NamedInterval-F Part QualifierPart IntervalPart OperationPart QueryPart → NamedInterval-F NamedExpression NamedQualifier NamedInterval NamedOperation NamedQuery
    interval_parts = map-NamedInterval Part QualifierPart IntervalPart OperationPart QueryPart NamedExpression NamedQualifier NamedInterval NamedOperation NamedQuery (λ p. p.0) (λ p. p.0) (λ p. p.0) (λ p. p.0) (λ p. p.0)

    interval_made : (x : NamedInterval-F NamedExpression NamedQualifier NamedInterval NamedOperation NamedQuery) (y : NamedInterval-F Part QualifierPart IntervalPart OperationPart QueryPart) → interval_parts y ≡ x → IntervalIsFine (roll-NamedInterval x)
    interval_made x y is = subst (λ z. IntervalIsFine (roll-NamedInterval z)) is (λ s in_entity none.
        one_interval-roll (interval_parts y) ∙ interval_fine y s in_entity
        (typing.binary_at known (comparison y.low_operator) y.low_at (typed y.low.0 s).kinds (typed y.item.0 s).kinds).fault
        (typing.binary_at known (comparison y.high_operator) y.high_at (typed y.item.0 s).kinds (typed y.high.0 s).kinds).fault
        (ap (λ (t : TypingScope → Typed). (t s).fault) (sym (interval-roll (interval_parts y))) ∙ none))

    abbrev operation_parts : NamedOperation-F Part QualifierPart IntervalPart OperationPart QueryPart → NamedOperation-F NamedExpression NamedQualifier NamedInterval NamedOperation NamedQuery
    operation_parts = map-NamedOperation Part QualifierPart IntervalPart OperationPart QueryPart NamedExpression NamedQualifier NamedInterval NamedOperation NamedQuery (λ p. p.0) (λ p. p.0) (λ p. p.0) (λ p. p.0) (λ p. p.0)

    operation_made : (x : NamedOperation-F NamedExpression NamedQualifier NamedInterval NamedOperation NamedQuery) (y : NamedOperation-F Part QualifierPart IntervalPart OperationPart QueryPart) → operation_parts y ≡ x → OperationIsFine (roll-NamedOperation x)
    operation_made x y is = subst (λ z. OperationIsFine (roll-NamedOperation z)) is (λ s in_entity left none.
        let all : either (either left.fault (typed y.right.0 s).fault) (typing.binary_at known y.operator y.at left.kinds (typed y.right.0 s).kinds).fault ≡ None = ap (λ (t : TypedOperation). (t s left).fault) (sym (operation-roll (operation_parts y))) ∙ none in
        let both = neither left.fault (typed y.right.0 s).fault (first_none (either left.fault (typed y.right.0 s).fault) (typing.binary_at known y.operator y.at left.kinds (typed y.right.0 s).kinds).fault all) in
        (both.0, one_operation-roll (operation_parts y) ∙ y.right.1 s in_entity both.1))

    abbrev query_parts : NamedQuery-F Part QualifierPart IntervalPart OperationPart QueryPart → NamedQuery-F NamedExpression NamedQualifier NamedInterval NamedOperation NamedQuery
    query_parts = map-NamedQuery Part QualifierPart IntervalPart OperationPart QueryPart NamedExpression NamedQualifier NamedInterval NamedOperation NamedQuery (λ p. p.0) (λ p. p.0) (λ p. p.0) (λ p. p.0) (λ p. p.0)

    query_made : (x : NamedQuery-F NamedExpression NamedQualifier NamedInterval NamedOperation NamedQuery) (y : NamedQuery-F Part QualifierPart IntervalPart OperationPart QueryPart) → query_parts y ≡ x → QueryIsFine (roll-NamedQuery x)
    query_made x y is = subst (λ z. QueryIsFine (roll-NamedQuery z)) is (λ s in_entity none.
        one_query-roll (query_parts y) ∙ query_fine y s in_entity (ap (λ (t : TypingScope → Typed). (t s).fault) (sym (query-roll (query_parts y))) ∙ none))

    -- an expression without a fault uses attributes that mean one
    pub expression_fine : (x : NamedExpression) → Fine (typed x) (law.expression x)
    expression_fine = ind-NamedExpression IsFine QualifierIsFine IntervalIsFine OperationIsFine QueryIsFine made qualifier_made interval_made operation_made query_made
