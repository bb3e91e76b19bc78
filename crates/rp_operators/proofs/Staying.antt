-- What declared types leave as it is.
use Rattle.std.proofs.Common.{◌≡◌, ℕ, Bool, true, false, not, ◌||◌, List, [], ◌∷◌, map, Option, None, if◌then◌else◌, refl, sym, ◌∙◌, ap, subst}
use Rattle.std.specs.List.{list_any}
use Rattle.std.proofs.lemmas.Bool.{true≢false}
use Rattle.ex_named.specs.declared.expression.NamedDataType.{NamedDataType, NamedDataType-F, out-NamedDataType}
use Rattle.ex_named.specs.declared.expression.NamedDataType.TheVariants as d
use Rattle.ex_named.specs.declared.expression.NamedDataType.TheViews.{roll-NamedDataType, roll-out-NamedDataType}
use Rattle.ex_named.specs.declared.reference.TypeName.{TypeName}
use Rattle.ex_named.specs.declared.reference.TypeName.TheVariants as t
use Rattle.ex_tree.specs.declared.data_type.SimpleType.{SimpleType}
use Rattle.ex_tree.specs.declared.data_type.SimpleType.TheVariants as s
use Rattle.rp_meaning.specs.Bare.{bare, carried, is_indeterminate, is_indeterminate_in}
use Rattle.rp_meaning.specs.Types as types
use Rattle.rp_meaning.specs.Types.{End, Select, is_of_end, is_of_choice, is_of_written, is_of_simple, is_instance, end_of, fits, given, part, part_under}
use Rattle.rp_meaning.specs.declared.schema.DefinedType.{DefinedType}
use Rattle.rp_operators.specs.Ends.{inside, under, element_under, elements_under, an_aggregate, takes}
use Rattle.rp_operators.proofs.Sights.{bare-Agg, bare-Inst, bare-Named}
use Rattle.rp_operators.proofs.Parts.{inside-rolls, inside-Agg, inside-Named, under-part}
use Rattle.rp_value.specs.Elements.{Elements}
use Rattle.rp_value.specs.declared.value.AggregateKind.{AggregateKind}
use Rattle.rp_value.specs.declared.value.Value.{Value, out-Value}
use Rattle.rp_value.specs.declared.value.Value.TheFolds.{ind-Value, map-Value}
use Rattle.rp_value.specs.declared.value.Value.TheOpen.{Value-F}
use Rattle.rp_value.specs.declared.value.Value.TheVariants as v
use Rattle.rp_value.specs.declared.value.Value.TheViews.{roll-Value}

module _ (defined : List DefinedType) where
  -- ---- a value stays where the aggregate in it does

  module _ (declared : Option types.AggregateType) where
    abbrev Stays : Value → Type 0
    Stays x = ((kind : AggregateKind) (xs : Elements Value) → Value-F.Agg kind xs ≡ out-Value (bare x) → elements_under defined declared kind xs ≡ v.Agg kind xs) → inside defined declared x ≡ x

    abbrev Kept : Type 0
    Kept = (x : Value) × Stays x

    layer_stays : (y : Value-F Kept) → Stays (roll-Value (map-Value Kept Value (λ p. p.0) y))
    layer_stays Value-F.Indet h = inside-rolls defined declared Value-F.Indet
    layer_stays (Value-F.Int n) h = inside-rolls defined declared (Value-F.Int n)
    layer_stays (Value-F.Dec x) h = inside-rolls defined declared (Value-F.Dec x)
    layer_stays (Value-F.Str text) h = inside-rolls defined declared (Value-F.Str text)
    layer_stays (Value-F.Bin bits) h = inside-rolls defined declared (Value-F.Bin bits)
    layer_stays (Value-F.Log x) h = inside-rolls defined declared (Value-F.Log x)
    layer_stays (Value-F.Item n place) h = inside-rolls defined declared (Value-F.Item n place)
    layer_stays (Value-F.Inst name) h = inside-rolls defined declared (Value-F.Inst name)
    layer_stays (Value-F.Agg kind ps) h =
        let xs : Elements Value = record { low = ps.low; items = map (λ p. p.0) ps.items } in
        inside-Agg defined declared _ kind xs (v.rolls-Agg kind xs) ∙ h kind xs (bare-Agg _ kind xs (v.rolls-Agg kind xs)) ∙ sym (v.rolls-Agg kind xs)
    layer_stays (Value-F.Named n p) h =
        inside-Named defined declared _ n p.0 (v.rolls-Named n p.0)
        ∙ ap (v.Named n) (p.1 (λ kind xs is. h kind xs (is ∙ bare-Named _ n p.0 (v.rolls-Named n p.0))))
        ∙ sym (v.rolls-Named n p.0)

    pub stays : (x : Value) → Stays x
    stays = ind-Value Stays (λ x y is. subst (λ z. Stays (roll-Value z)) is (layer_stays y))

  -- ---- types that change no element

  when : (test : Bool) (x y : Value) → (test ≡ false → y ≡ x) → (if test then x else y) ≡ x
  when true x y h = refl
  when false x y h = h refl

  nothing : (x : Value) → inside defined None x ≡ x
  nothing x = stays None x (λ kind xs is. refl)

  under-Simple : (simple : SimpleType) (x : Value) → under defined (d.Simple simple) x ≡ inside defined None x
  unfolding out-NamedDataType denote.Hole.Carrier.out
  under-Simple simple x = refl

  under-Entity : (entity : ℕ) (x : Value) → under defined (d.Named (t.Entity entity)) x ≡ inside defined None x
  unfolding out-NamedDataType denote.Hole.Carrier.out
  under-Entity entity x = refl

  under-Generic : (x : Value) → under defined d.Generic x ≡ inside defined None x
  unfolding out-NamedDataType denote.Hole.Carrier.out
  under-Generic x = refl

  stays_under : (data_type : NamedDataType) (x : Value) → under defined data_type x ≡ inside defined None x → element_under defined data_type x ≡ x
  stays_under data_type x is = when (is_indeterminate x || not (fits defined data_type x)) x (under defined data_type x) (λ _. is ∙ nothing x)

  pub stays-Simple : (data_type : NamedDataType) (simple : SimpleType) (x : Value) → data_type ≡ d.Simple simple → element_under defined data_type x ≡ x
  stays-Simple data_type simple x is = subst (λ z. element_under defined z x ≡ x) (sym is) (stays_under (d.Simple simple) x (under-Simple simple x))

  pub stays-Entity : (data_type : NamedDataType) (entity : ℕ) (x : Value) → data_type ≡ d.Named (t.Entity entity) → element_under defined data_type x ≡ x
  stays-Entity data_type entity x is = subst (λ z. element_under defined z x ≡ x) (sym is) (stays_under (d.Named (t.Entity entity)) x (under-Entity entity x))

  pub stays-Generic : (data_type : NamedDataType) (x : Value) → data_type ≡ d.Generic → element_under defined data_type x ≡ x
  stays-Generic data_type x is = subst (λ z. element_under defined z x ≡ x) (sym is) (stays_under d.Generic x (under-Generic x))

  pub all_stay : (data_type : NamedDataType) → ((x : Value) → element_under defined data_type x ≡ x) → (xs : List Value) → map (element_under defined data_type) xs ≡ xs
  all_stay data_type each [] = refl
  all_stay data_type each (x ∷ xs) = λ i. each x i ∷ all_stay data_type each xs i

  -- ---- what is of a type without a name is given as it is

  module _ (x : Value) (y : Value-F Value) (is : y ≡ out-Value (bare x)) (some : is_indeterminate_in y ≡ false) where
    kept : (data_type : NamedDataType) → fits defined data_type x ≡ true → under defined data_type x ≡ x → given defined data_type x ≡ x
    unfolding given
    kept data_type fit within =
        (λ i. if (ap is_indeterminate_in (sym is) ∙ some) i || not (fit i) then v.Indet else part_under defined data_type (part defined x))
        ∙ sym (under-part defined data_type x) ∙ within

    pub kept-Simple : (data_type : NamedDataType) (simple : SimpleType) → data_type ≡ d.Simple simple → is_of_simple simple y ≡ true → given defined data_type x ≡ x
    unfolding fits out-NamedDataType denote.Hole.Carrier.out
    kept-Simple data_type simple at holds = subst (λ z. given defined z x ≡ x) (sym at) (kept (d.Simple simple) (ap (is_of_simple simple) (sym is) ∙ holds) (under-Simple simple x ∙ nothing x))

    kept-Entity : (data_type : NamedDataType) (entity : ℕ) → data_type ≡ d.Named (t.Entity entity) → is_instance y ≡ true → given defined data_type x ≡ x
    unfolding fits out-NamedDataType denote.Hole.Carrier.out
    kept-Entity data_type entity at holds = subst (λ z. given defined z x ≡ x) (sym at) (kept (d.Named (t.Entity entity)) (ap is_instance (sym is) ∙ holds) (under-Entity entity x ∙ nothing x))

    pub kept-Generic : given defined d.Generic x ≡ x
    unfolding fits out-NamedDataType denote.Hole.Carrier.out
    kept-Generic = kept d.Generic refl (under-Generic x ∙ nothing x)

    kept_by : (data_type : NamedDataType) (t : NamedDataType-F NamedDataType) → roll-NamedDataType t ≡ data_type → takes t y ≡ true → given defined data_type x ≡ x
    kept_by data_type (NamedDataType-F.Simple simple) at holds = kept-Simple data_type simple (sym at ∙ d.rolls-Simple simple) holds
    kept_by data_type (NamedDataType-F.Named (t.Entity entity)) at holds = kept-Entity data_type entity (sym at ∙ d.rolls-Named (t.Entity entity)) holds
    kept_by data_type NamedDataType-F.Generic at holds = subst (λ z. given defined z x ≡ x) (sym d.rolls-Generic ∙ at) kept-Generic
    kept_by data_type _ at holds = absurd (true≢false (sym holds))

    pub kept-takes : (data_type : NamedDataType) → takes (out-NamedDataType data_type) y ≡ true → given defined data_type x ≡ x
    kept-takes data_type = kept_by data_type (out-NamedDataType data_type) (roll-out-NamedDataType data_type)

  -- nothing is given of `?`
  pub unset : (data_type : NamedDataType) (x : Value) → is_indeterminate x ≡ true → given defined data_type x ≡ v.Indet
  unfolding given
  unset data_type x is = λ i. if is i || not (fits defined data_type x) then v.Indet else part_under defined data_type (part defined x)

  either : (b : Bool) → (b || true) ≡ true
  either true = refl
  either false = refl

  pub refused-Simple : (simple : SimpleType) (x : Value) → is_of_simple simple (out-Value (bare x)) ≡ false → given defined (d.Simple simple) x ≡ v.Indet
  unfolding given fits out-NamedDataType denote.Hole.Carrier.out
  refused-Simple simple x refused =
      (λ i. if is_indeterminate x || not (refused i) then v.Indet else part_under defined (d.Simple simple) (part defined x))
      ∙ (λ i. if either (is_indeterminate x) i then v.Indet else part_under defined (d.Simple simple) (part defined x))

  pub simple_known : (simple : SimpleType) (y : Value-F Value) → is_of_simple simple y ≡ true → is_indeterminate_in y ≡ false
  simple_known s.Integer Value-F.Indet holds = absurd (true≢false (sym holds))
  simple_known s.Real Value-F.Indet holds = absurd (true≢false (sym holds))
  simple_known s.Number Value-F.Indet holds = absurd (true≢false (sym holds))
  simple_known (s.String width) Value-F.Indet holds = absurd (true≢false (sym holds))
  simple_known (s.Binary width) Value-F.Indet holds = absurd (true≢false (sym holds))
  simple_known s.Boolean Value-F.Indet holds = absurd (true≢false (sym holds))
  simple_known s.Logical Value-F.Indet holds = absurd (true≢false (sym holds))
  simple_known simple (Value-F.Int n) holds = refl
  simple_known simple (Value-F.Dec d) holds = refl
  simple_known simple (Value-F.Str text) holds = refl
  simple_known simple (Value-F.Bin bits) holds = refl
  simple_known simple (Value-F.Log x) holds = refl
  simple_known simple (Value-F.Item n place) holds = refl
  simple_known simple (Value-F.Inst name) holds = refl
  simple_known simple (Value-F.Agg kind xs) holds = refl
  simple_known simple (Value-F.Named n x) holds = refl

  -- ---- a SELECT that takes no aggregates

  module _ (kind : AggregateKind) (xs : Elements Value) where
    of_simple : (simple : SimpleType) → is_of_simple simple (Value-F.Agg kind xs) ≡ is_of_simple simple an_aggregate
    of_simple s.Integer = refl
    of_simple s.Real = refl
    of_simple s.Number = refl
    of_simple (s.String width) = refl
    of_simple (s.Binary width) = refl
    of_simple s.Boolean = refl
    of_simple s.Logical = refl

    of_written : (data_type : NamedDataType-F NamedDataType) → is_of_written data_type (Value-F.Agg kind xs) ≡ is_of_written data_type an_aggregate
    of_written (NamedDataType-F.Simple simple) = of_simple simple
    of_written (NamedDataType-F.Named (t.Entity entity)) = refl
    of_written (NamedDataType-F.Named (t.Defined number)) = refl
    of_written NamedDataType-F.Generic = refl
    of_written (NamedDataType-F.Array bounds optional unique element) = refl
    of_written (NamedDataType-F.List bounds unique element) = refl
    of_written (NamedDataType-F.Bag bounds element) = refl
    of_written (NamedDataType-F.Set bounds element) = refl
    of_written (NamedDataType-F.Aggregate element) = refl

    of_end : (e : End) → is_of_end defined e (Value-F.Agg kind xs) ≡ is_of_end defined e an_aggregate
    of_end (types.Enumeration number) = refl
    of_end (types.Select choices) = refl
    of_end (types.Written data_type) = of_written (out-NamedDataType data_type)

    of_choice : (choice : TypeName) → is_of_choice defined (Value-F.Agg kind xs) choice ≡ is_of_choice defined an_aggregate choice
    of_choice (t.Entity entity) = refl
    of_choice (t.Defined number) = of_end (end_of defined number)

    of_choices : (choices : List TypeName) → list_any (is_of_choice defined (Value-F.Agg kind xs)) choices ≡ list_any (is_of_choice defined an_aggregate) choices
    of_choices [] = refl
    of_choices (choice ∷ choices) = λ i. of_choice choice i || of_choices choices i

  module _ (choices : List TypeName) (none : list_any (is_of_choice defined an_aggregate) choices ≡ false) where
    -- no aggregate fits it
    unlike : (e : End) (x : Value) → Select choices ≡ e → types.is_of_kind defined e (out-Value (bare x)) ≡ true → (kind : AggregateKind) (xs : Elements Value) → Value-F.Agg kind xs ≡ out-Value (bare x) → ⊥
    unlike e x chosen holds kind xs is =
        let among : types.is_of_kind defined (Select choices) (out-Value (bare x)) ≡ true = subst (λ z. types.is_of_kind defined z (out-Value (bare x)) ≡ true) (sym chosen) holds in
        let aggregate : list_any (is_of_choice defined (Value-F.Agg kind xs)) choices ≡ true = subst (λ z. types.is_of_kind defined (Select choices) z ≡ true) (sym is) among in
        true≢false (sym aggregate ∙ of_choices kind xs choices ∙ none)

    named_chosen : (number : ℕ) (e : End) (x : Value) → Select choices ≡ e → types.named_by defined number e x ≡ x
    named_chosen number e x chosen = subst (λ z. types.named_by defined number z x ≡ x) chosen refl

    fitting : (is_unset is_fit : Bool) → (is_unset || not is_fit) ≡ false → is_fit ≡ true
    fitting false true h = refl
    fitting false false h = absurd (true≢false h)
    fitting true is_fit h = absurd (true≢false h)

    under-Defined : (number : ℕ) (x : Value) → under defined (d.Named (t.Defined number)) x ≡ types.named_by defined number (end_of defined number) (inside defined (types.inner_by defined (end_of defined number) (carried x)) x)
    unfolding out-NamedDataType denote.Hole.Carrier.out
    under-Defined number x = refl

    fits-Defined : (number : ℕ) (x : Value) → fits defined (d.Named (t.Defined number)) x ≡ types.is_of_kind defined (end_of defined number) (out-Value (bare x))
    unfolding fits out-NamedDataType denote.Hole.Carrier.out
    fits-Defined number x = refl

    chosen_stays : (number : ℕ) (x : Value) → Select choices ≡ end_of defined number → element_under defined (d.Named (t.Defined number)) x ≡ x
    chosen_stays number x chosen =
        let declared = types.inner_by defined (end_of defined number) (carried x) in
        let is_fit = fits defined (d.Named (t.Defined number)) x in
        when (is_indeterminate x || not is_fit) x (under defined (d.Named (t.Defined number)) x) (λ fit.
        under-Defined number x
        ∙ named_chosen number (end_of defined number) (inside defined declared x) chosen
        ∙ stays declared x (λ kind xs is. absurd (unlike (end_of defined number) x chosen (sym (fits-Defined number x) ∙ fitting (is_indeterminate x) is_fit fit) kind xs is)))

  pub stays-Select : (data_type : NamedDataType) (number : ℕ) (choices : List TypeName) (x : Value) → data_type ≡ d.Named (t.Defined number) → Select choices ≡ end_of defined number
      → list_any (is_of_choice defined an_aggregate) choices ≡ false → element_under defined data_type x ≡ x
  stays-Select data_type number choices x is chosen none = subst (λ z. element_under defined z x ≡ x) (sym is) (chosen_stays choices none number x chosen)

  -- ---- an instance in a SELECT

  module _ (choices : List TypeName) (place : ℕ) where
    selected_named : (data_type : NamedDataType) (t : NamedDataType-F NamedDataType) (x : Value) → Select choices ≡ types.end_in defined data_type t → types.named_in defined t x ≡ x
    selected_named data_type (NamedDataType-F.Named (t.Defined number)) x is = subst (λ e. types.named_by defined number e x ≡ x) is refl
    selected_named data_type _ x is = refl

    inside-Inst : (declared : Option types.AggregateType) → inside defined declared (v.Inst place) ≡ v.Inst place
    inside-Inst declared = ap (inside defined declared) (sym (v.rolls-Inst place)) ∙ inside-rolls defined declared (Value-F.Inst place) ∙ v.rolls-Inst place

    pub kept-Select : (data_type : NamedDataType) → Select choices ≡ types.end defined data_type → list_any (is_of_choice defined (Value-F.Inst place)) choices ≡ true → given defined data_type (v.Inst place) ≡ v.Inst place
    unfolding fits
    kept-Select data_type at holds =
        let bare_is = bare-Inst (v.Inst place) place refl in
        kept (v.Inst place) (Value-F.Inst place) bare_is refl data_type
        ((λ i. types.is_of_kind defined (sym at i) (sym bare_is i)) ∙ holds)
        (selected_named data_type (out-NamedDataType data_type) _ at ∙ inside-Inst _)

pub ruleset selected = (kept-Select)

pub ruleset elements_stay = (stays-Simple, stays-Entity, stays-Generic)
