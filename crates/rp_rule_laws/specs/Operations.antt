-- What laws of the operators on aggregates say: classes among the elements of both sides, and how many of a class there are.
use Rattle.std.specs.Prelude.{◌≡◌, ℕ, ◌≤◌, Bool, true, false, not, ◌||◌, List, [], ◌∷◌, ◌++◌, Contains}
use Rattle.std.specs.List.{AllByRecursion, count_by}
use Rattle.rp_operations.specs.Operations.{has_places, is_same, is_set}
use Rattle.rp_operations.specs.Seen.{Seen, Aggregate, seen, is_indeterminate}
use Rattle.rp_value.specs.declared.value.Value.{Value}

-- ---- classes

-- of these values, those that pass are the same as one another and as none of the others
pub record IsClassAmong (values : List Value) (p : Value → Bool) : Type 0 where
  pub within : (x y : Value) → Contains values x → Contains values y → p x ≡ true → p y ≡ true → is_same x y ≡ true
  pub whole : (x y : Value) → Contains values x → Contains values y → is_same x y ≡ true → p x ≡ p y

-- the value lies in a class among these values: what is the same as it
pub record HasClass (values : List Value) (x : Value) : Type 0 where
  pub itself : is_same x x ≡ true
  pub class : IsClassAmong values (is_same x)

-- each of these values lies in a class among them
abbrev pub HaveClasses : List Value → Type 0
HaveClasses values = AllByRecursion (HasClass values) values

-- the left has at most as many of each class among both as the right
abbrev pub HasAtMost : List Value → List Value → Type 0
HasAtMost xs ys = (p : Value → Bool) → IsClassAmong (xs ++ ys) p → count_by p xs ≤ count_by p ys

-- ---- operands

abbrev pub is_aggregate : Seen → Bool
is_aggregate (Aggregate kind xs) = true
is_aggregate s = false

abbrev pub elements_seen : Value → Seen → List Value
elements_seen x (Aggregate kind xs) = xs.items
elements_seen x s = x ∷ []

-- the elements of an aggregate; any other value alone
abbrev pub elements : Value → List Value
elements x = elements_seen x (seen x)

-- a class among the elements of both sides
abbrev pub IsClassOfBoth : Value → Value → (Value → Bool) → Type 0
IsClassOfBoth x y = IsClassAmong (elements x ++ elements y)

-- how many of its elements pass
abbrev pub count_in : (Value → Bool) → Value → ℕ
count_in p x = count_by p (elements x)

abbrev pub is_set_seen : Seen → Bool
is_set_seen (Aggregate kind xs) = is_set kind
is_set_seen s = false

-- `x + y` where the left is a SET
pub record IsSetUnion (x y : Value) : Type 0 where
  pub left : is_set_seen (seen x) ≡ true
  pub right : is_indeterminate (seen y) ≡ false

-- `x + y` of others: of two aggregates, or of an aggregate and an element in either order
pub record IsJoin (x y : Value) : Type 0 where
  pub left : is_indeterminate (seen x) ≡ false
  pub right : is_indeterminate (seen y) ≡ false
  pub aggregate : (is_aggregate (seen x) || is_aggregate (seen y)) ≡ true
  pub no_set : is_set_seen (seen x) ≡ false

-- `x * y` of two aggregates
pub record IsIntersection (x y : Value) : Type 0 where
  pub left : is_aggregate (seen x) ≡ true
  pub right : is_aggregate (seen y) ≡ true

-- `x - y` of an aggregate and another, or of an aggregate and an element
pub record IsDifference (x y : Value) : Type 0 where
  pub left : is_aggregate (seen x) ≡ true
  pub right : is_indeterminate (seen y) ≡ false

abbrev pub has_no_places : Seen → Bool
has_no_places (Aggregate kind xs) = not (has_places kind)
has_no_places s = false

-- `x <= y` of two aggregates, neither of them a LIST or an ARRAY
pub record IsInclusionTest (x y : Value) : Type 0 where
  pub left : has_no_places (seen x) ≡ true
  pub right : has_no_places (seen y) ≡ true

-- ---- results

-- an aggregate in which so many elements pass
pub record HasCount (p : Value → Bool) (n : ℕ) (x : Value) : Type 0 where
  pub aggregate : is_aggregate (seen x) ≡ true
  pub count : count_in p x ≡ n
