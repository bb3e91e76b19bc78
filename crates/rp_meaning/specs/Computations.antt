-- Computations that take steps of those that are left, and in which bodies nest.
use Rattle.std.specs.Prelude.{◌≡◌, ℕ, ◌+◌, ◌-◌, max, Option, Some, None, Result, Ok, Err, nat_le, if◌then◌else◌}
use Rattle.rp_meaning.specs.declared.counter.Counter.{Counter}
use Rattle.rp_meaning.specs.declared.stop.Stop.{Stop}
use Rattle.rp_meaning.specs.declared.stop.Stop.TheVariants.{Limit, NoMemory}

-- From what is counted: the value, and what is counted then. Nothing at the limit.
abbrev pub Computation : Type 0 → Type 0
Computation A = Counter → Option (A × Counter)

abbrev pub and_then : {A B : Type 0} → Option (A × Counter) → (A → Computation B) → Option (B × Counter)
and_then None next = None
and_then (Some p) next = next p.0 p.1

abbrev pub pure : {A : Type 0} → A → Computation A
pure a = λ c. Some (a, c)

-- at the limit, whatever is counted
abbrev pub no_more : {A : Type 0} → Computation A
no_more = λ c. None

-- so many steps
abbrev pub steps : ℕ → Computation (Unit {0})
steps n = λ c. if nat_le n c.left then Some (tt, record { left = c.left - n; nesting = c.nesting }) else None

-- one after the other
infixl 10 ◌>>=◌
abbrev pub ◌>>=◌ : {A B : Type 0} → Computation A → (A → Computation B) → Computation B
m >>= next = λ c. and_then (m c) next

infixl 10 ◌>>◌
abbrev pub ◌>>◌ : {A B : Type 0} → Computation A → Computation B → Computation B
m >> next = λ c. and_then (m c) (λ _. next)

-- one body more around what nests
abbrev pub around : {A : Type 0} → ℕ → A → Computation A
around outer a = λ c. Some (a, record { left = c.left; nesting = max outer (c.nesting + 1) })

abbrev pub in_body : Counter → Counter
in_body c = record { left = c.left; nesting = 0 }

-- a body
abbrev pub nested : {A : Type 0} → Computation A → Computation A
nested m = λ c. and_then (m (in_body c)) (around c.nesting)

abbrev pub Stops : {A : Type 0} → Option (A × Counter) → Stop → Type 0
Stops outcome Limit = outcome ≡ None
Stops outcome NoMemory = Unit {0}

-- The result, and what is counted, are what comes of a computation; unless memory ran out.
abbrev pub Runs : {A : Type 0} → Option (A × Counter) → Result A Stop → Counter → Type 0
Runs outcome (Ok a) c = outcome ≡ Some (a, c)
Runs outcome (Err e) c = Stops outcome e
