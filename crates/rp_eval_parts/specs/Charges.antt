-- Computations behind steps.
use Rattle.std.specs.Prelude.{ℕ}
use Rattle.rp_meaning.specs.Computations.{Computation, steps, ◌>>◌, ◌>>=◌}

abbrev pub charged : {A : Type 0} → ℕ → Computation A → Computation A
charged n m = steps n >> m

abbrev pub followed : {A B : Type 0} → Computation A → (A → Computation B) → Computation B
followed m next = m >>= next
