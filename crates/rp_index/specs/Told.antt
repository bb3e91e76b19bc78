-- What is told of candidates: of the instances of some names, as far as there are such.
use Rattle.std.specs.Prelude.{◌≡◌, ℕ, false, List, [], Option, Some, None}
use Rattle.std.specs.List.{AllByRecursion}
use Rattle.plain_data.specs.Numbers.{is_among}
use Rattle.rp_content.specs.declared.instance.Instance.{Instance}
use Rattle.rp_rows.specs.Instances.{instance_of}

-- what is told of the instance of a name, if there is one
abbrev pub told : {B : Type 0} → (Instance → List B) → Option Instance → List B
told F None = []
told F (Some i) = F i

abbrev pub told_of : {B : Type 0} → (Instance → List B) → List Instance → ℕ → List B
told_of F is u = told F (instance_of u is)

-- whoever isn't a candidate is told of in nothing
abbrev pub IsToldAmong : {B : Type 0} → (Instance → List B) → List ℕ → List Instance → Type 0
IsToldAmong F us is = AllByRecursion (λ i. is_among us i.name ≡ false → F i ≡ []) is
