-- What stands at the front of some bytes stands there whatever bytes follow, and nothing else does.
use Rattle.std.specs.Prelude.{◌≡◌, ℕ, List, ◌++◌}
use Rattle.http_messages.specs.declared.message.Fault.{Fault}
use Rattle.http_messages.specs.Next.{Parts, Call, Announces, IsCall, FailsBy}

-- a whole request is the same in a longer input
abbrev pub CallStays : Type 0
CallStays = (bytes more : List ℕ) (call : Call) (n : ℕ) → IsCall bytes call n → IsCall (bytes ++ more) call n

-- so is a whole head whose body may still be coming
abbrev pub HeadStays : Type 0
HeadStays = (bytes more : List ℕ) (parts : Parts) (start end : ℕ) → Announces bytes parts start end → Announces (bytes ++ more) parts start end

-- so is a fault
abbrev pub FaultStays : Type 0
FaultStays = (bytes more : List ℕ) (fault : Fault) → FailsBy bytes fault → FailsBy (bytes ++ more) fault

-- bytes begin with one request at most
abbrev pub CallIsOne : Type 0
CallIsOne = (bytes : List ℕ) (c d : Call) (n m : ℕ) → IsCall bytes c n → IsCall bytes d m → (c ≡ d) × (n ≡ m)

-- a whole head announces one request
abbrev pub HeadIsOne : Type 0
HeadIsOne = (bytes : List ℕ) (p q : Parts) (s t n m : ℕ) → Announces bytes p s n → Announces bytes q t m → (p ≡ q) × (s ≡ t) × (n ≡ m)

-- where no request can come, there is none
abbrev pub FaultIsNoHead : Type 0
FaultIsNoHead = (bytes : List ℕ) (fault : Fault) (parts : Parts) (start end : ℕ) → FailsBy bytes fault → ¬ (Announces bytes parts start end)
