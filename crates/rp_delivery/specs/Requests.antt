-- The requests of a delivery, and the reply that ends it.
use Rattle.std.specs.Prelude.{◌≡◌, ◌⊎◌, ◌+◌, ◌<◌, ℕ, zero, suc, Bool, true, false, List, [], ◌∷◌, ◌++◌, length}
use Rattle.rp_rows.specs.Rows.{key_of}
use Rattle.rp_plain.specs.declared.messages.Request.{Request}
use Rattle.rp_plain.specs.declared.messages.Request.TheVariants.{CreateModel, Put, CreateGroup, Include, Validate}
use Rattle.rp_plain.specs.declared.messages.Reply.{Reply}
use Rattle.rp_plain.specs.declared.messages.Reply.TheVariants.{Refused}
use Rattle.rp_plain.specs.Plain.{Plain}
use Rattle.rp_plain.specs.Runs.{MayReply}
use Rattle.rp_plain.specs.Turns.{Turn, effect, after}
use Rattle.rp_core.specs.Held.{partner_at}
use Rattle.rp_delivery.specs.Names.{me, group_name, model_name}

-- ---- turns

-- the turn of the partner who delivers
abbrev pub mine : Request → Turn
mine request = record { caller = me; request = request }

abbrev pub create : List ℕ → ℕ → Turn
create schema n = mine (CreateModel (model_name n) schema)

abbrev pub put : ℕ → List ℕ → Turn
put n text = mine (Put (key_of me (model_name n)) text [])

-- files are put into models of their own, of which the first has this number
abbrev pub puts : List ℕ → ℕ → List (List ℕ) → List Turn
puts schema n [] = []
puts schema n (text ∷ texts) = create schema n ∷ put n text ∷ puts schema (n + 1) texts

abbrev pub create_group : List ℕ → Turn
create_group schema = mine (CreateGroup group_name schema)

abbrev pub include : ℕ → Turn
include n = mine (Include group_name (key_of me (model_name n)))

-- so many models are listed, of which the first has this number
abbrev pub includes : ℕ → ℕ → List Turn
includes n zero = []
includes n (suc count) = include n ∷ includes (n + 1) count

-- so many models are listed, and then validated
abbrev pub listing : ℕ → List Turn
listing count = includes 1 count ++ mine (Validate (key_of me group_name)) ∷ []

-- the group of so many models is validated
abbrev pub validation : List ℕ → ℕ → List Turn
validation schema count = create_group schema ∷ listing count

-- ---- replies

abbrev pub is_refused : Reply → Bool
is_refused (Refused refusal) = true
is_refused _ = false

-- these turns may lead from r to end, and none of them was refused
abbrev pub Taken : Plain → List Turn → Plain → Type 0
Taken r [] end = end ≡ r
Taken r (t ∷ ts) end = (reply : Reply) × MayReply (effect r t) reply × (is_refused reply ≡ false) × Taken (after r t reply) ts end

-- one turn was answered so
pub record IsAnswered (old new : Plain) (t : Turn) (reply : Reply) : Type 0 where
  pub may : MayReply (effect old t) reply
  pub content : new ≡ after old t reply

-- the reply is to the last of these turns, or to the first of them that was refused
pub record IsAnswer (r : Plain) (turns : List Turn) (reply : Reply) : Type 0 where
  pub done : List Turn
  pub last : Turn
  pub left : List Turn
  pub are : turns ≡ done ++ last ∷ left
  pub before : Plain
  pub taken : Taken r done before
  pub may : MayReply (effect before last) reply
  pub ends : (left ≡ []) ⊎ (is_refused reply ≡ true)

-- the turns were made, up to one that was refused, and this is the last one's reply
pub record Makes (old new : Plain) (turns : List Turn) (reply : Reply) : Type 0 where
  pub taken : is_refused reply ≡ false → Taken old turns new
  pub answer : IsAnswer old turns reply

-- ---- callers

-- this place is that of the partner who delivers
pub record IsMe (r : Plain) (place : ℕ) : Type 0 where
  pub within : place < length r.partners
  pub is : partner_at r place ≡ me
