-- That USEDIN and the request for users tell the same of each group of a valid repository.
use Rattle.std.specs.Prelude.{◌≡◌, ℕ, List, Some}
use Rattle.ex_schemas.specs.Schemas.{Checked}
use Rattle.rp_value.specs.declared.value.Value.{Value}
use Rattle.rp_rows.specs.declared.rows.Key.{Key}
use Rattle.rp_population.specs.declared.place.Place.{Place}
use Rattle.rp_population.specs.Populations.{population}
use Rattle.rp_meaning.specs.declared.body.Body.{Body}
use Rattle.rp_meaning.specs.Bare.{place_of}
use Rattle.rp_meaning.specs.Computations.{Computation}
use Rattle.rp_positions.specs.Positions.{place_position}
use Rattle.rp_plain.specs.declared.messages.Reply.TheVariants as reply
use Rattle.rp_plain.specs.declared.messages.Request.TheVariants as request
use Rattle.rp_plain.specs.Plain.{Plain}
use Rattle.rp_plain.specs.Populations.{group_schema}
use Rattle.rp_plain.specs.Readers.{asked}
use Rattle.rp_plain.specs.Step.{reply_to}
use Rattle.rp_plain.specs.Valid.{IsValid}
use Rattle.rp_use_laws.specs.Uses.{HasUsers, standing}

-- In a valid repository of these schemas, where a partner's request is told of these users of an instance of a group's population,
-- USEDIN of this instance has them, by the group's schema.
abbrev pub ValidUsersAgree : List Checked → Type 0
ValidUsersAgree schemas = (r : Plain) → r.schemas ≡ schemas → IsValid r
    → (c : List ℕ) (k : Key) (p : Place) (role : List ℕ) (found : List Place) → reply_to r c (request.Users k p role) ≡ reply.Users found
    → (schema : Checked) → group_schema r.schemas ((asked r c).listing k) ≡ Some schema → let xs = population ((asked r c).counted k) in
    (x : Value) → place_of x ≡ Some (place_position xs p) → (below : Body → Computation Value) → HasUsers schema xs below role x (standing schema xs found)
