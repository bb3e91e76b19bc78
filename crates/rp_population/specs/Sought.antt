-- What is looked for in a schema's instances: an entity, or a role and what is used in it. Nothing where the schema has no such one.
use Rattle.std.specs.Prelude.{ℕ, Option}
use Rattle.ex_schemas.specs.Schemas.{Checked}
use Rattle.rp_population.specs.declared.place.Place.{Place}
use Rattle.rp_population.specs.declared.roles.Role.{Role}

pub record SoughtExtent : Type 0 where
  pub schema : Checked
  pub entity : Option ℕ

pub record SoughtUsers : Type 0 where
  pub schema : Checked
  pub role : Option Role
  pub of : Place
