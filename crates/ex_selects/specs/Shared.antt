-- What SELECTs choose from, once for all types that rename one SELECT.
use Rattle.std.specs.Prelude.{ℕ, Bool, ◌&&◌, ◌==◌, if◌then◌else◌, List, [], map}
use Rattle.std.specs.List.{filter_map, list_any}
use Rattle.plain_data.specs.Numbers.{numbered}
use Rattle.ex_named.specs.declared.declaration.NamedType.{NamedType}
use Rattle.ex_renamings.specs.Leading.{leading}
use Rattle.ex_renamings.specs.Renamings.{end, is_select}
use Rattle.ex_selects.specs.Ends.{defined, is_entity, members}

module _ (types : List NamedType) where
  -- the SELECT that a type renames, through any number of renamings; itself, where it is none or renames none
  abbrev pub unrenamed : ℕ → ℕ
  unrenamed number = if is_select types number then end types number else number

  -- what a type chooses from at once; one that renames a SELECT has nothing
  abbrev pub chosen_at_once : ℕ → List ℕ
  chosen_at_once number = if unrenamed number == number then map unrenamed (filter_map defined (members types number)) else []

  -- whether it lists an entity; one that renames a SELECT doesn't
  abbrev pub lists_entity : ℕ → Bool
  lists_entity number = (unrenamed number == number) && list_any is_entity (members types number)

  -- of each type what it chooses from at once
  unfoldable pub shared : List (List ℕ)
  shared = numbered (λ number x. chosen_at_once number) types

  -- of each type whether it lists an entity
  unfoldable pub listing : List Bool
  listing = numbered (λ number x. lists_entity number) types

  -- of each type whether it, or one that it chooses from, lists an entity
  unfoldable pub with_instances : List Bool
  with_instances = leading shared listing
