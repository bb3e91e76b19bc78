-- What the files of a folder mean.
use Rattle.std.specs.Prelude.{ℕ, List, [], ◌∷◌, ok_or, Result, Ok, Err}
use Rattle.ex_check.specs.declared.fault.SchemaFault.{SchemaFault}
use Rattle.ex_check.specs.Check as check
use Rattle.ex_types.specs.Checked.{Checked}
use Rattle.rp_files.specs.declared.fault.LoadFault.{LoadFault}
use Rattle.rp_files.specs.declared.fault.LoadFault.TheVariants as fault
use Rattle.rp_files.specs.Files.{Held, file_at}
use Rattle.rp_config.specs.declared.config.Config.{Config}
use Rattle.rp_config.specs.declared.loading.Loaded.{Loaded}
use Rattle.rp_config.specs.Configuration.{config_of}

abbrev pub and_then : {A B F : Type 0} → Result A F → (A → Result B F) → Result B F
and_then (Ok x) next = next x
and_then (Err fault) next = Err fault

abbrev pub config_at : Held → List ℕ → Result Config LoadFault
config_at held path = and_then (file_at held path) (λ bytes. ok_or (config_of bytes) (fault.Config path))

-- the schema that was read of a path's text; else the words that tell the text's first fault
abbrev pub schema_in : List ℕ → List ℕ → Result Checked SchemaFault → Result Checked LoadFault
schema_in path text (Ok found) = Ok found
schema_in path text (Err it) = Err (fault.Schema path (check.words_of_fault text it))

abbrev pub schema_at : Held → List ℕ → Result Checked LoadFault
schema_at held path = and_then (file_at held path) (λ text. schema_in path text (check.schema text))

-- one schema for each path, in order; else the first fault
abbrev pub schemas_at : Held → List (List ℕ) → Result (List Checked) LoadFault
schemas_at held [] = Ok []
schemas_at held (path ∷ paths) = and_then (schema_at held path) (λ found. and_then (schemas_at held paths) (λ more. Ok (found ∷ more)))

-- The partners of the configuration at a path with their tokens, and the schemas that it names; else the first fault.
abbrev pub loaded_at : Held → List ℕ → Result Loaded LoadFault
loaded_at held path = and_then (config_at held path) (λ config. and_then (schemas_at held config.schemas) (λ found. Ok (record { partners = config.partners; tokens = config.tokens; schemas = found })))
