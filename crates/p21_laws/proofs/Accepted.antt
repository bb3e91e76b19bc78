-- A schema that was accepted.
use Rattle.std.proofs.Common.{◌≡◌, ◌≤◌, ℕ, List, ◌++◌, map, arith}
use Rattle.ex_named.specs.declared.declaration.NamedSchema.{NamedSchema}
use Rattle.ex_resolve.specs.Proved.{DeclaresOnce, HasIdentifiers, count, held_types}
use Rattle.ex_resolve.specs.Schemas.{Resolved}
use Rattle.ex_types.specs.Checked.{entity_names, type_names}
use Rattle.graphs.specs.Graphs.{IsAcyclic}
use Rattle.p21_laws.proofs.Names.{count_both, resolved_types}
use Rattle.p21_laws.proofs.Words.{words}
use Rattle.p21_laws.specs.Schemas.{IsAccepted}
use Rattle.p21_laws.specs.Types.{AreTypes}

third_of_all : (name : List ℕ) (a b c d e : List (List ℕ)) → count name (a ++ b ++ c ++ d ++ e) ≤ 1 → count name c ≤ 1
third_of_all name a b c d e all =
    let four = count_both name (a ++ b ++ c ++ d) e in
    let three = count_both name (a ++ b ++ c) d in
    let two = count_both name (a ++ b) c in
    omega arith

pub types : (s : NamedSchema) → DeclaresOnce s → IsAcyclic (held_types s.types) → HasIdentifiers s → AreTypes s.types
types s once held identified = resolved_types s once held (words s identified).types

pub accepted : (s : Resolved) → DeclaresOnce s.schema → IsAcyclic (held_types s.schema.types) → s.supertypes ≡ map (λ e. e.supertypes) s.schema.entities → HasIdentifiers s.schema → IsAccepted s
accepted s once held listed identified = record {
  words = words s.schema identified;
  types = types s.schema once held identified;
  once = λ name.
      let constants : List (List ℕ) = map (λ c. c.name.text) s.schema.constants in
      let functions : List (List ℕ) = map (λ f. f.name.text) s.schema.functions in
      let rules : List (List ℕ) = map (λ r. r.name.text) s.schema.rules in
      let all : count name (constants ++ type_names s.schema.types ++ entity_names s.schema.entities ++ functions ++ rules) ≤ 1 = once name in
      third_of_all name constants (type_names s.schema.types) (entity_names s.schema.entities) functions rules all;
  graph = listed;
}
