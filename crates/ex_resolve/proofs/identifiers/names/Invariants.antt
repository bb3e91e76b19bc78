use Rattle.std.proofs.Common.{◌≡◌, drop}
use Rattle.std.specs.List.{list_all}
use Rattle.ex_tree.specs.Identifiers.{is_identifier}
use Rattle.ex_resolve.proofs.identifiers.names.Given as goal

abbrev pub invariant-loop-name : goal.invariant-loop-name
invariant-loop-name l = list_all (λ n. is_identifier n.text) (drop l.name-index l.names) ≡ list_all (λ n. is_identifier n.text) l.names
