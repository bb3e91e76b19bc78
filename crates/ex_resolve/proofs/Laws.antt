-- What holds of each schema whose names are bound.
use Rattle.std.proofs.Common.{Ok, ap, ◌∙◌}
use Rattle.graphs.specs.Graphs.{IsAcyclic}
use Rattle.ex_resolve.proofs.Wholes.{given_ok}
use Rattle.ex_resolve.proofs.Accepted.{Parts, parts_of}
use Rattle.ex_resolve.proofs.Distinct.{declares_once}
use Rattle.ex_resolve.proofs.Held.{no_type_holds_itself}
use Rattle.ex_resolve.proofs.Within.{all_in_range}
use Rattle.ex_resolve.specs.Proved.{DeclaresOnce, held_types}
use Rattle.ex_resolve.specs.Ranges.{InRange}
use Rattle.ex_resolve.specs.Schemas.{Resolved, IsResolved, named_schema, resolved}

parts : (r : Resolved) (h : IsResolved r) → Parts h.0 r.schema
unfolding resolved
parts r h = let found = given_ok _ (named_schema h.0) r h.1 in parts_of h.0 r.schema (found.1.0 ∙ ap (λ x. Ok x.schema) found.1.1)

pub once : (r : Resolved) → IsResolved r → DeclaresOnce r.schema
once r h = declares_once h.0 r.schema (parts r h)

pub held : (r : Resolved) → IsResolved r → IsAcyclic (held_types r.schema.types)
held r h = no_type_holds_itself h.0 r.schema (parts r h)

pub in_range : (r : Resolved) → IsResolved r → InRange r.schema
in_range r h = all_in_range h.0 r.schema (parts r h)
