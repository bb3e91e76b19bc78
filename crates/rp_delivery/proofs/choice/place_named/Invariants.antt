use Rattle.std.specs.Prelude.{◌≡◌, drop}
use Rattle.p21_grammar.specs.Schemas.{is_of_schema}
use Rattle.rp_delivery.specs.Choice.{first_named}
use Rattle.rp_delivery.proofs.choice.place_named.Given as goal

abbrev pub invariant-loop-place : goal.invariant-loop-place
invariant-loop-place l =
    first_named (λ schema. is_of_schema schema l.front) 0 l.schemas ≡ first_named (λ schema. is_of_schema schema l.front) l.place (drop l.place l.schemas)
