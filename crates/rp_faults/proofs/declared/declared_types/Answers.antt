use Rattle.std.proofs.Common.{◌++◌, ◌+◌, ◌∙◌, List, ap, drop, get_or, map}
use Rattle.std.specs.List.{flat_map}
use Rattle.ex_named.specs.declared.expression.NamedDataType.{NamedDataType}
use Rattle.rp_meaning.specs.declared.schema.Redeclaration.{Redeclaration}
use Rattle.rp_meaning.specs.Faults.{redeclared_by}
use Rattle.rp_faults.specs.Declarations.{all_now, redeclared_types}
use Rattle.rp_faults.proofs.Checked.{declared-step, drop-number}
use Rattle.rp_faults.proofs.declared.declared_types.Goals as goal

pub loop-entity-preserved : goal.loop-entity-preserved
loop-entity-preserved c =
    let schema = c.args.schema.now in
    let entities = c.args.entities.now in
    let i = c.loop-entity.entity-index in
    let found = all_now c.loop-entity.found.items in
    ap (λ (ts : List NamedDataType). ts ++ map (λ x. x.data_type) (flat_map (redeclared_by schema c.args.attribute) (drop (i + 1) entities)))
    (c.in_ok-push_types.ensures ∙ ap (λ (rs : List Redeclaration). found ++ redeclared_types c.args.attribute rs) c.redeclarations.ensures)
    ∙ declared-step schema c.args.attribute entities i (get_or entities i 0) found (drop-number entities i c.loop-entity-test.true)
    ∙ c.loop-entity.invariant
