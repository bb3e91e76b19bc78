use Rattle.std.proofs.Common.{◌≡◌, sym, subst}
use Rattle.rp_operators.specs.Naming.{AreKept, entity_names}
use Rattle.rp_operators.specs.declared.type_names.Row.{Row}
use Rattle.rp_operators.proofs.Kept.{kept_more}
use Rattle.rp_operators.proofs.type_names.rows_of.Goals as goal
use Rattle.rp_operators.proofs.type_names.rows_of.Goals.{in-Some+then-is_placed+in_ok-row_of+in_ok-push, in-Some+else-is_placed, in_default}

pub loop-at-preserved : goal.loop-at-preserved
loop-at-preserved g c =
    let schema = c.args.schema.now in
    elim c.match-instance.branch [
      | in-Some+then-is_placed+in_ok-row_of+in_ok-push w ↦
          subst (AreKept schema) (sym w.rows-is)
          (subst (AreKept schema) (sym w.in_ok-push.ensures.ok)
          (kept_more (λ (row : Row). row.names ≡ entity_names schema row.entities) c.loop-at.rows w.in_ok-row_of.field-0 c.loop-at.invariant w.in_ok-row_of.ensures))
      | in-Some+else-is_placed w ↦ subst (AreKept schema) (sym w.rows-is) c.loop-at.invariant
      | in_default w ↦ subst (AreKept schema) (sym w.rows-is) c.loop-at.invariant
    ]
