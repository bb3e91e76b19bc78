use Rattle.std.proofs.Common.{◌≡◌, ◌++◌, replicate}
use Rattle.rp_value.specs.declared.value.Value.TheVariants as v
use Rattle.rp_eval_parts.proofs.frame.Frame.of_locals.Given as goal

abbrev pub invariant-loop-local : goal.invariant-loop-local
invariant-loop-local l = l.variables ≡ l.fn.parameters ++ replicate l._local v.Indet
