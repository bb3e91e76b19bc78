use Rattle.std.proofs.Common.{◌≡◌}
use Rattle.rp_core.specs.Held.{StepsFit, made_entries, made_rights, made_groups}
use Rattle.rp_core.proofs.steps.make_steps.Given as goal

abbrev pub invariant-loop-step : goal.invariant-loop-step
invariant-loop-step l = record {
  fits : StepsFit (record { models = l.store; access = l.access }) l.step-iterator.rest.items;
  models : made_entries l.step-iterator.rest.items l.store.entries ≡ made_entries l.fn.steps l.initial.store.entries;
  rights : made_rights l.step-iterator.rest.items l.access.models.entries ≡ made_rights l.fn.steps l.initial.access.models.entries;
  groups : made_groups l.step-iterator.rest.items l.access.groups.rows ≡ made_groups l.fn.steps l.initial.access.groups.rows;
}
