use Rattle.std.proofs.Common.{◌∙◌, ap}
use Rattle.rp_meaning.specs.Bare.{bare, carried}
use Rattle.rp_operations.specs.Seen.{seen}
use Rattle.rp_operators.proofs.Sights.{bare-itself, is_bare, seen-bare}
use Rattle.rp_operators.proofs.bare.beneath_names.Goals as goal
use Rattle.rp_value.specs.declared.value.Value.{out-Value}

pub unnamed-requires : goal.unnamed-requires
unnamed-requires c = ap carried c.beneath.ensures ∙ is_bare c.args.value.now

pub returns-clause-value : goal.returns-clause-value
returns-clause-value c =
    c.unnamed.ensures.value
    ∙ ap (λ z. out-Value (bare z)) c.beneath.ensures
    ∙ ap out-Value (bare-itself (bare c.args.value.now) (is_bare c.args.value.now))

pub returns-clause-sight : goal.returns-clause-sight
returns-clause-sight c = c.unnamed.ensures.sight ∙ ap seen c.beneath.ensures ∙ seen-bare c.args.value.now
