use Rattle.std.specs.Prelude.{◌≡◌, length}
use Rattle.rp_config.specs.Configuration.{token_of}
use Rattle.rp_config.proofs.ConfigLemmas.{Found}
use Rattle.rp_config.proofs.config.tokens_in.Given as goal

abbrev pub invariant-loop-partner : goal.invariant-loop-partner
invariant-loop-partner l = Found token_of l.partners l.partner-index l.tokens × (length l.tokens ≡ l.partner-index)
