use Rattle.std.specs.Prelude.{◌≡◌, length}
use Rattle.rp_config.specs.Configuration.{name_of}
use Rattle.rp_config.proofs.ConfigLemmas.{Found}
use Rattle.rp_config.proofs.config.names_in.Given as goal

abbrev pub invariant-loop-partner : goal.invariant-loop-partner
invariant-loop-partner l = Found name_of l.partners l.partner-index l.names × (length l.names ≡ l.partner-index)
