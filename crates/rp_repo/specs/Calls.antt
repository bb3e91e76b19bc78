-- Calls as turns.
use Rattle.std.specs.Prelude.{List, map}
use Rattle.rp_plain.specs.Plain.{Plain}
use Rattle.rp_plain.specs.Turns.{Turn}
use Rattle.rp_core.specs.Held.{turn}
use Rattle.rp_repo.specs.declared.repository.Call.{Call}

-- the turns of these calls
abbrev pub turns_of : Plain → List Call → List Turn
turns_of r calls = map (λ call. turn r call.caller call.request) calls
