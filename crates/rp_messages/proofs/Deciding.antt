-- What a head decides.
use Rattle.std.proofs.Common.{◌≡◌, None, true≢false, refl, ap}
use Rattle.std.specs.Prelude.{is_some}
use Rattle.rp_plain.specs.Plain.{Plain}
use Rattle.rp_messages.specs.Laws.{turn_in, HeadDecides, OthersAreFixed}
use Rattle.rp_messages.specs.Routing.{Routed, Asks, Unreadable, Unasked, by_head, routed}
use Rattle.rp_messages.specs.Meaning.{meant_by}

pub head_decides : HeadDecides
head_decides tokens call bare stops = ap (λ h. by_head h call.body) stops

no_turn : (r s : Plain) (asked : Routed) → turn_in r.partners asked ≡ None → ((meant_by r asked).answer ≡ (meant_by s asked).answer) × ((meant_by r asked).next ≡ r)
no_turn r s (Asks place request) none = absurd (true≢false (ap is_some none))
no_turn r s Unreadable none = (refl, refl)
no_turn r s (Unasked bare) none = (refl, refl)

pub others_are_fixed : OthersAreFixed
others_are_fixed tokens r s call none = no_turn r s (routed tokens call) none
