-- What the text of one instance gives.
use Rattle.std.specs.Prelude.{◌≡◌, ◌≢◌, Result, Ok, Err, MatchResult}
use Rattle.rp_content.specs.declared.instance.Instance.{Instance}
use Rattle.rp_plain.specs.declared.messages.Refusal.{Refusal}
use Rattle.rp_plain.specs.declared.messages.Refusal.TheVariants.{NoMemory}
use Rattle.rp_plain.specs.Instances.{Saying}

-- it says this, or memory is wanting
abbrev pub Says : Saying → Result Instance Refusal → Type 0
Says said result = MatchResult result (λ i. said ≡ Ok i) (λ refusal. refusal ≢ NoMemory → said ≡ Err refusal)
