-- What is answered where files are validated.
use Rattle.std.specs.Prelude.{◌≡◌, ℕ, List, [], ◌∷◌, Option, None, IfSome, Ok}
use Rattle.ex_types.specs.Checked.{Checked}
use Rattle.rp_files.specs.Files.{Held}
use Rattle.rp_config.specs.Loading.{schemas_at}
use Rattle.rp_plain.specs.declared.messages.Reply.{Reply}
use Rattle.rp_plain.specs.Opening.{new_fault, opened}
use Rattle.rp_delivery.specs.Names.{me}
use Rattle.rp_delivery.specs.Deliveries.{IsDelivered}

-- The reply to a delivery of the files of these paths, in the repository of the schemas at those paths whose one partner delivers
-- them; and what is told of it.
pub record IsValidated (files : Option Held) (schema_paths paths : List (List ℕ)) (Told : Reply → Type 0) : Type 0 where
  pub schemas : List Checked
  pub are : IfSome files (λ held. schemas_at held schema_paths ≡ Ok schemas)
  pub opens : new_fault schemas (me ∷ []) ≡ None
  pub reply : Reply
  pub is : IsDelivered files (opened schemas (me ∷ [])) schemas paths reply
  pub told : Told reply
