-- The text of no rows, byte for byte.
use Rattle.std.proofs.Common.{◌≡◌, [], codes, refl}
use Rattle.std.specs.Fmt.{digits}
use Rattle.json.specs.Print.{escape_byte}
use Rattle.rp_snapshot_texts.specs.Texts.{rows_text}

empty : rows_text 1 (λ h. []) [] [] ≡ codes "STEPREPO 1\n{\"groups\":[],\"models\":[]}"
unfolding escape_byte digits
empty = refl
