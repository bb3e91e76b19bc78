-- The snapshot of an empty repository, byte for byte.
use Rattle.std.proofs.Common.{◌≡◌, ℕ, List, codes, refl}
use Rattle.std.specs.Fmt.{digits}
use Rattle.json.specs.Print.{escape_byte}
use Rattle.ex_types.specs.Checked.{Checked}
use Rattle.rp_plain.specs.Opening.{opened}
use Rattle.rp_snapshots.specs.Snapshots.{snapshot_of}

empty : (schemas : List Checked) (partners : List (List ℕ)) → snapshot_of (opened schemas partners) ≡ codes "STEPREPO 1\n{\"groups\":[],\"models\":[]}"
unfolding escape_byte digits
empty schemas partners = refl
