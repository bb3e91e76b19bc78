-- The first line of the first version, byte for byte.
use Rattle.std.proofs.Common.{◌≡◌, codes, refl}
use Rattle.std.specs.Fmt.{digits}
use Rattle.rp_snapshot_texts.specs.Texts.{first_line}

pub of_first : codes "STEPREPO 1\n" ≡ first_line 1
unfolding digits
of_first = refl
