use Rattle.std.proofs.Common.{◌≡◌, ◌++◌, drop}
use Rattle.rp_rows.specs.Contents.{link_names}
use Rattle.rp_restored_rows.proofs.files.names_of.Given as goal

abbrev pub invariant-loop-link : goal.invariant-loop-link
invariant-loop-link l = l.names.items ++ link_names (drop l.link-index l.links) ≡ link_names l.links
