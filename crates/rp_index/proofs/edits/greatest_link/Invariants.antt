use Rattle.std.proofs.Common.{◌≡◌, drop}
use Rattle.std.specs.Prelude.{max, fold}
use Rattle.rp_rows.specs.Contents as contents
use Rattle.rp_index.proofs.edits.greatest_link.Given as goal

abbrev pub invariant-loop-link : goal.invariant-loop-link
invariant-loop-link l = fold max l.greatest (contents.link_names (drop l.link-index l.links)) ≡ fold max l.fn.start (contents.link_names l.links)
