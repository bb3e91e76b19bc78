use Rattle.std.proofs.Common.{◌≡◌, ◌++◌, flat_map, take}
use Rattle.rp_json.specs.Written.{link_data}
use Rattle.rp_json.specs.Tokens.{tokens_of}
use Rattle.rp_json.proofs.links.write_links.Given as goal

abbrev pub invariant-loop-link : goal.invariant-loop-link
invariant-loop-link l =
    record {
      tokens : l.out.tokens ≡ l.initial.out.tokens ++ flat_map (λ t. tokens_of (link_data t)) (take l.link-index l.links);
      before : l.out.before ≡ l.initial.out.before;
    }
