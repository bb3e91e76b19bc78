use Rattle.std.proofs.Common.{◌≡◌, ◌++◌, flat_map, take}
use Rattle.rp_replies.specs.Replies.{warning_data}
use Rattle.rp_json.specs.Tokens.{tokens_of}
use Rattle.rp_replies.proofs.lists.write_warnings.Given as goal

abbrev pub invariant-loop-at : goal.invariant-loop-at
invariant-loop-at l =
    record {
      tokens : l.out.tokens ≡ l.initial.out.tokens ++ flat_map (λ t. tokens_of (warning_data t)) (take l.at-index l.warnings);
      before : l.out.before ≡ l.initial.out.before;
    }
