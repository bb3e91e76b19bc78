use Rattle.std.proofs.Common.{◌≡◌, ◌++◌, flat_map, take}
use Rattle.rp_replies.specs.Replies.{culprit_data}
use Rattle.rp_json.specs.Tokens.{tokens_of}
use Rattle.rp_replies.proofs.reports.write_each.Given as goal

abbrev pub invariant-loop-culprit : goal.invariant-loop-culprit
invariant-loop-culprit l =
    record {
      tokens : l.out.tokens ≡ l.initial.out.tokens ++ flat_map (λ t. tokens_of (culprit_data t)) (take l.culprit-index l.culprits);
      before : l.out.before ≡ l.initial.out.before;
    }
