use Rattle.std.proofs.Common.{◌≡◌, ◌++◌, flat_map, take}
use Rattle.rp_replies.specs.Replies.{check_data}
use Rattle.rp_json.specs.Tokens.{tokens_of}
use Rattle.rp_replies.proofs.reports.write_checks.Given as goal

abbrev pub invariant-loop-check : goal.invariant-loop-check
invariant-loop-check l =
    record {
      tokens : l.out.tokens ≡ l.initial.out.tokens ++ flat_map (λ t. tokens_of (check_data t)) (take l.check-index l.checks);
      before : l.out.before ≡ l.initial.out.before;
    }
