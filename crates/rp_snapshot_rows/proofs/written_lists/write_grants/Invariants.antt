use Rattle.std.proofs.Common.{◌≡◌, ◌++◌, flat_map, take}
use Rattle.rp_snapshot_rows.specs.Written.{grant_data}
use Rattle.rp_json.specs.Tokens.{tokens_of}
use Rattle.rp_snapshot_rows.proofs.written_lists.write_grants.Given as goal

abbrev pub invariant-loop-grant : goal.invariant-loop-grant
invariant-loop-grant l =
    record {
      tokens : l.out.tokens ≡ l.initial.out.tokens ++ flat_map (λ t. tokens_of (grant_data t)) (take l.grant-index l.grants);
      before : l.out.before ≡ l.initial.out.before;
    }
