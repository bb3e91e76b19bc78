use Rattle.std.proofs.Common.{◌≡◌, ◌++◌, flat_map, take}
use Rattle.rp_snapshot_rows.specs.Written.{member_data}
use Rattle.rp_json.specs.Tokens.{tokens_of}
use Rattle.rp_snapshot_rows.proofs.written_lists.write_members.Given as goal

abbrev pub invariant-loop-member : goal.invariant-loop-member
invariant-loop-member l =
    record {
      tokens : l.out.tokens ≡ l.initial.out.tokens ++ flat_map (λ t. tokens_of (member_data t)) (take l.member-index l.members);
      before : l.out.before ≡ l.initial.out.before;
    }
