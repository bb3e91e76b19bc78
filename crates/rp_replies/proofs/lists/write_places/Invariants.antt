use Rattle.std.proofs.Common.{◌≡◌, ◌++◌, flat_map, take}
use Rattle.rp_replies.specs.Replies.{instance_data}
use Rattle.rp_json.specs.Tokens.{tokens_of}
use Rattle.rp_replies.proofs.lists.write_places.Given as goal

abbrev pub invariant-loop-place : goal.invariant-loop-place
invariant-loop-place l =
    record {
      tokens : l.out.tokens ≡ l.initial.out.tokens ++ flat_map (λ t. tokens_of (instance_data t)) (take l.place-index l.places);
      before : l.out.before ≡ l.initial.out.before;
    }
