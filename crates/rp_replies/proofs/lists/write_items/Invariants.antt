use Rattle.std.proofs.Common.{◌≡◌, ◌++◌, flat_map, take}
use Rattle.rp_replies.specs.Replies.{item_data}
use Rattle.rp_json.specs.Tokens.{tokens_of}
use Rattle.rp_replies.proofs.lists.write_items.Given as goal

abbrev pub invariant-loop-item : goal.invariant-loop-item
invariant-loop-item l =
    record {
      tokens : l.out.tokens ≡ l.initial.out.tokens ++ flat_map (λ t. tokens_of (item_data t)) (take l.item-index l.items);
      before : l.out.before ≡ l.initial.out.before;
    }
