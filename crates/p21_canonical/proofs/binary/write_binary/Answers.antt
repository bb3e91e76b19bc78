use Rattle.std.proofs.Common.{◌++◌, ◌∷◌, [], ◌+◌, ◌%◌, ◌∙◌, ap, length, take}
use Rattle.std.proofs.lemmas.List.{take-append-drop}
use Rattle.p21_canonical.specs.Binaries.{digits, unused}
use Rattle.p21_canonical.proofs.Written.{binary_in_parts, binary_written}
use Rattle.p21_canonical.proofs.binary.write_binary.Goals as goal

pub returns : goal.returns
returns c =
    let first = c.split_at.result.0.now in
    let groups = c.split_at.result.1.now in
    let whole = ap (λ f. f ++ groups) c.split_at.ensures.front ∙ ap (λ g. take (length c.args.bits.now % 4) c.args.bits.now ++ g) c.split_at.ensures.back
    ∙ take-append-drop (length c.args.bits.now % 4) c.args.bits.now in
    let written = binary_written c.args.out.now c.push.new.self c.push-2.new.self c.write_first.new.out c.write_groups.new.out
    (48 + length (unused (length first))) (digits (unused (length first) ++ first)) (digits groups)
    c.in_ok-push.ensures (c.in_ok-push-2.ensures ∙ ap (λ n. c.push.new.self ++ (48 + n) ∷ []) c.unused_count.ensures.value) c.in_ok-write_first.ensures c.in_ok-write_groups.ensures in
    rw (binary_in_parts c.args.bits.now first groups c.split_at.ensures.front_len whole, ← written) c.push-3.ensures
