use Rattle.std.proofs.Common.{◌≡◌, ◌+◌, ◌-◌, length, take, drop, ap, ◌∙◌, arith, length-drop}
use Rattle.std.proofs.lemmas.List.{take_all}
use Rattle.http_messages.specs.Mask.{blank_at}
use Rattle.http_messages.proofs.Places.{masked_in_place}
use Rattle.http_messages.proofs.mask.mask.Goals as goal

pub returns : goal.returns
returns c =
    let n = c.target_at-start.result in
    let m = c.blank_at.result in
    let xs = c.args.text.now in
    let size : n + m - n ≡ m = omega arith in
    let behind : take (length xs - n) (drop n xs) ≡ drop n xs = take_all (length xs - n) (drop n xs) (omega (arith, length-drop n xs)) in
    masked_in_place xs c.make_plain.new.target n (n + m - n) c.target_at-start.ensures.value (size ∙ c.blank_at.ensures.value ∙ ap blank_at behind) c.make_plain.ensures
