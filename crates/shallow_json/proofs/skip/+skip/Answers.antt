use Rattle.std.proofs.Common.{◌≡◌, ◌-◌, ◌<◌, [], ◌∷◌, length, Some, None, refl, sym, ap, ap₂, ◌∙◌, arith}
use Rattle.json.specs.Token as spec
use Rattle.json.specs.Json.{after_end_array, read_key, value}
use Rattle.json.specs.Reads.{token_of}
use Rattle.json.proofs.Grammar.{left_none, left_some, value_is, read_key-shorter}
use Rattle.serde_json.specs.Data.{no_members, put}
use Rattle.serde_json.specs.Read.{of_json, converted}
use Rattle.shallow_json.proofs.Reading.{item_read, item_refused, items_over, member_read, member_refused, key_refused, members_over}
use Rattle.shallow_json.specs.Passing.{left, after_value}
use Rattle.shallow_json.proofs.Passes.{left-parse_map, value-scalar, passed, refused, after_list, after_object}
use Rattle.shallow_json.proofs.skip.+skip.Goals as goal

pub skip_items-items-preserved : goal.skip_items-items-preserved
skip_items-items-preserved t c =
    let p = value c.args.depth in
    let l = c.items in
    let n = l.invariant.0 in
    let going : (after_end_array l.reader ≡ None) × (c.take_end_array.new.self ≡ l.reader) = grind arith in
    let r = c.skip_value.new.reader in
    let less : length r < length l.reader = rw (← going.1) c.in_ok-skip_value.ensures.shorter in
    let read = left_some (converted of_json (p l.reader)) r (rw (← going.1) c.in_ok-skip_value.ensures.value) in (
      n - 1,
      omega (arith, l.invariant.1),
      l.invariant.2 ∙ ap left (item_read p n l.reader r read.0 (omega (arith, l.invariant.1)) going.0 read.1) ∙ left-parse_map _ _,
      omega (arith, l.invariant.3),
    )

pub skip_items-returns-in_err-skip_value-clause-value : goal.skip_items-returns-in_err-skip_value-clause-value
skip_items-returns-in_err-skip_value-clause-value t c =
    let p = value c.args.depth in
    let l = c.items in
    let n = l.invariant.0 in
    let going : (after_end_array l.reader ≡ None) × (c.take_end_array.new.self ≡ l.reader) = grind arith in
    let none = l.invariant.2 ∙ ap left (item_refused p n l.reader going.0 (left_none _ (rw (← going.1) c.in_err-skip_value.ensures.value))) in
    grind (arith, none)

pub skip_items-returns-clause-value : goal.skip_items-returns-clause-value
skip_items-returns-clause-value t c =
    let l = c.items in
    let n = l.invariant.0 in
    l.invariant.2 ∙ ap left (items_over (value c.args.depth) n l.reader c.take_end_array.new.self l.invariant.1 (grind arith))

pub skip_members-members-init : goal.skip_members-members-init
skip_members-members-init t c = (length c.args.reader.now, no_members, omega arith, refl, omega arith)

pub skip_members-returns-in_err-next_key-clause-value : goal.skip_members-returns-in_err-next_key-clause-value
skip_members-returns-in_err-next_key-clause-value t c =
    let l = c.members in
    let none = l.invariant.3 ∙ ap left (key_refused (value c.args.depth) l.invariant.1 l.invariant.0 l.reader c.in_err-next_key.ensures.value) in
    grind (arith, none)

pub skip_members-members-preserved : goal.skip_members-members-preserved
skip_members-members-preserved t c =
    let p = value c.args.depth in
    let l = c.members in
    let n = l.invariant.0 in
    let old = l.invariant.1 in
    let k = c.in-Some.field-0.now in
    let s = c.next_key.new.self in
    let r = c.skip_value.new.reader in
    let key : read_key l.reader ≡ Some (Some k, s) = grind arith in
    let less = read_key-shorter l.reader (Some k) s key in
    let lesser = c.in_ok-skip_value.ensures.shorter in
    let read = left_some (converted of_json (p s)) r c.in_ok-skip_value.ensures.value in (
      n - 1,
      put k read.0 old,
      omega (arith, l.invariant.2),
      l.invariant.3 ∙ ap left (member_read p old n k l.reader s r read.0 (omega (arith, l.invariant.2)) key read.1),
      omega (arith, l.invariant.4),
    )

pub skip_members-returns-in_err-skip_value-clause-value : goal.skip_members-returns-in_err-skip_value-clause-value
skip_members-returns-in_err-skip_value-clause-value t c =
    let p = value c.args.depth in
    let l = c.members in
    let k = c.in-Some.field-0.now in
    let s = c.next_key.new.self in
    let key : read_key l.reader ≡ Some (Some k, s) = grind arith in
    let none = l.invariant.3 ∙ ap left (member_refused p l.invariant.1 l.invariant.0 k l.reader s key (left_none _ c.in_err-skip_value.ensures.value)) in
    grind (arith, none)

pub skip_members-returns-clause-value : goal.skip_members-returns-clause-value
skip_members-returns-clause-value t c =
    let l = c.members in
    l.invariant.3 ∙ ap left (members_over (value c.args.depth) l.invariant.1 l.invariant.0 l.reader c.next_key.new.self l.invariant.2 (grind arith))

pub skip_value-returns-in_err-token-clause-value : goal.skip_value-returns-in_err-token-clause-value
skip_value-returns-in_err-token-clause-value t c =
    let empty : c.args.reader.now ≡ [] = grind arith in
    let none : after_value c.args.depth c.args.reader.now ≡ None = ap (after_value c.args.depth) empty ∙ ap (λ o. left (converted of_json o)) (value_is c.args.depth []) in
    grind (arith, none)

pub skip_value-returns-then-depth-eq0-clause-value : goal.skip_value-returns-then-depth-eq0-clause-value
unfolding value
skip_value-returns-then-depth-eq0-clause-value t c =
    let first : c.args.reader.now ≡ token_of c.in_ok-token.token ∷ c.next.new.self = grind arith in
    let none : c.args.depth ≡ 0 = omega arith in
    ap₂ after_value none (first ∙ ap (λ k. token_of k ∷ c.next.new.self) c.in-BeginArray.is)

pub skip_value-returns-then-depth-eq0-2-clause-value : goal.skip_value-returns-then-depth-eq0-2-clause-value
unfolding value
skip_value-returns-then-depth-eq0-2-clause-value t c =
    let first : c.args.reader.now ≡ token_of c.in_ok-token.token ∷ c.next.new.self = grind arith in
    let none : c.args.depth ≡ 0 = omega arith in
    ap₂ after_value none (first ∙ ap (λ k. token_of k ∷ c.next.new.self) c.in-BeginObject.is)

pub skip_value-returns-else-depth-eq0-clause-value : goal.skip_value-returns-else-depth-eq0-clause-value
skip_value-returns-else-depth-eq0-clause-value t c =
    let first : c.args.reader.now ≡ token_of c.in_ok-token.token ∷ c.next.new.self = grind arith in
    let opened : c.args.reader.now ≡ spec.begin_array ∷ c.next.new.self = first ∙ ap (λ k. token_of k ∷ c.next.new.self) c.in-BeginArray.is in
    let same = ap (after_value c.args.depth) opened ∙ after_list c.args.depth c.next.new.self (omega arith) in
    rw same c.skip_items.ensures.value

pub skip_value-returns-else-depth-eq0-2-clause-value : goal.skip_value-returns-else-depth-eq0-2-clause-value
skip_value-returns-else-depth-eq0-2-clause-value t c =
    let first : c.args.reader.now ≡ token_of c.in_ok-token.token ∷ c.next.new.self = grind arith in
    let opened : c.args.reader.now ≡ spec.begin_object ∷ c.next.new.self = first ∙ ap (λ k. token_of k ∷ c.next.new.self) c.in-BeginObject.is in
    let same = ap (after_value c.args.depth) opened ∙ after_object c.args.depth c.next.new.self (omega arith) in
    rw same c.skip_members.ensures.value

pub skip_value-returns-then-is_scalar : goal.skip_value-returns-then-is_scalar
skip_value-returns-then-is_scalar t c =
    let first : c.args.reader.now ≡ token_of c.in_ok-token.token ∷ c.next.new.self = grind arith in
    let read = ap (after_value c.args.depth) first ∙ ap left (value-scalar c.args.depth _ c.next.new.self c.in_default.not-BeginObject c.in_default.not-BeginArray) in
    record { value = read ∙ passed _ _ (sym c.is_scalar.ensures ∙ c.if-is_scalar.true); shorter = rw first (omega arith) }

pub skip_value-returns-else-is_scalar : goal.skip_value-returns-else-is_scalar
skip_value-returns-else-is_scalar t c =
    let first : c.args.reader.now ≡ token_of c.in_ok-token.token ∷ c.next.new.self = grind arith in
    let read = ap (after_value c.args.depth) first ∙ ap left (value-scalar c.args.depth _ c.next.new.self c.in_default.not-BeginObject c.in_default.not-BeginArray) in
    record { value = read ∙ ap left (refused _ _ (sym c.is_scalar.ensures ∙ c.if-is_scalar.false)); shorter = tt }
