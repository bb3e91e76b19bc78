-- What stands at the front of some bytes stands there whatever bytes follow.
use Rattle.std.proofs.Common.{◌≡◌, ℕ, zero, suc, ◌-◌, ◌≤◌, List, [], ◌∷◌, ◌++◌, length, take, drop, length-append, length-drop, append_assoc, refl, sym, ap, subst, ◌∙◌, arith}
use Rattle.std.proofs.lemmas.List.{take-append-le, drop-append-le}
use Rattle.std.specs.Prelude.{slice_range}
use Rattle.httparse.specs.Grammar.{RequestHead, print_request}
use Rattle.http_messages.specs.Heads.{HasNoHead, NeverHasHead, MayBecomeHead}
use Rattle.http_messages.specs.declared.framing.Framing.{Framing}
use Rattle.http_messages.specs.declared.message.Fault.{Fault}
use Rattle.http_messages.specs.declared.message.Fault.TheVariants.{BadHead, BadBodyLength, BodyTooLarge, HeadTooLarge, CodedBody}
use Rattle.http_messages.specs.Next.{head_of, head_limit, HasHead, Parts, Announces, Call, IsCall, FailsBy}

-- a front of a longer list is the front of the list, and maybe more
pub take_grows : (n : ℕ) (xs ys : List ℕ) → (tail : List ℕ) × (take n (xs ++ ys) ≡ take n xs ++ tail)
take_grows zero xs ys = ([], refl)
take_grows (suc n) [] ys = (take (suc n) ys, refl)
take_grows (suc n) (x ∷ xs) ys =
    let more = take_grows n xs ys in
    (more.0, ap (λ l. x ∷ l) more.1)

pub head_grows : (bytes more : List ℕ) (h : RequestHead) (framing : Framing) → HasHead bytes h framing → HasHead (bytes ++ more) h framing
head_grows bytes more h framing has =
    let longer = take_grows head_limit bytes more in
    record {
      rest = has.rest ++ longer.0;
      reads = (has.reads.0, longer.1 ∙ ap (λ l. l ++ longer.0) has.reads.1 ∙ append_assoc (print_request h) has.rest longer.0);
      framed = has.framed;
    }

pub never_grows : (cut tail : List ℕ) → NeverHasHead cut → NeverHasHead (cut ++ tail)
never_grows cut tail never = λ more h rest reads. never (tail ++ more) h rest (reads.0, sym (append_assoc cut tail more) ∙ reads.1)

full_stays : (bytes more : List ℕ) → head_limit ≤ length bytes → head_of (bytes ++ more) ≡ head_of bytes
full_stays bytes more over = take-append-le head_limit bytes more over

longer : (bytes more : List ℕ) (n : ℕ) → n ≤ length bytes → n ≤ length (bytes ++ more)
longer bytes more n within = omega (arith, length-append bytes more, within)

range_stays : (bytes more : List ℕ) (start end : ℕ) → start ≤ end → end ≤ length bytes → slice_range (bytes ++ more) start end ≡ slice_range bytes start end
range_stays bytes more start end ordered within =
    let front : start ≤ length bytes = omega (arith, ordered, within) in
    let room : end - start ≤ length (drop start bytes) = omega (arith, ordered, within, length-drop start bytes) in
    ap (λ l. take (end - start) l) (drop-append-le start bytes more front) ∙ take-append-le (end - start) (drop start bytes) more room

pub announced_stays : (bytes more : List ℕ) (parts : Parts) (start end : ℕ) → Announces bytes parts start end → Announces (bytes ++ more) parts start end
announced_stays bytes more parts start end is =
    record {
      head = is.head;
      size = is.size;
      has = head_grows bytes more is.head _ is.has;
      small = is.small;
      says = is.says;
      front = is.front;
      whole = is.whole;
    }

pub call_stays : (bytes more : List ℕ) (call : Call) (n : ℕ) → IsCall bytes call n → IsCall (bytes ++ more) call n
call_stays bytes more call n is =
    let ordered : is.start ≤ n = omega (arith, is.announced.whole) in
    record {
      start = is.start;
      announced = announced_stays bytes more call.parts is.start n is.announced;
      within = longer bytes more n is.within;
      body = is.body ∙ sym (range_stays bytes more is.start n ordered is.within);
    }

pub fault_stays : (bytes more : List ℕ) (fault : Fault) → FailsBy bytes fault → FailsBy (bytes ++ more) fault
fault_stays bytes more BadHead never =
    let more_head = take_grows head_limit bytes more in
    subst (λ l. NeverHasHead l) (sym more_head.1) (never_grows (head_of bytes) more_head.0 never)
fault_stays bytes more HeadTooLarge full =
    let same = sym (full_stays bytes more full.0) in
    (longer bytes more head_limit full.0, subst (λ l. HasNoHead l) same full.1, subst (λ l. MayBecomeHead l) same full.2)
fault_stays bytes more CodedBody has = (has.0, head_grows bytes more has.0 _ has.1)
fault_stays bytes more BadBodyLength has = (has.0, head_grows bytes more has.0 _ has.1)
fault_stays bytes more BodyTooLarge has = (has.0, has.1, head_grows bytes more has.0 _ has.2, has.3)
