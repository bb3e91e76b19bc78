use Rattle.std.proofs.Common.{◌≡◌, ◌<◌, length, take, get_or, true, false, ◌||◌, sym, ◌∙◌, ap, subst, add-one}
use Rattle.std.specs.Prelude.{not}
use Rattle.std.specs.BTreeSet as sorted
use Rattle.std.specs.Cmp.Lexicographic.{slice_cmp}
use Rattle.std.specs.Ordering.{is_eq, nat_cmp}
use Rattle.std.specs.Str.{bytes_eq}
use Rattle.std.proofs.Math.Seq.{take-suc}
use Rattle.std.proofs.lemmas.List.Folds.{list_any_more}
use Rattle.std.proofs.lemmas.Map.Text.{is_eq-slice_cmp}
use Rattle.rp_plain.specs.Meaning.{has_text}
use Rattle.rp_core.proofs.Repeats.{not_false, not_true, bytes_eq_swap, has_twice_more, has_twice_found, either_way}
use Rattle.rp_core.proofs.opening.has_twice.Goals as goal

pub returns-then-not-branch : goal.returns-then-not-branch
returns-then-not-branch c =
    let texts = c.args.texts.now in
    let i = c.loop-text.text-index in
    let text = c.text-item.result in
    let before = take i texts in
    let is : c.as_str.result.now ≡ get_or texts i text = c.as_str.ensures ∙ c.text-item.is in
    let known = c.loop-text.invariant.known c.as_str.result in
    let among : has_text before c.as_str.result.now ≡ true = not_false (has_text before c.as_str.result.now) (ap not (sym known) ∙ sym c.in_ok-insert.ensures.added ∙ c.if-not-branch.true) in
    sym (has_twice_found texts i text c.loop-text-test.true (subst (λ t. has_text before t ≡ true) is among))

pub loop-text-preserved : goal.loop-text-preserved
loop-text-preserved c =
    let texts = c.args.texts.now in
    let i = c.loop-text.text-index in
    let text = c.text-item.result in
    let before = take i texts in
    let within : i < length texts = c.loop-text-test.true in
    let is : c.as_str.result.now ≡ get_or texts i text = c.as_str.ensures ∙ c.text-item.is in
    let known = c.loop-text.invariant.known in
    let absent : has_text before c.as_str.result.now ≡ false = not_true (has_text before c.as_str.result.now) (ap not (sym (known c.as_str.result)) ∙ sym c.in_ok-insert.ensures.added ∙ c.if-not-branch.false) in
    record {
      known = λ q.
          c.in_ok-insert.ensures.updates.0 q
          ∙ either_way (is_eq (slice_cmp nat_cmp c.as_str.result.now q.now)) (sorted.contains (λ x y. slice_cmp nat_cmp x.now y.now) c.loop-text.before q) (bytes_eq q.now (get_or texts i text)) (is_eq-slice_cmp c.as_str.result.now q.now ∙ bytes_eq_swap c.as_str.result.now q.now ∙ ap (bytes_eq q.now) is)
          ∙ ap (λ t. t || bytes_eq q.now (get_or texts i text)) (known q)
          ∙ sym (list_any_more (bytes_eq q.now) texts i text within);
      once = rw (add-one, take-suc texts i text within) (has_twice_more (get_or texts i text) before (subst (λ t. has_text before t ≡ false) is absent) c.loop-text.invariant.once);
    }
