use Rattle.std.proofs.Common.{◌≡◌, ℕ, ◌-◌, List, length, take, drop, ap, ◌∙◌, subst, arith}
use Rattle.std.proofs.lemmas.List.{take_all, length-drop}
use Rattle.memchr.specs.Find.{is_byte2, Passes, Nowhere}
use Rattle.shallow_json.proofs.StringLemmas.{run_read}
use Rattle.shallow_json.proofs.texts.run_at.Goals as goal

-- what was searched is all from `at` on
searched : (b d : List ℕ) (at : ℕ) → b ≡ d → take (length b - at) (drop at b) ≡ drop at d
searched b d at same = take_all (length b - at) (drop at b) (omega (arith, length-drop at b)) ∙ ap (drop at) same

pub returns-clause-read : goal.returns-clause-read
returns-clause-read c =
    let at = c.args.at in
    let none = subst (λ hay. Nowhere (Passes (is_byte2 34 92) hay) 0 c.in_ok-count.count) (searched c.as_bytes.result.now c.args.text.now at c.as_bytes.ensures.value) c.in_ok-count.ensures.0.before in
    (run_read c.args.text.now _ at c.in_ok-count.count (grind arith) c.requires.printable none (grind arith) (grind arith)).0

pub returns-clause-passed : goal.returns-clause-passed
returns-clause-passed c =
    let at = c.args.at in
    let none = subst (λ hay. Nowhere (Passes (is_byte2 34 92) hay) 0 c.in_ok-count.count) (searched c.as_bytes.result.now c.args.text.now at c.as_bytes.ensures.value) c.in_ok-count.ensures.0.before in
    (run_read c.args.text.now _ at c.in_ok-count.count (grind arith) c.requires.printable none (grind arith) (grind arith)).1
