use Rattle.std.proofs.Common.{◌≡◌, List, [], ◌∷◌, length, append_assoc, append-nil, refl, sym, ◌∙◌, arith}
use Rattle.std.specs.Vec.Iter.{into_iter_items}
use Rattle.std.proofs.lemmas.Grind.{common_steps}
use Rattle.rp_plain.specs.Turns.{Run}
use Rattle.rp_repo.specs.Calls.{turns_of}
use Rattle.rp_repo.proofs.Running.{run_more}
use Rattle.rp_repo.proofs.repository.Repository.run.Goals as goal

no_items : {A : Type 0} (xs : List A) → length xs ≡ 0 → xs ≡ []
no_items [] h = refl
no_items (x ∷ xs) h = absurd (omega (arith, h))

pub loop-call-preserved : goal.loop-call-preserved
loop-call-preserved c =
    let start = c.args.self.now.content in
    let now = c.loop-call.self.content in
    let call = c.in-Some.call in
    let rest = into_iter_items c.next.new.self in
    let reply = c.handle.result in
    let is : into_iter_items c.loop-call.call-iterator ≡ call ∷ rest = c.in-Some.ensures.steps.0 in
    let fewer = c.in-Some.ensures.steps.1 in
    record {
      leads = λ more end run.
          rw (c.push_reserved.ensures.items, append_assoc) (c.loop-call.invariant.leads (reply ∷ more) end (rw is (run_more now start c.handle.new.self.content end call rest reply more c.loop-call.invariant.same c.handle.ensures.reply c.handle.ensures.content run)));
      same = c.handle.ensures.partners ∙ c.loop-call.invariant.same;
      valid = c.handle.ensures.valid;
      known = (rw is at c.loop-call.invariant.known).1;
      room = grind (arith, common_steps, c.push_reserved.ensures.len, c.push_reserved.ensures.capacity, c.loop-call.invariant.room);
      counted = grind (arith, common_steps, c.loop-call.invariant.counted);
    }

whole : (c : goal.After-drop-call-iterator) → Run c.args.self.now.content (turns_of c.args.self.now.content c.args.calls.items) c.loop-call.replies.items c.loop-call.self.content
whole c =
    let none : into_iter_items c.loop-call.call-iterator ≡ [] = no_items (into_iter_items c.loop-call.call-iterator) (sym c.loop-call.invariant.counted ∙ c.in-None.ensures.steps.0) in
    rw (← append-nil c.loop-call.replies.items) (c.loop-call.invariant.leads [] c.loop-call.self.content (rw none refl))

pub returns-clause-run : goal.returns-clause-run
returns-clause-run c = whole c

pub returns-clause-partners : goal.returns-clause-partners
returns-clause-partners c = c.loop-call.invariant.same

pub returns-clause-valid : goal.returns-clause-valid
returns-clause-valid c = c.loop-call.invariant.valid

pub returns-clause-alone : goal.returns-clause-alone
returns-clause-alone c = λ partner outside.
    let start = c.args.self.now.content in
    c.one_run.ensures.replies start c.loop-call.self.content partner (turns_of start c.args.calls.items) c.loop-call.replies.items c.is_valid.ensures.valid.order (whole c) outside

pub returns-clause-left : goal.returns-clause-left
returns-clause-left c = λ partner outside.
    let start = c.args.self.now.content in
    c.one_run.ensures.part start c.loop-call.self.content partner (turns_of start c.args.calls.items) c.loop-call.replies.items c.is_valid.ensures.valid.order (whole c) outside
