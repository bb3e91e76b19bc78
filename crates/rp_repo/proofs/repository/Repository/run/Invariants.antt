use Rattle.std.proofs.Common.{◌≡◌, ◌<◌, ◌≤◌, ◌+◌, List, ◌++◌, length, vec_len}
use Rattle.std.specs.Vec.{vec_capacity}
use Rattle.std.specs.Vec.Iter.{into_iter_items, into_iter_len}
use Rattle.std.specs.List.{AllByRecursion}
use Rattle.rp_plain.specs.declared.messages.Reply.{Reply}
use Rattle.rp_plain.specs.Plain.{Plain}
use Rattle.rp_plain.specs.Turns.{Run}
use Rattle.rp_plain.specs.Valid.{IsValid}
use Rattle.rp_repo.specs.Calls.{turns_of}
use Rattle.rp_repo.proofs.repository.Repository.run.Given as goal

-- the replies so far, and a run of the calls that are left, make a run of them all
abbrev pub invariant-loop-call : goal.invariant-loop-call
invariant-loop-call l =
    let start = l.fn.self.content in
    let rest = into_iter_items l.call-iterator in
    record {
      leads : (more : List Reply) (end : Plain) → Run l.self.content (turns_of start rest) more end → Run start (turns_of start l.fn.calls.items) (l.replies.items ++ more) end;
      same : l.self.content.partners ≡ start.partners;
      valid : IsValid l.self.content;
      known : AllByRecursion (λ call. call.caller < length start.partners) rest;
      counted : into_iter_len l.call-iterator ≡ length rest;
      room : vec_len l.replies + length rest ≤ vec_capacity l.replies;
    }
