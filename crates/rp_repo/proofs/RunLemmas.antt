-- A run goes on by one line.
use Rattle.std.proofs.Common.{◌≡◌, ℕ, List, [], ◌∷◌, ◌++◌, Bool, true, Option, Some, None, Result, Ok, Err, is_ok, OnOk, append_assoc, append-nil, refl, sym, ap, subst, ◌∙◌, true≢false}
use Rattle.std.proofs.lemmas.List.Concat.{flat_map-append}
use Rattle.rp_io.specs.Lines.{lines_of, TakesLine}
use Rattle.rp_io.proofs.KnownLemmas.{Appends-trans}
use Rattle.rp_plain.specs.Plain.{Plain}
use Rattle.rp_plain.specs.declared.messages.Reply.{Reply}
use Rattle.rp_replies.specs.Replies.{line_of_reply}
use Rattle.rp_plain.specs.Runs.{MayReply, left_by}
use Rattle.rp_repo.specs.LineRuns.{LineRun, meant, text_of, Replies, RepliesInPart, Serves, TakesLines, AreFirstLines}

pub on_ok : {T E : Type 0} (r : Result T E) (P : Type 0) → OnOk r P → is_ok r ≡ true → P
on_ok (Ok x) P h e = h
on_ok (Err d) P h e = absurd (true≢false (sym e))

pub LineRun-append : (old mid new : Plain) (lines : List (List ℕ)) (replies : List Reply) (line : List ℕ) (reply : Reply) → LineRun old lines replies mid
    → MayReply (meant mid line) reply → new ≡ left_by mid (meant mid line) reply → LineRun old (lines ++ line ∷ []) (replies ++ reply ∷ []) new
LineRun-append old mid new [] [] line reply run may content = (subst (λ r. MayReply (meant r line) reply) run may, subst (λ r. new ≡ left_by r (meant r line) reply) run content)
LineRun-append old mid new [] (r ∷ rs) line reply run may content = absurd run
LineRun-append old mid new (l ∷ ls) [] line reply run may content = absurd run
LineRun-append old mid new (l ∷ ls) (r ∷ rs) line reply run may content = (run.0, LineRun-append (left_by old (meant old l) r) mid new ls rs line reply run.1 may content)

pub TakesLines-more : (a b c : Option (List ℕ)) (lines : List (List ℕ)) (line : List ℕ) → TakesLines a b lines → TakesLine b c line → TakesLines a c (lines ++ line ∷ [])
TakesLines-more None b c lines line x y = tt
TakesLines-more (Some a) None c lines line x y = absurd x
TakesLines-more (Some a) (Some b) None lines line x y = absurd y
TakesLines-more (Some a) (Some b) (Some c) lines line x y = rw (x, y, append_assoc) refl

pub AreFirstLines-taken : (a b : Option (List ℕ)) (lines : List (List ℕ)) → TakesLines a b lines → AreFirstLines a lines
AreFirstLines-taken None b lines x = tt
AreFirstLines-taken (Some a) None lines x = absurd x
AreFirstLines-taken (Some a) (Some b) lines x = (lines_of b, x)

text_of-more : (replies : List Reply) (reply : Reply) → text_of (replies ++ reply ∷ []) ≡ text_of replies ++ line_of_reply reply
text_of-more replies reply =
    flat_map-append line_of_reply replies (reply ∷ []) ∙ ap (λ xs. text_of replies ++ xs) (append-nil (line_of_reply reply))

pub Replies-more : (old mid new : Plain) (a b c : Option (List ℕ)) (lines : List (List ℕ)) (line : List ℕ) (whole : Bool) → Replies old mid a b lines
    → Serves mid new b c line whole → whole ≡ true → Replies old new a c (lines ++ line ∷ [])
Replies-more old mid new a b c lines line whole done next e = record {
  replies = done.replies ++ next.reply ∷ [];
  run = LineRun-append old mid new lines done.replies line next.reply done.run next.may next.content;
  written = rw text_of-more (Appends-trans a b c (text_of done.replies) (line_of_reply next.reply) done.written (next.all e));
}

pub Replies-cut : (old mid new : Plain) (a b c : Option (List ℕ)) (lines : List (List ℕ)) (line : List ℕ) (whole : Bool) → Replies old mid a b lines
    → Serves mid new b c line whole → RepliesInPart old new a c (lines ++ line ∷ [])
Replies-cut old mid new a b c lines line whole done next = record {
  done = done.replies;
  last = next.reply;
  run = LineRun-append old mid new lines done.replies line next.reply done.run next.may next.content;
  front = next.front.0;
  back = next.front.1;
  cut = next.front.2;
  written = Appends-trans a b c (text_of done.replies) next.front.0 done.written next.front.3;
}
