-- A connection goes on by one message, one read, or one write.
use Rattle.std.proofs.Common.{◌≡◌, ◌≢◌, ℕ, ◌<◌, ◌≤◌, List, [], ◌∷◌, ◌++◌, length, length-append, take, drop, Bool, true, false, true≢false, Option, Some, None, Result, Ok, Err, IfOk, OnErr, append_assoc, append-nil, ◌⊎◌, inl, inr, refl, sym, ap, subst, ◌∙◌, arith}
use Rattle.std.proofs.lemmas.Grind.{common_steps}
use Rattle.std.proofs.lemmas.List.{drop-append-le, take-append-le, take-append-drop}
use Rattle.std.proofs.lemmas.List.Concat.{flat_map-append}
use Rattle.std.proofs.Math.Seq.{take-nil}
use Rattle.std.specs.Io.KnownBytes.{prepend_known, Appends, Consumes, IsAtEnd, Keeps}
use Rattle.rp_io.proofs.KnownLemmas.{Appends-nil, Appends-trans}
use Rattle.rp_plain.specs.Plain.{Plain}
use Rattle.http_messages.specs.declared.message.Fault.{Fault}
use Rattle.http_messages.specs.Next.{Call, IsCall, FailsBy}
use Rattle.http_messages.proofs.Growing.{call_stays, fault_stays}
use Rattle.rp_messages.specs.Answers.{Answer, answer_bytes}
use Rattle.rp_messages.specs.Meaning.{MayAnswer, left_by, meant, MessageRun}
use Rattle.rp_http.specs.Inboxes.{State, Open, Holds, room_of}
use Rattle.rp_http.specs.Turns.{IsAnswered}
use Rattle.rp_http.specs.Runs.{Cuts, TakesCalls, AllStay, OnKnown, IsUnfinished, text_of, fault_text, Answered, AnsweredInPart, IsFirstRun, IsReadRun, IsEndedRun, IsWholeRun, IsCutRun}
use Rattle.rp_http.specs.declared.connection.Stepped.{Stepped}
use Rattle.rp_http.specs.declared.connection.Stepped.TheVariants.{Over, Ended}
use Rattle.rp_http.specs.declared.connection.Phase.{Phase}
use Rattle.rp_http.specs.declared.connection.Phase.TheVariants.{Turns, Wants, Sends, Refuses}
use Rattle.rp_http.specs.Serving.{IsIdle, IsShort, IsSending, IsRefusing, IsAt, IsLast}

-- ---- what is left of the input

cuts_more : (bytes mid : List ℕ) (calls : List Call) (call : Call) (n : ℕ) → Cuts bytes calls mid → IsCall mid call n → Cuts bytes (calls ++ call ∷ []) (drop n mid)
cuts_more bytes mid [] call n here is = (n, subst (λ b. IsCall b call n) here is, ap (λ b. drop n b) here)
cuts_more bytes mid (c ∷ cs) call n here is = (here.0, here.1, cuts_more (drop here.0 bytes) mid cs call n here.2 is)

takes_none : (input : Option (List ℕ)) → TakesCalls input (prepend_known [] input) []
takes_none None = tt
takes_none (Some xs) = refl

-- a message of what came is the first of all that is left
takes_more : (input : Option (List ℕ)) (came : List ℕ) (known : Option (List ℕ)) (calls : List Call) (call : Call) (n : ℕ) → TakesCalls input (prepend_known came known) calls → IsCall came call n
    → TakesCalls input (prepend_known (drop n came) known) (calls ++ call ∷ [])
takes_more None came known calls call n takes is = tt
takes_more (Some xs) came None calls call n takes is = absurd takes
takes_more (Some xs) came (Some ys) calls call n takes is =
    subst (λ r. Cuts xs (calls ++ call ∷ []) r) (drop-append-le n came ys is.within) (cuts_more xs (came ++ ys) calls call n takes (call_stays came ys call n is))

-- a read moves bytes to what came
grown : (came piece : List ℕ) (known left : Option (List ℕ)) → Consumes known left piece → (input : Option (List ℕ)) (calls : List Call) → TakesCalls input (prepend_known came known) calls
    → TakesCalls input (prepend_known (came ++ piece) left) calls
grown came piece known left used None calls takes = tt
grown came piece None left used (Some xs) calls takes = absurd takes
grown came piece (Some ys) None used (Some xs) calls takes = absurd used
grown came piece (Some ys) (Some zs) used (Some xs) calls takes =
    subst (λ r. Cuts xs calls r) (ap (λ l. came ++ l) used ∙ sym (append_assoc came piece zs)) takes

ended : (came : List ℕ) (known : Option (List ℕ)) → IsAtEnd known → IsUnfinished came → OnKnown (prepend_known came known) IsUnfinished
ended came None end is = tt
ended came (Some xs) end is = subst (λ r. IsUnfinished r) (sym (ap (λ l. came ++ l) end ∙ append-nil came)) is

refused : (came : List ℕ) (known : Option (List ℕ)) (fault : Fault) → FailsBy came fault → OnKnown (prepend_known came known) (λ rest. FailsBy rest fault)
refused came None fault is = tt
refused came (Some ys) fault is = fault_stays came ys fault is

-- ---- what was answered

all_stay_more : (calls : List Call) (call : Call) → AllStay calls → call.parts.stays ≡ true → AllStay (calls ++ call ∷ [])
all_stay_more [] call x e = (e, tt)
all_stay_more (c ∷ cs) call x e = (x.0, all_stay_more cs call x.1 e)

pub run_more : (tokens : List (List ℕ)) (old mid new : Plain) (calls : List Call) (answers : List Answer) (call : Call) (answer : Answer) → MessageRun tokens old calls answers mid
    → MayAnswer (meant tokens mid call) answer → new ≡ left_by mid (meant tokens mid call) answer → MessageRun tokens old (calls ++ call ∷ []) (answers ++ answer ∷ []) new
run_more tokens old mid new [] [] call answer run may content = (subst (λ r. MayAnswer (meant tokens r call) answer) run may, subst (λ r. new ≡ left_by r (meant tokens r call) answer) run content)
run_more tokens old mid new [] (a ∷ more) call answer run may content = absurd run
run_more tokens old mid new (c ∷ cs) [] call answer run may content = absurd run
run_more tokens old mid new (c ∷ cs) (a ∷ more) call answer run may content = (run.0, run_more tokens (left_by old (meant tokens old c) a) mid new cs more call answer run.1 may content)

text_of-more : (answers : List Answer) (answer : Answer) → text_of (answers ++ answer ∷ []) ≡ text_of answers ++ answer_bytes answer
text_of-more answers answer = flat_map-append answer_bytes answers (answer ∷ []) ∙ ap (λ xs. text_of answers ++ xs) (append-nil (answer_bytes answer))

nothing_more : (old new : Option (List ℕ)) (xs : List ℕ) → Appends old new xs → Appends old new (xs ++ [])
nothing_more old new xs is = subst (λ l. Appends old new l) (sym (append-nil xs)) is

-- ---- a turn

-- the first message of what came was answered, and nothing of the answer is sent yet
pub answered : (tokens : List (List ℕ)) (start old new : Plain) (input known before after : Option (List ℕ)) (inbox left : State) (owed bytes sent : List ℕ) (stays : Bool)
    → (idle : IsIdle tokens start old input known before after inbox owed) → IsAnswered tokens idle.came left old new bytes stays → sent ≡ bytes
    → IsSending tokens start new input known before after left sent stays
answered tokens start old new input known before after inbox left owed bytes sent stays idle is same = record {
  came = drop is.size idle.came;
  holds = is.holds;
  calls = idle.first.calls;
  last = is.call;
  takes = takes_more input idle.came known idle.first.calls is.call is.size (subst (λ l. TakesCalls input l idle.first.calls) idle.rest idle.first.takes) is.is;
  stay = idle.first.stay;
  same = is.same;
  part = record {
    done = idle.first.answered.answers;
    last = is.answers.answer;
    run = run_more tokens start old new idle.first.calls idle.first.answered.answers is.call is.answers.answer idle.first.answered.run is.answers.may is.answers.content;
    front = [];
    back = sent;
    cut = sym (same ∙ is.answers.is);
    written = nothing_more before after (text_of idle.first.answered.answers) idle.first.answered.written;
  };
  owes = refl;
}

same_first : (tokens : List (List ℕ)) (start old new : Plain) (input before after : Option (List ℕ)) → new ≡ old → IsFirstRun tokens start old input before after → IsFirstRun tokens start new input before after
same_first tokens start old new input before after same first = subst (λ r. IsFirstRun tokens start r input before after) (sym same) first

-- no message can come
pub refuses : (tokens : List (List ℕ)) (start old new : Plain) (input known before after : Option (List ℕ)) (inbox : State) (owed sent : List ℕ) (fault : Fault)
    → (idle : IsIdle tokens start old input known before after inbox owed) → FailsBy idle.came fault → new ≡ old → sent ≡ fault_text fault
    → IsRefusing tokens start new input before after sent
refuses tokens start old new input known before after inbox owed sent fault idle fails content same = record {
  mid = after;
  first = record {
    calls = idle.first.calls;
    left = prepend_known idle.came known;
    takes = subst (λ l. TakesCalls input l idle.first.calls) idle.rest idle.first.takes;
    stay = idle.first.stay;
    answered = subst (λ r. Answered tokens start r before after idle.first.calls) (sym content) idle.first.answered;
  };
  fault = fault;
  fails = refused idle.came known fault fails;
  front = [];
  cut = sym same;
  written = Appends-nil after;
}

-- more bytes have to come
pub short : (tokens : List (List ℕ)) (start old new : Plain) (input known before after : Option (List ℕ)) (inbox left : State) (owed : List ℕ)
    → (idle : IsIdle tokens start old input known before after inbox owed) → IsUnfinished idle.came → Holds tokens idle.came left → 0 < room_of left → new ≡ old
    → IsShort tokens start new input known before after left owed
short tokens start old new input known before after inbox left owed idle unfinished holds room content = record {
  idle = record {
    came = idle.came;
    holds = holds;
    none = idle.none;
    first = record {
      calls = idle.first.calls;
      left = prepend_known idle.came known;
      takes = subst (λ l. TakesCalls input l idle.first.calls) idle.rest idle.first.takes;
      stay = idle.first.stay;
      answered = subst (λ r. Answered tokens start r before after idle.first.calls) (sym content) idle.first.answered;
    };
    rest = refl;
  };
  unfinished = unfinished;
  room = room;
}

-- ---- a read

pub read_on : (tokens : List (List ℕ)) (start now : Plain) (input known left before after : Option (List ℕ)) (inbox next : State) (owed piece : List ℕ)
    → (idle : IsIdle tokens start now input known before after inbox owed) → Consumes known left piece → Holds tokens (idle.came ++ piece) next
    → IsIdle tokens start now input left before after next owed
read_on tokens start now input known left before after inbox next owed piece idle used holds = record {
  came = idle.came ++ piece;
  holds = holds;
  none = idle.none;
  first = record {
    calls = idle.first.calls;
    left = prepend_known (idle.came ++ piece) left;
    takes = grown idle.came piece known left used input idle.first.calls (subst (λ l. TakesCalls input l idle.first.calls) idle.rest idle.first.takes);
    stay = idle.first.stay;
    answered = idle.first.answered;
  };
  rest = refl;
}

-- where a read gives nothing, or fails, the bytes to come stay
same_rest : (came : List ℕ) (known left : Option (List ℕ)) → Consumes known left [] → (input : Option (List ℕ)) (calls : List Call) → TakesCalls input (prepend_known came known) calls
    → TakesCalls input (prepend_known came left) calls
same_rest came known left used None calls takes = tt
same_rest came None left used (Some xs) calls takes = absurd takes
same_rest came (Some ys) None used (Some xs) calls takes = absurd used
same_rest came (Some ys) (Some zs) used (Some xs) calls takes = subst (λ l. Cuts xs calls (came ++ l)) used takes

pub still_short : (tokens : List (List ℕ)) (start now : Plain) (input known left before after : Option (List ℕ)) (inbox : State) (owed : List ℕ)
    → IsShort tokens start now input known before after inbox owed → Consumes known left [] → IsShort tokens start now input left before after inbox owed
still_short tokens start now input known left before after inbox owed is used = record {
  idle = record {
    came = is.idle.came;
    holds = is.idle.holds;
    none = is.idle.none;
    first = record {
      calls = is.idle.first.calls;
      left = prepend_known is.idle.came left;
      takes = same_rest is.idle.came known left used input is.idle.first.calls (subst (λ l. TakesCalls input l is.idle.first.calls) is.idle.rest is.idle.first.takes);
      stay = is.idle.first.stay;
      answered = is.idle.first.answered;
    };
    rest = refl;
  };
  unfinished = is.unfinished;
  room = is.room;
}

pub Keeps-none : (known left : Option (List ℕ)) → Keeps known left → Consumes known left []
Keeps-none None left keeps = tt
Keeps-none (Some xs) None keeps = absurd keeps
Keeps-none (Some xs) (Some ys) keeps = sym keeps

pub consumes_none : (known left : Option (List ℕ)) (xs : List ℕ) (n : ℕ) → n ≡ 0 → Consumes known left (take n xs) → Consumes known left []
consumes_none known left xs n none used = subst (λ k. Consumes known left (take k xs)) none used

-- a read failed
pub read_run : (tokens : List (List ℕ)) (start now : Plain) (input known left before after : Option (List ℕ)) (inbox : State) (owed : List ℕ)
    → IsShort tokens start now input known before after inbox owed → Keeps known left → IsReadRun tokens start now input left before after
read_run tokens start now input known left before after inbox owed is keeps =
    let short = still_short tokens start now input known left before after inbox owed is (Keeps-none known left keeps) in
    record { first = short.idle.first; came = short.idle.came; unfinished = short.unfinished; rest = short.idle.rest }

at_end : (known left : Option (List ℕ)) → Consumes known left [] → IsAtEnd left → IsAtEnd known
at_end None left used end = tt
at_end (Some xs) None used end = absurd used
at_end (Some xs) (Some ys) used end = used ∙ end

pub ended_run : (tokens : List (List ℕ)) (start now : Plain) (input known left before after : Option (List ℕ)) (inbox : State) (owed : List ℕ)
    → IsShort tokens start now input known before after inbox owed → Consumes known left [] → IsAtEnd left → IsEndedRun tokens start now input before after
ended_run tokens start now input known left before after inbox owed is used end =
    (is.idle.first, subst (λ l. OnKnown l IsUnfinished) (sym is.idle.rest) (ended is.idle.came known (at_end known left used end) is.unfinished))

-- ---- a write

moved : (front owed : List ℕ) (n : ℕ) → front ++ owed ≡ (front ++ take n owed) ++ drop n owed
moved front owed n = ap (λ l. front ++ l) (sym (take-append-drop n owed)) ∙ sym (append_assoc front (take n owed) (drop n owed))

pub sent_on : (tokens : List (List ℕ)) (start now : Plain) (input known before after next : Option (List ℕ)) (inbox : State) (owed left : List ℕ) (stays : Bool) (n : ℕ)
    → IsSending tokens start now input known before after inbox owed stays → Appends after next (take n owed) → left ≡ drop n owed
    → IsSending tokens start now input known before next inbox left stays
sent_on tokens start now input known before after next inbox owed left stays n is wrote rest = record {
  came = is.came;
  holds = is.holds;
  calls = is.calls;
  last = is.last;
  takes = is.takes;
  stay = is.stay;
  same = is.same;
  part = record {
    done = is.part.done;
    last = is.part.last;
    run = is.part.run;
    front = is.part.front ++ take n owed;
    back = left;
    cut = is.part.cut ∙ ap (λ l. is.part.front ++ l) is.owes ∙ moved is.part.front owed n ∙ ap (λ l. (is.part.front ++ take n owed) ++ l) (sym rest);
    written = subst (λ l. Appends before next l) (append_assoc (text_of is.part.done) is.part.front (take n owed))
        (Appends-trans before after next (text_of is.part.done ++ is.part.front) (take n owed) is.part.written wrote);
  };
  owes = refl;
}

pub refuses_on : (tokens : List (List ℕ)) (start now : Plain) (input before after next : Option (List ℕ)) (owed left : List ℕ) (n : ℕ)
    → IsRefusing tokens start now input before after owed → Appends after next (take n owed) → left ≡ drop n owed → IsRefusing tokens start now input before next left
refuses_on tokens start now input before after next owed left n is wrote rest = record {
  mid = is.mid;
  first = is.first;
  fault = is.fault;
  fails = is.fails;
  front = is.front ++ take n owed;
  cut = is.cut ∙ moved is.front owed n ∙ ap (λ l. (is.front ++ take n owed) ++ l) (sym rest);
  written = Appends-trans is.mid after next is.front (take n owed) is.written wrote;
}

abbrev first_on : (tokens : List (List ℕ)) (start now : Plain) (input before after next : Option (List ℕ)) → IsFirstRun tokens start now input before after → Appends after next [] → IsFirstRun tokens start now input before next
first_on tokens start now input before after next first wrote = record {
  calls = first.calls;
  left = first.left;
  takes = first.takes;
  stay = first.stay;
  answered = record {
    answers = first.answered.answers;
    run = first.answered.run;
    written = subst (λ l. Appends before next l) (append-nil (text_of first.answered.answers))
        (Appends-trans before after next (text_of first.answered.answers) [] first.answered.written wrote);
  };
}

drop-nil : (n : ℕ) → ◌≡◌ {A = List ℕ} (drop n []) []
drop-nil n = grind (arith, common_steps)

-- where nothing is to be sent, nothing was
abbrev no_bytes : (after next : Option (List ℕ)) (owed : List ℕ) (n : ℕ) → owed ≡ [] → Appends after next (take n owed) → Appends after next []
no_bytes after next owed n none wrote = subst (λ l. Appends after next l) (ap (take n) none ∙ take-nil n) wrote

abbrev none_left : (owed left : List ℕ) (n : ℕ) → owed ≡ [] → left ≡ drop n owed → left ≡ []
none_left owed left n none rest = rest ∙ ap (drop n) none ∙ drop-nil n

abbrev idle_on : (tokens : List (List ℕ)) (start now : Plain) (input known before after next : Option (List ℕ)) (inbox : State) (owed left : List ℕ) (n : ℕ) → IsIdle tokens start now input known before after inbox owed
    → Appends after next (take n owed) → left ≡ drop n owed → IsIdle tokens start now input known before next inbox left
idle_on tokens start now input known before after next inbox owed left n is wrote rest = record {
  came = is.came;
  holds = is.holds;
  none = none_left owed left n is.none rest;
  first = first_on tokens start now input before after next is.first (no_bytes after next owed n is.none wrote);
  rest = is.rest;
}

-- some of what is owed was sent
pub wrote_on : (tokens : List (List ℕ)) (start now : Plain) (input known before after next : Option (List ℕ)) (inbox : State) (owed left : List ℕ) (n : ℕ) (phase : Phase)
    → Appends after next (take n owed) → left ≡ drop n owed → IsAt tokens start now input known before after inbox owed phase → IsAt tokens start now input known before next inbox left phase
wrote_on tokens start now input known before after next inbox owed left n Turns wrote rest is = idle_on tokens start now input known before after next inbox owed left n is wrote rest
wrote_on tokens start now input known before after next inbox owed left n Wants wrote rest is = record {
  idle = idle_on tokens start now input known before after next inbox owed left n is.idle wrote rest;
  unfinished = is.unfinished;
  room = is.room;
}
wrote_on tokens start now input known before after next inbox owed left n (Sends stays) wrote rest is = sent_on tokens start now input known before after next inbox owed left stays n is wrote rest
wrote_on tokens start now input known before after next inbox owed left n Refuses wrote rest is = refuses_on tokens start now input before after next owed left n is wrote rest

nothing_written : (after next : Option (List ℕ)) → Keeps after next → Appends after next []
nothing_written None next keeps = tt
nothing_written (Some xs) None keeps = absurd keeps
nothing_written (Some xs) (Some ys) keeps = keeps ∙ sym (append-nil xs)

pub write_failed : (tokens : List (List ℕ)) (start now : Plain) (input known before after next : Option (List ℕ)) (inbox : State) (owed : List ℕ) (phase : Phase)
    → Keeps after next → IsAt tokens start now input known before after inbox owed phase → IsAt tokens start now input known before next inbox owed phase
write_failed tokens start now input known before after next inbox owed phase keeps is =
    wrote_on tokens start now input known before after next inbox owed owed 0 phase (nothing_written after next keeps) refl is

pub wrote_first : (tokens : List (List ℕ)) (start now : Plain) (input known before after next : Option (List ℕ)) (inbox : State) (first rest left : List ℕ) (n : ℕ) (phase : Phase)
    → n ≤ length first → Appends after next (take n first) → left ≡ drop n (first ++ rest) → IsAt tokens start now input known before after inbox (first ++ rest) phase
    → IsAt tokens start now input known before next inbox left phase
wrote_first tokens start now input known before after next inbox first rest left n phase some wrote behind is =
    wrote_on tokens start now input known before after next inbox (first ++ rest) left n phase (subst (λ l. Appends after next l) (sym (take-append-le n first rest some)) wrote) behind is

-- ---- a read, by the phase

pub read_nothing : (tokens : List (List ℕ)) (start now : Plain) (input known left before after : Option (List ℕ)) (inbox : State) (owed : List ℕ) (phase : Phase)
    → phase ≡ Wants → Consumes known left [] → IsAt tokens start now input known before after inbox owed phase → IsAt tokens start now input left before after inbox owed phase
read_nothing tokens start now input known left before after inbox owed phase wants used is =
    subst (λ p. IsAt tokens start now input left before after inbox owed p) (sym wants)
    (still_short tokens start now input known left before after inbox owed (subst (λ p. IsAt tokens start now input known before after inbox owed p) wants is) used)

pub as_short : (tokens : List (List ℕ)) (start now : Plain) (input known before after : Option (List ℕ)) (inbox : State) (owed : List ℕ) (phase : Phase)
    → phase ≡ Wants → IsAt tokens start now input known before after inbox owed phase → IsShort tokens start now input known before after inbox owed
as_short tokens start now input known before after inbox owed phase wants is = subst (λ p. IsAt tokens start now input known before after inbox owed p) wants is

pub as_idle : (tokens : List (List ℕ)) (start now : Plain) (input known before after : Option (List ℕ)) (inbox : State) (owed : List ℕ) (phase : Phase)
    → phase ≡ Turns → IsAt tokens start now input known before after inbox owed phase → IsIdle tokens start now input known before after inbox owed
as_idle tokens start now input known before after inbox owed phase turns is = subst (λ p. IsAt tokens start now input known before after inbox owed p) turns is

-- ---- an answer that is out

whole_part : (tokens : List (List ℕ)) (start now : Plain) (before after : Option (List ℕ)) (calls : List Call) → (part : AnsweredInPart tokens start now before after calls) → part.back ≡ []
    → Answered tokens start now before after calls
whole_part tokens start now before after calls part none = record {
  answers = part.done ++ part.last ∷ [];
  run = part.run;
  written = subst (λ l. Appends before after l)
      (sym (text_of-more part.done part.last ∙ ap (λ l. text_of part.done ++ l) (part.cut ∙ ap (λ l. part.front ++ l) none ∙ append-nil part.front))) part.written;
}

pub goes_on : (tokens : List (List ℕ)) (start now : Plain) (input known before after : Option (List ℕ)) (inbox : State) (owed : List ℕ)
    → IsSending tokens start now input known before after inbox owed true → owed ≡ [] → IsIdle tokens start now input known before after inbox owed
goes_on tokens start now input known before after inbox owed is none = record {
  came = is.came;
  holds = is.holds;
  none = none;
  first = record {
    calls = is.calls ++ is.last ∷ [];
    left = prepend_known is.came known;
    takes = is.takes;
    stay = all_stay_more is.calls is.last is.stay is.same;
    answered = whole_part tokens start now before after (is.calls ++ is.last ∷ []) is.part (is.owes ∙ none);
  };
  rest = refl;
}

pub closed_run : (tokens : List (List ℕ)) (start now : Plain) (input known before after : Option (List ℕ)) (inbox : State) (owed : List ℕ)
    → IsSending tokens start now input known before after inbox owed false → owed ≡ [] → IsWholeRun tokens start now input before after
closed_run tokens start now input known before after inbox owed is none = inr (inl (record {
  calls = is.calls;
  last = is.last;
  left = prepend_known is.came known;
  takes = is.takes;
  stay = is.stay;
  closes = is.same;
  answered = whole_part tokens start now before after (is.calls ++ is.last ∷ []) is.part (is.owes ∙ none);
}))

pub refused_run : (tokens : List (List ℕ)) (start now : Plain) (input before after : Option (List ℕ)) (owed : List ℕ)
    → IsRefusing tokens start now input before after owed → owed ≡ [] → IsWholeRun tokens start now input before after
refused_run tokens start now input before after owed is none = inr (inr (record {
  mid = is.mid;
  first = is.first;
  fault = is.fault;
  fails = is.fails;
  written = subst (λ l. Appends is.mid after l) (sym (is.cut ∙ ap (λ l. is.front ++ l) none ∙ append-nil is.front)) is.written;
}))

-- ---- a write that failed

pub cut_answer : (tokens : List (List ℕ)) (start now : Plain) (input known before after : Option (List ℕ)) (inbox : State) (owed : List ℕ) (stays : Bool)
    → 0 < length owed → IsSending tokens start now input known before after inbox owed stays → IsCutRun tokens start now input before after
cut_answer tokens start now input known before after inbox owed stays some is = inl (record {
  calls = is.calls;
  last = is.last;
  left = prepend_known is.came known;
  takes = is.takes;
  stay = is.stay;
  answered = is.part;
  some = subst (λ l. 0 < length l) (sym is.owes) some;
})

pub cut_fault : (tokens : List (List ℕ)) (start now : Plain) (input before after : Option (List ℕ)) (owed : List ℕ)
    → 0 < length owed → IsRefusing tokens start now input before after owed → IsCutRun tokens start now input before after
cut_fault tokens start now input before after owed some is = inr (record {
  mid = is.mid;
  first = is.first;
  fault = is.fault;
  fails = is.fails;
  front = is.front;
  back = owed;
  cut = is.cut;
  written = is.written;
  some = some;
})

-- the last answer is out
pub over_run : (tokens : List (List ℕ)) (start now : Plain) (input known before after : Option (List ℕ)) (inbox : State) (owed : List ℕ) (phase : Phase)
    → IsLast phase → owed ≡ [] → IsAt tokens start now input known before after inbox owed phase → IsWholeRun tokens start now input before after
over_run tokens start now input known before after inbox owed phase (inl e) none is =
    closed_run tokens start now input known before after inbox owed (subst (λ p. IsAt tokens start now input known before after inbox owed p) e is) none
over_run tokens start now input known before after inbox owed phase (inr e) none is =
    refused_run tokens start now input before after owed (subst (λ p. IsAt tokens start now input known before after inbox owed p) e is) none

-- an answer is out, and the connection stays
pub settled : (tokens : List (List ℕ)) (start now : Plain) (input known before after : Option (List ℕ)) (inbox : State) (owed : List ℕ) (phase : Phase)
    → phase ≡ Sends true → owed ≡ [] → IsAt tokens start now input known before after inbox owed phase → IsIdle tokens start now input known before after inbox owed
settled tokens start now input known before after inbox owed phase sends none is =
    goes_on tokens start now input known before after inbox owed (subst (λ p. IsAt tokens start now input known before after inbox owed p) sends is) none

pub some_owed : (first rest : List ℕ) → 0 < length first → first ++ rest ≡ [] → ⊥
some_owed first rest some none = omega (arith, some, length-append first rest, ap length none)

pub more_owed : (first rest : List ℕ) → 0 < length first → 0 < length (first ++ rest)
more_owed first rest some = omega (arith, some, length-append first rest)

-- a write failed
pub cut_run : (tokens : List (List ℕ)) (start now : Plain) (input known before after : Option (List ℕ)) (inbox : State) (first rest : List ℕ) (phase : Phase)
    → 0 < length first → IsAt tokens start now input known before after inbox (first ++ rest) phase → IsCutRun tokens start now input before after
cut_run tokens start now input known before after inbox first rest Turns some is = absurd (some_owed first rest some is.none)
cut_run tokens start now input known before after inbox first rest Wants some is = absurd (some_owed first rest some is.idle.none)
cut_run tokens start now input known before after inbox first rest (Sends stays) some is = cut_answer tokens start now input known before after inbox (first ++ rest) stays (more_owed first rest some) is
cut_run tokens start now input known before after inbox first rest Refuses some is = cut_fault tokens start now input before after (first ++ rest) (more_owed first rest some) is

is_sending : Phase → Bool
is_sending Turns = false
is_sending Wants = false
is_sending (Sends stays) = true
is_sending Refuses = false

pub wants_not : (phase : Phase) → phase ≡ Wants → phase ≢ Sends true
unfolding is_sending
wants_not phase e sends = absurd (true≢false (ap is_sending (sym sends ∙ e)))

pub refuses_not : (phase : Phase) → phase ≡ Refuses → phase ≢ Sends true
unfolding is_sending
refuses_not phase e sends = absurd (true≢false (ap is_sending (sym sends ∙ e)))

-- what is left but turns
pub turns_left : (phase : Phase) → ¬ (IsLast phase) → phase ≢ Wants → phase ≢ Sends true → phase ≡ Turns
turns_left Turns last wants sends = refl
turns_left Wants last wants sends = absurd (wants refl)
turns_left (Sends true) last wants sends = absurd (sends refl)
turns_left (Sends false) last wants sends = absurd (last (inl refl))
turns_left Refuses last wants sends = absurd (last (inr refl))

-- nothing came yet
pub begins : (tokens : List (List ℕ)) (start : Plain) (input before : Option (List ℕ)) (inbox : State) (owed : List ℕ) (phase : Phase)
    → inbox ≡ Open [] → owed ≡ [] → phase ≡ Turns → IsAt tokens start start input input before before inbox owed phase
begins tokens start input before inbox owed phase empty none turns =
    subst (λ p. IsAt tokens start start input input before before inbox owed p) (sym turns) (record {
      came = [];
      holds = subst (λ i. Holds tokens [] i) (sym empty) refl;
      none = none;
      first = record {
        calls = [];
        left = prepend_known [] input;
        takes = takes_none input;
        stay = tt;
        answered = record { answers = []; run = refl; written = Appends-nil before };
      };
      rest = refl;
    })

whole_or : {A : Type 0} (stepped : Stepped) (W : Type 0) → (stepped ≡ Over → A) → stepped ≢ Ended → (A → W) → (stepped ≡ Over) ⊎ (stepped ≡ Ended) → W
whole_or stepped W over ended then (inl e) = then (over e)
whole_or stepped W over ended then (inr e) = absurd (ended e)

pub whole_if : {E A W : Type 0} (r : Result Stepped E) → IfOk r (λ stepped. stepped ≡ Over → A) → IfOk r (λ stepped. stepped ≢ Ended) → (A → W)
    → IfOk r (λ stepped. (stepped ≡ Over) ⊎ (stepped ≡ Ended) → W)
whole_if (Err e) over ended then = tt
whole_if {W = W} (Ok stepped) over ended then = whole_or stepped W over ended then

pub on_err : {T E : Type 0} (r : Result T E) (P : Type 0) → P → OnErr r P
on_err (Ok x) P is = tt
on_err (Err e) P is = is

pub on_err_then : {T E P Q : Type 0} (r : Result T E) → OnErr r P → (P → Q) → OnErr r Q
on_err_then (Ok x) is then = tt
on_err_then (Err e) is then = then is

-- a call that failed left this as it was, and these bytes
pub kept_on_err : {T E C : Type 0} (r : Result T E) (c : C) (before after : Option (List ℕ)) → Keeps before after → OnErr r ((c ≡ c) × Keeps before after)
kept_on_err (Ok x) c before after keeps = tt
kept_on_err (Err e) c before after keeps = (refl, keeps)

pub keeps_same : (a : Option (List ℕ)) → Keeps a a
keeps_same None = tt
keeps_same (Some xs) = refl

speaks : Phase → Bool
speaks Turns = false
speaks Wants = false
speaks (Sends stays) = true
speaks Refuses = true

speaking : (phase : Phase) → speaks phase ≡ true → (phase ≢ Turns) × (phase ≢ Wants)
unfolding speaks
speaking phase e = (λ turns. absurd (true≢false (sym e ∙ ap speaks turns)), λ wants. absurd (true≢false (sym e ∙ ap speaks wants)))

pub sends_not : (phase : Phase) → ((stays : Bool) × (phase ≡ Sends stays)) ⊎ (phase ≡ Refuses) → (phase ≢ Turns) × (phase ≢ Wants)
unfolding speaks
sends_not phase (inl sends) = speaking phase (ap speaks sends.1)
sends_not phase (inr refuses) = speaking phase (ap speaks refuses)

-- what is left but a reply after which the connection goes on
pub sends_left : (phase : Phase) → ¬ (IsLast phase) → phase ≢ Turns → phase ≢ Wants → phase ≡ Sends true
sends_left Turns last turns wants = absurd (turns refl)
sends_left Wants last turns wants = absurd (wants refl)
sends_left (Sends true) last turns wants = refl
sends_left (Sends false) last turns wants = absurd (last (inl refl))
sends_left Refuses last turns wants = absurd (last (inr refl))
