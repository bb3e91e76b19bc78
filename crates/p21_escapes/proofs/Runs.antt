-- The runs of characters that follow a run that was begun.
use Rattle.std.proofs.Common.{◌≡◌, ℕ, true, false, List, [], ◌∷◌, ◌++◌, refl, sym, ◌∙◌, ap, append-nil, append_assoc, length, arith, ◌&&◌, ◌<◌, Bool}
use Rattle.std.specs.Str.{chars}
use Rattle.std.proofs.lemmas.Bool.Decides.{nat_tests}
use Rattle.std.proofs.lemmas.Str.{chars-nil, chars-IsAscii}
use Rattle.std.proofs.lemmas.Str.Ascii.{IsAscii-nil, IsAscii-cons}
use Rattle.std.specs.List.{list_all}
use Rattle.std.specs.Str.{IsAscii}
use Rattle.p21_escapes.specs.Encoding.{is_plain, Run, Plain, Others, with_other, with_run, runs, runs_text, open_text, plain_text, others_text, is_itself, encoded}

with_run-other : (run : List ℕ) (c : ℕ) (rs : List Run) → with_run (run ++ c ∷ []) rs ≡ with_run run (with_other c rs)
with_run-other [] c rs = refl
with_run-other (d ∷ run) c rs = ap (with_other d) (with_run-other run c rs)

with_run-plain : (d : ℕ) (run : List ℕ) (c : ℕ) (rs : List Run) → with_run (d ∷ run) (Plain c ∷ rs) ≡ Others d run ∷ Plain c ∷ rs
with_run-plain d [] c rs = refl
with_run-plain d (e ∷ run) c rs = ap (with_other d) (with_run-plain e run c rs)

with_run-end : (d : ℕ) (run : List ℕ) → with_run (d ∷ run) [] ≡ Others d run ∷ []
with_run-end d [] = refl
with_run-end d (e ∷ run) = ap (with_other d) (with_run-end e run)

pub runs_text-other : (run : List ℕ) (c : ℕ) (cs : List ℕ) → is_plain c ≡ false → runs_text (with_run (run ++ c ∷ []) (runs cs)) ≡ runs_text (with_run run (runs (c ∷ cs)))
runs_text-other run c cs is = rw is (ap runs_text (with_run-other run c (runs cs)))

pub runs_text-plain : (run : List ℕ) (c : ℕ) (cs : List ℕ) → is_plain c ≡ true → open_text run ++ (plain_text c ++ runs_text (runs cs)) ≡ runs_text (with_run run (runs (c ∷ cs)))
runs_text-plain [] c cs is = rw is refl
runs_text-plain (d ∷ run) c cs is = rw is (sym (ap runs_text (with_run-plain d run c (runs cs))))

pub runs_text-end : (run : List ℕ) → open_text run ≡ runs_text (with_run run [])
runs_text-end [] = refl
runs_text-end (d ∷ run) = sym (ap runs_text (with_run-end d run) ∙ append-nil (others_text (d ∷ run)))

-- a character that may stand for itself ends the run before it
pub run_closed : (out mid new run now : List ℕ) (c : ℕ) (cs : List ℕ) → is_plain c ≡ true → mid ≡ out ++ open_text run → now ≡ [] → new ≡ mid ++ plain_text c
    → new ++ runs_text (with_run now (runs cs)) ≡ out ++ runs_text (with_run run (runs (c ∷ cs)))
run_closed out mid new run now c cs is first none second =
    ap (λ l. l ++ runs_text (with_run now (runs cs))) (second ∙ ap (λ l. l ++ plain_text c) first)
    ∙ ap (λ l. ((out ++ open_text run) ++ plain_text c) ++ runs_text (with_run l (runs cs))) none
    ∙ append_assoc (out ++ open_text run) (plain_text c) (runs_text (runs cs))
    ∙ append_assoc out (open_text run) (plain_text c ++ runs_text (runs cs))
    ∙ ap (λ l. out ++ l) (runs_text-plain run c cs is)

pub run_goes_on : (out run now : List ℕ) (c : ℕ) (cs : List ℕ) → is_plain c ≡ false → now ≡ run ++ c ∷ [] → out ++ runs_text (with_run now (runs cs)) ≡ out ++ runs_text (with_run run (runs (c ∷ cs)))
run_goes_on out run now c cs is more = ap (λ l. out ++ l) (ap (λ r. runs_text (with_run r (runs cs))) more ∙ runs_text-other run c cs is)

-- the whole, where no more characters come
pub run_ended : (old mid new run cs text : List ℕ) → mid ++ runs_text (with_run run (runs cs)) ≡ old ++ text → cs ≡ [] → new ≡ mid ++ open_text run → new ≡ old ++ text
run_ended old mid new run cs text held none is = is ∙ ap (λ l. mid ++ l) (runs_text-end run ∙ sym (ap (λ l. runs_text (with_run run (runs l))) none)) ∙ held

-- what was said of all that is left, where one character was taken
pub run_taken : (old mid new run now cs rest text : List ℕ) (c : ℕ) → cs ≡ c ∷ rest → mid ++ runs_text (with_run run (runs cs)) ≡ old ++ text
    → new ++ runs_text (with_run now (runs rest)) ≡ mid ++ runs_text (with_run run (runs (c ∷ rest))) → new ++ runs_text (with_run now (runs rest)) ≡ old ++ text
run_taken old mid new run now cs rest text c is held step = step ∙ ap (λ l. mid ++ runs_text (with_run run (runs l))) (sym is) ∙ held

pub no_characters : (bs : List ℕ) → length bs ≡ 0 → chars bs ≡ []
no_characters [] none = chars-nil
no_characters (b ∷ bs) none = absurd (omega arith)

-- ---- a text that is written as it is

itself_text : (c : ℕ) → is_itself c ≡ true → plain_text c ≡ c ∷ []
itself_text c is = grind (arith, nat_tests)

itself_plain : (c : ℕ) → is_itself c ≡ true → is_plain c ≡ true
itself_plain c is = grind (arith, nat_tests)

itself_small : (c : ℕ) → is_itself c ≡ true → c < 128
itself_small c is = grind (arith, nat_tests)

pub first_holds : (a b : Bool) → (a && b) ≡ true → a ≡ true
first_holds true b is = refl
first_holds false b is = is

pub second_holds : (a b : Bool) → (a && b) ≡ true → b ≡ true
second_holds true b is = is
second_holds false b is = cc

themselves_ascii : (cs : List ℕ) → list_all is_itself cs ≡ true → IsAscii cs
themselves_ascii [] all = IsAscii-nil
themselves_ascii (c ∷ cs) all =
    IsAscii-cons c cs (itself_small c (first_holds (is_itself c) (list_all is_itself cs) all)) (themselves_ascii cs (second_holds (is_itself c) (list_all is_itself cs) all))

themselves_text : (cs : List ℕ) → list_all is_itself cs ≡ true → runs_text (runs cs) ≡ cs
themselves_text [] all = refl
themselves_text (c ∷ cs) all =
    let here = first_holds (is_itself c) (list_all is_itself cs) all in
    rw (itself_plain c here)
    (ap (λ l. l ++ runs_text (runs cs)) (itself_text c here) ∙ ap (λ l. c ∷ l) (themselves_text cs (second_holds (is_itself c) (list_all is_itself cs) all)))

pub encoded-themselves : (text : List ℕ) → list_all is_itself text ≡ true → encoded text ≡ text
unfolding encoded
encoded-themselves text all = ap (λ cs. runs_text (runs cs)) (chars-IsAscii text (themselves_ascii text all)) ∙ themselves_text text all
