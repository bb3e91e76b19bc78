-- The names of a file's instances are numbers of 18 digits.
use Rattle.std.proofs.Common.{◌≡◌, ◌≤◌, ℕ, suc, zero, ◌+◌, ◌-◌, Bool, true, false, nat_lt, List, [], ◌∷◌, ◌++◌, Ok, Err, refl, ap, subst, arith}
use Rattle.std.specs.Prelude.{min, drop, codes, if◌then◌else◌}
use Rattle.std.specs.List.{AllByRecursion}
use Rattle.rp_numbers.specs.Whole.{value}
use Rattle.text_forms.specs.Forms.{Outcome, and_then, ◌>>=◌, pure, turns, repeat_from}
use Rattle.p21_tree.specs.declared.fault.FileFault.{FileFault}
use Rattle.p21_tree.specs.declared.instance.Instance.{Instance}
use Rattle.p21_tree.specs.declared.raw.Raw.{Raw}
use Rattle.p21_lexemes.specs.declared.token.TokenKind.TheVariants as k
use Rattle.p21_lexemes.specs.Tokens.{Lexemes, Parser, sees, word, expect, file_lexemes}
use Rattle.p21_grammar.specs.Grammar.{name_of, name, mapping_form, instance, instances}
use Rattle.p21_grammar.specs.Header.{line, header_section}
use Rattle.p21_grammar.specs.File.{section, data_section, mark, file_end, file, file_of, tree_of}
use Rattle.rp_rows.specs.Instances.{max_name}

-- what a parser gives has a property, whatever it reads
abbrev Gives : {A : Type 0} → Parser A → (A → Type 0) → Type 0
Gives {A} p P = (s : Lexemes) (a : A) (t : Lexemes) → p s ≡ Ok (a, t) → P a

ok_same : {A : Type 0} (u v : A × Lexemes) (o : Outcome Lexemes FileFault A) → o ≡ Ok u → o ≡ Ok v → u ≡ v
ok_same u v o e f = cc

gives_pure : {A : Type 0} (P : A → Type 0) (a : A) → P a → Gives (pure a) P
gives_pure {A = A} P a has s b t e = subst P (ap (λ (u : A × Lexemes). u.0) (ok_same (a, s) (b, t) (pure a s) refl e)) has

-- one after another, where the second hangs on the tree of the first
gives_then : {A B : Type 0} (p : Parser A) (q : A → Parser B) (P : A → Type 0) (Q : B → Type 0) → Gives p P → ((a : A) → P a → Gives (q a) Q) → Gives (p >>= q) Q
gives_then {A = A} p q P Q first next s b t e = by (p s) refl e
  where
    by : (o : Outcome Lexemes FileFault A) → p s ≡ o → and_then o q ≡ Ok (b, t) → Q b
    by (Ok u) f g = next u.0 (first s u.0 u.1 f) u.1 b t g
    by (Err fault) f g = cc

gives_any : {A B : Type 0} (p : Parser A) (q : A → Parser B) (Q : B → Type 0) → ((a : A) → Gives (q a) Q) → Gives (p >>= q) Q
gives_any p q Q next = gives_then p q (λ a. Unit {0}) Q (λ s a t e. tt) (λ a here. next a)

-- ---- repetition

all_more : {A : Type 0} (P : A → Type 0) (xs : List A) (x : A) → AllByRecursion P xs → P x → AllByRecursion P (xs ++ x ∷ [])
all_more P [] x all here = (here, tt)
all_more P (y ∷ ys) x all here = (all.0, all_more P ys x all.1 here)

module _ {A : Type 0} (P : A → Type 0) (begins : Lexemes → Bool) (item : Parser A) (gives : Gives item P) where
  abbrev Collects : ℕ → Type 0
  Collects n = (found : List A) → AllByRecursion P found → Gives (repeat_from turns begins item n found) (AllByRecursion P)

  turned : (n : ℕ) → Collects n → (found : List A) → AllByRecursion P found → (s : Lexemes) (xs : List A) (t : Lexemes) → (o : Outcome Lexemes FileFault A) → item s ≡ o
      → and_then o (λ a u. (if nat_lt (turns u) (turns s) then repeat_from turns begins item n (found ++ a ∷ []) else pure (found ++ a ∷ [])) u) ≡ Ok (xs, t) → AllByRecursion P xs
  turned n rest found all s xs t (Err fault) i e = cc
  turned n rest found all s xs t (Ok u) i e = by (nat_lt (turns u.1) (turns s)) e
    where
      more : AllByRecursion P (found ++ u.0 ∷ [])
      more = all_more P found u.0 all (gives s u.0 u.1 i)

      by : (b : Bool) → (if b then repeat_from turns begins item n (found ++ u.0 ∷ []) else pure (found ++ u.0 ∷ [])) u.1 ≡ Ok (xs, t) → AllByRecursion P xs
      by true f = rest (found ++ u.0 ∷ []) more u.1 xs t f
      by false f = gives_pure (AllByRecursion P) (found ++ u.0 ∷ []) more u.1 xs t f

  begun : (n : ℕ) → Collects n → (found : List A) → AllByRecursion P found → (s : Lexemes) (xs : List A) (t : Lexemes) → (b : Bool)
      → (if b then and_then (item s) (λ a u. (if nat_lt (turns u) (turns s) then repeat_from turns begins item n (found ++ a ∷ []) else pure (found ++ a ∷ [])) u) else Ok (found, s)) ≡ Ok (xs, t) → AllByRecursion P xs
  begun n rest found all s xs t true e = turned n rest found all s xs t (item s) refl e
  begun n rest found all s xs t false e = gives_pure (AllByRecursion P) found all s xs t e

  collects : (n : ℕ) → Collects n
  unfolding repeat_from
  collects zero found all s xs t e = gives_pure (AllByRecursion P) found all s xs t e
  collects (suc n) found all s xs t e = begun n (collects n) found all s xs t (begins s) e

-- ---- names

abbrev IsNamed : Instance → Type 0
IsNamed i = i.name ≤ max_name

min_most : (m most : ℕ) → min m most ≤ most
min_most m most = omega arith

name_most : Gives name (λ n. n ≤ max_name)
unfolding name
name_most = gives_any (expect k.Name) _ (λ n. n ≤ max_name) (λ token. gives_pure (λ n. n ≤ max_name) (name_of token) (min_most (value (drop 1 token)) max_name))

instance_named : Gives instance IsNamed
unfolding instance
instance_named =
    gives_then name _ (λ n. n ≤ max_name) IsNamed name_most (λ n most.
    gives_any (expect k.Equals) _ IsNamed (λ _.
    gives_any mapping_form _ IsNamed (λ types.
    gives_any (expect k.Semicolon) _ IsNamed (λ _. gives_pure IsNamed (record { name = n; mapping = types }) most))))

instances_named : Gives instances (AllByRecursion IsNamed)
unfolding instances
instances_named s xs t e = collects IsNamed (sees k.Name) instance instance_named (suc (turns s)) [] tt s xs t e

body_named : Gives data_section (λ b. AllByRecursion IsNamed b.instances)
unfolding data_section
body_named =
    gives_any (word (codes "DATA")) _ _ (λ _.
    gives_any section _ _ (λ named.
    gives_any (expect k.Semicolon) _ _ (λ _.
    gives_then instances _ (AllByRecursion IsNamed) _ instances_named (λ found all.
    gives_any (line (codes "ENDSEC")) _ (λ b. AllByRecursion IsNamed b.instances) (λ _. gives_pure _ (record { section = named; instances = found }) all)))))

raw_named : Gives file (λ raw. AllByRecursion IsNamed raw.instances)
unfolding file
raw_named =
    let Named : Raw → Type 0 = λ raw. AllByRecursion IsNamed raw.instances in
    gives_any (mark k.FileStart) _ Named (λ _.
    gives_any header_section _ Named (λ head.
    gives_then data_section _ (λ b. AllByRecursion IsNamed b.instances) Named body_named (λ body all.
    gives_any file_end _ Named (λ _. gives_pure Named (record { header = head.header; schema = head.schema; section = body.section; instances = body.instances }) all))))

pub file_named : (text : List ℕ) (raw : Raw) → file_of text ≡ Ok raw → AllByRecursion IsNamed raw.instances
file_named text raw e = by (file (file_lexemes text)) refl e
  where
    by : (o : Outcome Lexemes FileFault Raw) → file (file_lexemes text) ≡ o → tree_of o ≡ Ok raw → AllByRecursion IsNamed raw.instances
    by (Ok u) f g = let same : u.0 ≡ raw = cc in subst (λ (r : Raw). AllByRecursion IsNamed r.instances) same (raw_named (file_lexemes text) u.0 u.1 f)
    by (Err fault) f g = cc
