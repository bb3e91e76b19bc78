-- What takes the place of a file is the snapshot that was written.
use Rattle.std.proofs.Common.{◌≡◌, ◌≢◌, ◌∙◌, ℕ, List, [], ◌++◌, Option, Some, None, IfSome, Result, Ok, Err, refl, sym, ap, subst, inl}
use Rattle.std.specs.Prelude.{IsSome, IfOk, IfErr, MatchResult}
use Rattle.std.proofs.Math.Logic.{∥∥₁_map}
use Rattle.std.specs.Io.KnownBytes.{Appends}
use Rattle.rp_saved_file.specs.Counts.{BeginsOne}
use Rattle.rp_saved_file.specs.declared.replacing.Left.{Left}
use Rattle.rp_saved_file.specs.Crashes.{Place, file_of, LeavesOnly, LeavesNoMore, LeavesOldOr}
use Rattle.rp_saved_file.specs.declared.fault.ReplaceFault.{ReplaceFault}
use Rattle.rp_program.specs.declared.fault.Unsaved.{Unsaved}
use Rattle.rp_program.specs.declared.fault.Unsaved.TheVariants.{File}
use Rattle.rp_program.specs.declared.saving.NotSaved.{NotSaved}
use Rattle.rp_program.specs.Saved.{PartView, LeftOldOr, IsSaved, IsKept, IsGivenUp, IsUnsaved, Ends, seen_file}

-- all of the text was written into a new file
all_written : (old new : Option (List ℕ)) (text : List ℕ) → IfSome old (λ bytes. bytes ≡ []) → Appends old new text → IfSome old (λ _. new ≡ Some text)
all_written None new text empty appends = tt
all_written (Some xs) None text empty appends = absurd appends
all_written (Some xs) (Some ys) text empty appends = ap Some (appends ∙ ap (λ zs. zs ++ text) empty)

if_known : {A B : Type 0} (old : Option (List ℕ)) → IfSome old (λ _. A) → (A → B) → IfSome old (λ _. B)
if_known None a f = tt
if_known (Some xs) a f = f a

-- what is left once a new file was written to, of which this is known then
module _ {P : Type 0} (v : PartView P) (made mid : P) (text : List ℕ) (empty : IfSome (v.contents made) (λ bytes. bytes ≡ [])) (same : v.path mid ≡ v.path made) where
  abbrev Ever : Option Place → P → Type 0
  Ever known after = ∥ LeavesOldOr known (v.could_leave (v.path mid)) (v.left_since after 0) ∥₁

  left_old_or : (after : P) → v.contents mid ≡ Some text → Ever (file_of (v.contents mid)) after → LeftOldOr v (v.path made) text after
  left_old_or after is ever =
      subst (λ path. ∥ LeavesOldOr (Some (Some text)) (v.could_leave path) (v.left_since after 0) ∥₁) same (subst (λ known. ∥ LeavesOldOr (file_of known) (v.could_leave (v.path mid)) (v.left_since after 0) ∥₁) is ever)

  is_saved : (after : P) → Appends (v.contents made) (v.contents mid) text → v.path after ≡ v.path mid → LeavesOnly (file_of (v.contents mid)) (v.may_leave after)
      → Ever (file_of (v.contents mid)) after → IsSaved v (v.path made) text after
  is_saved after appends path whole ever = record {
    of = path ∙ same;
    is = record {
      made = made;
      made_for = refl;
      told = if_known (v.contents made) (all_written (v.contents made) (v.contents mid) text empty appends) (λ is. record {
        whole = subst (λ known. LeavesOnly (file_of known) (v.may_leave after)) is whole;
        ever = left_old_or after is ever;
      });
    };
  }

  is_given_up : (after : P) → Appends (v.contents made) (v.contents mid) text → v.path after ≡ v.path mid → v.failures after ≢ 0 → Ever (file_of (v.contents mid)) after → IsGivenUp v (v.path made) text after
  is_given_up after appends path failed ever = record {
    of = path ∙ same;
    failed = failed;
    is = record {
      made = made;
      made_for = refl;
      told = if_known (v.contents made) (all_written (v.contents made) (v.contents mid) text empty appends) (λ is. left_old_or after is ever);
    };
  }

  -- it was given up without that
  pub kept : (after : P) → v.path after ≡ v.path mid → ∥ LeavesNoMore (v.could_leave (v.path mid)) (v.left_since after 0) ∥₁ → IsKept v (v.path made) after
  kept after path no_more = record {
    of = path ∙ same;
    kept = subst (λ p. ∥ LeavesNoMore (v.could_leave p) (v.left_since after 0) ∥₁) same no_more;
  }

  is_unwritten : (after : P) → v.path after ≡ v.path mid → v.failures after ≢ 0 → ∥ LeavesNoMore (v.could_leave (v.path mid)) (v.left_since after 0) ∥₁ → IsGivenUp v (v.path made) text after
  is_unwritten after path failed no_more = record {
    of = path ∙ same;
    failed = failed;
    is = record {
      made = made;
      made_for = refl;
      told = known (v.contents made);
    };
  }
    where
      known : (o : Option (List ℕ)) → IfSome o (λ _. LeftOldOr v (v.path made) text after)
      known None = tt
      known (Some xs) = ∥∥₁_map (kept after path no_more).kept (λ none place left. inl (none place left))

  -- the file's fault is told
  told_so : (why : Unsaved) (after : P) → ((fault : ReplaceFault) × (why ≡ File fault)) → IsGivenUp v (v.path made) text after → IsUnsaved v (v.path made) text why after
  told_so why after is it = subst (λ w. IsUnsaved v (v.path made) text w after) (sym is.1) it

-- ---- what came of it

module _ {P : Type 0} (v : PartView P) (made mid : P) (text : List ℕ) (empty : IfSome (v.contents made) (λ bytes. bytes ≡ [])) (same : v.path mid ≡ v.path made) where
  abbrev Paths : Result (Left P) (NotSaved P) → Type 0
  Paths o = MatchResult o (λ left. v.path left.part ≡ v.path mid) (λ unsaved. v.path unsaved.left.part ≡ v.path mid)

  abbrev Failed : Result (Left P) (NotSaved P) → Type 0
  Failed o = IfErr o (λ unsaved. ((fault : ReplaceFault) × (unsaved.why ≡ File fault)) × (v.failures unsaved.left.part ≢ 0))

  pub saved_all : (o : Result (Left P) (NotSaved P)) → Appends (v.contents made) (v.contents mid) text → Paths o → IfOk o (λ left. LeavesOnly (file_of (v.contents mid)) (v.may_leave left.part))
      → IfOk o (λ left. ∥ LeavesOldOr (file_of (v.contents mid)) (v.could_leave (v.path mid)) (v.left_since left.part 0) ∥₁) → IfOk o (λ left. IsSaved v (v.path made) text left.part)
  saved_all (Ok left) appends path whole ever = is_saved v made mid text empty same left.part appends path whole ever
  saved_all (Err unsaved) appends path whole ever = tt

  pub unsaved_all : (o : Result (Left P) (NotSaved P)) → Appends (v.contents made) (v.contents mid) text → Paths o → Failed o
      → IfErr o (λ unsaved. ∥ LeavesOldOr (file_of (v.contents mid)) (v.could_leave (v.path mid)) (v.left_since unsaved.left.part 0) ∥₁)
      → IfErr o (λ unsaved. IsUnsaved v (v.path made) text unsaved.why unsaved.left.part)
  unsaved_all (Ok left) appends path failed ever = tt
  unsaved_all (Err unsaved) appends path failed ever =
      told_so v made mid text empty same unsaved.why unsaved.left.part failed.0 (is_given_up v made mid text empty same unsaved.left.part appends path failed.1 ever)

  pub unwritten : (o : Result (Left P) (NotSaved P)) → Paths o → Failed o → IfErr o (λ unsaved. ∥ LeavesNoMore (v.could_leave (v.path mid)) (v.left_since unsaved.left.part 0) ∥₁)
      → IfErr o (λ unsaved. IsUnsaved v (v.path made) text unsaved.why unsaved.left.part)
  unwritten (Ok left) path failed no_more = tt
  unwritten (Err unsaved) path failed no_more =
      told_so v made mid text empty same unsaved.why unsaved.left.part failed.0 (is_unwritten v made mid text empty same unsaved.left.part path failed.1 no_more)

-- ---- the file of the path that is asked for

module _ {P : Type 0} (v : PartView P) (begun begun_new failures failures_new : ℕ) (asked : Option (List ℕ)) (path : List ℕ) (left : Left P) (is : asked ≡ Some path) (one : BeginsOne begun begun_new) where
  pub ends_kept : IsKept v path left.part → (seen_file v begun begun_new failures failures_new asked (Some left)).kept
  ends_kept it = subst (λ a. Ends begun begun_new a (Some left) (IsKept v)) (sym is) (one, it)

  pub ends_unsaved : (text : List ℕ) (why : Unsaved) → IsUnsaved v path text why left.part → (seen_file v begun begun_new failures failures_new asked (Some left)).unsaved text why
  ends_unsaved text why it = subst (λ a. IsSome a × Ends begun begun_new a (Some left) (λ p after. IsUnsaved v p text why after)) (sym is) (refl, (one, it))
