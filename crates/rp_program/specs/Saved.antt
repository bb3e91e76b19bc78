-- A snapshot in the place of a file, and what became of a file that one was to replace.
use Rattle.std.specs.Prelude.{◌≡◌, ◌≢◌, ℕ, List, Option, Some, None, IfSome, IsSome}
use Rattle.rp_saved_file.specs.Counts.{BeginsOne}
use Rattle.rp_saved_file.specs.Crashes.{Place, LeavesOnly, LeavesNoMore, LeavesOldOr}
use Rattle.rp_saved_file.specs.declared.replacing.Left.{Left}
use Rattle.rp_program.specs.declared.fault.Unsaved.{Unsaved}
use Rattle.rp_program.specs.declared.fault.Unsaved.TheVariants.{NoMemory, File}

-- ---- one file

-- what contracts see of a file beside another, as the trait of such files says it
pub record PartView (P : Type 0) : Type 1 where
  pub path : P → List ℕ
  pub contents : P → Option (List ℕ)
  pub failures : P → ℕ
  pub may_leave : P → Place → Type 0
  pub left_since : P → ℕ → Place → Type 0
  pub could_leave : List ℕ → Place → Type 0

abbrev pub part_view : {P : Type 0} → (P → List ℕ) → (P → Option (List ℕ)) → (P → ℕ) → (P → Place → Type 0) → (P → ℕ → Place → Type 0) → (List ℕ → Place → Type 0) → PartView P
part_view path contents failures may_leave left_since could_leave =
    record { path = path; contents = contents; failures = failures; may_leave = may_leave; left_since = left_since; could_leave = could_leave }

-- it was made for this path, and this is so where it is known what it has
pub record OfMade {P : Type 0} (v : PartView P) (path : List ℕ) (Told : Type 0) : Type 0 where
  pub made : P
  pub made_for : v.path made ≡ path
  pub told : IfSome (v.contents made) (λ _. Told)

-- a crash at any moment till then left what one could leave in the place before any of this began, or all of this text
abbrev pub LeftOldOr : {P : Type 0} → PartView P → List ℕ → List ℕ → P → Type 0
LeftOldOr v path text after = ∥ LeavesOldOr (Some (Some text)) (v.could_leave path) (v.left_since after 0) ∥₁

-- a file of this text took the place of another: from then on a crash leaves all of it
pub record IsReplacedBy {P : Type 0} (v : PartView P) (path text : List ℕ) (after : P) : Type 0 where
  pub whole : LeavesOnly (Some (Some text)) (v.may_leave after)
  pub ever : LeftOldOr v path text after

-- the file of this path was replaced by one of this text
pub record IsSaved {P : Type 0} (v : PartView P) (path text : List ℕ) (after : P) : Type 0 where
  pub of : v.path after ≡ path
  pub is : OfMade v path (IsReplacedBy v path text after)

-- nothing took the place of the file of this path: a crash at any moment till then left what one could leave before any of this began
pub record IsKept {P : Type 0} (v : PartView P) (path : List ℕ) (after : P) : Type 0 where
  pub of : v.path after ≡ path
  pub kept : ∥ LeavesNoMore (v.could_leave path) (v.left_since after 0) ∥₁

-- a call on the file that was to take the place failed
pub record IsGivenUp {P : Type 0} (v : PartView P) (path text : List ℕ) (after : P) : Type 0 where
  pub of : v.path after ≡ path
  pub failed : v.failures after ≢ 0
  pub is : OfMade v path (LeftOldOr v path text after)

-- why the file of this path isn't replaced by one of this text: memory was wanting, or a call failed
abbrev pub IsUnsaved : {P : Type 0} → PartView P → List ℕ → List ℕ → Unsaved → P → Type 0
IsUnsaved v path text NoMemory after = IsKept v path after
IsUnsaved v path text (File fault) after = IsGivenUp v path text after

-- ---- the file that a run is to be saved in

-- One replacement was begun, for the path that is asked for, and this is so of what is left of it; none was where no path is asked for.
abbrev pub Ends : {P : Type 0} → (begun begun_new : ℕ) → Option (List ℕ) → Option (Left P) → (List ℕ → P → Type 0) → Type 0
Ends begun begun_new None None Is = begun_new ≡ begun
Ends begun begun_new None (Some left) Is = ⊥
Ends begun begun_new (Some path) None Is = ⊥
Ends begun begun_new (Some path) (Some left) Is = BeginsOne begun begun_new × Is path left.part

-- why none was begun: memory was wanting, or the files failed
abbrev pub IsFailedBy : (failures failures_new : ℕ) → Unsaved → Type 0
IsFailedBy failures failures_new NoMemory = ⊥
IsFailedBy failures failures_new (File fault) = failures_new ≢ failures

-- what is seen of that file
pub record SeenFile : Type 1 where
  -- it was replaced by this text, if it was to be
  pub saved : List ℕ → Type 0
  -- nothing took its place, and what was begun is given up
  pub kept : Type 0
  -- it isn't replaced by this text, for this reason
  pub unsaved : List ℕ → Unsaved → Type 0
  -- no replacement was begun
  pub unbegun : Type 0
  -- one was asked for, and wasn't begun for this reason
  pub refused : Unsaved → Type 0

-- by the files, before and after, the path that is asked for, and what is left
abbrev pub seen_file : {P : Type 0} → PartView P → (begun begun_new failures failures_new : ℕ) → Option (List ℕ) → Option (Left P) → SeenFile
seen_file v begun begun_new failures failures_new asked left = record {
  saved = λ text. Ends begun begun_new asked left (λ path after. IsSaved v path text after);
  kept = Ends begun begun_new asked left (IsKept v);
  unsaved = λ text why. IsSome asked × Ends begun begun_new asked left (λ path after. IsUnsaved v path text why after);
  unbegun = (left ≡ None) × (begun_new ≡ begun);
  refused = λ why. IsSome asked × (left ≡ None) × (begun_new ≡ begun) × IsFailedBy failures failures_new why;
}
