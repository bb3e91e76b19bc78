-- A text that is written piece by piece.
use Rattle.std.proofs.Common.{◌≡◌, ℕ, List, [], ◌++◌, Option, Result, Ok, Err, refl, sym, ap, subst, ◌∙◌, append_assoc, append-nil}
use Rattle.std.specs.Io.KnownBytes.{Appends}
use Rattle.rp_io.specs.Front.{AppendsFront}
use Rattle.rp_io.proofs.KnownLemmas.{Appends-nil, Appends-trans}
use Rattle.rp_snapshot_texts.specs.declared.saving.SaveFault.{SaveFault}
use Rattle.rp_snapshot_texts.specs.declared.saving.SaveFault.TheVariants.{NoMemory, WriteFault}
use Rattle.rp_snapshot_texts.specs.Saving.{Saves}

-- a front of the text was written, no write failed, and these bytes are left
pub record SoFar (old now : Option (List ℕ)) (before after : ℕ) (left text : List ℕ) : Type 0 where
  pub done : List ℕ
  pub written : Appends old now done
  pub whole : done ++ left ≡ text
  pub same : after ≡ before

pub started : (a : Option (List ℕ)) (f : ℕ) (text : List ℕ) → SoFar a a f f text text
started a f text = record { done = []; written = Appends-nil a; whole = refl; same = refl }

pub more : (a b c : Option (List ℕ)) (f g h : ℕ) (p left text : List ℕ) → SoFar a b f g (p ++ left) text → Appends b c p × (h ≡ g) → SoFar a c f h left text
more a b c f g h p left text s saves = record {
  done = s.done ++ p;
  written = Appends-trans a b c s.done p s.written saves.0;
  whole = append_assoc s.done p left ∙ s.whole;
  same = saves.1 ∙ s.same;
}

pub finished : (a b : Option (List ℕ)) (f g : ℕ) (text : List ℕ) → SoFar a b f g [] text → Appends a b text × (g ≡ f)
finished a b f g text s = (subst (Appends a b) (sym (append-nil s.done) ∙ s.whole) s.written, s.same)

fronts : (a b c : Option (List ℕ)) (f g : ℕ) (p left text : List ℕ) → SoFar a b f g (p ++ left) text → AppendsFront b c p → AppendsFront a c text
fronts a b c f g p left text s (front, back, cut, written) =
    let whole : text ≡ (s.done ++ front) ++ (back ++ left) =
    sym s.whole ∙ ap (λ l. s.done ++ (l ++ left)) cut ∙ ap (λ l. s.done ++ l) (append_assoc front back left)
    ∙ sym (append_assoc s.done front (back ++ left)) in
    (s.done ++ front, back ++ left, whole, Appends-trans a b c s.done front s.written written)

pub stopped : (a b c : Option (List ℕ)) (f g h : ℕ) (p left text : List ℕ) (e : SaveFault) → SoFar a b f g (p ++ left) text → Saves (Err e) b c g h p → Saves (Err e) a c f h text
stopped a b c f g h p left text NoMemory s saves = (fronts a b c f g p left text s saves.0, saves.1 ∙ s.same)
stopped a b c f g h p left text WriteFault s saves = (fronts a b c f g p left text s saves.0, λ same. saves.1 (same ∙ sym s.same))

-- the last piece
pub ended : (a b c : Option (List ℕ)) (f g h : ℕ) (p text : List ℕ) (r : Result (Unit {0}) SaveFault) → SoFar a b f g p text → Saves r b c g h p → Saves r a c f h text
ended a b c f g h p text (Ok x) s saves = finished a c f h text (more a b c f g h p [] text (subst (λ l. SoFar a b f g l text) (sym (append-nil p)) s) saves)
ended a b c f g h p text (Err e) s saves = stopped a b c f g h p [] text e (subst (λ l. SoFar a b f g l text) (sym (append-nil p)) s) saves

pub nothing_saved : (a : Option (List ℕ)) (f : ℕ) (text : List ℕ) → Saves (Err NoMemory) a a f f text
nothing_saved a f text = (([], text, refl, Appends-nil a), refl)

-- one text behind another
pub behind : (a b c : Option (List ℕ)) (f g h : ℕ) (p q : List ℕ) (r : Result (Unit {0}) SaveFault) → Appends a b p × (g ≡ f) → Saves r b c g h q → Saves r a c f h (p ++ q)
behind a b c f g h p q r first second = ended a b c f g h q (p ++ q) r (more a a b f f g p q (p ++ q) (started a f (p ++ q)) first) second

-- of a text that is cut off nothing behind it is written
pub cut_off : (a b : Option (List ℕ)) (f g : ℕ) (p q : List ℕ) (e : SaveFault) → Saves (Err e) a b f g p → Saves (Err e) a b f g (p ++ q)
cut_off a b f g p q e saves = stopped a a b f f g p q (p ++ q) e (started a f (p ++ q)) saves
