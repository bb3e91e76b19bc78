-- Keys that neither comes before are one, and what a search by halving finds among keys.
use Rattle.std.proofs.Common.{◌≡◌, ℕ, true, List, Ok, Bor, get_or, ap, ◌∙◌, sym}
use denote.Param.Members.{Mut}
use Rattle.std.specs.declared.cmp.Ordering.{Ordering}
use Rattle.std.specs.declared.cmp.Ordering.TheVariants.{Equal}
use Rattle.std.specs.Cmp.{tied_then}
use Rattle.std.specs.Fn.{Called, ComputesKey}
use Rattle.std.specs.List.Sorted.{IsBinarySearchResult}
use Rattle.std.specs.Ordering.{is_eq}
use Rattle.std.proofs.lemmas.Bool.{and_parts}
use Rattle.std.proofs.lemmas.Fn.{always_returns_same}
use Rattle.std.proofs.lemmas.Map.Text.{is_eq-slice_cmp}
use Rattle.std.proofs.lemmas.Slice.Eq.{bytes_eq-Decides}
use Rattle.rp_rows.specs.declared.rows.Key.{Key}
use Rattle.rp_rows.specs.Rows.{Text, key_cmp, text_cmp}

same_text : (s t : Text) → is_eq (text_cmp s t) ≡ true → s ≡ t
same_text s t h = (bytes_eq-Decides s t).0 (sym (is_eq-slice_cmp s t) ∙ h)

same_keys : (k j : Key) → key_cmp k j ≡ Equal → k ≡ j
same_keys k j h =
    let parts = and_parts (is_eq (text_cmp k.owner j.owner)) (is_eq (text_cmp k.name j.name)) (tied_then (text_cmp k.owner j.owner) (text_cmp k.name j.name) ∙ ap is_eq h) in
    λ i. record { owner = same_text k.owner j.owner parts.0 i; name = same_text k.name j.name parts.1 i }

-- each call compares with this key
abbrev pub OrdersTo : {F : Type 0} → Mut F (Bor Key × Unit {0}) Ordering → Key → F → Type 0
OrdersTo {F} g key f = (a : Bor Key × Unit {0}) (r : Ordering) (f' : F) → Called g f a r f' → (r ≡ key_cmp a.0.now key) × (f' ≡ f)

pub found_at : {F : Type 0} {g : Mut F (Bor Key × Unit {0}) Ordering} {f : F} (key : Key) (keys : List Key) (place : ℕ) (found : Key) →
    ((ord : Key → Ordering) → ComputesKey g ord f → IsBinarySearchResult ord keys (Ok place)) → OrdersTo g key f → found ≡ get_or keys place found → found ≡ key
found_at {g = g} {f = f} key keys place found searched orders is =
    is ∙ same_keys (get_or keys place found) key (searched (λ k. key_cmp k key) (always_returns_same g (λ a r. r ≡ key_cmp a.0.now key) f orders) found)
