-- Who asks for a model is told of each group that lists it, also once groups have changed.
use Rattle.std.proofs.Common.{◌≡◌, Bool, true, false, ◌||◌, List, [], ◌∷◌, Option, Some, None, refl, sym, ◌∙◌, ap, subst}
use Rattle.std.specs.Option.{option_map}
use Rattle.std.specs.List.{find, list_any}
use Rattle.std.specs.Ordering.{is_eq}
use Rattle.sorted_tables.specs.Table.{with_row}
use Rattle.sorted_tables.proofs.Ascending.{all_weaker}
use Rattle.rp_rows.specs.declared.rows.Grant.{Grant}
use Rattle.rp_rows.specs.declared.rows.Key.{Key}
use Rattle.rp_rows.specs.declared.rows.Listing.{Listing}
use Rattle.rp_rows.specs.Rows.{key_cmp, same_key, row_key, is_row, GroupRow}
use Rattle.rp_rows.specs.Listings.{itself}
use Rattle.rp_rows.specs.Alterations.{Holds, altered, grants_of}
use Rattle.rp_rows.proofs.Keys.{key_total}
use Rattle.rp_listers.specs.Kept.{KeptListers, tells}
use Rattle.rp_listers.proofs.Among.{same_is}
use Rattle.rp_sight.specs.Stored.{granted_row}
use Rattle.rp_sight.specs.Told.{AreTold, KeepsListed}
use Rattle.rp_sight.proofs.Changed.{find_other, find_same}
use Rattle.rp_sight.proofs.Names.{key_is, same_as, held_key, no_row, regranted_key, regranted_rows}

-- one of the models
pub told_member : (k m : Key) (models : List Key) (listers : KeptListers) → AreTold k models listers → list_any (same_key m) models ≡ true → tells k m listers ≡ true
told_member k m [] listers told is = cc
told_member k m (j ∷ models) listers told is = by (told_member k m models listers told.1) (same_key m j) refl is
  where
    by : (list_any (same_key m) models ≡ true → tells k m listers ≡ true) → (t : Bool) → same_key m j ≡ t → (t || list_any (same_key m) models) ≡ true → tells k m listers ≡ true
    by rest true e h = ap (λ i. tells k i listers) (sym (same_is m j e)) ∙ told.0
    by rest false e h = rest h

still_told : (k : Key) (old new : KeptListers) → ((m : Key) → tells k m old ≡ true → tells k m new ≡ true) → (models : List Key) → AreTold k models old → AreTold k models new
still_told k old new each models told = all_weaker key_cmp itself key_total (λ m. tells k m old ≡ true) (λ m. tells k m new ≡ true) each models told

-- where more is told
pub more_told : (old new : KeptListers) (gs : List GroupRow) → ((k m : Key) → tells k m old ≡ true → tells k m new ≡ true) → KeepsListed old gs → KeepsListed new gs
more_told old new gs kept listed k g found = still_told k old new (kept k) g.holds.members (listed k g found)

-- where one group changes, and of the others no less is told
module _ (k : Key) (old new : KeptListers) (gs : List GroupRow) (others : (j m : Key) → same_key k j ≡ false → tells j m old ≡ true → tells j m new ≡ true) (listed : KeepsListed old gs) where
  row_told : (row : Option GroupRow) → ((x : GroupRow) → row ≡ Some x → row_key x ≡ k) → ((x : GroupRow) → row ≡ Some x → AreTold k x.holds.members new) → KeepsListed new (with_row key_cmp row_key k row gs)
  row_told row keyed told j g found = by (is_eq (key_cmp j k)) refl
    where
      by : (t : Bool) → is_eq (key_cmp j k) ≡ t → AreTold j g.holds.members new
      by false e = still_told j old new (λ m. others j m (same_as j k ∙ e)) g.holds.members (listed j g (sym (find_other key_cmp row_key key_total j k row gs keyed e) ∙ found))
      by true e =
          let at : j ≡ k = key_is j k true e refl in
          let is : row ≡ Some g = sym (find_same key_cmp row_key key_total k row gs keyed) ∙ ap (λ i. find (is_row i) (with_row key_cmp row_key k row gs)) (sym at) ∙ found in
          subst (λ i. AreTold i g.holds.members new) (sym at) (told g is)

  members_of : (a : Listing) (grants : List Grant) → AreTold k a.members new → (x : GroupRow) → Some (granted_row k a grants) ≡ Some x → AreTold k x.holds.members new
  members_of a grants told x is =
      let row : GroupRow = granted_row k a grants in
      let same : row ≡ x = cc in
      subst (λ (y : GroupRow). AreTold k y.holds.members new) same told

  -- it is put
  pub put_told : (a : Listing) → AreTold k a.members new → KeepsListed new (altered k (Holds (Some a)) gs)
  put_told a told =
      let grants = grants_of (find (is_row k) gs) in
      row_told (Some (granted_row k a grants)) (held_key k a grants) (members_of a grants told)

  -- it is held, and wasn't there
  pub held_told : (a : Listing) (grants : List Grant) → AreTold k a.members new → KeepsListed new (with_row key_cmp row_key k (Some (granted_row k a grants)) gs)
  held_told a grants told = row_told (Some (granted_row k a grants)) (held_key k a grants) (members_of a grants told)

  -- it is gone
  pub removed_told : KeepsListed new (altered k (Holds None) gs)
  removed_told = row_told None (no_row k) (λ x is. cc)

-- grants list nothing
pub regranted_told : (k : Key) (grants : List Grant) (listers : KeptListers) (gs : List GroupRow) → KeepsListed listers gs → KeepsListed listers (regranted_rows k grants gs)
regranted_told k grants listers gs listed =
    row_told k listers listers gs (λ j m apart told. told) listed (option_map (λ (y : GroupRow). record y { grants = grants }) (find (is_row k) gs)) (regranted_key k grants gs) (by (find (is_row k) gs) refl)
  where
    by : (o : Option GroupRow) → find (is_row k) gs ≡ o → (x : GroupRow) → option_map (λ (y : GroupRow). record y { grants = grants }) o ≡ Some x → AreTold k x.holds.members listers
    by None e x is = cc
    by (Some y) e x is =
        let row : GroupRow = record y { grants = grants } in
        let same : row ≡ x = cc in
        subst (λ (z : GroupRow). AreTold k z.holds.members listers) same (listed k y e)
