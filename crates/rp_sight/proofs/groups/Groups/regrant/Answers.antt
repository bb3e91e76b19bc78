use Rattle.std.proofs.Common.{◌≡◌, true, false, List, Option, Some, None, is_some, refl, sym, ◌∙◌, ap, subst}
use Rattle.std.specs.Option.{option_map}
use Rattle.std.specs.List.{find}
use Rattle.sorted_tables.specs.Table.{with_row}
use Rattle.rp_rows.specs.declared.rows.Grant.{Grant}
use Rattle.rp_rows.specs.declared.rows.Key.{Key}
use Rattle.rp_rows.specs.Rows.{text_cmp, grant_key, key_cmp, is_row, GroupRow, key_of}
use Rattle.rp_rows.specs.Alterations.{grants_of, grant_for}
use Rattle.rp_store.specs.declared.keyed.Entry.{Entry}
use Rattle.rp_store.specs.Entries.{entry_key, is_entry, with_value}
use Rattle.rp_sight.specs.Stored.{row_of, joined, IsTable}
use Rattle.rp_sight.specs.declared.groups.Groups.TheInside.{Inside}
use Rattle.rp_sight.specs.Granted.{Names, KeepsGranted, names_at, relisted}
use Rattle.rp_sight.proofs.Joining.{Makes, regrant_rows}
use Rattle.rp_sight.specs.Told.{KeepsListed}
use Rattle.rp_sight.proofs.Names.{regrant_keeps, none_regranted, regranted_rows}
use Rattle.rp_sight.proofs.Told.{regranted_told}
use Rattle.rp_sight.proofs.groups.Groups.regrant.Goals as goal
use Rattle.rp_sight.proofs.groups.Groups.regrant.Goals.{then-is_some, else-is_some}

some_mapped : {A B : Type 0} (f : A → B) (o : Option A) → is_some (option_map f o) ≡ is_some o
some_mapped f None = refl
some_mapped f (Some x) = refl

row_there : (o : Option GroupRow) → is_some o ≡ true → (x : GroupRow) × (o ≡ Some x)
row_there None e = cc
row_there (Some x) e = (x, refl)

row_absent : (o : Option GroupRow) → is_some o ≡ false → o ≡ None
row_absent None e = refl
row_absent (Some x) e = cc

-- what both halves make once the grants are replaced, where nothing but names was changed before
replaced : (k : Key) (gs : List Grant) (g s : Inside) (rights : List (Entry (List Grant))) (rows : List GroupRow) → IsTable g.listings.entries g.rights.entries → joined g.listings.entries g.rights.entries ≡ rows
    → s.listings ≡ g.listings → s.rights ≡ g.rights → rights ≡ with_row key_cmp entry_key k (option_map (with_value gs) (find (is_entry k) s.rights.entries)) s.rights.entries
    → Makes s.listings.entries rights (regranted_rows k gs rows)
replaced k gs g s rights rows table are listings same is =
    rw (is, listings, same) (regrant_rows k gs g.listings.entries g.rights.entries rows table are)

pub invariant_of-self : goal.invariant_of-self
invariant_of-self c =
    let g = c.self.inside in
    let s = c.if-is_some.self-inside in
    let r = c.args.regrant in
    let k : Key = c.args.key.now in
    let rows = joined g.listings.entries g.rights.entries in
    let found : is_some (find (is_row k) rows) ≡ c.is_some.result =
    ap (λ (gs : List GroupRow). is_some (find (is_row k) gs)) (sym c.of.ensures) ∙ ap is_some (sym c.find.ensures.found) ∙ some_mapped row_of c.find.result ∙ sym c.is_some.ensures in
    let made : Makes s.listings.entries c.replace.new.self.entries (regranted_rows k r.grants rows) = elim c.if-is_some.branch [
      | then-is_some w ↦ replaced k r.grants g s c.replace.new.self.entries rows c.self.invariant.table refl (ap (λ (i : Inside). i.listings) w.self-inside-is) (ap (λ (i : Inside). i.rights) w.self-inside-is) c.replace.ensures
      | else-is_some w ↦ replaced k r.grants g s c.replace.new.self.entries rows c.self.invariant.table refl (ap (λ (i : Inside). i.listings) w.self-inside-is) (ap (λ (i : Inside). i.rights) w.self-inside-is) c.replace.ensures
    ] in
    let kept : KeepsGranted s.granted.entries (regranted_rows k r.grants rows) = elim c.if-is_some.branch [
      | then-is_some w ↦
          let there = row_there (find (is_row k) rows) (found ∙ w.if-is_some.true) in
          let under : Key = r.under in
          let is_under : under ≡ key_of under.owner k.owner = λ i. key_of under.owner (c.requires.1 i) in
          let grants : r.grants ≡ with_row text_cmp grant_key under.owner (grant_for under.owner r.level) there.0.grants =
          c.requires.0 ∙ ap (λ s. with_row text_cmp grant_key under.owner (grant_for under.owner r.level) (grants_of (find (is_row k) s.rows))) (sym c.self.view_is)
          ∙ ap (λ o. with_row text_cmp grant_key under.owner (grant_for under.owner r.level) (grants_of o)) there.1 in
          let names : r.names ≡ relisted k.name r.level (names_at (key_of under.owner k.owner) g.granted.entries) =
          c.requires.2 ∙ (λ i. relisted k.name r.level (names_at (is_under i) (sym c.self.view_is i).names)) in
          let kept = regrant_keeps k under.owner r.level r.grants r.names g.granted.entries rows there.0 there.1 grants names c.self.invariant.granted in
          let put : w.put.new.self.entries ≡ with_row key_cmp entry_key (key_of under.owner k.owner) (Some (record { key = key_of under.owner k.owner; value = r.names })) g.granted.entries =
          w.put.ensures ∙ ap (λ (j : Key). with_row key_cmp entry_key j (Some (record { key = j; value = r.names })) g.granted.entries) is_under in
          subst (λ (i : Inside). KeepsGranted i.granted.entries (regranted_rows k r.grants rows)) (sym w.self-inside-is)
          (subst (λ (es : List Names). KeepsGranted es (regranted_rows k r.grants rows)) (sym put) kept)
      | else-is_some w ↦
          subst (λ (i : Inside). KeepsGranted i.granted.entries (regranted_rows k r.grants rows)) (sym w.self-inside-is)
          (none_regranted k r.grants g.granted.entries rows (row_absent (find (is_row k) rows) (found ∙ w.if-is_some.false)) c.self.invariant.granted)
    ] in
    let listed : KeepsListed s.listers (regranted_rows k r.grants rows) = elim c.if-is_some.branch [
      | then-is_some w ↦ subst (λ (i : Inside). KeepsListed i.listers (regranted_rows k r.grants rows)) (sym w.self-inside-is) (regranted_told k r.grants g.listers rows c.self.invariant.listed)
      | else-is_some w ↦ subst (λ (i : Inside). KeepsListed i.listers (regranted_rows k r.grants rows)) (sym w.self-inside-is) (regranted_told k r.grants g.listers rows c.self.invariant.listed)
    ] in
    record { table = made.table; granted = subst (KeepsGranted s.granted.entries) (sym made.rows_are) kept; listed = subst (KeepsListed s.listers) (sym made.rows_are) listed }

pub returns : goal.returns
returns c =
    let g = c.self.inside in
    let s = c.if-is_some.self-inside in
    let k : Key = c.args.key.now in
    let gs = c.args.regrant.grants in
    let rows = c.args.self.now.rows in
    let are : joined g.listings.entries g.rights.entries ≡ rows = ap (λ s. s.rows) c.self.view_is in
    let made : Makes s.listings.entries c.replace.new.self.entries (regranted_rows k gs rows) = elim c.if-is_some.branch [
      | then-is_some w ↦ replaced k gs g s c.replace.new.self.entries rows c.self.invariant.table are (ap (λ (i : Inside). i.listings) w.self-inside-is) (ap (λ (i : Inside). i.rights) w.self-inside-is) c.replace.ensures
      | else-is_some w ↦ replaced k gs g s c.replace.new.self.entries rows c.self.invariant.table are (ap (λ (i : Inside). i.listings) w.self-inside-is) (ap (λ (i : Inside). i.rights) w.self-inside-is) c.replace.ensures
    ] in
    made.rows_are
