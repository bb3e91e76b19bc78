use Rattle.std.proofs.Common.{◌≡◌, ◌<◌, ◌+◌, ℕ, zero, suc, Bool, true, false, ◌||◌, List, [], ◌∷◌, drop, length, get_or, refl, ◌∙◌, ap, arith}
use Rattle.std.specs.List.{list_any}
use Rattle.rp_rows.specs.declared.rows.Grant.{Grant}
use Rattle.rp_rows.specs.declared.rows.Key.{Key}
use Rattle.rp_rows.specs.Rows.{Text, key_of}
use Rattle.rp_rows.specs.Sight.{is_grant_to}
use Rattle.rp_sight.specs.Granted.{Names, has_name, names_at}
use Rattle.rp_sight.proofs.Names.{named_at, add_keeps, add_apart, add_of}
use Rattle.rp_sight.proofs.Marking.{left_from}
use Rattle.rp_sight.proofs.groups.add_names.Goals as goal

-- where none passes, this one doesn't
none_at : (q : Grant → Bool) (gs : List Grant) (i : ℕ) (g : Grant) → list_any q gs ≡ false → i < length gs → g ≡ get_or gs i g → q g ≡ false
none_at q [] i g none within is = absurd (omega arith)
none_at q (x ∷ gs) zero g none within is = ap q is ∙ first (q x) none
  where
    first : (t : Bool) → (t || list_any q gs) ≡ false → t ≡ false
    first true e = cc
    first false e = refl
none_at q (x ∷ gs) (suc i) g none within is = none_at q gs i g (later (q x) none) (omega arith) is
  where
    later : (t : Bool) → (t || list_any q gs) ≡ false → list_any q gs ≡ false
    later true e = cc
    later false e = e

added : (p : Text) (key : Key) (q : Grant) (es : List Names) (gs left : List Grant) (t : Bool) → is_grant_to p q ≡ t
    → (list_any (is_grant_to p) (q ∷ left) ≡ false → list_any (is_grant_to p) gs ≡ true → has_name key.name (names_at (key_of p key.owner) es) ≡ true)
    → list_any (is_grant_to p) left ≡ false → list_any (is_grant_to p) gs ≡ true → has_name key.name (names_at (key_of p key.owner) (named_at (key_of q.partner key.owner) key.name es)) ≡ true
added p key q es gs left true to before rest some = add_of q.partner key p es to
added p key q es gs left false other before rest some = add_apart q.partner key p es other ∙ before (λ i. other i || rest i) some

pub loop-grant-preserved : goal.loop-grant-preserved
loop-grant-preserved c =
    let es = c.loop-grant.granted.entries in
    let key = c.args.key.now in
    let g = c.grant-item.result in
    let q = g.partner in
    let gs = c.args.grants.now in
    record {
      others = λ p k other.
          ap (λ fs. has_name k.name (names_at (key_of p k.owner) fs)) c.in_ok-add_name.ensures.added
          ∙ add_keeps q key k p es other
          ∙ c.loop-grant.invariant.others p k other;
      apart = λ p none.
          ap (λ fs. has_name key.name (names_at (key_of p key.owner) fs)) c.in_ok-add_name.ensures.added
          ∙ add_apart q key p es (none_at (is_grant_to p) gs c.loop-grant.grant-index g none c.loop-grant-test.true c.grant-item.is)
          ∙ c.loop-grant.invariant.apart p none;
      added = λ p rest some.
          ap (λ fs. has_name key.name (names_at (key_of p key.owner) fs)) c.in_ok-add_name.ensures.added
          ∙ added p key g es gs (drop (c.loop-grant.grant-index + 1) gs) (is_grant_to p g) refl
          (λ none. c.loop-grant.invariant.added p (ap (list_any (is_grant_to p)) (left_from gs c.loop-grant.grant-index g c.loop-grant-test.true c.grant-item.is) ∙ none)) rest some;
    }
