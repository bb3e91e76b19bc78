use Rattle.std.proofs.Common.{◌≡◌, ◌+◌, Bool, true, false, List, ◌∷◌, ◌||◌, drop, refl, ◌∙◌, ap}
use Rattle.std.specs.List.{list_any}
use Rattle.rp_rows.specs.declared.rows.Grant.{Grant}
use Rattle.rp_rows.specs.declared.rows.Key.{Key}
use Rattle.rp_rows.specs.Rows.{Text, key_of}
use Rattle.rp_rows.specs.Sight.{is_grant_to}
use Rattle.rp_sight.specs.Granted.{Names, has_name, names_at}
use Rattle.rp_sight.proofs.Names.{dropped_at, drop_keeps, drop_fewer, drop_of}
use Rattle.rp_sight.proofs.Marking.{left_from, drop_past}
use Rattle.rp_sight.proofs.groups.forget.Goals as goal

dropped : (p : Text) (key : Key) (q : Grant) (es : List Names) (gs left : List Grant) (t : Bool) → is_grant_to p q ≡ t
    → (list_any (is_grant_to p) (q ∷ left) ≡ false → list_any (is_grant_to p) gs ≡ true → has_name key.name (names_at (key_of p key.owner) es) ≡ false)
    → list_any (is_grant_to p) left ≡ false → list_any (is_grant_to p) gs ≡ true → has_name key.name (names_at (key_of p key.owner) (dropped_at (key_of q.partner key.owner) key.name es)) ≡ false
dropped p key q es gs left true to before rest some = drop_of q.partner key p es to
dropped p key q es gs left false other before rest some = drop_fewer q.partner key p es (before (λ i. other i || rest i) some)

pub loop-grant-preserved : goal.loop-grant-preserved
loop-grant-preserved c =
    let es = c.loop-grant.granted.entries in
    let key = c.args.key.now in
    let q = c.grant-item.result.partner in
    let gs = c.args.grants.now in
    record {
      others = λ p k other.
          ap (λ fs. has_name k.name (names_at (key_of p k.owner) fs)) c.drop_name.ensures
          ∙ drop_keeps q key k p es other
          ∙ c.loop-grant.invariant.others p k other;
      fewer = λ p none.
          ap (λ fs. has_name key.name (names_at (key_of p key.owner) fs)) c.drop_name.ensures
          ∙ drop_fewer q key p es (c.loop-grant.invariant.fewer p none);
      gone = λ p rest some.
          ap (λ fs. has_name key.name (names_at (key_of p key.owner) fs)) c.drop_name.ensures
          ∙ dropped p key c.grant-item.result es gs (drop (c.loop-grant.grant-index + 1) gs) (is_grant_to p c.grant-item.result) refl
          (λ none. c.loop-grant.invariant.gone p (ap (list_any (is_grant_to p)) (left_from gs c.loop-grant.grant-index c.grant-item.result c.loop-grant-test.true c.grant-item.is) ∙ none)) rest some;
    }

pub returns-clause-gone : goal.returns-clause-gone
returns-clause-gone c = λ p some. c.loop-grant.invariant.gone p (ap (list_any (is_grant_to p)) (drop_past c.args.grants.now c.loop-grant.grant-index c.loop-grant-test.false)) some
