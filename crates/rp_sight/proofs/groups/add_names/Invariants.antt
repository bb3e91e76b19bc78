use Rattle.std.proofs.Common.{◌≡◌, true, false, drop}
use Rattle.std.specs.List.{list_any}
use Rattle.rp_rows.specs.declared.rows.Key.{Key}
use Rattle.rp_rows.specs.Rows.{Text, same_key, key_of}
use Rattle.rp_rows.specs.Sight.{is_grant_to}
use Rattle.rp_sight.specs.Granted.{has_name, names_at}
use Rattle.rp_sight.proofs.groups.add_names.Given as goal

abbrev pub invariant-loop-grant : goal.invariant-loop-grant
invariant-loop-grant l = record {
  others : (p : Text) (k : Key) → same_key l.key k ≡ false → has_name k.name (names_at (key_of p k.owner) l.granted.entries) ≡ has_name k.name (names_at (key_of p k.owner) l.fn.granted.entries);
  apart : (p : Text) → list_any (is_grant_to p) l.grants ≡ false → has_name l.key.name (names_at (key_of p l.key.owner) l.granted.entries) ≡ has_name l.key.name (names_at (key_of p l.key.owner) l.fn.granted.entries);
  added : (p : Text) → list_any (is_grant_to p) (drop l.grant-index l.grants) ≡ false → list_any (is_grant_to p) l.grants ≡ true → has_name l.key.name (names_at (key_of p l.key.owner) l.granted.entries) ≡ true;
}
