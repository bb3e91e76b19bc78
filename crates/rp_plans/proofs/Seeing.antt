-- Who may do something with an item sees it.
use Rattle.std.proofs.Common.{◌≡◌, Bool, true, false, Option, Some, None, is_some, refl}
use Rattle.std.specs.Prelude.{not, if◌then◌else◌}
use Rattle.rp_rows.specs.declared.rows.Key.{Key}
use Rattle.rp_rows.specs.declared.rows.Right.{Right}
use Rattle.rp_rows.specs.declared.rows.Right.TheVariants.{Reads}
use Rattle.rp_rows.specs.Rows.{Text, Model, GroupRow}
use Rattle.rp_rows.specs.Sight.{at_least}
use Rattle.rp_plain.specs.declared.messages.Refusal.TheVariants.{NoSuchItem, NoRight}
use Rattle.rp_plain.specs.Plain.{Plain, model_at, group_at}
use Rattle.rp_plain.specs.Readers.{asked, right_at, group_right_at, held}
use Rattle.rp_plain.specs.Meaning.{when, unseen, lacks}
use Rattle.rp_readers.specs.declared.readers.Readers.{Readers as HeldReaders}
use Rattle.rp_readers.specs.Told.{plain_of, told}

pub seen_enough : (needed right : Right) → lacks needed right ≡ None → unseen right ≡ None
seen_enough needed right none = by (at_least Reads right) none
  where
    by : (t : Bool) → (if t then when (not (at_least needed right)) NoRight else Some NoSuchItem) ≡ None → when (not t) NoSuchItem ≡ None
    by true e = refl
    by false e = cc

module _ (r : Plain) (c : Text) (k : Key) where
  pub model_seen : unseen ((asked r c).model_right k) ≡ None → is_some ((asked r c).content k) ≡ true
  model_seen = by (model_at r c k)
    where
      by : (o : Option Model) → unseen (right_at r.groups c o) ≡ None → is_some (held o) ≡ true
      by None none = cc
      by (Some m) none = refl

  pub group_seen : unseen ((asked r c).group_right k) ≡ None → is_some ((asked r c).listing k) ≡ true
  group_seen = by (group_at r c k)
    where
      by : (o : Option GroupRow) → unseen (group_right_at c o) ≡ None → is_some (held o) ≡ true
      by None none = cc
      by (Some g) none = refl

module _ (s : HeldReaders) (k : Key) where
  pub model_told : unseen ((told s).model_right k) ≡ None → is_some ((told s).content k) ≡ true
  unfolding told
  model_told = model_seen (plain_of s) s.caller.now k

  pub group_told : unseen ((told s).group_right k) ≡ None → is_some ((told s).listing k) ≡ true
  unfolding told
  group_told = group_seen (plain_of s) s.caller.now k
