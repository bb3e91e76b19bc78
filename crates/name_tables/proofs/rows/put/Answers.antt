use Rattle.std.proofs.Common.{◌≡◌, [], ◌∷◌, false, arith, rules}
use Rattle.std.specs.Option.{option_map_or}
use Rattle.std.specs.BTreeMap.Entry.{map_with_value}
use Rattle.std.specs.Str.{bytes_eq}
use Rattle.name_tables.specs.Hashes.{first_at}
use Rattle.name_tables.proofs.Hashing.{IsPut, Stood, is_put, named_by, other_ok, other_alone}
use Rattle.name_tables.proofs.rows.put.Goals as goal

pub returns-then-ne-clause-ok : goal.returns-then-ne-clause-ok
returns-then-ne-clause-ok g c =
    let first = c.in_ok-first.first.now in
    let old = c.args.by_hash.now in
    let name = c.args.name.now in
    let new = map_with_value c.in_ok-by_hash.field-0 first in
    let put : IsPut old name first new = is_put old new name first c.hash_of.result c.hash_of.ensures (c.in_ok-by_hash.ensures.update.0 first).0 in
    let named : first.name.now ≡ option_map_or (λ f. f.name.now) (first_at name old) name = named_by (first_at name old) _ _ first name (rw c.hash_of.ensures at c.in_ok-by_hash.ensures.value) c.in_ok-first.ensures.value (λ v learnt. grind (arith, learnt)) in
    let valued : first.values.items ≡ option_map_or (λ f. f.values.items) (first_at name old) [] = grind arith in
    let is : bytes_eq first.name.now name ≡ false = search rules in
    let stood : Stood old name first = record { named = named; valued = valued } in
    let all = other_ok old new c.args.others.now name first stood c.requires c.put_other.new.by_name put c.put_other.result (c.args.value ∷ []) is c.put_other.ensures.ok in
    λ other. grind (arith, all other)

pub returns-then-ne-clause-alone : goal.returns-then-ne-clause-alone
returns-then-ne-clause-alone g c =
    let first = c.in_ok-first.first.now in
    let old = c.args.by_hash.now in
    let name = c.args.name.now in
    let new = map_with_value c.in_ok-by_hash.field-0 first in
    let put : IsPut old name first new = is_put old new name first c.hash_of.result c.hash_of.ensures (c.in_ok-by_hash.ensures.update.0 first).0 in
    let all = other_alone old new c.args.others.now name c.requires c.put_other.new.by_name first put c.put_other.result (c.args.value ∷ []) c.put_other.ensures.ok c.put_other.ensures.err in
    λ other. grind (arith, all other)
