use Rattle.std.proofs.Common.{rules, ◌++◌, ◌∙◌, ap}
use Rattle.p21_spelling.specs.Values as spelled
use Rattle.p21_canonical.specs.Trees as spec
use Rattle.p21_canonical.proofs.Forms as form
use Rattle.p21_canonical.proofs.Written.{typed_written}
use Rattle.p21_canonical.proofs.value.+values.Goals as goal

pub write_value-returns-in-Indet : goal.write_value-returns-in-Indet
write_value-returns-in-Indet t c = rw (form.text-Indet c.args.types.now c.args.value.now c.in-Indet.is) c.push.ensures

pub write_value-returns-in-Int : goal.write_value-returns-in-Int
write_value-returns-in-Int t c = rw (form.text-Int c.args.types.now c.args.value.now c.in-Int.number c.in-Int.is) (search rules)

pub write_value-returns-in-Dec : goal.write_value-returns-in-Dec
write_value-returns-in-Dec t c = rw (form.text-Dec c.args.types.now c.args.value.now c.in-Dec.decimal c.in-Dec.is, ← c.get.ensures) c.write_decimal.ensures

pub write_value-returns-in-Str : goal.write_value-returns-in-Str
write_value-returns-in-Str t c = rw (form.text-Str c.args.types.now c.args.value.now c.in-Str.text c.in-Str.is, ← c.as_str.ensures) c.write_string.ensures

pub write_value-returns-in-Bin : goal.write_value-returns-in-Bin
write_value-returns-in-Bin t c = rw (form.text-Bin c.args.types.now c.args.value.now c.in-Bin.bits c.in-Bin.is, ← c.as_slice.ensures) c.write_binary.ensures

pub write_value-returns-in-Log : goal.write_value-returns-in-Log
write_value-returns-in-Log t c = rw (form.text-Log c.args.types.now c.args.value.now c.in-Log.value c.in-Log.is, ← c.logical_name.ensures) c.write_item.ensures

pub write_value-returns-in-Item : goal.write_value-returns-in-Item
write_value-returns-in-Item t c =
    rw (form.text-Item c.args.types.now c.args.value.now c.in-Item.enumeration c.in-Item.place c.in-Item.is, ← c.item_name.ensures) c.write_item-in-Item.ensures

pub write_value-returns-in-Inst : goal.write_value-returns-in-Inst
write_value-returns-in-Inst t c = rw (form.text-Inst c.args.types.now c.args.value.now c.in-Inst.name c.in-Inst.is) c.write_name.ensures

pub write_value-returns-in-Agg : goal.write_value-returns-in-Agg
write_value-returns-in-Agg t c =
    rw (form.text-Agg c.args.types.now c.args.value.now c.in-Agg.kind c.in-Agg.elements c.in-Agg.is, ← c.as_slice-in-Agg.ensures) c.write_values.ensures

pub write_value-returns-in_ok-write_value-in-Named : goal.write_value-returns-in_ok-write_value-in-Named
write_value-returns-in_ok-write_value-in-Named t c =
    let whole = typed_written c.args.out.now c.push_str.new.self c.push-in-Named.new.self c.write_value.new.out
    (spec.type_name c.args.types.now c.in-Named.defined_type) (spelled.text_of (spec.value_tree c.args.types.now c.in-Named.value))
    (c.in_ok-push_str-in-Named.ensures ∙ ap (λ l. c.args.out.now ++ l) c.type_name.ensures)
    c.in_ok-push-in-Named.ensures
    (c.in_ok-write_value-in-Named.ensures ∙ ap (λ v. c.push-in-Named.new.self ++ spelled.text_of (spec.value_tree c.args.types.now v)) c.get-in-Named.ensures) in
    rw (form.text-Named c.args.types.now c.args.value.now c.in-Named.defined_type c.in-Named.value c.in-Named.is, ← whole) c.push-in-Named-2.ensures
