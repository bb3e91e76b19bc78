use Rattle.p21_canonical.proofs.Forms as form
use Rattle.p21_canonical.proofs.header.+header_values.Goals as goal

pub write_value-returns-in-Str : goal.write_value-returns-in-Str
write_value-returns-in-Str t c = rw (form.header-Str c.args.value.now c.in-Str.text c.in-Str.is, ← c.as_str.ensures) c.write_string.ensures

pub write_value-returns-in-Agg : goal.write_value-returns-in-Agg
write_value-returns-in-Agg t c = rw (form.header-Agg c.args.value.now c.in-Agg.kind c.in-Agg.elements c.in-Agg.is, ← c.as_slice.ensures) c.write_values.ensures

pub write_value-returns-in_default : goal.write_value-returns-in_default
write_value-returns-in_default t c = rw (form.header-others c.args.value.now (c.in_default.not-Str, c.in_default.not-Agg)) c.push.ensures
