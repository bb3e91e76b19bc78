-- The header of a model that no file has given one.
use Rattle.std.specs.Prelude.{pos, List, [], ◌∷◌, codes}
use Rattle.rp_value.specs.declared.value.Value.{Value}
use Rattle.rp_value.specs.declared.value.Value.TheVariants as v
use Rattle.rp_value.specs.declared.value.AggregateKind.TheVariants as k
use Rattle.rp_content.specs.declared.header.Header.{Header}

-- ''
abbrev pub empty_text : Value
empty_text = v.Str []

-- ('')
abbrev pub empty_texts : Value
empty_texts = v.Agg k.List (record { low = pos 1; items = empty_text ∷ [] })

-- FILE_DESCRIPTION((''),'2;1')
abbrev pub default_description : List Value
default_description = empty_texts ∷ v.Str (codes "2;1") ∷ []

-- FILE_NAME('','',(''),(''),'','','')
abbrev pub default_name : List Value
default_name = empty_text ∷ empty_text ∷ empty_texts ∷ empty_texts ∷ empty_text ∷ empty_text ∷ empty_text ∷ []

abbrev pub default_header : Header
default_header = record { description = default_description; name = default_name }
