use Rattle.std.proofs.Common.{sym, subst}
use Rattle.std.proofs.lemmas.Str.{is_utf8-from_IsUtf8}
use Rattle.sg_base.specs.Model.{value_of}
use Rattle.sg_base.specs.declared.value.Value.{Value}
use Rattle.sg_model.specs.Bytes.{IsBytes}
use Rattle.sg_protocol.specs.Frame.{IsValue}
use Rattle.sg_role.proofs.values.facts_of_value.Goals as goal

pub returns-in-Text : goal.returns-in-Text
returns-in-Text c = subst (λ (v : Value). IsValue (value_of v)) (sym c.in-Text.is) (is_utf8-from_IsUtf8 c.in-Text.text c.as_bytes.ensures.text.0, c.as_bytes.ensures.text.1, subst IsBytes c.as_bytes.ensures.bytes c.facts_of_bytes.ensures)
