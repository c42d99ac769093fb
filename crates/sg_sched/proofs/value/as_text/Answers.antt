use Rattle.std.proofs.Common.{◌∙◌, ap, sym, Some}
use Rattle.sg_model.specs.Values.{TextValue}
use Rattle.sg_sched.proofs.ValueLaws.{text_kept, text_refused}
use Rattle.sg_sched.proofs.value.as_text.Goals as goal

pub returns-in-Ok : goal.returns-in-Ok
returns-in-Ok c = sym (text_kept c.args.bytes.now (c.in-Ok.ensures.text) ∙ ap (λ t. Some (TextValue t)) (sym c.in-Ok.ensures.value))

pub returns-in-Err-NotText : goal.returns-in-Err-NotText
returns-in-Err-NotText c = sym (text_refused c.args.bytes.now (λ u l. cc (c.in-Err-NotText.ensures.memory u l)))
