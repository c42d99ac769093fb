use Rattle.std.proofs.Common.{sym, ◌∙◌, inr, refl}
use Rattle.sg_compile.specs.Text.{line, start_line}
use Rattle.sg_compile.proofs.Reading.{begins_yes}
use Rattle.sg_compile.proofs.loader.version_of.Goals as goal

pub returns-then-starts_with-2 : goal.returns-then-starts_with-2
returns-then-starts_with-2 c =
    record { known = inr refl; spelled = begins_yes (line (start_line 2)) c.args.bytes.now (sym c.starts_with-else-starts_with.ensures.value ∙ c.if-starts_with-2.true) }
