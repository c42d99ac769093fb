use Rattle.std.proofs.Common.{sym, ◌∙◌, true≢false}
use Rattle.sg_keys.proofs.DocumentLaws.{document_some, document_none, first_of_err}
use Rattle.sg_keys.proofs.document.read_document.Goals as goal

pub returns-then-is_err-clause-table : goal.returns-then-is_err-clause-table
returns-then-is_err-clause-table c =
    let none = first_of_err _ _ c.from_utf8.result c.from_utf8.ensures.cases (sym c.is_err.ensures.value ∙ c.if-is_err.true) in
    sym (document_none c.args.bytes.now (λ utf8. absurd (none utf8)))

pub returns-in-Ok-clause-table : goal.returns-in-Ok-clause-table
returns-in-Ok-clause-table c = sym (document_some c.args.bytes.now (c.in-Ok.ensures.ok).0 (c.in-Ok.ensures.ok).1)

pub returns-else-is_memory-clause-table : goal.returns-else-is_memory-clause-table
returns-else-is_memory-clause-table c =
    sym (document_none c.args.bytes.now (c.in-Err.ensures.refused (λ m. true≢false (sym (c.is_memory.ensures.1 m) ∙ c.if-is_memory.false))))
