use Rattle.std.proofs.Common.{◌≡◌, sym, subst}
use Rattle.std.specs.Prelude.{Result, OnErr, option_map}
use Rattle.sg_protocol.specs.Acting.{answer}
use Rattle.sg_protocol.specs.Calls.{Start, NotStarted}
use Rattle.sg_protocol.specs.Past.{node_of}
use Rattle.sg_protocol.specs.Texts.{real}
use Rattle.sg_receipt.specs.Answers.{answer_of_start}
use Rattle.sg_node.specs.Answers.{IsAnswer}
use Rattle.sg_receipt.specs.declared.answer.Happened.{Happened}
use Rattle.sg_receipt.specs.declared.refusal.StartRefusal.{StartRefusal}
use Rattle.sg_node.proofs.ToldApart.{start_told}
use Rattle.sg_node.proofs.node.Node.start.Goals as goal

pub returns-in-Ok-Ok-clause-answer : goal.returns-in-Ok-Ok-clause-answer
returns-in-Ok-Ok-clause-answer c = λ past st. subst (λ r. answer real (node_of past) (Start c.args.cast) ≡ answer_of_start r) c.in-Ok-Ok.field-0-is (c.in-Ok-Ok.ensures.answer past st)

pub returns-in-Ok-Err-clause-answer : goal.returns-in-Ok-Err-clause-answer
returns-in-Ok-Err-clause-answer c = λ past st. subst (λ o. IsAnswer (answer real (node_of past) (Start c.args.cast)) (option_map NotStarted o)) (sym c.into.ensures)
    (subst (λ r. answer real (node_of past) (Start c.args.cast) ≡ answer_of_start r) c.in-Ok-Err.field-0-is (c.in-Ok-Err.ensures.answer past st))

pub returns-in-Ok-Err-clause-back : goal.returns-in-Ok-Err-clause-back
returns-in-Ok-Err-clause-back c = subst (λ (r : Result Happened StartRefusal). OnErr r (c.begin.new.self ≡ c.args.self.now)) c.in-Ok-Err.field-0-is c.in-Ok-Err.ensures.refused

pub returns-in-Ok-Err-clause-memory : goal.returns-in-Ok-Err-clause-memory
returns-in-Ok-Err-clause-memory c = λ q. absurd (start_told c.in-Ok-Err.refusal c.into.result c.into.ensures q)

pub returns-in-Ok-Err-clause-early : goal.returns-in-Ok-Err-clause-early
returns-in-Ok-Err-clause-early c = λ past st q. absurd (start_told c.in-Ok-Err.refusal c.into.result c.into.ensures q)
