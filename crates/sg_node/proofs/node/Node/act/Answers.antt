use Rattle.std.proofs.Common.{◌≡◌, sym, subst}
use Rattle.std.specs.Prelude.{ℕ, List, Result, OnErr, option_map}
use Rattle.sg_protocol.specs.Acting.{answer}
use Rattle.sg_protocol.specs.Calls.{Act, NotActed}
use Rattle.sg_protocol.specs.Past.{node_of}
use Rattle.sg_protocol.specs.Texts.{real}
use Rattle.sg_walk.specs.Model.{values_of}
use Rattle.sg_receipt.specs.Answers.{IsAnswerOfAct}
use Rattle.sg_node.specs.Answers.{IsAnswer}
use Rattle.sg_receipt.specs.declared.answer.Happened.{Happened}
use Rattle.sg_receipt.specs.declared.refusal.ActRefusal.{ActRefusal}
use Rattle.sg_node.proofs.ToldApart.{act_told, act_whole}
use Rattle.sg_node.proofs.node.Node.act.Goals as goal

pub returns-in-Ok-Ok-clause-answer : goal.returns-in-Ok-Ok-clause-answer
returns-in-Ok-Ok-clause-answer c = λ past st. subst (IsAnswerOfAct (answer real (node_of past) (Act c.args.sid c.args.label (values_of c.args.values.now) c.args.confounders.now))) c.in-Ok-Ok.field-0-is (c.in-Ok-Ok.ensures.answer past st)

pub returns-in-Ok-Err-clause-answer : goal.returns-in-Ok-Err-clause-answer
returns-in-Ok-Err-clause-answer c = λ past st. subst (λ o. IsAnswer (answer real (node_of past) (Act c.args.sid c.args.label (values_of c.args.values.now) c.args.confounders.now)) (option_map NotActed o)) (sym c.into.ensures)
    (subst (IsAnswerOfAct (answer real (node_of past) (Act c.args.sid c.args.label (values_of c.args.values.now) c.args.confounders.now))) c.in-Ok-Err.field-0-is (c.in-Ok-Err.ensures.answer past st))

pub returns-in-Ok-Err-clause-back : goal.returns-in-Ok-Err-clause-back
returns-in-Ok-Err-clause-back c =
    subst (λ (r : Result (Happened × (List ℕ × List ℕ)) ActRefusal). OnErr r ((c.send.new.self ≡ c.args.self.now) × (c.send.new.notes ≡ c.args.notes.now))) c.in-Ok-Err.field-0-is c.in-Ok-Err.ensures.refused

pub returns-in-Ok-Err-clause-early : goal.returns-in-Ok-Err-clause-early
returns-in-Ok-Err-clause-early c = λ q. act_whole c.in-Ok-Err.refusal c.into.result c.into.ensures q

pub returns-in-Ok-Err-clause-memory : goal.returns-in-Ok-Err-clause-memory
returns-in-Ok-Err-clause-memory c = λ past st q. absurd (act_told c.in-Ok-Err.refusal c.into.result c.into.ensures q)
