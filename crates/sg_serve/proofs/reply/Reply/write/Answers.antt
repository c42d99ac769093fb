use Rattle.std.proofs.Common.{◌≡◌, ◌∙◌, not, List, ℕ, ap, sym, subst, rules, Err}
use Rattle.std.specs.Prelude.{codes}
use Rattle.sg_answers.specs.Answers.{unsent_text}
use Rattle.sg_base.specs.Outside.{Appends, AppendsPrefix}
use Rattle.sg_play.proofs.Endings.{appends_more}
use Rattle.sg_play.proofs.Results.{mapped}
use Rattle.sg_serve.proofs.Appending.{prefix_of, prefix_then}
use Rattle.sg_serve.proofs.Saying.{mapped_err, on_err, unsent_is}
use Rattle.sg_serve.specs.Lines.{given}
use Rattle.sg_play.proofs.Counting.{alone_then, no_fault}
use Rattle.sg_serve.proofs.Counting.{alone_passed}
use Rattle.sg_serve.proofs.reply.Reply.write.Goals as goal

pub returns-in_err-write_text-clause-prefix : goal.returns-in_err-write_text-clause-prefix
returns-in_err-write_text-clause-prefix g c =
    let old = g.O.Sink.written c.args.out.now in
    let new = g.O.Sink.written c.write_text-2.new.out in
    let text = c.self.inside.text.items in
    let is : (given c.args.took c.args.self.now).line ≡ unsent_text text = unsent_is c.args.took c.self.inside.frame text c.args.self.now c.if-took.false (c.is_none.ensures ∙ ap not c.if-is_none.false) c.self.view_is in
    on_err c.from_residual.result (AppendsPrefix old new (given c.args.took c.args.self.now).line)
    (subst (λ (l : List ℕ). AppendsPrefix old new l) (sym is) (prefix_of old new (codes "unsent ") text c.in_err-write_text.ensures.prefix))

pub returns : goal.returns
returns g c =
    let old = g.O.Sink.written c.args.out.now in
    let mid = g.O.Sink.written c.write_text-2.new.out in
    let new = g.O.Sink.written c.write_text-3.new.out in
    let text = c.as_slice-2.result.now in
    let line = (given c.args.took c.args.self.now).line in
    let is : line ≡ unsent_text text =
    unsent_is c.args.took c.self.inside.frame c.self.inside.text.items c.args.self.now c.if-took.false (c.is_none.ensures ∙ ap not c.if-is_none.false) c.self.view_is ∙ ap unsent_text (sym c.as_slice-2.ensures.value) in
    record {
      faults = alone_then (c.in_ok-write_text.ensures.faults.same (no_fault _)) c.write_text-3.ensures.faults;
      causes = c.write_text-3.ensures.causes;
      whole =
          mapped c.write_text-3.result (Appends mid new text) (Appends old new line)
          (λ h. subst (λ (l : List ℕ). Appends old new l) (sym is) (appends_more old mid new (codes "unsent ") text c.in_ok-write_text.ensures.whole h)) c.write_text-3.ensures.whole;
      prefix =
          mapped_err c.write_text-3.result (AppendsPrefix mid new text) (AppendsPrefix old new line)
          (λ h. subst (λ (l : List ℕ). AppendsPrefix old new l) (sym is) (prefix_then old mid new (codes "unsent ") text c.in_ok-write_text.ensures.whole h)) c.write_text-3.ensures.prefix;
    }

pub returns-in_err-write_text-clause-faults : goal.returns-in_err-write_text-clause-faults
returns-in_err-write_text-clause-faults g c = let same : c.from_residual.result ≡ Err c.in_err-write_text.field-0.0 = search rules in alone_passed same c.in_err-write_text.ensures.faults
