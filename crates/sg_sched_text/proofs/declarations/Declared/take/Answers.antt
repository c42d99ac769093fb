use Rattle.std.proofs.Common.{◌∙◌, ap, sym, subst}
use Rattle.sg_sched.specs.declared.line.Line.{Line}
use Rattle.sg_sched.specs.Format.Model.{statement}
use Rattle.sg_sched_text.specs.Adding.{Added, after_line}
use Rattle.sg_sched_text.specs.TakingLines.{Takes}
use Rattle.sg_sched_text.proofs.AddingLaws.{edge_added, honest_added, key_added, session_added}
use Rattle.sg_sched_text.proofs.declarations.Declared.take.Goals as goal

pub returns-in-Edge-clause-takes : goal.returns-in-Edge-clause-takes
returns-in-Edge-clause-takes c =
    subst (λ (a : Added). Takes a c.add_edge.new.self c.add_edge.result)
    (edge_added c.args.self.now c.in-Edge.label c.in-Edge.from c.in-Edge.to ∙ ap (λ (l : Line). after_line c.args.self.now (statement l)) (sym c.in-Edge.is))
    c.add_edge.ensures

pub returns-in-Honest-clause-takes : goal.returns-in-Honest-clause-takes
returns-in-Honest-clause-takes c =
    subst (λ (a : Added). Takes a c.add_honest.new.self c.add_honest.result)
    (honest_added c.args.self.now c.in-Honest.who ∙ ap (λ (l : Line). after_line c.args.self.now (statement l)) (sym c.in-Honest.is))
    c.add_honest.ensures

pub returns-in-Key-clause-takes : goal.returns-in-Key-clause-takes
returns-in-Key-clause-takes c =
    subst (λ (a : Added). Takes a c.add_key.new.self c.add_key.result)
    (key_added c.args.self.now c.in-Key.one c.in-Key.two c.in-Key.digits.now ∙ ap (λ (l : Line). after_line c.args.self.now (statement l)) (sym c.in-Key.is))
    c.add_key.ensures

pub returns-in-Session-clause-takes : goal.returns-in-Session-clause-takes
returns-in-Session-clause-takes c =
    subst (λ (a : Added). Takes a c.add_session.new.self c.add_session.result)
    (session_added c.args.self.now c.in-Session.name c.in-Session.graph c.in-Session.nonce c.in-Session.names c.in-Session.version
    ∙ ap (λ (l : Line). after_line c.args.self.now (statement l)) (sym c.in-Session.is))
    c.add_session.ensures
