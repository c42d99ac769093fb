use Rattle.std.proofs.Common.{◌≡◌, ◌∙◌, sym, ap, subst}
use Rattle.sg_play.specs.Played.{called}
use Rattle.sg_play.specs.Posting.{frames_made}
use Rattle.sg_play.specs.Representation.{RepresentsPlay}
use Rattle.sg_serve.specs.declared.server.Server.{Server}
use Rattle.sg_serve.specs.Serving.{graphs_with, last_of}
use Rattle.sg_serve.proofs.Reporting.{made_is, replied, session_is}
use Rattle.sg_serve.proofs.server.Server.report.Goals as goal

pub returns-clause-replied : goal.returns-clause-replied
returns-clause-replied c = λ s k h leaves.
    let sv = c.args.self.now in
    let pl = c.report_line.new.self.player in
    let outcome = c.args.outcome.now in
    let p = called s.play k in
    let line = c.in_ok-line.ensures.reported s.play k (frames_made c.args.frame) h.asked leaves in
    let kept = c.opened-frame.ensures ∙ made_is sv pl s k outcome c.args.frame c.args.left.now h leaves c.number_of.result c.number_of.ensures in
    let session = session_is sv pl s k outcome c.args.frame c.args.left.now h leaves c.session_of-session.result c.session_of-session.ensures in
    let rest : c.add_graph.new.self ≡ record sv { player = pl; graphs = c.add_graph.new.self.graphs } = c.in_ok-add_graph.ensures.rest ∙ ap (λ (x : Server). record x { graphs = c.add_graph.new.self.graphs }) c.in_ok-line.ensures.rest in
    let graphs = c.in_ok-add_graph.ensures.graphs p line.1 ∙ (λ i. graphs_with p (c.graph.ensures i) (c.in_ok-line.ensures.rest i).graphs) in
    let last = c.in_ok-remember.ensures.last p (subst (λ (x : Server). RepresentsPlay x.player p) (sym rest) line.1) ∙ ap (λ (x : Server). last_of p c.session_of-session.result c.opened-frame.result x.last) rest in
    replied sv pl s k outcome c.args.frame c.args.left.now h leaves c.in_ok-line.line.items c.opened-frame.result c.in_ok-copy.copy c.add_graph.new.self.graphs c.session_of-session.result c.remember.new.self.last c.new.result line kept c.in_ok-copy.ensures.copy graphs session last c.new.ensures
    c.remember.new.self (c.in_ok-remember.ensures.rest ∙ ap (λ (x : Server). record x { last = c.remember.new.self.last }) rest)
