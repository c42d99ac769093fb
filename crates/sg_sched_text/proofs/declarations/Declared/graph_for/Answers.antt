use Rattle.std.proofs.Common.{◌≡◌, ◌∙◌, ap, sym, Some, None, slice_get}
use Rattle.std.specs.Prelude.{option_copied}
use Rattle.sg_sched.specs.Format.Items.{SoFar}
use Rattle.sg_sched_text.specs.Adding.{session_index}
use Rattle.sg_sched_text.specs.Sessions.{session_of}
use Rattle.sg_sched_text.proofs.Graphs.{graph_by, no_graph}
use Rattle.sg_sched_text.proofs.declarations.Declared.graph_for.Goals as goal

pub returns-in_err-index : goal.returns-in_err-index
returns-in_err-index c =
    let p : session_index c.args.self.now c.args.session.now ≡ None = ap (λ (past : SoFar). session_index past c.args.session.now) (sym c.self.view_is) ∙ sym c.in_err-index.ensures.index in
    ap option_copied c.from_residual.ensures ∙ no_graph c.args.self.now c.args.session.now p

pub returns : goal.returns
returns c =
    let i = c.in_ok-index.index in
    let s = session_of c.at.result.0 c.at.result.1.now in
    let p : session_index c.args.self.now c.args.session.now ≡ Some i = ap (λ (past : SoFar). session_index past c.args.session.now) (sym c.self.view_is) ∙ sym c.in_ok-index.ensures.index in
    let q : slice_get c.args.self.now.sessions i ≡ Some s = ap (λ (past : SoFar). slice_get past.sessions i) (sym c.self.view_is) ∙ c.at.ensures in
    c.graph_at.ensures.graph ∙ graph_by c.args.self.now c.args.session.now i s p q
