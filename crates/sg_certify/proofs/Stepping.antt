-- What an event beside a walk makes of the traces of a run.
use Rattle.std.proofs.Common.{◌≡◌, false, List, [], ◌∷◌, ◌++◌, refl, sym, ◌∙◌, ap, subst, inl, inr}
use Rattle.std.specs.Prelude.{Some, Contains}
use Rattle.sg_model.proofs.Members.{contains_from_in, in_right}
use Rattle.sg_text.proofs.Firsts.{has_text-firsts}
use Rattle.sg_model.specs.Lists.{has_text}
use Rattle.sg_protocol.specs.Calls.{sid_of}
use Rattle.sg_protocol.specs.Explaining.{IsShown}
use Rattle.sg_protocol.specs.Frame.{Cast}
use Rattle.sg_protocol.specs.Graph.{Graph}
use Rattle.sg_protocol.specs.Run.{run}
use Rattle.sg_protocol.specs.Schedule.{graph_with}
use Rattle.sg_protocol.specs.Texts.{real}
use Rattle.sg_protocol.specs.World.{Logged}
use Rattle.sg_certify.specs.Laws.{TracesGoOn}
use Rattle.sg_certify.specs.Runs.{IsTraceOf, AreTraces, sids_of}
use Rattle.sg_certify.specs.Adding.{with_shown}
use Rattle.sg_certify.proofs.Entries.{IsEntry, entry}
use Rattle.sg_certify.proofs.Going.{goes_at, goes_new, added, begins}

pub traces_go_on : TracesGoOn
traces_go_on programs s before l g honest e walk old new u n is are add =
    let log : List Logged = (run real programs s).log in
    let there : Contains log l = subst (λ ls. Contains ls l) (sym n.parts) (contains_from_in (before ++ l ∷ n.after) l (in_right before (l ∷ n.after) l (inl refl))) in
    let i : IsEntry programs s e = entry programs s u l is.call e there is.is_call is.event in
    let is_graph : graph_with real s.graphs i.cast.graph ≡ Some g = is.graph i.cast i.is_cast in
    elim add [
      | inl at ↦ subst (AreTraces programs s (before ++ l ∷ [])) (sym at.1.is_new)
          (goes_at s programs before l e old at.0 at.1.trace (with_shown at.1.trace e walk) is.event at.1.is_old
          (λ (h : IsTraceOf s log before (sid_of e) at.1.trace).
          let casts : Some i.cast ≡ Some h.cast = sym i.is_cast ∙ h.is_cast in
          let cast : i.cast ≡ h.cast = cc in
          let graphs : Some g ≡ Some at.1.trace.graph = sym is_graph ∙ ap (λ (c : Cast). graph_with real s.graphs c.graph) cast ∙ h.graph in
          let graph : g ≡ at.1.trace.graph = cc in
          added s log before l (sid_of e) at.1.trace e walk is.event refl (subst (λ (x : Graph). IsShown x (sid_of e) before l walk) graph is.shown) h)
          are)
      | inr none ↦
          (let absent : has_text (sid_of e) (sids_of before) ≡ false = sym (has_text-firsts (sid_of e) (sids_of before)) ∙ ap (has_text (sid_of e)) (sym are.sids) ∙ none.0 in
          subst (AreTraces programs s (before ++ l ∷ [])) (sym none.1)
          (goes_new s programs before l e old _ is.event none.0
          (begins s log before l i.cast g honest e walk u.schedule i.is_cast is_graph (is.honest i.cast i.is_cast absent) absent is.event is.shown)
          are))
    ]
