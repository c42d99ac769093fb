use Rattle.std.proofs.Common.{◌≡◌, ◌∙◌, ◌+◌, ap, sym, subst, Bool, None, Some, slice_get, IfOk, List}
use Rattle.std.specs.Prelude.{nat_le, option_and_then}
use Rattle.sg_model.specs.Names.{Name}
use Rattle.sg_protocol.specs.Frame.{tag_len}
use Rattle.sg_sched.specs.Format.Items.{Session, SoFar, graph_for, session_named}
use Rattle.sg_sched.specs.Format.LineContents.{CraftContent}
use Rattle.sg_sched_text.specs.Adding.{session_index}
use Rattle.sg_sched_text.specs.Crafting.{join_len, lens, item_len, opening_len}
use Rattle.sg_sched_text.specs.Sessions.{session_of}
use Rattle.sg_sched_text.proofs.Graphs.{session_found}
use Rattle.sg_sched_text.proofs.LengthLaws.{short_is, short_none}
use Rattle.sg_sched_text.proofs.declarations.Declared.is_short.Goals as goal

pub returns-in_default : goal.returns-in_default
returns-in_default c =
    let past : SoFar = c.args.self.now in
    let k : CraftContent = c.args.craft.now in
    let name : c.craft.inside.session ≡ k.session = ap (λ (k : CraftContent). k.session) c.craft.view_is in
    let p : session_index past k.session ≡ None = (λ i. session_index (sym c.self.view_is i) (sym name i)) ∙ sym c.in_default.ensures.index in
    short_none (graph_for k.session past) k (session_named k.session past) (session_found k.session past ∙ ap (option_and_then (slice_get past.sessions)) p)

pub returns : goal.returns
returns c =
    let past : SoFar = c.args.self.now in
    let k : CraftContent = c.args.craft.now in
    let i = c.in-Some.index in
    let s : Session = session_of c.at.result.0 c.at.result.1.now in
    let name : c.craft.inside.session ≡ k.session = ap (λ (k : CraftContent). k.session) c.craft.view_is in
    let p : session_index past k.session ≡ Some i = (λ j. session_index (sym c.self.view_is j) (sym name j)) ∙ sym c.in-Some.ensures.index in
    let q : slice_get past.sessions i ≡ Some s = ap (λ (past : SoFar). slice_get past.sessions i) (sym c.self.view_is) ∙ c.at.ensures in
    let found : session_named k.session past ≡ Some s = session_found k.session past ∙ ap (option_and_then (slice_get past.sessions)) p ∙ q in
    subst (λ (v : Bool). IfOk c.is_short.result (λ b. b ≡ v))
    (ap (λ (ns : List Name). nat_le (42 + join_len ns k.join + lens (item_len s.version) k.items + lens opening_len k.openings + tag_len s.version) 60000) c.as_slice.ensures.value
    ∙ short_is (graph_for k.session past) s k (session_named k.session past) found)
    c.is_short.ensures
