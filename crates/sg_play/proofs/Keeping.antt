-- Acts and leavings join nothing.
use Rattle.std.proofs.Common.{◌≡◌, ℕ, ◌+◌, List, Option, refl, sym, ap, ◌∙◌, subst}
use Rattle.sg_base.specs.declared.address.Addr.{Addr}
use Rattle.sg_model.specs.Last.{Map}
use Rattle.sg_model.specs.Names.{Name}
use Rattle.sg_model.specs.Values.{Value}
use Rattle.sg_node.proofs.Life.{pasts_go_on}
use Rattle.sg_node.specs.Answers.{IsAnsweredPast}
use Rattle.sg_protocol.specs.Acting.{answer}
use Rattle.sg_protocol.specs.Calls as Protocol
use Rattle.sg_protocol.specs.Calls.{Call, Answer, Act, Abandon}
use Rattle.sg_protocol.specs.Keyring.{Keyring}
use Rattle.sg_protocol.specs.NodeStates.{NodeState, RepresentsPast, state_after}
use Rattle.sg_protocol.specs.Past.{Past, node_of, past_after}
use Rattle.sg_protocol.specs.Texts.{real}
use Rattle.sg_report.specs.declared.outcome.Outcome.{Outcome}
use Rattle.sg_play.specs.Steps.{counted}
use Rattle.sg_play.specs.Asking.{IsAsked, IsAskedWithFrames, sealed_in}
use Rattle.sg_play.specs.Representation.{KeepsJoins}

-- nothing was asked
pub keeps_same : (old new : NodeState) → new ≡ old → KeepsJoins old new
keeps_same old new e past s answered = (past, subst (λ (n : NodeState). RepresentsPast n past) (sym e) s, answered, ap (λ (n : NodeState). n.joins) e)

-- one after another
pub keeps_then : (a b c : NodeState) → KeepsJoins a b → KeepsJoins b c → KeepsJoins a c
keeps_then a b c f g past s reported =
    let mid = f past s reported in
    let end = g mid.0 mid.1 mid.2 in
    (end.0, end.1, end.2, end.3 ∙ mid.3)

acts_join_none : (st : NodeState) (sid : List ℕ) (label : ℕ) (values : Map Value) (confounders : List (List ℕ)) (a : Answer) → (state_after st (Act sid label values confounders) a).joins ≡ st.joins
acts_join_none st sid label values confounders (Protocol.Sends e to f) = refl
acts_join_none st sid label values confounders other = refl

leavings_join_none : (st : NodeState) (sid : List ℕ) (a : Answer) → (state_after st (Abandon sid) a).joins ≡ st.joins
leavings_join_none st sid (Protocol.Sends e to f) = refl
leavings_join_none st sid other = refl

-- a call that joins nothing
keeps_by : (number : ℕ) (old new : NodeState) (c : Call) (past : Past) (o : Outcome) (sealed : Option (Name × List ℕ)) → IsAnsweredPast past → IsAsked number old new past c o sealed
    → ((a : Answer) → (state_after old c a).joins ≡ old.joins) → (later : Past) × RepresentsPast new later × IsAnsweredPast later × (new.joins ≡ old.joins)
keeps_by number old new c past o sealed its h none =
    (past_after real past c, h.goes_on.represents, pasts_go_on past c its h.range, ap (λ (n : NodeState). n.joins) h.goes_on.state ∙ none (answer real (node_of past) c))

-- an act
pub keeps_by_act : (keys : Keyring) (frames frames' : ℕ) (old new : NodeState) (sid : List ℕ) (label : ℕ) (values : Map Value) (confounders : List (List ℕ)) (o : Outcome) (frame : Option (Addr × (Name × List ℕ)))
    → ((past : Past) → RepresentsPast old past → IsAskedWithFrames keys frames frames' old new past (Act sid label values confounders) o frame) → KeepsJoins old new
keeps_by_act keys frames frames' old new sid label values confounders o frame h past s its =
    let act = Act sid label values confounders in
    keeps_by (counted (frames + 1)) old new act past o (sealed_in (answer real (node_of past) act)) its (h past s).is_asked (acts_join_none old sid label values confounders)

-- a leaving
pub keeps_by_leaving : (number : ℕ) (old new : NodeState) (sid : List ℕ) (o : Outcome) (sealed : Option (Name × List ℕ))
    → ((past : Past) → RepresentsPast old past → IsAsked number old new past (Abandon sid) o sealed) → KeepsJoins old new
keeps_by_leaving number old new sid o sealed h past s its = keeps_by number old new (Abandon sid) past o sealed its (h past s) (leavings_join_none old sid)
