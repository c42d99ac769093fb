-- What holds of the whole life of a node, by the laws of the definitions.
use Rattle.std.specs.Prelude.{◌≡◌, ℕ, List, [], ◌∷◌, ◌++◌, refl}
use Rattle.std.proofs.Common.{sym, subst}
use Rattle.std.proofs.lemmas.List.Elements.{All-from_recursion, All-nil, recursion_from_All}
use Rattle.sg_model.proofs.Small.{all-append}
use Rattle.sg_protocol.specs.Acting.{answer}
use Rattle.sg_protocol.specs.Calls.{Call}
use Rattle.sg_protocol.specs.Isolation.{AreAlike, IsLeft}
use Rattle.sg_protocol.specs.Node.{Node}
use Rattle.sg_protocol.specs.NodeAfter.{node_after}
use Rattle.sg_protocol.specs.NodeStates.{NodeState, RepresentsPast, new_state}
use Rattle.sg_protocol.specs.Past.{Past, AnsweredCall, new_node, node_of, node_after_all, past_after, AreAnswers}
use Rattle.sg_protocol.specs.Ranges.{IsCallInRange}
use Rattle.sg_protocol.specs.Texts.{real}
use Rattle.sg_protocol.proofs.Progressing.{node_more}
use Rattle.sg_protocol.proofs.Isolation.{sessions_are_isolated}
use Rattle.sg_protocol.proofs.Joins.{nodes_join_once}
use Rattle.sg_protocol.proofs.NodeStates.{node_states_represent}
use Rattle.sg_protocol.proofs.PerCall.{answers_are_of_sessions, calls_keep_alike, calls_leave_others}
use Rattle.sg_protocol.proofs.RealHash.{real_hash}
use Rattle.sg_protocol.specs.Keyring.{Keyring, Program}
use Rattle.sg_node.specs.Laws.{new_past, NewNodesRepresent, PastsGoOn, SessionsAreAlone, SameForSessions, OthersAreLeft, PairsJoinOnce}

-- a new state represents the past without calls
pub represents_new : (st : NodeState) (keys : Keyring) (programs : List Program) (first : List (List ℕ × ℕ)) → st ≡ new_state keys programs first → RepresentsPast st (new_past keys programs first)
represents_new st keys programs first e = subst (λ (z : NodeState). RepresentsPast z (new_past keys programs first)) (sym e) ((node_states_represent real real_hash).is_new keys programs first)

pub new_nodes : NewNodesRepresent
new_nodes keys programs first = ((node_states_represent real real_hash).is_new keys programs first, record { calls = All-nil (λ (x : AnsweredCall). IsCallInRange x.call); answers = tt })

answers_more : (n : Node) (cs : List AnsweredCall) (c : Call) → AreAnswers real n cs → AreAnswers real n (cs ++ record { call = c; answer = answer real (node_after_all n cs) c } ∷ [])
answers_more n [] c a = (refl, tt)
answers_more n (x ∷ cs) c a = (a.0, answers_more (node_after n x.call x.answer) cs c a.1)

pub pasts_go_on : PastsGoOn
pasts_go_on past c were_answered good =
    let new : AnsweredCall = record { call = c; answer = answer real (node_of past) c } in
    record {
      calls = All-from_recursion (λ (x : AnsweredCall). IsCallInRange x.call) (past.calls ++ new ∷ []) (all-append (λ (x : AnsweredCall). IsCallInRange x.call) past.calls (new ∷ []) (recursion_from_All (λ (x : AnsweredCall). IsCallInRange x.call) past.calls were_answered.calls) (good, tt));
      answers = answers_more (new_node past.keys past.programs past.first) past.calls c were_answered.answers;
    }

pub sessions_alone : SessionsAreAlone
sessions_alone past sid answered room = sessions_are_isolated real past sid answered room

-- the node of a past with one more call
node_with : (past : Past) (c : Call) → node_of (past_after real past c) ≡ node_after (node_of past) c (answer real (node_of past) c)
node_with past c = node_more (new_node past.keys past.programs past.first) past.calls (record { call = c; answer = answer real (node_of past) c })

pub same_for_sessions : SameForSessions
same_for_sessions past past' sid c of alike = (
  answers_are_of_sessions real sid (node_of past) (node_of past') c of alike,
  subst (λ z. AreAlike sid z (node_of (past_after real past' c))) (sym (node_with past c))
      (subst (AreAlike sid (node_after (node_of past) c (answer real (node_of past) c))) (sym (node_with past' c))
      (calls_keep_alike real sid (node_of past) (node_of past') c of alike)),
)

pub others_left : OthersAreLeft
others_left past sid c other = subst (IsLeft sid (node_of past)) (sym (node_with past c)) (calls_leave_others real sid (node_of past) c other)

pub pairs_once : PairsJoinOnce
pairs_once past differ answered = nodes_join_once real past differ answered
