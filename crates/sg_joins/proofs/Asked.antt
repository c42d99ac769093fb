-- The join of the outcome of a call is new, and the node has it afterwards.
use Rattle.std.proofs.Common.{◌≡◌, ℕ, Option, Some, None, IfSome, refl, sym, ap, ◌∙◌}
use Rattle.sg_ledger.specs.Format.{Join}
use Rattle.sg_node.proofs.Life.{pasts_go_on}
use Rattle.sg_node.specs.Answers.{IsAnsweredPast}
use Rattle.sg_protocol.specs.Acting.{answer}
use Rattle.sg_protocol.specs.Calls as Protocol
use Rattle.sg_protocol.specs.Calls.{Answer}
use Rattle.sg_protocol.specs.NodeStates.{NodeState}
use Rattle.sg_protocol.specs.Past.{node_of, past_after}
use Rattle.sg_protocol.specs.Texts.{real}
use Rattle.sg_report.specs.Outcome.{outcome_of}
use Rattle.sg_report.specs.Reported.{reported_answer}
use Rattle.sg_report.specs.declared.outcome.Outcome.{Outcome}
use Rattle.sg_joins.specs.Asked.{AskedOnce}
use Rattle.sg_joins.specs.Joins.{IsNew, join_in, join_reported, with_join}
use Rattle.sg_joins.proofs.NewJoins.{any_call, joins_with}

reported_join : (n : ℕ) (a : Answer) → join_reported (reported_answer n a) ≡ join_in a
reported_join n (Protocol.Happened e) = refl
reported_join n other = refl

module _ {node : NodeState} {o : Outcome} (h : AskedOnce node o) where
  join_is : (r : Option Join) → r ≡ join_reported (outcome_of o) → r ≡ join_in (answer real (node_of h.past) h.call)
  join_is r e = e ∙ ap join_reported h.is_reported ∙ reported_join h.number (answer real (node_of h.past) h.call)

  -- a pair that joins is new to the joins from before
  pub new_join : IfSome (join_reported (outcome_of o)) (IsNew (node_of h.past).joins)
  new_join = by (join_reported (outcome_of o)) refl
    where
      by : (r : Option Join) → r ≡ join_reported (outcome_of o) → IfSome r (IsNew (node_of h.past).joins)
      by None e = tt
      by (Some j) e = (any_call real (node_of h.past) h.call h.range).1 j (sym (join_is (Some j) e))

  -- the node's joins are these with it
  pub joins_after : node.joins ≡ with_join (node_of h.past).joins (join_reported (outcome_of o))
  joins_after = h.represents.joins ∙ joins_with h.past h.call h.range ∙ ap (with_join (node_of h.past).joins) (sym (join_is (join_reported (outcome_of o)) refl))

  pub answered_after : IsAnsweredPast (past_after real h.past h.call)
  answered_after = pasts_go_on h.past h.call h.answered_before h.range
