-- How the counts grow with the outcome of one more step.
use Rattle.std.specs.Prelude.{ℕ, ◌+◌, ◌<◌, if◌then◌else◌, List, [], ◌∷◌, ◌++◌}
use Rattle.std.specs.Option.{option_map_or}
use Rattle.sg_model.specs.Limits.{most_steps}
use Rattle.sg_model.specs.Lists.{has_text}
use Rattle.sg_protocol.specs.Calls.{Event}
use Rattle.sg_protocol.specs.Graph.{Graph}
use Rattle.sg_report.specs.Reported.{Reported}
use Rattle.sg_drive.specs.Summary.{Counts, completed, completed_by, is_abandoned, is_receipt, is_received, is_refused, is_sent}

-- one more session, unless it is there
abbrev pub with_session : List ℕ → List (List ℕ) → List (List ℕ)
with_session sid sids = if has_text sid sids then sids else sids ++ sid ∷ []

-- the counts with the outcome of one more step
abbrev pub with_reported : Graph → Reported → Counts → Counts
with_reported g t c = record {
  sent = if is_sent t then c.sent + 1 else c.sent;
  received = if is_received t then c.received + 1 else c.received;
  refused = if is_refused t then c.refused + 1 else c.refused;
  abandoned = if is_abandoned t then c.abandoned + 1 else c.abandoned;
  complete = option_map_or (λ sid. with_session sid c.complete) (completed g t) c.complete;
}

-- with a frame that was sent
abbrev pub with_sent : Graph → Event → Counts → Counts
with_sent g e c = record c { sent = c.sent + 1; complete = option_map_or (λ sid. with_session sid c.complete) (completed_by g e) c.complete }

-- with an event that sent nothing
abbrev pub with_event : Event → Counts → Counts
with_event e c = record c { received = if is_receipt e then c.received + 1 else c.received }

-- each count can rise by one
pub record CanRise (c : Counts) : Type 0 where
  pub sent : c.sent < most_steps
  pub received : c.received < most_steps
  pub refused : c.refused < most_steps
  pub abandoned : c.abandoned < most_steps
