-- What is kept of the sessions of a run, and what of a session is its trace.
use Rattle.std.specs.Prelude.{ℕ, List, ◌≡◌, [], map}
use Rattle.sg_protocol.specs.Calls.{Event}
use Rattle.sg_protocol.specs.Graph.{Graph}
use Rattle.sg_protocol.specs.Explaining.{AllShown}
use Rattle.sg_protocol.specs.World.{Logged}
use Rattle.sg_certify.specs.Sessions.{events_beside}

-- the trace of a session: its graph, the honest roles, and the events so far, each beside a walk that shows what it took
pub record Trace : Type 0 where
  pub graph : Graph
  pub honest : List ℕ
  pub shown : List (Event × List ℕ)

-- the traces, each under the sid of its session
abbrev pub Traces : Type 0
Traces = List (List ℕ × Trace)

-- Beside these steps of a session stand walks that show what they took: these are the events, each beside its step's walk
pub record IsTrace (g : Graph) (sid : List ℕ) (steps : List Logged) (shown : List (Event × List ℕ)) : Type 0 where
  pub part : List (Logged × List ℕ)
  pub are : map (λ (l : Logged × List ℕ). l.0) part ≡ steps
  pub walks : AllShown g sid [] part
  pub events : events_beside sid part ≡ shown
