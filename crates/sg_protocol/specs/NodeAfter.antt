-- The node after a call.
use Rattle.std.specs.Prelude.{ℕ, List, [], ◌∷◌, ◌==◌, Bool, true, if◌then◌else◌, bytes_eq, not, ◌++◌, Result, Ok, Err}
use Rattle.std.specs.List.{list_any}
use Rattle.std.specs.Option.{option_map_or}
use Rattle.sg_model.specs.Last.{last}
use Rattle.sg_protocol.specs.Frame.{Frame}
use Rattle.sg_protocol.specs.Reading.{read}
use Rattle.sg_protocol.specs.Keyring.{Program, may_return}
use Rattle.sg_protocol.specs.Session.{Session, new_session, extended, origin, place, at_turn, Took, Gave}
use Rattle.sg_protocol.specs.Calls.{Call, Answer, Act, Started, Received, Start, Abandon, Deliver, Happened, Sends, Abandoned}
use Rattle.sg_protocol.specs.Node.{Node, program_for, is_for}
use Rattle.sg_protocol.specs.Acting.{openings_for}

-- at its turn a session is over if no edge leaves its place, and otherwise if its role has no node to come to
abbrev pub is_over : List Program → Session → Bool
is_over programs s = option_map_or (λ p.
    if at_turn p.graph s
    then not (list_any (λ e. e.source == place p.graph s) p.graph.edges)
    else not (option_map_or (may_return p) (origin s) true))
    (program_for programs s.cast.graph s.role) true

-- the session, unless it is over
abbrev pub still : List Program → Session → List Session
still programs s = if is_over programs s then [] else s ∷ []

-- the first session that passes is replaced by these
abbrev pub replace : (Session → Bool) → (Session → List Session) → List Session → List Session
replace which now [] = []
replace which now (s ∷ ss) = if which s then now s ++ ss else (s ∷ replace which now ss)

-- a session is joined
abbrev pub joined : Node → Session → Node
joined n s = record n { joins = n.joins ++ (s.sid, s.role) ∷ []; live = n.live ++ still n.programs s }

-- the first session that passes goes on
abbrev pub goes_on : Node → (Session → Bool) → (Session → List Session) → Node
goes_on n which now = record n { live = replace which now n.live }

-- a frame was accepted
abbrev pub takes : Node → Frame → Node
takes n f = option_map_or (λ c. joined n (extended (new_session f.sid c f.receiver) (Took f))) f.join
    (goes_on n (is_for f) (λ s. still n.programs (extended s (Took f))))

-- what was read was accepted
abbrev pub takes_read : Node → Result Frame ℕ → Node
takes_read n (Err at) = n
takes_read n (Ok f) = takes n f

-- the node after a call that was answered so
abbrev pub node_after : Node → Call → Answer → Node
node_after n (Start c) (Happened (Started sid r)) = joined n (new_session sid c r)
node_after n (Act sid label values confounders) (Sends e to f) =
    goes_on n (λ s. bytes_eq s.sid sid) (λ s. option_map_or (λ i. still n.programs (extended s (Gave i (openings_for values confounders)))) (last f.items) (s ∷ []))
node_after n (Abandon sid) Abandoned = goes_on n (λ s. bytes_eq s.sid sid) (λ s. [])
node_after n (Deliver bytes) (Happened (Received sid r label time values joins)) = takes_read n (read bytes)
node_after n call other = n
