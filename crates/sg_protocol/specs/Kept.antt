-- What a role keeps of its transcript.
use Rattle.std.specs.Prelude.{ℕ, List, length, map, Option}
use Rattle.sg_model.specs.Last.{evidence}
use Rattle.sg_model.specs.Lists.{below}
use Rattle.sg_model.specs.Values.{Opening}
use Rattle.sg_protocol.specs.Graph.{Graph}
use Rattle.sg_protocol.specs.Frame.{Item}
use Rattle.sg_protocol.specs.Session.{Session, transcript, origin, own_time, time, place, commitments, known}
use Rattle.sg_protocol.specs.Sending.{entry_of, item_of}

-- the last item of each sender with its tags, and what was written since the one before it
abbrev pub kept_items : Graph → List Item → List Item
kept_items g items = map (item_of g) (evidence (λ i. i.role) (map entry_of items))

-- the role's own last label and its time, the time and the place, the last item of each sender with its tags, the current commitments and the
-- openings that are known
pub record KeptState : Type 0 where
  pub origin : Option ℕ
  pub own_time : ℕ
  pub time : ℕ
  pub place : ℕ
  pub items : List Item
  pub commitments : List (Option (List ℕ))
  pub openings : List (Option Opening)

-- what a role keeps of a session
abbrev pub kept : Graph → Session → KeptState
kept g s = record {
  origin = origin s;
  own_time = own_time s;
  time = time s;
  place = place g s;
  items = kept_items g (transcript s);
  commitments = commitments g (transcript s);
  openings = map (known s) (below (length g.variables));
}
