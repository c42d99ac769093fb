-- What a role keeps follows a walk, whoever sent what it received.
use Rattle.std.specs.Prelude.{◌≡◌, ℕ, Bool, true, false, List, [], ◌∷◌, ◌++◌, map, get_or, Some, None, ◌⊎◌, IsTrue}
use Rattle.sg_model.specs.Last.{last, up_to_last}
use Rattle.sg_model.specs.Lists.{is_in, first_some}
use Rattle.sg_model.specs.Shape.{Walk, end_of, sender}
use Rattle.sg_model.specs.Values.{Opening}
use Rattle.sg_protocol.specs.Graph.{Graph, IsGraph, shape, writes, reads}
use Rattle.sg_protocol.specs.Knowledge.{knows}
use Rattle.sg_protocol.specs.Accepted.{Accepted}
use Rattle.sg_protocol.specs.Frame.{Cast, Item, Frame}
use Rattle.sg_protocol.specs.Texts.{Hash, commitment}
use Rattle.sg_protocol.specs.Keyring.{Keyring, Program}
use Rattle.sg_protocol.specs.Session.{Session, new_session, extended, transcript, own_part, at_turn, committed, Took, Gave}
use Rattle.sg_protocol.specs.Sending.{own_item, opening_of}
use Rattle.sg_protocol.specs.Kept.{KeptState, kept}
use Rattle.sg_protocol.specs.Verdict.{rows_of_session}
use Rattle.sg_protocol.specs.Acting.{leaves}
use Rattle.sg_protocol.specs.IsSchedule.{IsProgram}

-- an opening of x is kept, and its commitment is the current one
pub record IsOpened (sha : Hash) (sid : List ℕ) (k : KeptState) (x : ℕ) : Type 0 where
  pub opening : Opening
  pub variable : opening.variable ≡ x
  pub is_kept : get_or k.openings x None ≡ Some opening
  pub current : get_or k.commitments x None ≡ Some (commitment sha sid opening)

-- on some walk from the start the last own label of role r is the kept one, and what r knows on it is kept
pub record FollowsWalk (sha : Hash) (g : Graph) (sid : List ℕ) (r : ℕ) (turn : Bool) (k : KeptState) : Type 0 where
  pub walk : List ℕ
  pub follows : Walk (shape g) 0 walk
  pub own_last : last (up_to_last (sender (shape g)) r walk) ≡ k.origin
  -- at its turn, the walk ends at the kept place
  pub at_place : turn ≡ true → end_of (shape g) 0 walk ≡ k.place
  -- otherwise it ends with the role's own last label, or is empty at the start
  pub at_own : turn ≡ false → last walk ≡ k.origin
  pub opened : (x : ℕ) → IsTrue (knows g r x walk) → IsOpened sha sid k x

-- what is kept of a session follows a walk to its place, if it is at its turn, and otherwise to its own last step
abbrev pub IsFollowed : Hash → Graph → Session → Type 0
IsFollowed sha g s = FollowsWalk sha g s.sid s.role (at_turn g s) (kept g s)

-- an opening of x goes with the step, and its commitment is the current one after these items
pub record IsOpenedIn (sha : Hash) (s : Session) (written : List Opening) (items : List Item) (x : ℕ) : Type 0 where
  pub opening : Opening
  pub variable : opening.variable ≡ x
  pub is_sent : opening_of s written x ≡ Some opening
  pub current : committed x items ≡ Some (commitment sha s.sid opening)

-- What a role keeps follows a walk from its first state on, whatever frames it accepts, and so it can open what its next step reads
pub record KeptFollowsWalks (sha : Hash) : Type 0 where
  -- a new session, whose walk is empty
  pub begins : (g : Graph) (sid : List ℕ) (c : Cast) (r : ℕ) (turn : Bool) → FollowsWalk sha g sid r turn (kept g (new_session sid c r))
  -- after a step of the role along an edge of an accepted graph from its place, which writes what the edge writes, the role waits
  pub gives : (keys : Keyring) (p : Program) (s : Session) (label : ℕ) (written : List Opening) → IsGraph p.graph → Accepted p.graph →
      at_turn p.graph s ≡ true → leaves p.graph s label ≡ true → map (λ o. o.variable) written ≡ writes p.graph label → IsFollowed sha p.graph s →
      let now = extended s (Gave (own_item sha keys p s label written) written) in
      IsFollowed sha p.graph now × (at_turn p.graph now ≡ false)
  -- a session that waits, since the last item of its transcript is its own, is at its turn after a frame on which no row holds
  pub takes : (keys : Keyring) (p : Program) (s : Session) (f : Frame) → IsProgram sha p → p.role ≡ s.role →
      own_part s ≡ transcript s → FollowsWalk sha p.graph s.sid s.role false (kept p.graph s) → first_some (rows_of_session sha keys p s f) ≡ None →
      let now = extended s (Took f) in
      IsFollowed sha p.graph now × (at_turn p.graph now ≡ true)
  -- at its turn, what an edge from the place reads is written by the edge or kept
  pub keeps_reads : (g : Graph) (s : Session) (label x : ℕ) → IsGraph g → Accepted g →
      at_turn g s ≡ true → leaves g s label ≡ true → IsFollowed sha g s → IsTrue (is_in x (reads g label)) →
      IsTrue (is_in x (writes g label)) ⊎ IsOpened sha s.sid (kept g s) x
  -- and so a step can send an opening of each variable that it reads, whose commitment is the one after the step
  pub opens_reads : (keys : Keyring) (p : Program) (s : Session) (label : ℕ) (written : List Opening) (x : ℕ) → IsGraph p.graph → Accepted p.graph →
      at_turn p.graph s ≡ true → leaves p.graph s label ≡ true → map (λ o. o.variable) written ≡ writes p.graph label → IsFollowed sha p.graph s → IsTrue (is_in x (reads p.graph label)) →
      IsOpenedIn sha s written (transcript s ++ own_item sha keys p s label written ∷ []) x
