-- What a role keeps is enough: it says as much as the transcript.
use Rattle.std.specs.Prelude.{◌≡◌, ◌≢◌, ℕ, ◌<◌, List, map, length, Some, IfSome, IsTrue}
use Rattle.std.specs.List.{AllByRecursion}
use Rattle.sg_model.specs.Last.{Map, last}
use Rattle.sg_model.specs.Lists.{first_some, rises_from}
use Rattle.sg_model.specs.Shape.{receiver}
use Rattle.sg_model.specs.Values.{Value, Opening}
use Rattle.sg_protocol.specs.Graph.{Graph, IsGraph, shape}
use Rattle.sg_protocol.specs.Frame.{Frame}
use Rattle.sg_protocol.specs.Texts.{Hash}
use Rattle.sg_protocol.specs.Keyring.{Keyring, Program}
use Rattle.sg_protocol.specs.Session.{Session, Exchange, own_part, transcript, extended}
use Rattle.sg_protocol.specs.Sending.{own_item, frame_sent}
use Rattle.sg_protocol.specs.Kept.{kept}
use Rattle.sg_protocol.specs.Node.{program_for}
use Rattle.sg_protocol.specs.Verdict.{rows_of_session}
use Rattle.sg_protocol.specs.Acting.{rows_of_act}
use Rattle.sg_protocol.specs.NodeAfter.{is_over}
use Rattle.sg_protocol.specs.Notes.{row_number, notes_in_session, notes_of_sent}

-- two sessions of one sid, cast and role, of which the role keeps the same
pub record KeepsSame (g : Graph) (s t : Session) : Type 0 where
  pub sid : s.sid ≡ t.sid
  pub cast : s.cast ≡ t.cast
  pub role : s.role ≡ t.role
  pub kept : kept g s ≡ kept g t

-- Sessions of which a role keeps the same send the same frames, refuse the same steps, judge frames alike while the role waits, keep the same after whatever comes, note the same, and are over alike
pub record KeptIsEnough (sha : Hash) : Type 0 where
  pub sends : (keys : Keyring) (p : Program) (s t : Session) (label : ℕ) (written : List Opening) → IsGraph p.graph → KeepsSame p.graph s t → frame_sent sha keys p s label written ≡ frame_sent sha keys p t label written
  pub refuses : (p : Program) (s t : Session) (label : ℕ) (values : Map Value) → KeepsSame p.graph s t → rows_of_act p s label values ≡ rows_of_act p t label values
  -- while it waits, the last item of its transcript is its own
  pub judges : (keys : Keyring) (p : Program) (s t : Session) (f : Frame) → IsGraph p.graph → KeepsSame p.graph s t → own_part s ≡ transcript s → own_part t ≡ transcript t → first_some (rows_of_session sha keys p s f) ≡ first_some (rows_of_session sha keys p t f)
  pub goes_on : (g : Graph) (s t : Session) (e : Exchange) → KeepsSame g s t → KeepsSame g (extended s e) (extended t e)
  -- the notes of a step that is sent
  pub notes_sent : (keys : Keyring) (p : Program) (s t : Session) (f : Frame) (written : List Opening) → KeepsSame p.graph s t → notes_of_sent keys p s f written ≡ notes_of_sent keys p t f written
  -- the notes of a frame that comes while it waits
  pub notes_taken : (keys : Keyring) (p : Program) (s t : Session) (f : Frame) → IsGraph p.graph → KeepsSame p.graph s t → own_part s ≡ transcript s → own_part t ≡ transcript t →
      notes_in_session sha keys p s f (row_number (first_some (rows_of_session sha keys p s f))) ≡ notes_in_session sha keys p t f (row_number (first_some (rows_of_session sha keys p t f)))
  pub ends : (programs : List Program) (p : Program) (s t : Session) → program_for programs s.cast.graph s.role ≡ Some p → KeepsSame p.graph s t → is_over programs s ≡ is_over programs t

-- The last item of a frame sent to another role is the own item, if the last item of the transcript, if there is one, is another role's, and the written variables are the graph's, in rising order
abbrev pub OwnItemIsLast : Hash → Type 0
OwnItemIsLast sha = (keys : Keyring) (p : Program) (s : Session) (label : ℕ) (written : List Opening) → receiver (shape p.graph) label ≢ s.role → IfSome (last (transcript s)) (λ i. i.role ≢ s.role) →
    IsTrue (rises_from 0 (map (λ o. o.variable) written)) → AllByRecursion (λ o. o.variable < length p.graph.variables) written → last (frame_sent sha keys p s label written).items ≡ Some (own_item sha keys p s label written)
