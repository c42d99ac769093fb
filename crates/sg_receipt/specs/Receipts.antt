-- What a receipt holds, and of which session and view it is.
use Rattle.std.specs.Prelude.{◌≡◌, ℕ, ◌<◌, List, length, map, slice_get, All, Option, Some}
use Rattle.sg_protocol.specs.Calls.{Event}
use Rattle.sg_protocol.specs.Evidence.{View}
use Rattle.sg_protocol.specs.Explaining.{IsExample}
use Rattle.sg_protocol.specs.Frame.{Cast, Frame}
use Rattle.sg_protocol.specs.Keyring.{Program}
use Rattle.sg_protocol.specs.Node.{Node}
use Rattle.sg_protocol.specs.Notes.{session_of_frame}
use Rattle.sg_protocol.specs.Session.{Session, origin}
use Rattle.sg_protocol.specs.Verdict.{seen}
use Rattle.sg_walk.specs.Model.{event_of}
use Rattle.sg_receipt.specs.declared.answer.Receipt.TheInside.{Inside}

-- an event, the receiver's program, the number of a view in its table, and the cast of a frame that joined
pub record Receipt : Type 0 where
  pub event : Event
  pub program : Program
  pub view : ℕ
  pub cast : Option Cast

-- the receipt that is kept
abbrev pub receipt_of : Inside → Receipt
receipt_of r = record { event = event_of r.event; program = r.program.now; view = r.view; cast = r.cast }

-- its program's table has the view
abbrev pub HoldsReceipt : Inside → Type 0
HoldsReceipt r = r.view < length r.program.now.views

-- the walk, along edges of the graph, shows the receiver the receipt's view
pub record IsWalkOf (r : Receipt) (walk : List ℕ) : Type 0 where
  pub view : View
  pub is_view : slice_get r.program.views r.view ≡ Some view
  pub example : IsExample r.program.graph r.program.role view walk
  pub edges : All (λ e. e < length r.program.graph.edges) walk

-- the receipt is of the session for which the frame is, by its program, and its view is what the frame shows since the session's own last label
pub record IsReceiptAt (n : Node) (f : Frame) (r : Receipt) : Type 0 where
  pub session : Session
  pub is_session : session_of_frame n f ≡ Some (r.program, session)
  pub view : slice_get r.program.views r.view ≡ Some (record { origin = origin session; items = map seen f.items })
