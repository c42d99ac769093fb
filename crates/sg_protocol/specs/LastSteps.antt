-- What an accepted frame shows.
use Rattle.std.specs.Prelude.{◌≡◌, ℕ, List, [], ◌∷◌, ◌==◌, Bool, true, ◌&&◌, if◌then◌else◌, map, filter, Option, Some, None, bytes_eq, ◌++◌, flat_map, filter_map}
use Rattle.std.specs.List.{list_any}
use Rattle.std.specs.Option.{option_map_or}
use Rattle.std.specs.Result.{result_ok}
use Rattle.sg_model.specs.Last.{last, up_to_last, last_of, after_last}
use Rattle.sg_model.specs.Names.{Name}
use Rattle.sg_protocol.specs.Graph.{Graph}
use Rattle.sg_protocol.specs.Frame.{Cast, Item, Frame}
use Rattle.sg_protocol.specs.Reading.{read}
use Rattle.sg_protocol.specs.Texts.{Hash}
use Rattle.sg_protocol.specs.Keyring.{Program}
use Rattle.sg_protocol.specs.Session.{Exchange, principal, items_of, commitments, Took, Gave}
use Rattle.sg_protocol.specs.Calls.{sid_of, role_of, Call, Answer, events_of_answer, Act, Deliver, Happened, Sends}
use Rattle.sg_protocol.specs.Acting.{openings_for}
use Rattle.sg_protocol.specs.Past.{AnsweredCall, Past}
use Rattle.sg_protocol.specs.Schedule.{Schedule, graph_with, honest_role}
use Rattle.sg_protocol.specs.World.{Outcome, Logged, World, past_of, Answered}
use Rattle.sg_protocol.specs.Run.{run, cast_of_session}
use Rattle.sg_protocol.specs.Premises.{Premises}
use Rattle.sg_protocol.specs.Beginnings.{first_steps}
use Rattle.sg_protocol.specs.IsSchedule.{AreCompiled, IsSchedule}
use Rattle.sg_protocol.specs.Receipts.{IsTaken}

-- what a call that was answered so gave and took, in any session
abbrev pub exchanges_in : Call → Answer → List Exchange
exchanges_in (Deliver bs) (Happened e) = option_map_or (λ f. Took f ∷ []) (result_ok (read bs)) []
exchanges_in (Act sid label values confounders) (Sends e to f) = option_map_or (λ i. Gave i (openings_for values confounders) ∷ []) (last f.items) []
exchanges_in call other = []

-- the call had an event of this pair of sid and role
abbrev pub is_of : List ℕ → ℕ → AnsweredCall → Bool
is_of sid r c = list_any (λ e. bytes_eq (sid_of e) sid && (role_of e == r)) (events_of_answer c.answer)

-- all exchanges of a pair of sid and role, those of sessions that are over among them
abbrev pub exchanges_of : List ℕ → ℕ → List AnsweredCall → List Exchange
exchanges_of sid r calls = flat_map (λ c. exchanges_in c.call c.answer) (filter (is_of sid r) calls)

-- the own item that a step sent
abbrev pub sent_item : List ℕ → Outcome → Option Item
sent_item sid (Answered (Sends e to f)) = if bytes_eq (sid_of e) sid then last f.items else None
sent_item sid other = None

-- the own items that honest roles sent in a session, in the order of the run
abbrev pub honest_items : List ℕ → List Logged → List Item
honest_items sid log = filter_map (λ l. sent_item sid l.outcome) log

-- a step without its commitments and tags
pub record Bare : Type 0 where
  pub role : ℕ
  pub label : ℕ
  pub time : ℕ

-- an item without its commitments and tags
abbrev pub bare : Item → Bare
bare i = record { role = i.role; label = i.label; time = i.time }

-- the sender of an item, when it had sent it, held these commitments
abbrev pub HeldBySender : World → Graph → Cast → List ℕ → Item → List (Option (List ℕ)) → Type 0
HeldBySender w g cast sid i held = (past : Past) × (before : List Item) × (i' : Item) × (after : List Item) ×
    (past_of w (principal cast i.role) ≡ Some past) × (flat_map items_of (exchanges_of sid i.role past.calls) ≡ before ++ i' ∷ after) × (bare i' ≡ bare i) × (held ≡ commitments g (before ++ i' ∷ []))

-- the frame's items of honest senders are their last steps in the log since the receiver's own last one, and after each of them the receiver, who held the items before, holds the commitments that its sender held
pub record ShowsLastSteps (s : Schedule) (w : World) (g : Graph) (cast : Cast) (f : Frame) (before : List Item) : Type 0 where
  pub items : map bare (filter (λ i. honest_role s cast i.role) f.items) ≡ map bare (last_of (λ i. i.role) (after_last (λ i. i.role) f.receiver (honest_items f.sid w.log)))
  pub held : (prefix : List Item) (i : Item) (rest : List Item) → f.items ≡ prefix ++ i ∷ rest → honest_role s cast i.role ≡ true → HeldBySender w g cast f.sid i (commitments g (before ++ prefix ++ i ∷ []))

-- If the assumptions hold, what an accepted frame shows of honest senders is what they last did up to that step, and the receiver holds what they held
abbrev pub FramesShowLastSteps : Hash → Type 0
FramesShowLastSteps sha = (programs : List Program) (s : Schedule) (who : Name) (bs : List ℕ) (f : Frame) (l : Logged) (cast : Cast) (g : Graph) (past : Past) →
    AreCompiled sha s.graphs programs → IsSchedule sha s → Premises sha s (run sha programs s) → IsTaken (run sha programs s) l who bs f →
    -- the run up to the acceptance
    let w = run sha programs (first_steps l.number s) in
    cast_of_session f.sid w.log ≡ Some cast → graph_with sha s.graphs cast.graph ≡ Some g → past_of w who ≡ Some past →
    ShowsLastSteps s w g cast f (up_to_last (λ i. i.role) f.receiver (flat_map items_of (exchanges_of f.sid f.receiver past.calls)))
