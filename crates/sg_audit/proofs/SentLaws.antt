-- The walk that the sends of honest roles alone make.
use Rattle.std.proofs.Common.{◌≡◌, ℕ, zero, suc, ◌<◌, Bool, true, false, ◌&&◌, List, [], ◌∷◌, ◌++◌, map, length, get_or, refl, sym, ap, ◌∙◌, subst, arith}
use Rattle.std.specs.Prelude.{Option, flat_map, All}
use Rattle.std.specs.List.{AllByRecursion}
use Rattle.sg_model.specs.Last.{Map, merge}
use Rattle.std.proofs.lemmas.List.Elements.{All-head, All-tail}
use Rattle.sg_model.specs.Shape.{Walk, Arrow, sender, receiver, source, target}
use Rattle.sg_model.specs.Values.{Value}
use Rattle.sg_model.proofs.Small.{length_map}
use Rattle.sg_protocol.specs.Graph.{Graph, Node, Edge, IsGraph, shape, reads}
use Rattle.sg_protocol.specs.Calls.{Event, Started, Sent, Received}
use Rattle.sg_protocol.specs.Walk.{StoredStep, Act, Sends, Receives, OnePath, act_if, acts_of_event, counts, honest_acts, labels, shown, stored}
use Rattle.sg_audit.specs.Sent.{sent_steps}

-- the steps that are sent
abbrev steps_sent : List Act → List StoredStep
steps_sent [] = []
steps_sent (Sends r label values ∷ acts) = record { label = label; writes = values } ∷ steps_sent acts
steps_sent (Receives r label values ∷ acts) = steps_sent acts

sent_events : (es : List Event) → steps_sent (flat_map acts_of_event es) ≡ sent_steps es
sent_events [] = refl
sent_events (Started sid r ∷ es) = sent_events es
sent_events (Sent sid r label time values ∷ es) = ap (λ ss. record { label = label; writes = shown values } ∷ ss) (sent_events es)
sent_events (Received sid r label time values joins ∷ es) = sent_events es

past_receipt : (b : Bool) (r label : ℕ) (values : Map (Option Value)) (acts : List Act) → steps_sent (act_if b (Receives r label values) ++ acts) ≡ steps_sent acts
past_receipt true r label values acts = refl
past_receipt false r label values acts = refl

sent_acts : (g : Graph) (honest : ℕ → Bool) (taken : Bool) (store : Map (Option Value)) (ss : List StoredStep) → AllByRecursion (λ s. honest (sender (shape g) s.label) ≡ true) ss
    → steps_sent (honest_acts g honest taken store ss) ≡ ss
sent_acts g honest taken store [] h = refl
sent_acts g honest taken store (s ∷ ss) h =
    rw h.0 (ap (λ rest. s ∷ rest) (past_receipt (honest (receiver (shape g) s.label) && counts taken ss) (receiver (shape g) s.label) s.label (stored (merge store s.writes) (reads g s.label)) (honest_acts g honest taken (merge store s.writes) ss) ∙ sent_acts g honest taken (merge store s.writes) ss h.1))

-- ---- senders are roles of the graph

at_map : {A B : Type 0} (P : B → Type 0) (Q : A → Type 0) (f : A → B) (xs : List A) → ((a : A) → Q a → P (f a)) → All Q xs → (i : ℕ) (d : B) → i < length xs → P (get_or (map f xs) i d)
at_map P Q f [] h a i d l = absurd (omega arith)
at_map P Q f (x ∷ xs) h a zero d l = h x (All-head Q x xs a)
at_map P Q f (x ∷ xs) h a (suc i) d l = at_map P Q f xs h (All-tail Q x xs a) i d (omega arith)

sender_small : (g : Graph) → IsGraph g → (e : ℕ) → e < length g.edges → sender (shape g) e < length g.roles
sender_small g is e l =
    at_map (λ r. r < length g.roles) (λ (n : Node). n.role < length g.roles) (λ (n : Node). n.role) g.nodes (λ n h. h) is.roles (source (shape g) e) 0
    (at_map (λ (a : Arrow). a.source < length g.nodes) (λ (d : Edge). (d.source < length g.nodes) × (d.target < length g.nodes)) (λ (d : Edge). record { source = d.source; target = d.target; writes = d.writes; reads = d.reads }) g.edges (λ d h. h.0) is.ends e
    (record { source = 0; target = 0; writes = []; reads = [] }) l)

walked_senders : (g : Graph) (honest : ℕ → Bool) → IsGraph g → ((r : ℕ) → r < length g.roles → honest r ≡ true) → (m : ℕ) (ss : List StoredStep) → Walk (shape g) m (labels ss)
    → AllByRecursion (λ s. honest (sender (shape g) s.label) ≡ true) ss
walked_senders g honest is h m [] w = tt
walked_senders g honest is h m (s ∷ ss) w = (
  h (sender (shape g) s.label) (sender_small g is s.label (subst (λ n. s.label < n) (length_map (λ (d : Edge). record { source = d.source; target = d.target; writes = d.writes; reads = d.reads }) g.edges) w.0)),
  walked_senders g honest is h (target (shape g) s.label) ss w.2,
)

-- if all roles are honest, the steps of a walk that explains events are those that the events send
pub sends_alone : (g : Graph) (honest : ℕ → Bool) (es : List Event) (ss : List StoredStep) → IsGraph g → ((r : ℕ) → r < length g.roles → honest r ≡ true) → OnePath g honest es ss → ss ≡ sent_steps es
sends_alone g honest es ss is h p =
    sym (sent_acts g honest p.taken [] ss (walked_senders g honest is h 0 ss p.walk.walk)) ∙ sym (ap steps_sent p.explained) ∙ sent_events es
