-- Several principals' pasts, and the record of the steps that were taken.
use Rattle.std.specs.Prelude.{ℕ, List, [], ◌∷◌, ◌==◌, if◌then◌else◌, map, Option, Some, None, bytes_eq, take, ◌-◌, filter_map, option_map, find, slice_get, set, bit_xor}
use Rattle.std.specs.Option.{option_map_or}
use Rattle.sg_model.specs.Names.{Name}
use Rattle.sg_model.specs.Values.{Value}
use Rattle.sg_protocol.specs.Texts.{Hash}
use Rattle.sg_protocol.specs.Keyring.{Peer, Keyring, Program}
use Rattle.sg_protocol.specs.Calls.{Call, Answer, Act, Start, Abandon, Deliver}
use Rattle.sg_protocol.specs.Notes.{Notes}
use Rattle.sg_protocol.specs.Past.{Past}
use Rattle.sg_protocol.specs.Schedule.{PairKey, What, Step, Schedule, cast_of, sid_at, confounder, Whole, Flipped, Cut, Bytes, StartStep, ActStep, AbandonStep, DeliverStep, CraftStep}

-- what a step brought about
pub data Outcome : Type 0 where
  Answered : Answer → Outcome
  Crafted : Outcome
  NoFrame : Outcome

-- a step that was taken: its number, the principal and the call if there is one, the outcome, the frame recorded, and what was noted
pub record Logged : Type 0 where
  pub number : ℕ
  pub who : Option Name
  pub call : Option Call
  pub outcome : Outcome
  pub frame : Option (List ℕ)
  pub notes : Notes

-- the past of each honest principal, and the steps that were taken
pub record World : Type 0 where
  pub pasts : List Past
  pub log : List Logged

-- the recorded frames in order, the first one f1
abbrev pub frames : World → List (List ℕ)
frames w = filter_map (λ l. l.frame) w.log

-- the recorded frame of a number
abbrev pub frame_at : World → ℕ → Option (List ℕ)
frame_at w n = if n == 0 then None else slice_get (frames w) (n - 1)

-- the past of a principal
abbrev pub past_of : World → Name → Option Past
past_of w who = find (λ p. bytes_eq p.keys.me who) w.pasts

-- ---- a new world

-- a principal with whom a key is shared
abbrev pub peer : Name → List ℕ → Peer
peer name key = record { name = name; ip = 0 ∷ 0 ∷ 0 ∷ 0 ∷ []; port = 0; key = key }

-- the other principal of a pair
abbrev pub shared : Name → PairKey → Option Peer
shared me k = if bytes_eq k.one me then Some (peer k.two k.key) else (if bytes_eq k.two me then Some (peer k.one k.key) else None)

-- the keys of the principal's pairs
abbrev pub keyring_of : List PairKey → Name → Keyring
keyring_of keys me = record { me = me; ip = 0 ∷ 0 ∷ 0 ∷ 0 ∷ []; port = 0; peers = filter_map (shared me) keys }

-- a new node for each honest principal, and no step taken
abbrev pub new_world : List Program → Schedule → World
new_world programs s = record {
  pasts = map (λ me. record { keys = keyring_of s.keys me; programs = programs; first = []; calls = [] }) s.honest;
  log = [];
}

-- ---- the call of a step

-- the lowest bit of the byte at the offset is flipped
abbrev pub flipped : ℕ → List ℕ → List ℕ
flipped at bs = option_map_or (λ b. set bs at (bit_xor b 1)) (slice_get bs at) bs

-- the bytes that are delivered
abbrev pub bytes_of : World → What → Option (List ℕ)
bytes_of w (Whole n) = frame_at w n
bytes_of w (Flipped n at) = option_map (flipped at) (frame_at w n)
bytes_of w (Cut n len) = option_map (take len) (frame_at w n)
bytes_of w (Bytes bs) = Some bs

-- the call that step k makes at a node, or None if there is no such frame
abbrev pub call_of : Hash → Schedule → World → ℕ → Step → Option Call
call_of sha s w k (StartStep who n) = option_map Start (cast_of s n)
call_of sha s w k (ActStep who n label values) = Some (Act (sid_at sha s n) label values (map (λ (v : ℕ × Value). confounder k v.0) values))
call_of sha s w k (AbandonStep who n) = Some (Abandon (sid_at sha s n))
call_of sha s w k (DeliverStep who what) = option_map Deliver (bytes_of w what)
call_of sha s w k (CraftStep c) = None
