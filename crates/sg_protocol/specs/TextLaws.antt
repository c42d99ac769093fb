-- The texts that are hashed or tagged are read back in one way only.
use Rattle.std.specs.Prelude.{FitsSigned, ◌≡◌, ◌≢◌, ◌⊎◌, ◌<◌, ◌^◌, ℕ, List, [], ◌∷◌, ◌++◌, length, Option, IfSome}
use Rattle.std.specs.List.{AllByRecursion}
use Rattle.std.specs.Int.{w64}
use Rattle.sg_protocol.specs.Graph.{Graph, IsGraph, canonical}
use Rattle.sg_model.specs.Values.{Value, IntValue, TextValue, Opening}
use Rattle.sg_protocol.specs.Frame.{Cast, Frame, Item}
use Rattle.sg_protocol.specs.Spelling.{HasSpelling, body}
use Rattle.sg_protocol.specs.Texts.{graph_text_of, session_text_of, commitment_text_of, item_text_of, frame_text_of}
use Rattle.sg_protocol.specs.Session.{Session, commitments}
use Rattle.sg_protocol.specs.Sending.{text_to}

-- ---- ranges: what a text does not say itself

-- 1 or 2
abbrev pub IsVersion : ℕ → Type 0
IsVersion v = (v ≡ 1) ⊎ (v ≡ 2)

-- a number in the range of an i64, or a text whose length has four bytes
abbrev pub ValueFits : Value → Type 0
ValueFits (IntValue z) = FitsSigned w64 z
ValueFits (TextValue t) = length t < 2 ^ 32

-- a cast whose session text can be read
pub record CastFits (c : Cast) : Type 0 where
  pub version : IsVersion c.version
  pub graph : length c.graph ≡ 32
  pub nonce : length c.nonce ≡ 16

-- an opening whose commitment text can be read
pub record OpeningFits (o : Opening) : Type 0 where
  pub confounder : length o.confounder ≡ 16
  pub value : ValueFits o.value

-- each commitment that is there has 32 bytes
abbrev pub AreHeld : List (Option (List ℕ)) → Type 0
AreHeld held = AllByRecursion (λ o. IfSome o (λ c. length c ≡ 32)) held

-- what an item text can be read of: version, session, label, time and commitments
pub record ItemFits (v : ℕ) (s : List ℕ) (l i : ℕ) (h : List (Option (List ℕ))) : Type 0 where
  pub version : IsVersion v
  pub sid : length s ≡ 32
  pub label : l < 2 ^ 16
  pub time : i < 2 ^ 32
  pub held : AreHeld h

-- each new commitment has 32 bytes
abbrev pub DeltaFits : Item → Type 0
DeltaFits i = AllByRecursion (λ (d : ℕ × List ℕ). length d.1 ≡ 32) i.delta

-- a session, and an item after others, of which the text to a role can be read
pub record TextFits (s : Session) (before : List Item) (i : Item) : Type 0 where
  pub version : IsVersion s.cast.version
  pub sid : length s.sid ≡ 32
  pub label : i.label < 2 ^ 16
  pub time : i.time < 2 ^ 32
  pub before_fits : AllByRecursion DeltaFits before
  pub item_fits : DeltaFits i

-- the frame, with no tag
abbrev pub untagged : Frame → Frame
untagged f = record { version = f.version; sid = f.sid; sender = f.sender; receiver = f.receiver; join = f.join; items = f.items; openings = f.openings; tag = [] }

-- ---- the laws

-- a session text is of one cast
abbrev pub OneCast : Type 0
OneCast = (c d : Cast) → CastFits c → CastFits d → session_text_of c ≡ session_text_of d → c ≡ d

-- a commitment text is of one session identifier and one opening
abbrev pub OneOpening : Type 0
OneOpening = (s t : List ℕ) (o p : Opening) → length s ≡ 32 → length t ≡ 32 → OpeningFits o → OpeningFits p → commitment_text_of s o ≡ commitment_text_of t p → (s ≡ t) × (o ≡ p)

-- what two item texts say is the same
pub record SameItem (v w : ℕ) (s t : List ℕ) (from_v from_w to_v to_w label_v label_w time_v time_w : ℕ) (held_v held_w : List (Option (List ℕ))) : Type 0 where
  pub version : v ≡ w
  pub sid : s ≡ t
  pub sender : from_v ≡ from_w
  pub target : to_v ≡ to_w
  pub label : label_v ≡ label_w
  pub time : time_v ≡ time_w
  pub held : held_v ≡ held_w

-- an item text is of one version, session, sender, target, label, time and list of commitments
abbrev pub OneItem : Type 0
OneItem = (v w : ℕ) (s t : List ℕ) (a b c d l m i j : ℕ) (h k : List (Option (List ℕ))) → ItemFits v s l i h → ItemFits w t m j k →
    item_text_of v s a c l i h ≡ item_text_of w t b d m j k → SameItem v w s t a b c d l m i j h k

-- what an item says to a role is of one session identifier, sender, target, step and list of commitments
abbrev pub OneTextTo : Type 0
OneTextTo = (g h : Graph) (s t : Session) (before before' : List Item) (i j : Item) (a b : ℕ) → TextFits s before i → TextFits t before' j → text_to g s before i a ≡ text_to h t before' j b →
    SameItem s.cast.version t.cast.version s.sid t.sid i.role j.role a b i.label j.label i.time j.time (commitments g (before ++ i ∷ [])) (commitments h (before' ++ j ∷ []))

-- a frame text is of one version and one text before the tag
abbrev pub OneBody : Type 0
OneBody = (v w : ℕ) (b c : List ℕ) → IsVersion v → IsVersion w → frame_text_of v b ≡ frame_text_of w c → (v ≡ w) × (b ≡ c)

-- a frame text is of one frame, except for its tag
abbrev pub OneFrame : Type 0
OneFrame = (v w : ℕ) (f g : Frame) → HasSpelling f → HasSpelling g → frame_text_of v (body f) ≡ frame_text_of w (body g) → untagged f ≡ untagged g

-- a graph text is of one canonical text
abbrev pub OneCanonical : Type 0
OneCanonical = (g h : Graph) → graph_text_of g ≡ graph_text_of h → canonical g ≡ canonical h

-- a graph text is of one graph
abbrev pub OneGraph : Type 0
OneGraph = (g h : Graph) → IsGraph g → IsGraph h → graph_text_of g ≡ graph_text_of h → g ≡ h

-- texts of different kinds differ, whatever their versions and ranges
pub record KindsDiffer : Type 0 where
  pub graph_session : (g : Graph) (c : Cast) → graph_text_of g ≢ session_text_of c
  pub graph_commitment : (g : Graph) (s : List ℕ) (o : Opening) → graph_text_of g ≢ commitment_text_of s o
  pub graph_item : (g : Graph) (v : ℕ) (s : List ℕ) (a b l i : ℕ) (h : List (Option (List ℕ))) → graph_text_of g ≢ item_text_of v s a b l i h
  pub graph_frame : (g : Graph) (w : ℕ) (bs : List ℕ) → graph_text_of g ≢ frame_text_of w bs
  pub session_commitment : (c : Cast) (s : List ℕ) (o : Opening) → session_text_of c ≢ commitment_text_of s o
  pub session_item : (c : Cast) (v : ℕ) (s : List ℕ) (a b l i : ℕ) (h : List (Option (List ℕ))) → session_text_of c ≢ item_text_of v s a b l i h
  pub session_frame : (c : Cast) (w : ℕ) (bs : List ℕ) → session_text_of c ≢ frame_text_of w bs
  pub commitment_item : (s : List ℕ) (o : Opening) (v : ℕ) (t : List ℕ) (a b l i : ℕ) (h : List (Option (List ℕ))) → commitment_text_of s o ≢ item_text_of v t a b l i h
  pub commitment_frame : (s : List ℕ) (o : Opening) (w : ℕ) (bs : List ℕ) → commitment_text_of s o ≢ frame_text_of w bs
  pub item_frame : (v : ℕ) (s : List ℕ) (a b l i : ℕ) (h : List (Option (List ℕ))) (w : ℕ) (bs : List ℕ) → item_text_of v s a b l i h ≢ frame_text_of w bs

-- texts of one kind and two versions differ, whatever else they say
pub record VersionsDiffer : Type 0 where
  pub session : (c d : Cast) → IsVersion c.version → IsVersion d.version → session_text_of c ≡ session_text_of d → c.version ≡ d.version
  pub item : (v w : ℕ) (s t : List ℕ) (a b c d l m i j : ℕ) (h k : List (Option (List ℕ))) → IsVersion v → IsVersion w →
      item_text_of v s a c l i h ≡ item_text_of w t b d m j k → v ≡ w
  pub frame : (v w : ℕ) (b c : List ℕ) → IsVersion v → IsVersion w → frame_text_of v b ≡ frame_text_of w c → v ≡ w
