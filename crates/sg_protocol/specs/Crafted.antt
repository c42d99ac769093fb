-- The frame that a compromised principal makes.
use Rattle.std.specs.Prelude.{ℕ, List, [], ◌∷◌, ◌==◌, ◌&&◌, if◌then◌else◌, map, Option, None, bytes_eq, ◌++◌, ◌-◌, replicate, option_map, ◌||◌, option_and_then, unwrap_or, find, slice_get}
use Rattle.std.specs.Option.{option_map_or}
use Rattle.std.specs.Result.{result_ok}
use Rattle.sg_model.specs.Last.{Map}
use Rattle.sg_model.specs.Lists.{value_at}
use Rattle.sg_model.specs.Names.{Name}
use Rattle.sg_model.specs.Shape.{sender}
use Rattle.sg_model.specs.Values.{Opening}
use Rattle.sg_protocol.specs.Graph.{Graph, shape}
use Rattle.sg_protocol.specs.Frame.{Cast, Item, Frame}
use Rattle.sg_protocol.specs.Spelling.{u64}
use Rattle.sg_protocol.specs.Reading.{read}
use Rattle.sg_protocol.specs.Texts.{Hash, hmac, cut, session_id, commitment}
use Rattle.sg_protocol.specs.Session.{Session, new_session}
use Rattle.sg_protocol.specs.Sending.{text_to, text_of}
use Rattle.sg_protocol.specs.Schedule.{PairKey, Source, CraftJoin, CraftItem, Craft, Schedule, cast_of, graph_with, Key, CopyItem, CopySeal, Zero}
use Rattle.sg_protocol.specs.World.{World, frame_at}

-- ---- tags

-- 32 bytes of 0
abbrev pub no_tag : List ℕ
no_tag = replicate 32 0

-- the key of two principals
abbrev pub pair_key : List PairKey → Name → Name → List ℕ
pair_key keys a b = option_map_or (λ k. k.key) (find (λ k. bytes_eq k.one a && bytes_eq k.two b || bytes_eq k.one b && bytes_eq k.two a) keys) []

-- the recorded frame of a number, read
abbrev pub frame_read : World → ℕ → Option Frame
frame_read w n = option_and_then (λ bs. result_ok (read bs)) (frame_at w n)

-- the tag of a source on a text
abbrev pub tag_by : Hash → Schedule → World → List ℕ → Source → List ℕ
tag_by sha s w text (Key a b) = hmac sha (pair_key s.keys a b) text
tag_by sha s w text (CopyItem n i r) = unwrap_or (option_and_then (λ f. option_and_then (λ item. value_at item.tags r) (if i == 0 then None else slice_get f.items (i - 1))) (frame_read w n)) no_tag
tag_by sha s w text (CopySeal n) = option_map_or (λ f. f.tag) (frame_read w n) no_tag
tag_by sha s w text Zero = no_tag

-- ---- items

-- the commitments of openings
abbrev pub committed_to : Hash → List ℕ → List Opening → Map (List ℕ)
committed_to sha sid os = map (λ o. (o.variable, commitment sha sid o)) os

-- the crafted item, after the items before it
abbrev pub crafted_item : Hash → Schedule → World → Graph → Session → List Item → CraftItem → Item
crafted_item sha s w g session before c =
    let i : Item = record { role = sender (shape g) c.label; label = c.label; time = c.time; delta = committed_to sha session.sid c.delta; tags = [] } in
    record i { tags = map (λ (t : ℕ × Source). (t.0, cut session.cast.version (tag_by sha s w (text_to g session before i t.0) t.1))) c.tags }

-- the crafted items in order
abbrev pub crafted_items : Hash → Schedule → World → Graph → Session → List Item → List CraftItem → List Item
crafted_items sha s w g session before [] = []
crafted_items sha s w g session before (c ∷ cs) =
    let i = crafted_item sha s w g session before c in
    i ∷ crafted_items sha s w g session (before ++ i ∷ []) cs

-- what the crafted commitments begin with
abbrev pub known_item : Hash → List ℕ → List Opening → Item
known_item sha sid know = record { role = 0; label = 0; time = 0; delta = committed_to sha sid know; tags = [] }

-- ---- frames

-- a nonce in the last eight of sixteen bytes
abbrev pub nonce_of : ℕ → List ℕ
nonce_of n = replicate 8 0 ++ u64 n

-- the cast, with another nonce or other names
abbrev pub crafted_cast : Cast → CraftJoin → Cast
crafted_cast c j = record c { nonce = option_map_or nonce_of j.nonce c.nonce; names = unwrap_or j.names c.names }

-- the frame that a craft makes, in a graph and a session
abbrev pub crafted_frame : Hash → Schedule → World → Craft → Graph → Session → Frame
crafted_frame sha s w c g session =
    let f : Frame = record {
      version = session.cast.version;
      sid = session.sid;
      sender = c.from;
      receiver = c.to;
      join = option_map (crafted_cast session.cast) c.join;
      items = crafted_items sha s w g session (known_item sha session.sid c.know ∷ []) c.items;
      openings = c.openings;
      tag = [];
    } in
    record f { tag = cut session.cast.version (tag_by sha s w (text_of f) c.seal) }

-- the frame that a craft makes, if its session is declared
abbrev pub crafted : Hash → Schedule → World → Craft → Option Frame
crafted sha s w c = option_and_then (λ (cast : Cast).
    option_map (λ g. crafted_frame sha s w c g (new_session (session_id sha cast) cast c.from)) (graph_with sha s.graphs cast.graph))
    (cast_of s c.session)
