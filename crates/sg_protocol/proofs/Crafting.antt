-- A craft makes the same in another schedule and another world, if its tags, its graph and its cast are the same there.
use Rattle.std.specs.Prelude.{◌≡◌, ℕ, List, [], ◌∷◌, ◌++◌, map, refl, Option, Some, None, option_map, option_and_then}
use Rattle.std.proofs.Common.{sym, ◌∙◌, ap}
use Rattle.sg_model.specs.Last.{Map}
use Rattle.sg_protocol.specs.Crafted.{tag_by, crafted_item, crafted_items, known_item, crafted_cast, crafted_frame, crafted}
use Rattle.sg_protocol.specs.Frame.{Cast, Item, Frame}
use Rattle.sg_protocol.specs.Graph.{Graph}
use Rattle.sg_protocol.specs.Schedule.{Schedule, Source, CraftItem, Craft, graph_with, cast_of}
use Rattle.sg_protocol.specs.Sending.{text_to, text_of}
use Rattle.sg_protocol.specs.Session.{Session, new_session}
use Rattle.sg_protocol.specs.Texts.{Hash, cut, session_id}
use Rattle.sg_protocol.specs.World.{World}

module _ (sha : Hash) (s t : Schedule) (w w' : World) (tag_same : (text : List ℕ) (x : Source) → tag_by sha s w text x ≡ tag_by sha t w' text x) where
  tags_same : (text : ℕ → List ℕ) (v : ℕ) (ts : Map Source) → map {B = ℕ × List ℕ} (λ (t : ℕ × Source). (t.0, cut v (tag_by sha s w (text t.0) t.1))) ts ≡ map {B = ℕ × List ℕ} (λ (u : ℕ × Source). (u.0, cut v (tag_by sha t w' (text u.0) u.1))) ts
  tags_same text v [] = refl
  tags_same text v (x ∷ xs) =
      ap (λ (z : List ℕ). (x.0, cut v z) ∷ map {B = ℕ × List ℕ} (λ (t : ℕ × Source). (t.0, cut v (tag_by sha s w (text t.0) t.1))) xs) (tag_same (text x.0) x.1)
      ∙ ap (λ l. (x.0, cut v (tag_by sha t w' (text x.0) x.1)) ∷ l) (tags_same text v xs)

  item_same : (g : Graph) (x : Session) (before : List Item) (c : CraftItem) → crafted_item sha s w g x before c ≡ crafted_item sha t w' g x before c
  item_same g x before c =
      let i : Item = record (crafted_item sha s w g x before c) { tags = [] } in
      ap (λ (ts : Map (List ℕ)). record i { tags = ts }) (tags_same (text_to g x before i) x.cast.version c.tags)

  items_same : (g : Graph) (x : Session) (before : List Item) (cs : List CraftItem) → crafted_items sha s w g x before cs ≡ crafted_items sha t w' g x before cs
  items_same g x before [] = refl
  items_same g x before (c ∷ cs) =
      ap (λ (i : Item). i ∷ crafted_items sha s w g x (before ++ i ∷ []) cs) (item_same g x before c)
      ∙ ap (λ l. crafted_item sha t w' g x before c ∷ l) (items_same g x (before ++ crafted_item sha t w' g x before c ∷ []) cs)

  -- so in a graph and a session
  pub frame_same : (c : Craft) (g : Graph) (x : Session) → crafted_frame sha s w c g x ≡ crafted_frame sha t w' c g x
  frame_same c g x =
      ap finish (items_same g x (known_item sha x.sid c.know ∷ []) c.items)
      ∙ ap (λ (z : List ℕ). record (plain (crafted_items sha t w' g x (known_item sha x.sid c.know ∷ []) c.items)) { tag = cut x.cast.version z }) (tag_same (text_of (plain (crafted_items sha t w' g x (known_item sha x.sid c.know ∷ []) c.items))) c.seal)
    where
      plain : List Item → Frame
      plain is = record {
        version = x.cast.version;
        sid = x.sid;
        sender = c.from;
        receiver = c.to;
        join = option_map (crafted_cast x.cast) c.join;
        items = is;
        openings = c.openings;
        tag = [];
      }

      finish : List Item → Frame
      finish is = record (plain is) { tag = cut x.cast.version (tag_by sha s w (text_of (plain is)) c.seal) }

  -- the session may have another number there
  pub crafted_same : s.graphs ≡ t.graphs → (c : Craft) (n : ℕ) → cast_of t n ≡ cast_of s c.session → crafted sha s w c ≡ crafted sha t w' (record c { session = n })
  crafted_same graphs c n e = by_cast (cast_of s c.session) ∙ ap (option_and_then by) (sym e)
    where
      by : Cast → Option Frame
      by d = option_map (λ g. crafted_frame sha t w' c g (new_session (session_id sha d) d c.from)) (graph_with sha t.graphs d.graph)

      by_graph : (d : Cast) (o : Option Graph) → option_map (λ g. crafted_frame sha s w c g (new_session (session_id sha d) d c.from)) o ≡ option_map (λ g. crafted_frame sha t w' c g (new_session (session_id sha d) d c.from)) o
      by_graph d None = refl
      by_graph d (Some g) = ap (λ (f : Frame). Some f) (frame_same c g (new_session (session_id sha d) d c.from))

      by_cast : (o : Option Cast) → option_and_then (λ (d : Cast). option_map (λ g. crafted_frame sha s w c g (new_session (session_id sha d) d c.from)) (graph_with sha s.graphs d.graph)) o ≡ option_and_then by o
      by_cast None = refl
      by_cast (Some d) = by_graph d (graph_with sha s.graphs d.graph) ∙ ap (λ gs. option_map (λ g. crafted_frame sha t w' c g (new_session (session_id sha d) d c.from)) (graph_with sha gs d.graph)) graphs
