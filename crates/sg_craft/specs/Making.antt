-- How a craft's frame comes about, part by part.
use Rattle.std.specs.Prelude.{ℕ, List, [], ◌∷◌, map, set, Option, Some}
use Rattle.sg_model.specs.Last.{Map}
use Rattle.sg_model.specs.Shape.{sender}
use Rattle.sg_protocol.specs.Graph.{shape}
use Rattle.sg_protocol.specs.Frame.{Item, Frame}
use Rattle.sg_protocol.specs.Sending.{text_of}
use Rattle.sg_protocol.specs.Texts.{real, cut, item_text_of}
use Rattle.sg_protocol.specs.Schedule.{Source, CraftItem}
use Rattle.sg_protocol.specs.Crafted.{committed_to, tag_by, no_tag}
use Rattle.sg_craft.specs.Means.{Means, with_keys, with_frames}

-- the current commitments, overwritten at each variable by its first pair
abbrev pub with_first_pairs : List (Option (List ℕ)) → Map (List ℕ) → List (Option (List ℕ))
with_first_pairs current [] = current
with_first_pairs current (d ∷ ds) = set (with_first_pairs current ds) d.0 (Some d.1)

-- the item before its tags
abbrev pub plain_item : Means → CraftItem → Item
plain_item m c = record { role = sender (shape m.graph) c.label; label = c.label; time = c.time; delta = committed_to real m.sid c.delta; tags = [] }

-- the tag of a source for a role, on what the item says over these commitments
abbrev pub tag_made : Means → CraftItem → List (Option (List ℕ)) → ℕ × Source → ℕ × List ℕ
tag_made m c current t =
    (t.0, cut m.cast.version (tag_by real (with_keys m.keys) (with_frames m.frames) (item_text_of m.cast.version m.sid (sender (shape m.graph) c.label) t.0 c.label c.time current) t.1))

-- the item with its tags, over these commitments
abbrev pub item_by : Means → List (Option (List ℕ)) → CraftItem → Item
item_by m current c = let i = plain_item m c in record i { tags = map (tag_made m c current) c.tags }

-- the item with zeros for its tags
abbrev pub zero_item : Means → CraftItem → Item
zero_item m c = let i = plain_item m c in record i { tags = map (λ (t : ℕ × Source). (t.0, no_tag)) c.tags }

-- the tag of a frame, of this source
abbrev pub seal_made : Means → Frame → Source → List ℕ
seal_made m f seal = cut m.cast.version (tag_by real (with_keys m.keys) (with_frames m.frames) (text_of f) seal)
