-- What a craft makes in a run is what it makes by its means.
use Rattle.std.proofs.Common.{◌≡◌, ℕ, ◌-◌, ◌==◌, List, [], ◌∷◌, slice_get, if◌then◌else◌, Some, None, option_map, option_and_then, unwrap_or, refl, sym, ap, subst, ◌∙◌}
use Rattle.std.specs.Option.{option_map_or}
use Rattle.std.specs.Prelude.{IsSomeAnd}
use Rattle.std.specs.Result.{result_ok}
use Rattle.sg_model.specs.Lists.{value_at}
use Rattle.sg_protocol.specs.Crafted.{tag_by, frame_read, no_tag, crafted_frame, crafted}
use Rattle.sg_protocol.specs.Frame.{Cast, Item, Frame}
use Rattle.sg_protocol.specs.Graph.{Graph}
use Rattle.sg_protocol.specs.IsSchedule.{IsStep}
use Rattle.sg_protocol.specs.Reading.{read}
use Rattle.sg_protocol.specs.Schedule.{Craft, CraftStep, Schedule, Source, Key, CopyItem, CopySeal, Zero, graph_with}
use Rattle.sg_protocol.specs.Session.{new_session}
use Rattle.sg_protocol.specs.Spelling.{HasSpelling}
use Rattle.sg_protocol.specs.Texts.{real, session_id}
use Rattle.sg_protocol.specs.World.{World, frames, new_world}
use Rattle.sg_protocol.proofs.Crafting.{frame_same}
use Rattle.sg_craft.specs.Means.{Means, with_keys, with_frames, frame_by, AreMeans, CanBeMade}

-- the frames of a world that recorded these
pub frames_of_with : (fs : List (List ℕ)) → frames (with_frames fs) ≡ fs
frames_of_with [] = refl
frames_of_with (f ∷ fs) = ap (λ l. f ∷ l) (frames_of_with fs)

-- a tag by the means' keys and frames is one by the run's
tag_alike : (s s' : Schedule) (w w' : World) → s.keys ≡ s'.keys → frames w ≡ frames w' → (text : List ℕ) (source : Source) → tag_by real s w text source ≡ tag_by real s' w' text source
tag_alike s s' w w' keys recorded text source = by source
  where
    read_alike : (n : ℕ) → frame_read w n ≡ frame_read w' n
    read_alike n = ap (λ fs. option_and_then (λ bs. result_ok (read bs)) (if n == 0 then None else slice_get fs (n - 1))) recorded

    by : (source : Source) → tag_by real s w text source ≡ tag_by real s' w' text source
    by (Key a b) = λ i. tag_by real (record s { keys = keys i }) w text (Key a b)
    by (CopyItem n j r) = λ i. unwrap_or (option_and_then (λ (f : Frame). option_and_then (λ (i : Item). value_at i.tags r) (if j == 0 then None else slice_get f.items (j - 1))) (read_alike n i)) no_tag
    by (CopySeal n) = λ i. option_map_or (λ (f : Frame). f.tag) (read_alike n i) no_tag
    by Zero = refl

-- in a run a craft makes what it makes by its means
pub made_by_means : (m : Means) (c : Craft) (s : Schedule) (w : World) → AreMeans m c s w → crafted real s w c ≡ Some (frame_by m c)
made_by_means m c s w a =
    ap (option_and_then (λ (cast : Cast). option_map (λ (g : Graph). crafted_frame real s w c g (new_session (session_id real cast) cast c.from)) (graph_with real s.graphs cast.graph))) a.cast
    ∙ ap (option_map (λ (g : Graph). crafted_frame real s w c g (new_session (session_id real m.cast) m.cast c.from))) a.graph
    ∙ ap (λ sid. Some (crafted_frame real s w c m.graph (new_session sid m.cast c.from))) (sym a.sid)
    ∙ ap Some (frame_same real s (with_keys m.keys) w (with_frames m.frames) (tag_alike s (with_keys m.keys) w (with_frames m.frames) (sym a.keys) (sym a.frames ∙ sym (frames_of_with m.frames))) c m.graph (new_session m.sid m.cast c.from))

-- a craft of a schedule can be made by its means
pub can_by_means : (m : Means) (c : Craft) (s : Schedule) (w : World) → AreMeans m c s w → IsStep real s (CraftStep c) → CanBeMade m c
can_by_means m c s w a h =
    let m0 : Means = record m { frames = [] } in
    let a0 : AreMeans m0 c s (new_world [] s) = record { cast = a.cast; graph = a.graph; sid = a.sid; keys = a.keys; frames = refl } in
    subst (λ o. IsSomeAnd o HasSpelling) (made_by_means m0 c s (new_world [] s) a0) h
