-- A step whose session has another index, in a schedule that declares more sessions, is the same step.
use Rattle.std.specs.Prelude.{◌≡◌, ℕ, zero, suc, ◌+◌, ◌-◌, ◌==◌, if◌then◌else◌, List, [], ◌∷◌, ◌++◌, map, length, refl, Option, Some, None, option_map, option_and_then, slice_get, take, unwrap_or, IsSomeAnd}
use Rattle.std.specs.Option.{option_map_or}
use Rattle.std.specs.Result.{result_ok}
use Rattle.std.proofs.Common.{sym, ◌∙◌, ap, subst, arith}
use Rattle.sg_protocol.specs.Calls.{Start, Act, Abandon, Deliver}
use Rattle.sg_protocol.specs.Crafted.{no_tag, frame_read, tag_by, crafted}
use Rattle.sg_model.specs.Lists.{value_at}
use Rattle.sg_model.specs.Values.{Value}
use Rattle.sg_protocol.specs.Reading.{read}
use Rattle.sg_protocol.specs.Frame.{Item, Frame}
use Rattle.sg_protocol.specs.IsSchedule.{IsStep}
use Rattle.sg_protocol.specs.Schedule.{Schedule, NamedSession, Source, Craft, Step, What, Key, CopyItem, CopySeal, Zero, Whole, Flipped, Cut, Bytes, StartStep, ActStep, AbandonStep, DeliverStep, CraftStep, cast_of, sid_at, confounder}
use Rattle.sg_protocol.specs.Spelling.{HasSpelling}
use Rattle.sg_protocol.specs.Texts.{Hash, session_id}
use Rattle.sg_protocol.specs.Restarts.{moved_to, moved_step}
use Rattle.sg_protocol.specs.World.{World, frames, frame_at, flipped, bytes_of, new_world, call_of}
use Rattle.sg_protocol.proofs.Crafting.{crafted_same}

-- ---- indices

none_behind : (ds : List NamedSession) (n : ℕ) → slice_get ds (n + length ds) ≡ None
none_behind [] n = refl
none_behind (d ∷ ds) n = (let e : n + length (d ∷ ds) ≡ suc (n + length ds) = omega arith in ap (slice_get (d ∷ ds)) e ∙ none_behind ds n)

pub at_moved : (ds es : List NamedSession) (n : ℕ) → slice_get (ds ++ es) (moved_to ds (length es) n) ≡ slice_get ds n
at_moved [] es n = none_behind es n
at_moved (d ∷ ds) es zero = refl
at_moved (d ∷ ds) es (suc n) = at_moved ds es n

module _ (sha : Hash) (s : Schedule) (es : List NamedSession) (ys : List Step) where
  -- the schedule with more sessions, and other steps
  abbrev pub more : Schedule
  more = record s { sessions = s.sessions ++ es; steps = ys }

  abbrev pub index_of : ℕ → ℕ
  index_of n = moved_to s.sessions (length es) n

  pub cast_moved : (n : ℕ) → cast_of more (index_of n) ≡ cast_of s n
  cast_moved n = ap (option_map (λ (d : NamedSession). d.cast)) (at_moved s.sessions es n)

  pub sid_moved : (n : ℕ) → sid_at sha more (index_of n) ≡ sid_at sha s n
  sid_moved n = ap (λ o. option_map_or (session_id sha) o []) (cast_moved n)

  module _ (w w' : World) (e : frames w ≡ frames w') where
    pub frame_same_at : (n : ℕ) → frame_at w n ≡ frame_at w' n
    frame_same_at n = ap (λ (l : List (List ℕ)). if n == 0 then None else slice_get l (n - 1)) e

    read_same : (n : ℕ) → frame_read w n ≡ frame_read w' n
    read_same n = ap (option_and_then (λ bs. result_ok (read bs))) (frame_same_at n)

    tag_same : (text : List ℕ) (x : Source) → tag_by sha s w text x ≡ tag_by sha more w' text x
    tag_same text (Key a b) = refl
    tag_same text (CopyItem n i r) = ap (λ (o : Option Frame). unwrap_or (option_and_then (λ (f : Frame). option_and_then (λ (item : Item). value_at item.tags r) (if i == 0 then None else slice_get f.items (i - 1))) o) no_tag) (read_same n)
    tag_same text (CopySeal n) = ap (λ (o : Option Frame). option_map_or (λ (f : Frame). f.tag) o no_tag) (read_same n)
    tag_same text Zero = refl

    -- what a craft makes
    pub crafted_moved : (c : Craft) → crafted sha s w c ≡ crafted sha more w' (record c { session = index_of c.session })
    crafted_moved c = crafted_same sha s more w w' tag_same refl c (index_of c.session) (cast_moved c.session)

    -- what is delivered
    pub bytes_moved : (what : What) → bytes_of w what ≡ bytes_of w' what
    bytes_moved (Whole n) = frame_same_at n
    bytes_moved (Flipped n at) = ap (option_map (flipped at)) (frame_same_at n)
    bytes_moved (Cut n len) = ap (option_map (take len)) (frame_same_at n)
    bytes_moved (Bytes bs) = refl

    -- what a step calls
    pub call_moved : (k : ℕ) (x : Step) → call_of sha s w k x ≡ call_of sha more w' k (moved_step s.sessions (length es) x)
    call_moved k (StartStep who n) = ap (option_map Start) (sym (cast_moved n))
    call_moved k (ActStep who n label values) = ap (λ (sid : List ℕ). Some (Act sid label values (map (λ (v : ℕ × Value). confounder k v.0) values))) (sym (sid_moved n))
    call_moved k (AbandonStep who n) = ap (λ (sid : List ℕ). Some (Abandon sid)) (sym (sid_moved n))
    call_moved k (DeliverStep who what) = ap (option_map Deliver) (bytes_moved what)
    call_moved k (CraftStep c) = refl

  -- a step of the schedule is one there
  pub step_moved : (x : Step) → IsStep sha s x → IsStep sha more (moved_step s.sessions (length es) x)
  step_moved (CraftStep c) h = subst (λ o. IsSomeAnd o HasSpelling) (crafted_moved (new_world [] s) (new_world [] more) refl c) h
  step_moved (ActStep who n label values) h = h
  step_moved (DeliverStep who what) h = h
  step_moved (StartStep who n) h = h
  step_moved (AbandonStep who n) h = h
