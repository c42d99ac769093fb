-- What a craft makes doesn't depend on the steps beside it, so a step of a schedule is one of each schedule that differs in other steps alone.
use Rattle.std.proofs.Common.{◌≡◌, ℕ, List, [], ◌∷◌, ◌++◌, IsSomeAnd, refl, subst}
use Rattle.std.specs.List.{AllByRecursion}
use Rattle.std.proofs.lemmas.List.Elements.{All-from_recursion, recursion_from_All}
use Rattle.sg_protocol.specs.Crafted.{tag_by, crafted}
use Rattle.sg_protocol.specs.IsSchedule.{IsSchedule, IsStep}
use Rattle.sg_protocol.specs.Schedule.{Schedule, Source, Craft, Step, Key, CopyItem, CopySeal, Zero, StartStep, ActStep, AbandonStep, DeliverStep, CraftStep}
use Rattle.sg_protocol.specs.Spelling.{HasSpelling}
use Rattle.sg_protocol.specs.Steps.{with_step}
use Rattle.sg_protocol.specs.Texts.{Hash}
use Rattle.sg_protocol.specs.World.{World, new_world}
use Rattle.sg_protocol.proofs.Crafting as C
use Rattle.sg_model.proofs.Small.{all-append}

module _ (sha : Hash) (s : Schedule) (xs : List Step) where
  tag_same : (w : World) (text : List ℕ) (x : Source) → tag_by sha s w text x ≡ tag_by sha (record s { steps = xs }) w text x
  tag_same w text (Key a b) = refl
  tag_same w text (CopyItem f i r) = refl
  tag_same w text (CopySeal f) = refl
  tag_same w text Zero = refl

  -- what a craft makes
  pub crafted_same : (w : World) (c : Craft) → crafted sha s w c ≡ crafted sha (record s { steps = xs }) w c
  crafted_same w c = C.crafted_same sha s (record s { steps = xs }) w w (tag_same w) refl c c.session refl

  -- a step of the schedule is one with other steps beside it
  pub step_on : (x : Step) → IsStep sha s x → IsStep sha (record s { steps = xs }) x
  step_on (CraftStep c) h = subst (λ o. IsSomeAnd o HasSpelling) (crafted_same (new_world [] s) c) h
  step_on (ActStep who m label values) h = h
  step_on (DeliverStep who what) h = h
  step_on (StartStep who m) h = h
  step_on (AbandonStep who m) h = h

  pub all_on : (ys : List Step) → AllByRecursion (IsStep sha s) ys → AllByRecursion (IsStep sha (record s { steps = xs })) ys
  all_on [] a = tt
  all_on (y ∷ ys) a = (step_on y a.0, all_on ys a.1)

-- a schedule with other steps is one
pub with_steps : (sha : Hash) (s : Schedule) (xs : List Step) → IsSchedule sha s → AllByRecursion (IsStep sha (record s { steps = xs })) xs → IsSchedule sha (record s { steps = xs })
with_steps sha s xs h a = record {
  are_graphs = h.are_graphs;
  graph_names = h.graph_names;
  honest_names = h.honest_names;
  keys = h.keys;
  pairs = h.pairs;
  sessions = h.sessions;
  steps = All-from_recursion (IsStep sha (record s { steps = xs })) xs a;
}

-- so is one with one more step
pub schedule_more : (sha : Hash) (s : Schedule) (x : Step) → IsSchedule sha s → IsStep sha s x → IsSchedule sha (with_step s x)
schedule_more sha s x h new = with_steps sha s (s.steps ++ x ∷ []) h
    (all-append (IsStep sha (with_step s x)) s.steps (x ∷ []) (all_on sha s (s.steps ++ x ∷ []) s.steps (recursion_from_All (IsStep sha s) s.steps h.steps)) (step_on sha s (s.steps ++ x ∷ []) x new, tt))
