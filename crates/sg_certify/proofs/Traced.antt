-- A session that is gone through step by step.
use Rattle.std.proofs.Common.{◌≡◌, ℕ, List, [], ◌∷◌, ◌++◌, map, refl, ap, sym, ◌∙◌, subst, append-nil}
use Rattle.std.proofs.lemmas.Grind.{flat_map-append}
use Rattle.std.proofs.lemmas.List.{map-append}
use Rattle.sg_protocol.specs.Calls.{Event}
use Rattle.sg_protocol.specs.Graph.{Graph}
use Rattle.sg_protocol.specs.Explaining.{IsShown}
use Rattle.sg_protocol.specs.Run.{run, events_of}
use Rattle.sg_protocol.specs.Schedule.{honest_role}
use Rattle.sg_protocol.specs.Texts.{Hash, IsHash}
use Rattle.sg_protocol.specs.Walk.{OnePath}
use Rattle.sg_protocol.specs.World.{Logged}
use Rattle.sg_protocol.proofs.Explaining.{shown_join}
use Rattle.sg_certify.specs.Traces.{IsTrace}
use Rattle.sg_certify.specs.Laws.{TracesAreExplained}
use Rattle.sg_certify.specs.Events.{explaining_walk}
use Rattle.sg_certify.proofs.Parted.{first_of, sessions_are_explained}

-- no step yet
pub no_steps_yet : (g : Graph) (sid : List ℕ) → IsTrace g sid [] []
no_steps_yet g sid = record { part = []; are = refl; walks = tt; events = refl }

-- one step more, with its event, beside a walk that shows what it took
pub one_more : (g : Graph) (sid : List ℕ) (steps : List Logged) (shown : List (Event × List ℕ)) (l : Logged) (e : Event) (walk : List ℕ) → IsTrace g sid steps shown → events_of sid (l ∷ []) ≡ e ∷ [] → IsShown g sid steps l walk
    → IsTrace g sid (steps ++ l ∷ []) (shown ++ (e, walk) ∷ [])
one_more g sid steps shown l e walk c here is = record {
  part = c.part ++ (l, walk) ∷ [];
  are = map-append first_of c.part ((l, walk) ∷ []) ∙ ap (λ ls. ls ++ l ∷ []) c.are;
  walks = shown_join g sid [] c.part (l, walk) c.walks (subst (λ ls. IsShown g sid ls l walk) (sym c.are) is);
  events = flat_map-append (λ (l : Logged × List ℕ). map (λ e. (e, l.1)) (events_of sid (l.0 ∷ []))) c.part ((l, walk) ∷ [])
      ∙ (λ i. c.events i ++ (append-nil (map (λ e. (e, walk)) (events_of sid (l ∷ []))) ∙ ap (map (λ e. (e, walk))) here) i);
}

pub traces_are_explained : (sha : Hash) → IsHash sha → TracesAreExplained sha
traces_are_explained sha hash programs s sid cast g shown compiled sched premises is gr c =
    subst (λ ps. OnePath g (honest_role s cast) (events_of sid (run sha programs s).log) (explaining_walk g (honest_role s cast) [] ps)) c.events
    (sessions_are_explained sha hash programs s sid cast g c.part compiled sched premises is gr c.are c.walks).1
