-- A replay of which no step was taken.
use Rattle.std.proofs.Common.{◌≡◌, ℕ, ◌+◌, List, [], ◌∷◌, map, sum_by, length, refl, sym, ◌∙◌, ap, subst, arith}
use Rattle.sg_model.specs.Names.{Name}
use Rattle.sg_protocol.specs.IsSchedule.{AreCompiled, IsSchedule}
use Rattle.sg_protocol.specs.Keyring.{Program}
use Rattle.sg_protocol.specs.NodeStates.{new_state}
use Rattle.sg_protocol.specs.Past.{Past}
use Rattle.sg_protocol.specs.Schedule.{PairKey, Schedule}
use Rattle.sg_protocol.specs.Texts.{real, graph_text_of}
use Rattle.sg_protocol.specs.World.{keyring_of}
use Rattle.sg_node.proofs.Life.{new_nodes}
use Rattle.sg_world.specs.Holds.{Holds, schedule_of}
use Rattle.sg_world.specs.RecordModel.{Recorded}
use Rattle.sg_setting.specs.Setting.{Setting}
use Rattle.sg_world.specs.Representation.{RepresentPasts}
use Rattle.sg_world.proofs.Pasts.{Named, names}

-- a new node with its name
abbrev pub new_named : List PairKey → List Program → Name → Named
new_named keys programs me = (me, new_state (keyring_of keys me) programs [])

-- the past of a new node
abbrev pub past_of_new : List PairKey → List Program → Name → Past
past_of_new keys programs me = record { keys = keyring_of keys me; programs = programs; first = []; calls = [] }

pub names_new : (keys : List PairKey) (programs : List Program) (ms : List Name) → names (map (new_named keys programs) ms) ≡ ms
names_new keys programs [] = refl
names_new keys programs (m ∷ ms) = ap (λ (z : List Name). m ∷ z) (names_new keys programs ms)

represent_new : (keys : List PairKey) (programs : List Program) (ms : List Name) → RepresentPasts (map (new_named keys programs) ms) (map (past_of_new keys programs) ms)
represent_new keys programs [] = tt
represent_new keys programs (m ∷ ms) =
    let n = new_nodes (keyring_of keys m) programs [] in
    (record { me = refl; represents = n.0; answered = n.1 }, represent_new keys programs ms)

-- the record of no step
abbrev pub nothing : ℕ → Recorded
nothing size = record { entries = []; notes = []; frames = []; size = size }

-- what is declared, with these honest principals and no step
abbrev pub declared : Setting → List Name → Schedule
declared d honest = record { graphs = d.graphs; honest = honest; keys = d.keys; sessions = d.sessions; steps = [] }

module _ (d : Setting) (honest : List Name) (size : ℕ) where
  pub is_declared : schedule_of d (map (new_named d.keys d.programs) honest) (nothing size) ≡ declared d honest
  is_declared = ap (declared d) (names_new d.keys d.programs honest)

  pub begins : IsSchedule real (declared d honest) → AreCompiled real d.graphs d.programs → size ≡ sum_by (λ g. length (graph_text_of g)) d.graphs → Holds d (map (new_named d.keys d.programs) honest) (nothing size)
  begins h compiled is = record {
    schedule = subst (IsSchedule real) (sym is_declared) h;
    compiled = compiled;
    taken = refl;
    named = tt;
    few = omega arith;
    run = record {
      represent = subst (λ (ms : List Name). RepresentPasts (map (new_named d.keys d.programs) honest) (map (past_of_new d.keys d.programs) ms)) (sym (names_new d.keys d.programs honest)) (represent_new d.keys d.programs honest);
      reported = refl;
      learnt = tt;
      notes = refl;
      frames = refl;
      size = is ∙ (let e : sum_by (λ g. length (graph_text_of g)) d.graphs ≡ sum_by (λ g. length (graph_text_of g)) d.graphs + 0 = omega arith in e);
    };
  }
