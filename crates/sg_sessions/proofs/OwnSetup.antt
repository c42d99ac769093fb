-- The new run of what is declared is one of its own nodes and frames, and so are the casts of the declared sessions.
use Rattle.std.proofs.Common.{◌≡◌, ℕ, zero, suc, ◌+◌, ◌<◌, ◌≤◌, inl, List, [], ◌∷◌, length, map, slice_get, Some, option_map, refl, sym, ap, ◌∙◌, subst, arith, append-nil}
use Rattle.std.specs.Prelude.{IsTrue}
use Rattle.std.specs.List.{AllByRecursion}
use Rattle.std.proofs.lemmas.List.Elements.{recursion_from_All}
use Rattle.sg_text.proofs.Numbered.{is_name-numbered}
use Rattle.sg_model.specs.Bytes.{AreBytes}
use Rattle.sg_model.specs.Lists.{below, has_text, range_from}
use Rattle.sg_model.specs.Names.{is_name}
use Rattle.sg_protocol.proofs.Spelled.{bytes-append, bytes-zeros, to_bytes, u64_bytes}
use Rattle.sg_protocol.proofs.Steps.{begins}
use Rattle.sg_protocol.proofs.Whole.{first_past}
use Rattle.sg_protocol.specs.Crafted.{nonce_of}
use Rattle.sg_protocol.specs.Frame.{Cast}
use Rattle.sg_protocol.specs.Graph.{Graph, IsGraph}
use Rattle.sg_protocol.specs.IsSchedule.{AreCompiled, IsProgram}
use Rattle.sg_protocol.specs.Keyring.{Program}
use Rattle.sg_protocol.specs.Past.{Past, node_of}
use Rattle.sg_protocol.specs.Ranges.{IsCast}
use Rattle.sg_protocol.specs.Schedule.{NamedSession, Schedule, cast_of}
use Rattle.sg_protocol.specs.Spelling.{u64}
use Rattle.sg_protocol.specs.Texts.{graph_text_of, real}
use Rattle.sg_protocol.specs.World.{new_world}
use Rattle.sg_protocol.proofs.RealHash.{real_hash}
use Rattle.sg_setting.specs.Replay.{without_steps}
use Rattle.sg_sessions.proofs.Players.{length-players, player_there}
use Rattle.sg_sessions.specs.Own.{IsOwnNode, IsOwnRun}
use Rattle.sg_sessions.specs.Setup.{numbered_session, player, players, setup}
use Rattle.std.specs.Prelude.{replicate}

-- ---- programs

-- the programs of one graph are of it
of_graph : (g : Graph) (ps : List Program) (rs : List ℕ) → map {B = Graph × ℕ} (λ (p : Program). (p.graph, p.role)) ps ≡ map {B = Graph × ℕ} (λ r. (g, r)) rs → AllByRecursion (λ (p : Program). p.graph ≡ g) ps
of_graph g [] rs e = tt
of_graph g (p ∷ ps) [] e = absurd (cc)
of_graph g (p ∷ ps) (r ∷ rs) e =
    let one : Graph × ℕ = (p.graph, p.role) in
    let two : Graph × ℕ = (g, r) in
    let pair : one ≡ two = cc in
    let rest : map {B = Graph × ℕ} (λ (p : Program). (p.graph, p.role)) ps ≡ map {B = Graph × ℕ} (λ r. (g, r)) rs = cc in
    (ap (λ (z : Graph × ℕ). z.0) pair, of_graph g ps rs rest)

pub programs_of : (g : Graph) (ps : List Program) → AreCompiled real (g ∷ []) ps → AllByRecursion (λ (p : Program). p.graph ≡ g) ps
programs_of g ps h = of_graph g ps (below (length g.roles)) (h.all ∙ append-nil (map (λ r. (g, r)) (below (length g.roles))))

-- there is one
pub some_program : (g : Graph) (ps : List Program) → AreCompiled real (g ∷ []) ps → 0 < length g.roles → (p : Program) × IsProgram real p × (p.graph ≡ g)
some_program g [] h two = absurd (by (length g.roles) two (h.all ∙ append-nil (map (λ r. (g, r)) (below (length g.roles)))))
  where
    by : (n : ℕ) → 0 < n → [] ≡ map {B = Graph × ℕ} (λ r. (g, r)) (below n) → ⊥
    by zero l e = omega (arith, l)
    by (suc n) l e = cc
some_program g (p ∷ ps) h two = (p, (recursion_from_All (IsProgram real) (p ∷ ps) h.each).0, (programs_of g (p ∷ ps) h).0)

-- and so few roles
pub few_roles_of : (g : Graph) (ps : List Program) → AreCompiled real (g ∷ []) ps → 2 ≤ length g.roles → length g.roles ≤ 16
few_roles_of g ps h two = let p = some_program g ps h (omega (arith, two)) in let few = (subst IsGraph p.2 p.1.is_graph).sizes.0 in omega (arith, few)

-- ---- the new run

pub new_own : (g : Graph) (ps : List Program) (s : Schedule) → AreCompiled real (g ∷ []) ps → length g.roles ≤ 16 → s.honest ≡ players (length g.roles) → IsOwnRun real g (new_world ps s)
new_own g ps s h few who = record {
  nodes = λ role there.
      let b = begins s.keys ps s.honest (player role) (ap (λ (z : List (List ℕ)). has_text (player role) z) who ∙ player_there role (length g.roles) there (omega (arith, few))) in
      let is = first_past s.keys ps s.honest (player role) b.0 b.1 in (
        b.0,
        b.1,
        subst (λ (p : Past). IsOwnNode real g role (node_of p)) (sym is.0) (record {
          me = refl;
          programs = programs_of g ps h;
          orderly = record { programs = recursion_from_All (IsProgram real) ps h.each; live = tt; joined = refl; differ = tt };
          live = tt;
        }),
      );
  recorded = tt;
}

-- ---- sessions

nonce_has : (n : ℕ) → AreBytes 16 (nonce_of n)
nonce_has n = (refl, to_bytes (nonce_of n) (bytes-append (replicate 8 0) (u64 n) (bytes-zeros 8) (u64_bytes n)))

are_names : (k n : ℕ) → k + n ≤ 1000 → AllByRecursion (λ (n : List ℕ). IsTrue (is_name n)) (map player (range_from k n))
are_names k zero u = tt
are_names k (suc n) u = (is_name-numbered 112 k refl (omega arith), are_names (suc k) n (omega arith))

numbered_cast : (g : Graph) (s : ℕ) → 2 ≤ length g.roles → length g.roles ≤ 16 → IsCast (numbered_session g s).cast
numbered_cast g s two few =
    let many = length-players (length g.roles) in
    record {
      version = inl refl;
      fields = record {
        version = refl;
        graph = real_hash (graph_text_of g);
        nonce = nonce_has s;
        count = (omega (arith, many, two), omega (arith, many, few));
        names = are_names 0 (length g.roles) (omega arith);
      };
    }

numbered_at : (g : Graph) (k n i : ℕ) → i < n → (m : ℕ) × (slice_get (map (numbered_session g) (range_from k n)) i ≡ Some (numbered_session g m))
numbered_at g k zero i l = absurd (omega arith)
numbered_at g k (suc n) zero l = (k, refl)
numbered_at g k (suc n) (suc i) l = numbered_at g (suc k) n i (omega arith)

-- a declared session is in a cast of the declared principals
pub own_cast : (s : Schedule) (sessions n : ℕ) (g : Graph) → without_steps s ≡ setup sessions g → 2 ≤ length g.roles → length g.roles ≤ 16 → n < sessions → (c : Cast) × (cast_of s n ≡ Some c) × IsCast c × (c.names ≡ players (length g.roles))
own_cast s sessions n g e two few l =
    let at = numbered_at g 1 sessions n l in
    ((numbered_session g at.0).cast, ap (λ (z : Schedule). cast_of z n) e ∙ ap (option_map (λ (d : NamedSession). d.cast)) at.1, numbered_cast g at.0 two few, refl)
