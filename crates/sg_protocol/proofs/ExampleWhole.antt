-- One schedule, with two graphs, a compromised role and a crafted frame, of which all that the laws ask is shown, and in whose run a claim is kept; and two that break an assumption each.
use Rattle.std.specs.Prelude.{◌≡◌, ◌≢◌, ◌⊎◌, ℕ, zero, suc, ◌<◌, ◌≤◌, nat_lt, Bool, true, false, List, [], ◌∷◌, map, length, get_or, replicate, codes, refl, Option, Some, None, option_map, is_some, AllPairs, Contains, IsTrue, ◌↔◌}
use Rattle.std.specs.List.{list_all}
use Rattle.std.specs.Option.{option_map_or}
use Rattle.std.proofs.Common.{sym, ◌∙◌, ap, subst, inl, inr, arith}
use Rattle.std.proofs.lemmas.Bool.Decides.{nat_tests}
use Rattle.std.proofs.lemmas.List.Elements.{All-from_recursion}
use Rattle.std.proofs.lemmas.List.Kept.{AllPairs-cons}
use Rattle.std.proofs.lemmas.Bool.{and_parts}
use Rattle.sg_model.specs.Bytes.{IsBytes}
use Rattle.sg_model.specs.Lists.{is_in}
use Rattle.sg_model.specs.Names.{Name}
use Rattle.sg_model.specs.Shape.{Walk, Blinding, role_at, end_of, sender, receiver}
use Rattle.sg_model.proofs.Small.{and_right}
use Rattle.sg_protocol.specs.Graph.{Graph, Variable, Node, Edge, IsGraph, AreNames, AreNumbers, shape, writes, reads}
use Rattle.sg_protocol.specs.Accepted.{Accepted}
use Rattle.sg_protocol.specs.Evidence.{View, IsView, IsViewTable, view_of}
use Rattle.sg_protocol.specs.Targets.{IsTarget, IsTargetTable}
use Rattle.sg_protocol.specs.Texts.{Hash, graph_digest, session_id, graph_text_of}
use Rattle.sg_protocol.specs.Keyring.{Program}
use Rattle.sg_protocol.specs.Schedule.{PairKey, Schedule, Craft, Step, StartStep, ActStep, DeliverStep, CraftStep, Whole, Key}
use Rattle.sg_protocol.specs.World.{Outcome, Answered, Crafted, new_world}
use Rattle.sg_protocol.specs.Calls.{Happened, Sends}
use Rattle.sg_protocol.specs.Notes.{Note}
use Rattle.sg_protocol.specs.Crafted.{nonce_of, crafted}
use Rattle.sg_protocol.specs.Run.{run}
use Rattle.sg_protocol.specs.Premises.{hashed, Unforged, CollisionFree, Premises}
use Rattle.sg_protocol.specs.IsSchedule.{IsProgram, AreCompiled, IsPairKey, IsDeclared, IsStep, IsSchedule}
use Rattle.sg_protocol.specs.Broken.{first_forged, first_collision}
use Rattle.sg_protocol.proofs.Broken.{forged_is_first, collision_is_first}
use Rattle.std.specs.Prelude.{◌+◌, ◌*◌, ◌/◌, ◌%◌, ◌^◌, fold}
use Rattle.std.specs.Int.{bytes_high_first, byte_at}
use Rattle.sg_model.specs.Claims.{Claim, Bars, HoldsOnWalks}
use Rattle.sg_model.proofs.OneBit.{confined_holds}
use Rattle.sg_model.proofs.Small.{some_same}
use Rattle.sg_model.proofs.Members.{In, in_from_Contains, contains_from_in}
use Rattle.sg_protocol.specs.Frame.{Cast}
use Rattle.sg_protocol.specs.Texts.{IsHash}
use Rattle.sg_protocol.specs.Schedule.{graph_with, honest_role}
use Rattle.sg_protocol.specs.Run.{events_of}
use Rattle.sg_protocol.specs.Headline.{IsExplained}
use Rattle.sg_protocol.specs.Claims.{IsClaimKept}
use Rattle.sg_protocol.proofs.Spelled.{Bytes_, to_bytes}
use Rattle.sg_protocol.proofs.Causes.{claims_are_kept}
use Rattle.sg_protocol.proofs.ExampleClaims.{fits_confines}
use Rattle.sg_protocol.proofs.Examples.{alice, bob, carl, key, cast, toy, first_told}

-- ---- a graph of one edge

abbrev one_edge : Name → Graph
one_edge name = record {
  name = name;
  roles = codes "a" ∷ codes "b" ∷ [];
  variables = [];
  nodes = record { name = codes "n0"; role = 0 } ∷ record { name = codes "n1"; role = 1 } ∷ [];
  edges = record { name = codes "Say"; source = 0; target = 1; writes = []; reads = [] } ∷ [];
}

its_graph : (name : Name) → AreNames (name ∷ []) → IsGraph (one_edge name)
its_graph name h = record {
  named = h;
  role_names = refl;
  variable_names = refl;
  node_names = refl;
  edge_names = refl;
  writers = All-from_recursion (λ (v : Variable). AreNumbers 2 v.writers × (0 < length v.writers)) [] tt;
  roles = All-from_recursion (λ (n : Node). n.role < 2) (one_edge name).nodes (omega arith, (omega arith, tt));
  ends = All-from_recursion (λ (e : Edge). (e.source < 2) × (e.target < 2)) (one_edge name).edges ((omega arith, omega arith), tt);
  variables = All-from_recursion (λ (e : Edge). AreNumbers 0 e.writes × AreNumbers 0 e.reads) (one_edge name).edges ((refl, refl), tt);
  sizes = (omega arith, omega arith, omega arith, omega arith);
}

small : (name : Name) (n : ℕ) → role_at (shape (one_edge name)) n ≤ 1
small name zero = omega arith
small name (suc zero) = omega arith
small name (suc (suc n)) = omega arith

its_accepted : (name : Name) → Accepted (one_edge name)
its_accepted name = record {
  two_roles = omega arith;
  each_role_has_node = nodes;
  no_self_edge = apart;
  all_reached = reached;
  writers_write = λ e x i. absurd (none e x i);
  others_read = λ e x i. absurd (unread e x i);
  reads_known = λ walk e x w i. absurd (unread e x i);
  sighted = sighted;
}
  where
    nodes : (r : ℕ) → r < 2 → (n : ℕ) × (n < 2) × (role_at (shape (one_edge name)) n ≡ r)
    nodes zero l = (0, omega arith, refl)
    nodes (suc zero) l = (1, omega arith, refl)
    nodes (suc (suc r)) l = absurd (omega (arith, l))

    apart : (e : ℕ) → e < 1 → sender (shape (one_edge name)) e ≢ receiver (shape (one_edge name)) e
    apart zero l q = omega (arith, q)
    apart (suc e) l q = omega (arith, l)

    reached : (n : ℕ) → n < 2 → (walk : List ℕ) × Walk (shape (one_edge name)) 0 walk × (end_of (shape (one_edge name)) 0 walk ≡ n)
    reached zero l = ([], tt, refl)
    reached (suc zero) l = (0 ∷ [], (omega arith, refl, tt), refl)
    reached (suc (suc n)) l = absurd (omega (arith, l))

    none : (e x : ℕ) → IsTrue (is_in x (writes (one_edge name) e)) → ⊥
    none zero x i = absurd (cc)
    none (suc e) x i = absurd (cc)

    unread : (e x : ℕ) → IsTrue (is_in x (reads (one_edge name) e)) → ⊥
    unread zero x i = absurd (cc)
    unread (suc e) x i = absurd (cc)

    sighted : (m a b : ℕ) → Blinding (shape (one_edge name)) m a b → ⊥
    sighted m a b bl =
        let ra : a ≤ 1 = subst (λ z. z ≤ 1) bl.leads_a.ends (small name (end_of (shape (one_edge name)) m bl.to_a)) in
        let rb : b ≤ 1 = subst (λ z. z ≤ 1) bl.leads_b.ends (small name (end_of (shape (one_edge name)) m bl.to_b)) in
        let rm : role_at (shape (one_edge name)) m ≤ 1 = small name m in
        let p = bl.apart in
        let q = bl.not_a in
        let r = bl.not_b in
        omega (arith, ra, rb, rm, p, q, r)

-- the only walk
only : (name : Name) (walk : List ℕ) → Walk (shape (one_edge name)) 0 walk → walk ≢ [] → walk ≡ 0 ∷ []
only name [] w n = absurd (n refl)
only name (suc e ∷ es) w n = absurd (let l = w.0 in omega (arith, l))
only name (zero ∷ []) w n = refl
only name (zero ∷ suc e ∷ es) w n = absurd (let l = w.2.0 in omega (arith, l))
only name (zero ∷ zero ∷ es) w n = absurd (let q = w.2.1 in omega (arith, q))

abbrev table : Name → ℕ → List View
table name zero = []
table name (suc r) = view_of (one_edge name) 1 (0 ∷ []) ∷ []

its_views : (name : Name) (r : ℕ) → r < 2 → IsViewTable (one_edge name) r (table name r)
its_views name zero l = record {
  ordered = refl;
  each = λ v. ((λ c. absurd (in_from_Contains [] v c)), (λ iv. absurd (no iv)));
}
  where
    no : {v : View} → IsView (one_edge name) 0 v → ⊥
    no {v = v} iv = let q : role_at (shape (one_edge name)) (end_of (shape (one_edge name)) 0 (0 ∷ [])) ≡ 0 = subst (λ w. role_at (shape (one_edge name)) (end_of (shape (one_edge name)) 0 w) ≡ 0) (only name iv.walk iv.follows iv.moves) iv.ends in omega (arith, q)
its_views name (suc zero) l = record {
  ordered = refl;
  each = λ v. ((λ c. to v (in_from_Contains (table name 1) v c)), (λ iv. from v iv));
}
  where
    to : (v : View) → In (table name 1) v → IsView (one_edge name) 1 v
    to v (inl e) = record { walk = 0 ∷ []; follows = (omega arith, refl, tt); moves = λ q. absurd (cc); ends = refl; seen = sym e }
    to v (inr e) = absurd e

    from : (v : View) → IsView (one_edge name) 1 v → Contains (table name 1) v
    from v iv = contains_from_in (table name 1) v (inl (sym (ap (view_of (one_edge name) 1) (sym (only name iv.walk iv.follows iv.moves)) ∙ iv.seen)))
its_views name (suc (suc r)) l = absurd (omega (arith, l))

its_targets : (name : Name) → IsTargetTable (one_edge name) ([] ∷ [])
its_targets name = record { size = refl; rising = rising_; each = each_ }
  where
    rising_ : (e : ℕ) → AreNumbers 2 (get_or ([] ∷ []) e [])
    rising_ zero = refl
    rising_ (suc e) = refl

    each_ : (e t : ℕ) → e < 1 → t < 2 → IsTrue (is_in t (get_or ([] ∷ []) e [])) ↔ IsTarget (shape (one_edge name)) e t
    each_ zero t l k = ((λ i. absurd (cc)), (λ it. absurd (let a = it.not_sender in let b = it.not_receiver in omega (arith, k, a, b))))
    each_ (suc e) t l k = absurd (omega (arith, l))

abbrev program : Name → ℕ → Program
program name r = record { graph = one_edge name; role = r; digest = graph_digest toy (one_edge name); views = table name r; targets = [] ∷ [] }

its_program : (name : Name) (r : ℕ) → AreNames (name ∷ []) → r < 2 → IsProgram toy (program name r)
its_program name r h l = record { is_graph = its_graph name h; accepted = its_accepted name; role = l; digest = refl; views = its_views name r l; targets = its_targets name }

-- ---- the schedule: alice speaks to bob in one graph, and a crafted frame is carl's in the other

abbrev ping : Name
ping = codes "ping"

abbrev pong : Name
pong = codes "pong"

abbrev the_craft : Craft
the_craft = first_told 1 (Key bob carl)

abbrev speaks : Step
speaks = CraftStep the_craft

abbrev setting : List Name → Schedule
setting honest = record {
  graphs = one_edge ping ∷ one_edge pong ∷ [];
  honest = honest;
  keys = record { one = alice; two = bob; key = key 0x11 } ∷ record { one = bob; two = carl; key = key 0x33 } ∷ [];
  sessions = record { name = codes "s1"; cast = cast (graph_digest toy (one_edge ping)) 1 (alice ∷ bob ∷ []) }
      ∷ record { name = codes "s2"; cast = cast (graph_digest toy (one_edge pong)) 2 (carl ∷ bob ∷ []) } ∷ [];
  steps = StartStep alice 0 ∷ ActStep alice 0 0 [] ∷ DeliverStep bob (Whole 1) ∷ speaks ∷ DeliverStep bob (Whole 2) ∷ [];
}

abbrev programs : List Program
programs = program ping 0 ∷ program ping 1 ∷ program pong 0 ∷ program pong 1 ∷ []

abbrev played : Schedule
played = setting (alice ∷ bob ∷ [])

compiled : AreCompiled toy played.graphs programs
compiled = record {
  each = All-from_recursion (IsProgram toy) programs (its_program ping 0 refl (omega arith), (its_program ping 1 refl (omega arith), (its_program pong 0 refl (omega arith), (its_program pong 1 refl (omega arith), tt))));
  all = refl;
}

unforged : Unforged played (run toy programs played)
unforged = (forged_is_first played (run toy programs played)).0.0 refl

collision_free : CollisionFree toy (hashed played (run toy programs played))
collision_free = (collision_is_first toy (hashed played (run toy programs played))).0.0 refl

premises : Premises toy played (run toy programs played)
premises = record { unforged = unforged; collision_free = collision_free }

-- ---- the schedule is one

bytes_all : (bs : List ℕ) → list_all (λ b. nat_lt b 256) bs ≡ true → IsBytes bs
bytes_all [] h i = omega arith
bytes_all (b ∷ bs) h zero = less b (and_parts (nat_lt b 256) (list_all (λ b. nat_lt b 256) bs) h).0
  where
    less : (b : ℕ) → nat_lt b 256 ≡ true → b < 256
    less b h = grind (arith, nat_tests)
bytes_all (b ∷ bs) h (suc i) = bytes_all bs (and_right (nat_lt b 256) (list_all (λ b. nat_lt b 256) bs) h) i

no_pairs : (R : PairKey → PairKey → Type 0) → AllPairs R []
no_pairs R i j d l m = absurd (omega (arith, m))

is_schedule : IsSchedule toy played
is_schedule = record {
  are_graphs = All-from_recursion IsGraph played.graphs (its_graph ping refl, (its_graph pong refl, tt));
  graph_names = refl;
  honest_names = refl;
  keys = All-from_recursion IsPairKey played.keys (((λ e. absurd (cc)), (refl, bytes_all (key 0x11) refl)), (((λ e. absurd (cc)), (refl, bytes_all (key 0x33) refl)), tt));
  pairs = AllPairs-cons (λ (j k : PairKey). ((j.one ≢ k.one) ⊎ (j.two ≢ k.two)) × ((j.one ≢ k.two) ⊎ (j.two ≢ k.one))) first_key (second_key ∷ [])
      (All-from_recursion (λ (k : PairKey). ((alice ≢ k.one) ⊎ (bob ≢ k.two)) × ((alice ≢ k.two) ⊎ (bob ≢ k.one))) (second_key ∷ []) ((inl (λ e. absurd (cc)), inl (λ e. absurd (cc))), tt))
      (AllPairs-cons (λ (j k : PairKey). ((j.one ≢ k.one) ⊎ (j.two ≢ k.two)) × ((j.one ≢ k.two) ⊎ (j.two ≢ k.one))) second_key [] (All-from_recursion (λ (k : PairKey). ((bob ≢ k.one) ⊎ (carl ≢ k.two)) × ((bob ≢ k.two) ⊎ (carl ≢ k.one))) [] tt) (no_pairs (λ (j k : PairKey). ((j.one ≢ k.one) ⊎ (j.two ≢ k.two)) × ((j.one ≢ k.two) ⊎ (j.two ≢ k.one)))));
  sessions = All-from_recursion (IsDeclared toy played.graphs) played.sessions (
    record { graph = one_edge ping; is_there = contains_from_in played.graphs (one_edge ping) (inl refl); digest = refl; count = refl; names = refl; nonce = (refl, bytes_all (nonce_of 1) refl); version = inl refl },
    (record { graph = one_edge pong; is_there = contains_from_in played.graphs (one_edge pong) (inr (inl refl)); digest = refl; count = refl; names = refl; nonce = (refl, bytes_all (nonce_of 2) refl); version = inl refl }, tt),
  );
  steps = All-from_recursion (IsStep toy played) played.steps (tt, (tt, (tt, (spelled, (tt, tt)))));
}
  where
    first_key : PairKey
    first_key = record { one = alice; two = bob; key = key 0x11 }

    second_key : PairKey
    second_key = record { one = bob; two = carl; key = key 0x33 }

    spelled : IsStep toy played speaks
    spelled = record {
      fields = record {
        version = inl refl;
        sid = (refl, bytes_all (session_id toy (cast (graph_digest toy (one_edge pong)) 2 (carl ∷ bob ∷ []))) refl);
        roles = (omega arith, omega arith, λ e. omega (arith, e));
        join = record { version = refl; graph = (refl, bytes_all (graph_digest toy (one_edge pong)) refl); nonce = (refl, bytes_all (nonce_of 2) refl); count = (omega arith, omega arith); names = (refl, (refl, tt)) };
        count = (omega arith, omega arith);
        items = (record { role = omega arith; label = omega arith; time = (omega arith, omega arith); variables = (omega arith, refl); delta = tt; roles = (omega arith, refl); tags = tt }, tt);
        variables = (omega arith, refl);
        openings = tt;
        tag = record { bytes = (refl, bytes_all (option_map_or (λ f. f.tag) (crafted toy played (new_world [] played) the_craft) []) refl); zeros = refl };
      };
      short = omega arith;
    }

-- all that the laws ask for is there
whole : AreCompiled toy played.graphs programs × IsSchedule toy played × Premises toy played (run toy programs played)
whole = (compiled, is_schedule, premises)

-- both frames are accepted
abbrev is_done : Outcome → Bool
is_done (Answered (Happened e)) = true
is_done (Answered (Sends e to f)) = true
is_done Crafted = true
is_done other = false

all_done : map (λ l. is_done l.outcome) (run toy programs played).log ≡ true ∷ true ∷ true ∷ true ∷ true ∷ []
all_done = refl

-- ---- a claim that is kept in the run

toy_hash : IsHash toy
toy_hash t = (refl, to_bytes (toy t) (small 32 (fold (λ n b. (n * 65599 + b + 1) % 2 ^ 256) 7 t)))
  where
    byte : (n : ℕ) → n % 256 < 256
    byte n = omega arith

    one : (i n : ℕ) → byte_at i n < 256
    one zero n = byte n
    one (suc i) n = byte (n / 256 ^ suc i)

    small : (k n : ℕ) → Bytes_ (bytes_high_first k n)
    small zero n = tt
    small (suc k) n = (one k n, small k n)

-- alice says it at most once
abbrev said_once : Claim
said_once = record { kind = Bars; later = 0 ∷ []; earlier = 0 ∷ []; since = [] }

is_said_once : HoldsOnWalks (shape (one_edge ping)) said_once
is_said_once = confined_holds (shape (one_edge ping)) said_once (fits_confines (shape (one_edge ping)) said_once (1 ∷ []) (0 ∷ []) refl)

abbrev first_cast : Cast
first_cast = cast (graph_digest toy (one_edge ping)) 1 (alice ∷ bob ∷ [])

-- so on whichever walk explains the session, and by its three events
is_kept : (x : IsExplained toy played (run toy programs played) (session_id toy first_cast)) → IsClaimKept x.graph (honest_role played x.cast) (events_of (session_id toy first_cast) (run toy programs played).log) x.steps said_once
is_kept x =
    let c : Some first_cast ≡ Some x.cast = x.is_cast in
    let d : first_cast ≡ x.cast = some_same c in
    let g : Some (one_edge ping) ≡ Some x.graph = subst (λ (z : Cast). graph_with toy played.graphs z.graph ≡ Some x.graph) (sym d) x.is_graph in
    (claims_are_kept toy toy_hash programs played compiled is_schedule premises (session_id toy first_cast) (λ e. absurd (let n : length (events_of (session_id toy first_cast) (run toy programs played).log) ≡ 0 = ap length e in let m : 3 ≡ 0 = n in omega (arith, m)))).1 x said_once
    (subst (λ z. HoldsOnWalks (shape z) said_once) (some_same g) is_said_once)

-- ---- a broken assumption

-- were carl honest, the crafted frame would be forged: the step that accepts it shows it
abbrev forging : Schedule
forging = setting (alice ∷ bob ∷ carl ∷ [])

first_step : option_map (λ (x : ℕ × Note). x.0) (first_forged forging (run toy programs forging)) ≡ Some 5
first_step = refl

first_two : option_map (λ (x : ℕ × Note). x.1.one ∷ x.1.two ∷ []) (first_forged forging (run toy programs forging)) ≡ Some (bob ∷ carl ∷ [])
first_two = refl

not_none : {A : Type 0} (o : Option A) → is_some o ≡ true → o ≡ None → ⊥
not_none None h e = absurd (let z : false ≡ true = h in cc)
not_none (Some x) h e = absurd (let z : Some x ≡ None = e in cc)

is_forged : Unforged forging (run toy programs forging) → ⊥
is_forged u = not_none (first_forged forging (run toy programs forging)) refl ((forged_is_first forging (run toy programs forging)).0.1 u)

-- under a hash that gives the same digest to all texts, the texts of both graphs collide
abbrev flat : Hash
flat text = replicate 32 0

collide_is : first_collision flat (hashed played (run flat programs played)) ≡ Some (graph_text_of (one_edge ping), graph_text_of (one_edge pong))
collide_is = refl

is_colliding : CollisionFree flat (hashed played (run flat programs played)) → ⊥
is_colliding c = not_none (first_collision flat (hashed played (run flat programs played))) refl ((collision_is_first flat (hashed played (run flat programs played))).0.1 c)
