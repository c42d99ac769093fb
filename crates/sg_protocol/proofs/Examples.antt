-- Graphs, schedules and tables on which the definitions are computed: examples that are checked, and no part of any law.
use Rattle.std.specs.Prelude.{ℕ, zero, suc, ◌+◌, ◌*◌, ◌%◌, ◌^◌, ◌==◌, Bool, true, false, not, ◌&&◌, ◌||◌, if◌then◌else◌, List, [], ◌∷◌, map, filter, flat_map, replicate, length, fold, codes, nat_lt, bytes_eq, Some, None}
use Rattle.std.specs.List.{list_any}
use Rattle.std.specs.Int.{bytes_high_first}
use Rattle.sg_model.specs.Lists.{below, is_in}
use Rattle.sg_model.specs.Shape.{Shape, role_at, source, target, sender, receiver, end_of}
use Rattle.sg_protocol.specs.Graph.{Graph, Int, Text, shape}
use Rattle.sg_protocol.specs.Evidence.{View, view_of, same_view, view_before}
use Rattle.sg_protocol.specs.Frame.{Cast}
use Rattle.sg_protocol.specs.Texts.{Hash, graph_digest}
use Rattle.sg_protocol.specs.Keyring.{Program}
use Rattle.sg_protocol.specs.Schedule.{Schedule, Source, Craft, Step, is_honest}
use Rattle.sg_protocol.specs.World.{Outcome, World}
use Rattle.sg_protocol.specs.Run.{run}
use Rattle.sg_protocol.specs.Crafted.{nonce_of}
use Rattle.sg_protocol.specs.Notes.{Note}

-- a customer orders, a shop asks its warehouse, and passes on an offer or a refusal
abbrev pub shop : Graph
shop = record {
  name = codes "shop";
  roles = codes "c" ∷ codes "p" ∷ codes "w" ∷ [];
  variables = record { name = codes "q"; kind = Text; writers = 0 ∷ [] } ∷ record { name = codes "price"; kind = Int; writers = 2 ∷ [] } ∷ [];
  nodes = record { name = codes "n0"; role = 0 } ∷ record { name = codes "n1"; role = 1 } ∷ record { name = codes "n2"; role = 2 } ∷ record { name = codes "n3"; role = 1 }
      ∷ record { name = codes "n4"; role = 0 } ∷ record { name = codes "n5"; role = 1 } ∷ record { name = codes "n6"; role = 0 } ∷ record { name = codes "n7"; role = 1 } ∷ [];
  edges = record { name = codes "Order"; source = 0; target = 1; writes = 0 ∷ []; reads = 0 ∷ [] }
      ∷ record { name = codes "Ask"; source = 1; target = 2; writes = []; reads = 0 ∷ [] }
      ∷ record { name = codes "Offer"; source = 2; target = 3; writes = 1 ∷ []; reads = 1 ∷ [] }
      ∷ record { name = codes "Refuse"; source = 2; target = 5; writes = []; reads = [] }
      ∷ record { name = codes "Pass"; source = 3; target = 4; writes = []; reads = 1 ∷ [] }
      ∷ record { name = codes "Deny"; source = 5; target = 6; writes = []; reads = [] }
      ∷ record { name = codes "Retry"; source = 4; target = 1; writes = 0 ∷ []; reads = 0 ∷ [] }
      ∷ record { name = codes "Accept"; source = 4; target = 7; writes = []; reads = [] } ∷ [];
}

-- labels of shop
abbrev pub order : ℕ
order = 0

abbrev pub ask : ℕ
ask = 1

abbrev pub offer : ℕ
offer = 2

abbrev pub refuse : ℕ
refuse = 3

abbrev pub pass : ℕ
pass = 4

abbrev pub deny : ℕ
deny = 5

abbrev pub retry : ℕ
retry = 6

abbrev pub buy : ℕ
buy = 7

-- the nodes to which an edge leads from one of these nodes
abbrev pub next_nodes : Shape → (ℕ → Bool) → List ℕ → List ℕ
next_nodes g stops ns = filter (λ n. list_any (λ e. is_in (source g e) ns && not (stops (role_at g (source g e))) && (target g e == n)) (below (length g.edges))) (below (length g.roles))

-- the nodes that k steps reach, which leave no node of a role that stops
abbrev pub reach : Shape → (ℕ → Bool) → ℕ → List ℕ → List ℕ
reach g stops zero ns = ns
reach g stops (suc k) ns = reach g stops k (filter (λ n. is_in n ns || is_in n (next_nodes g stops ns)) (below (length g.roles)))

-- the targets of an edge, by closing the set of nodes
abbrev pub targets : Graph → ℕ → List ℕ
targets g e = filter (λ t. not (t == sender (shape g) e) && not (t == receiver (shape g) e)
    && list_any (λ n. role_at (shape g) n == t) (reach (shape g) (λ r. (r == t) || (r == sender (shape g) e)) (length g.nodes) (target (shape g) e ∷ []))) (below (length g.roles))

-- the nodes at which two roles are blind to each other, with these roles
abbrev pub blinds : Graph → ℕ → ℕ → ℕ → Bool
blinds g m a b = not (a == b) && not (role_at (shape g) m == a) && not (role_at (shape g) m == b)
    && list_any (λ n. role_at (shape g) n == a) (reach (shape g) (λ r. (r == a) || (r == b)) (length g.nodes) (m ∷ []))
    && list_any (λ n. role_at (shape g) n == b) (reach (shape g) (λ r. (r == a) || (r == b)) (length g.nodes) (m ∷ []))

-- a quick hash: a number below 2 ^ 256, in 32 bytes
abbrev pub toy : Hash
toy t = bytes_high_first 32 (fold (λ n b. (n * 65599 + b + 1) % 2 ^ 256) 7 t)

-- the walks of at most k steps that go on from node m
abbrev pub walks : Shape → ℕ → ℕ → List (List ℕ)
walks g zero m = [] ∷ []
walks g (suc k) m = [] ∷ flat_map (λ e. map (λ w. e ∷ w) (walks g k (target g e))) (filter (λ e. source g e == m) (below (length g.edges)))

-- a view is put in its place in a table
abbrev pub put_view : View → List View → List View
put_view v [] = v ∷ []
put_view v (w ∷ ws) = if same_view v w then (w ∷ ws) else (if view_before v w then (v ∷ w ∷ ws) else (w ∷ put_view v ws))

-- nothing is there
abbrev pub is_empty : List ℕ → Bool
is_empty [] = true
is_empty (x ∷ xs) = false

-- the views that walks of at most k steps give
abbrev pub views : Graph → ℕ → ℕ → List View
views g k r = fold (λ table w. put_view (view_of g r w) table) [] (filter (λ w. (role_at (shape g) (end_of (shape g) 0 w) == r) && not (is_empty w)) (walks (shape g) k 0))

-- the program of a role, from walks of at most k steps
abbrev pub program : Hash → Graph → ℕ → ℕ → Program
program sha g k r = record { graph = g; role = r; digest = graph_digest sha g; views = views g k r; targets = map (targets g) (below (length g.edges)) }

-- the programs of all roles
abbrev pub programs : Hash → Graph → ℕ → List Program
programs sha g k = map (program sha g k) (below (length g.roles))

-- a key of one byte, written 32 times
abbrev pub key : ℕ → List ℕ
key b = replicate 32 b

-- the cast of a graph with these principals
abbrev pub cast : List ℕ → ℕ → List (List ℕ) → Cast
cast digest nonce names = record { version = 1; graph = digest; nonce = nonce_of nonce; names = names }

-- three principals
abbrev pub alice : List ℕ
alice = codes "alice"

abbrev pub bob : List ℕ
bob = codes "bob"

abbrev pub carl : List ℕ
carl = codes "carl"

-- the schedule of a shop with these honest principals and steps
abbrev pub shop_schedule : Hash → List (List ℕ) → List Step → Schedule
shop_schedule sha honest steps = record {
  graphs = shop ∷ [];
  honest = honest;
  keys = record { one = alice; two = bob; key = key 0x11 } ∷ record { one = alice; two = carl; key = key 0x22 } ∷ record { one = bob; two = carl; key = key 0x33 } ∷ [];
  sessions = record { name = codes "s1"; cast = cast (graph_digest sha shop) 7 (alice ∷ bob ∷ carl ∷ []) } ∷ [];
  steps = steps;
}

-- the graph of a request and a reply, with a further request
abbrev pub pair : Graph
pair = record {
  name = codes "pair";
  roles = codes "a" ∷ codes "b" ∷ [];
  variables = [];
  nodes = record { name = codes "n0"; role = 0 } ∷ record { name = codes "n1"; role = 1 } ∷ record { name = codes "n2"; role = 0 } ∷ [];
  edges = record { name = codes "Request"; source = 0; target = 1; writes = []; reads = [] } ∷ record { name = codes "Reply"; source = 1; target = 2; writes = []; reads = [] }
      ∷ record { name = codes "Again"; source = 2; target = 1; writes = []; reads = [] } ∷ [];
}

-- sessions of pair in version 1 and 2
abbrev pub pair_schedule : Hash → List (List ℕ) → List Step → Schedule
pair_schedule sha honest steps = record {
  graphs = pair ∷ [];
  honest = honest;
  keys = record { one = codes "a"; two = codes "b"; key = key 0x11 } ∷ [];
  sessions = record { name = codes "s1"; cast = cast (graph_digest sha pair) 1 (codes "a" ∷ codes "b" ∷ []) }
      ∷ record { name = codes "s2"; cast = record (cast (graph_digest sha pair) 1 (codes "a" ∷ codes "b" ∷ [])) { version = 2 } } ∷ [];
  steps = steps;
}

-- the graph in which one role shows what another put
abbrev pub relay : Graph
relay = record {
  name = codes "relay";
  roles = codes "c" ∷ codes "a" ∷ codes "d" ∷ codes "b" ∷ [];
  variables = record { name = codes "x"; kind = Int; writers = 0 ∷ [] } ∷ [];
  nodes = record { name = codes "n0"; role = 0 } ∷ record { name = codes "n1"; role = 1 } ∷ record { name = codes "n2"; role = 2 } ∷ record { name = codes "n3"; role = 3 } ∷ [];
  edges = record { name = codes "Put"; source = 0; target = 1; writes = 0 ∷ []; reads = 0 ∷ [] }
      ∷ record { name = codes "Hand"; source = 1; target = 2; writes = []; reads = 0 ∷ [] }
      ∷ record { name = codes "Show"; source = 2; target = 3; writes = []; reads = 0 ∷ [] } ∷ [];
}

-- role 0 tells role 1 the first label of a session, under a seal
abbrev pub first_told : ℕ → Source → Craft
first_told session seal = record {
  session = session;
  from = 0;
  to = 1;
  join = Some (record { nonce = None; names = None });
  know = [];
  items = record { label = 0; time = 1; delta = []; tags = [] } ∷ [];
  openings = [];
  seal = seal;
}

-- the outcome of each step
abbrev pub outcomes : Hash → Schedule → List Program → List Outcome
outcomes sha s ps = map (λ l. l.outcome) (run sha ps s).log

-- both texts are the same note
abbrev pub same_note : Note → Note → Bool
same_note m n = bytes_eq m.one n.one && bytes_eq m.two n.two && bytes_eq m.text n.text

-- the numbers of the steps that found a tag of two honest principals that no step before had made
abbrev pub forged : Schedule → World → List ℕ
forged s w = flat_map (λ l. flat_map (λ n.
    if is_honest s n.one && is_honest s n.two && not (list_any (λ k. nat_lt k.number l.number && list_any (same_note n) k.notes.made) w.log) then l.number ∷ [] else [])
    l.notes.found) w.log

-- the texts that share a hash with another
abbrev pub colliding : Hash → List (List ℕ) → List (List ℕ)
colliding sha texts = filter (λ a. list_any (λ b. bytes_eq (sha a) (sha b) && not (bytes_eq a b)) texts) texts
