-- Targets, views, knowledge and blinding of small graphs.
use Rattle.std.specs.Prelude.{◌≡◌, ℕ, ◌==◌, nat_lt, Bool, true, false, ◌&&◌, not, if◌then◌else◌, List, [], ◌∷◌, map, filter, flat_map, length, refl, Some, None}
use Rattle.std.proofs.Common.{lit<, arith}
use Rattle.sg_model.specs.Lists.{below}
use Rattle.sg_model.specs.Shape.{Shape, Arrow, Blinding, role_at}
use Rattle.sg_protocol.specs.Graph.{shape, canonical}
use Rattle.sg_protocol.specs.Knowledge.{knows}
use Rattle.sg_protocol.specs.Evidence.{view_of}
use Rattle.sg_protocol.proofs.Examples.{shop, pair, relay, order, ask, offer, pass, retry, reach, targets, views}

canonical_shop : length (canonical shop) ≡ 424
canonical_shop = refl

targets_shop : map (targets shop) (below 8) ≡ (2 ∷ []) ∷ [] ∷ (0 ∷ []) ∷ (0 ∷ []) ∷ [] ∷ [] ∷ (2 ∷ []) ∷ [] ∷ []
targets_shop = refl

first_view : view_of shop 2 (order ∷ ask ∷ []) ≡ record { origin = None; items = record { label = order; delta = 0 ∷ [] } ∷ record { label = ask; delta = [] } ∷ [] }
first_view = refl

second_view : view_of shop 2 (order ∷ ask ∷ offer ∷ pass ∷ retry ∷ ask ∷ []) ≡ record { origin = Some offer; items = record { label = retry; delta = 0 ∷ [] } ∷ record { label = ask; delta = [] } ∷ [] }
second_view = refl

-- p sees only the last step of c, but all that was written
known : map (λ x. knows shop 1 x (order ∷ ask ∷ offer ∷ [])) (0 ∷ 1 ∷ []) ≡ true ∷ true ∷ []
known = refl

unknown : knows shop 0 1 (order ∷ ask ∷ offer ∷ []) ≡ false
unknown = refl

counts : map (λ r. length (views shop 12 r)) (below 3) ≡ 4 ∷ 5 ∷ 2 ∷ []
counts = refl

w_views : views shop 12 2 ≡ record { origin = None; items = record { label = order; delta = 0 ∷ [] } ∷ record { label = ask; delta = [] } ∷ [] }
    ∷ record { origin = Some offer; items = record { label = retry; delta = 0 ∷ [] } ∷ record { label = ask; delta = [] } ∷ [] } ∷ []
w_views = refl

-- ---- blinding

abbrev edge : ℕ → ℕ → Arrow
edge a b = record { source = a; target = b; writes = []; reads = [] }

-- c goes on to a or to b
abbrev fork : Shape
fork = record { roles = 0 ∷ 1 ∷ 2 ∷ []; edges = edge 0 1 ∷ edge 0 2 ∷ [] }

-- c goes on to d in two ways, and d to a or to b; no single node has edges to both
abbrev late_fork : Shape
late_fork = record { roles = 0 ∷ 1 ∷ 1 ∷ 2 ∷ 3 ∷ []; edges = edge 0 1 ∷ edge 0 2 ∷ edge 1 3 ∷ edge 2 4 ∷ [] }

fork_blinds : Blinding fork 0 1 2
fork_blinds = record {
  apart = λ e. omega (arith, e);
  not_a = λ e. omega (arith, e);
  not_b = λ e. omega (arith, e);
  to_a = 0 ∷ [];
  to_b = 1 ∷ [];
  leads_a = record { walk = (lit< tt, refl, tt); ends = refl; no_a = refl; no_b = refl };
  leads_b = record { walk = (lit< tt, refl, tt); ends = refl; no_a = refl; no_b = refl };
}

late_fork_blinds : Blinding late_fork 0 2 3
late_fork_blinds = record {
  apart = λ e. omega (arith, e);
  not_a = λ e. omega (arith, e);
  not_b = λ e. omega (arith, e);
  to_a = 0 ∷ 2 ∷ [];
  to_b = 1 ∷ 3 ∷ [];
  leads_a = record { walk = (lit< tt, refl, (lit< tt, refl, tt)); ends = refl; no_a = refl; no_b = refl };
  leads_b = record { walk = (lit< tt, refl, (lit< tt, refl, tt)); ends = refl; no_a = refl; no_b = refl };
}

-- from m a node of r can be reached, past no node of a or b
abbrev meets : Shape → ℕ → ℕ → ℕ → ℕ → Bool
meets g m a b r = nat_lt 0 (length (filter (λ n. role_at g n == r) (reach g (λ k. if k == a then true else k == b) (length g.roles) (m ∷ []))))

-- the nodes and pairs of roles, of so many, for which blinding holds
abbrev blind_triples : Shape → ℕ → List (List ℕ)
blind_triples g k = flat_map (λ m. flat_map (λ a. flat_map (λ b.
    if nat_lt a b && not (role_at g m == a) && not (role_at g m == b) && meets g m a b a && meets g m a b b then (m ∷ a ∷ b ∷ []) ∷ [] else [])
    (below k)) (below k)) (below (length g.roles))

triples : map (λ g. blind_triples g 4) (fork ∷ late_fork ∷ shape shop ∷ shape pair ∷ shape relay ∷ []) ≡ ((0 ∷ 1 ∷ 2 ∷ []) ∷ []) ∷ ((0 ∷ 2 ∷ 3 ∷ []) ∷ []) ∷ [] ∷ [] ∷ [] ∷ []
triples = refl

targets_relay : map (targets relay) (below 3) ≡ (2 ∷ 3 ∷ []) ∷ (3 ∷ []) ∷ [] ∷ []
targets_relay = refl
