-- Where a list is split, and items whose times rise.
use Rattle.std.specs.Prelude.{ℕ, zero, suc, ◌<◌, List, [], ◌∷◌, ◌++◌, map, length, get_or, All}
use Rattle.std.proofs.Common.{arith}
use Rattle.std.proofs.lemmas.List.Elements.{All-head, All-tail}
use Rattle.sg_model.specs.Last.{last_or}
use Rattle.sg_model.specs.Shape.{role_at}
use Rattle.sg_protocol.specs.Graph as G'
use Rattle.sg_protocol.specs.Graph.{Graph, IsGraph, shape}
use Rattle.sg_protocol.specs.Accepted.{Accepted}
use Rattle.sg_protocol.specs.Frame.{Item}
use Rattle.sg_law.specs.Run as R
use Rattle.sg_protocol.proofs.Moves.{step}

-- ---- times that rise

pub rises_mid : (t : ℕ) (a : List Item) (i : Item) (b : Item) (bs : List Item) → R.RisesFrom t (map step (a ++ i ∷ b ∷ bs)) → i.time < (last_or b bs).time
rises_mid t [] i b bs r = up i.time b bs r.1
  where
    up : (t : ℕ) (b : Item) (bs : List Item) → R.RisesFrom t (map step (b ∷ bs)) → t < (last_or b bs).time
    up t b [] r = r.0
    up t b (c ∷ cs) r = (let h = up b.time c cs r.1 in let l = r.0 in omega (arith, h, l))
rises_mid t (x ∷ a) i b bs r = rises_mid x.time a i b bs r.1

-- roles of nodes are roles
pub role_small : (g : Graph) → IsGraph g → Accepted g → (n : ℕ) → role_at (shape g) n < length g.roles
role_small g is acc n = go g.nodes is.roles n
  where
    go : (ns : List G'.Node) → All (λ (m : G'.Node). m.role < length g.roles) ns → (n : ℕ) → get_or (map (λ (m : G'.Node). m.role) ns) n 0 < length g.roles
    go [] a n = (let l = acc.two_roles in omega (arith, l))
    go (m ∷ ns) a zero = All-head (λ (m : G'.Node). m.role < length g.roles) m ns a
    go (m ∷ ns) a (suc n) = go ns (All-tail (λ (m : G'.Node). m.role < length g.roles) m ns a) n
