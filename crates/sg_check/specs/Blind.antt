-- Blinded roles, and the least of them.
use Rattle.std.specs.Prelude.{◌≡◌, ◌≢◌, ℕ, ◌<◌, ◌⊎◌, List, ⊤}
use Rattle.sg_model.specs.Shape.{Shape, Leads, Blinding, role_at}
use Rattle.sg_check.specs.declared.blinding.BlindFault.{BlindFault}
use Rattle.sg_check.specs.declared.blinding.BlindFault.TheVariants.{Blinding as Blinds, OutOfMemory}

-- a node and two roles
pub record PairAtNode : Type 0 where
  pub node : ℕ
  pub a : ℕ
  pub b : ℕ

-- the first pair has the lesser node, or the same and the lesser first role, or the same two and the lesser second role
abbrev pub IsBefore : PairAtNode → PairAtNode → Type 0
IsBefore p q = (p.node < q.node) ⊎ ((p.node ≡ q.node) × ((p.a < q.a) ⊎ ((p.a ≡ q.a) × (p.b < q.b))))

-- the first role is the lesser, and the node blinds the two
abbrev pub IsBlind : Shape → PairAtNode → Type 0
IsBlind g p = (p.a < p.b) × Blinding g p.node p.a p.b

-- none of these pairs has a blinding
abbrev pub IsClear : Shape → (PairAtNode → Type 0) → Type 0
IsClear g among = (p : PairAtNode) → among p → IsBlind g p → ⊥

-- two walks that show a blinding at one of these pairs, before which none of them has one
pub record IsLeastBlinding (g : Shape) (among : PairAtNode → Type 0) (p : PairAtNode) (walk_a walk_b : List ℕ) : Type 0 where
  pub one : among p
  pub rising : p.a < p.b
  pub not_a : role_at g p.node ≢ p.a
  pub not_b : role_at g p.node ≢ p.b
  pub leads_a : Leads g p.node p.a p.b walk_a
  pub leads_b : Leads g p.node p.b p.a walk_b
  pub none_before : (q : PairAtNode) → among q → IsBefore q p → IsBlind g q → ⊥

-- the least blinding at these pairs; or one of them has a blinding, and there was no memory for the walks
abbrev pub IsFaultAmong : Shape → (PairAtNode → Type 0) → BlindFault → Type 0
IsFaultAmong g among (Blinds node a b walk_a walk_b) = IsLeastBlinding g among (record { node = node; a = a; b = b }) walk_a walk_b
IsFaultAmong g among OutOfMemory = (p : PairAtNode) × among p × IsBlind g p

-- the least blinding of the graph, or no memory for its walks
abbrev pub IsBlindFault : Shape → BlindFault → Type 0
IsBlindFault g fault = IsFaultAmong g (λ p. ⊤) fault

-- the pair has this node
abbrev pub AtNode : ℕ → PairAtNode → Type 0
AtNode m p = p.node ≡ m

-- the pair has this node and this first role
abbrev pub AtPair : ℕ → ℕ → PairAtNode → Type 0
AtPair m a p = (p.node ≡ m) × (p.a ≡ a)

-- the pair has this node and these roles
abbrev pub AtRoles : ℕ → ℕ → ℕ → PairAtNode → Type 0
AtRoles m a b p = (p.node ≡ m) × (p.a ≡ a) × (p.b ≡ b)
