-- Blinding among some triples.
use Rattle.std.proofs.Common.{◌≡◌, ◌≢◌, ℕ, ◌<◌, ◌≤◌, ◌⊎◌, List, [], ◌∷◌, length, refl, subst, inl, inr, arith}
use Rattle.std.specs.Prelude.{⊤}
use Rattle.sg_model.specs.Shape.{Shape, Walk, end_of, Blinding, Sighted, role_at}
use Rattle.sg_model.proofs.Walks.{blinding_turned, leads_on}
use Rattle.sg_model.proofs.Small.{same_or_not}
use Rattle.sg_protocol.specs.Graph.{Graph, IsGraph, shape}
use Rattle.sg_reach.specs.Reaches.{IsWithin, LeadsPast}
use Rattle.sg_reach.proofs.Cases.{less_or}
use Rattle.sg_reach.proofs.Pair.{pair, leads_first, leads_second, first_leads, second_leads}
use Rattle.sg_reach.proofs.There.{ends_there, end_there, role_there}
use Rattle.sg_check.specs.Blind.{PairAtNode, IsBefore, IsBlind, IsClear, IsLeastBlinding, IsFaultAmong, AtNode, AtPair, AtRoles}
use Rattle.sg_check.specs.declared.blinding.BlindFault.{BlindFault}
use Rattle.sg_check.specs.declared.blinding.BlindFault.TheVariants.{Blinding as Blinds, OutOfMemory}

-- the fault among some triples is that among more, if what comes before is one of the first or has no blinding
pub widened : (g : Shape) (some more : PairAtNode → Type 0) (f : BlindFault) → ((p : PairAtNode) → some p → more p) → ((p q : PairAtNode) → some p → more q → IsBefore q p → some q ⊎ (IsBlind g q → ⊥)) → IsFaultAmong g some f → IsFaultAmong g more f
widened g some more (Blinds node a b walk_a walk_b) up rest x =
    let p : PairAtNode = record { node = node; a = a; b = b } in
    record {
      one = up p x.one;
      rising = x.rising;
      not_a = x.not_a;
      not_b = x.not_b;
      leads_a = x.leads_a;
      leads_b = x.leads_b;
      none_before = λ q among before blind. elim (rest p q x.one among before) [ inl y ↦ x.none_before q y before blind | inr z ↦ z blind ];
    }
widened g some more OutOfMemory up rest x = (x.0, up x.0 x.1, x.2)

-- a walk with an edge begins at a node
starts_there : (g : Graph) → IsGraph g → (m : ℕ) (es : List ℕ) → Walk (shape g) m es → es ≢ [] → m < length g.nodes
starts_there g x m [] w some = absurd (some refl)
starts_there g x m (e ∷ es) w some = subst (λ n. n < length g.nodes) w.1 (ends_there g x e w.0).0

-- the node and the roles of a blinding are there
pub blind_there : (g : Graph) → IsGraph g → (m a b : ℕ) → Blinding (shape g) m a b → (m < length g.nodes) × (a < length g.roles) × (b < length g.roles)
blind_there g x m a b y =
    let start = starts_there g x m y.to_a y.leads_a.walk (leads_on (shape g) m a b y.to_a y.leads_a y.not_a) in (
      start,
      subst (λ r. r < length g.roles) y.leads_a.ends (role_there g x (end_of (shape g) m y.to_a) (end_there g x m y.to_a start y.leads_a.walk)),
      subst (λ r. r < length g.roles) y.leads_b.ends (role_there g x (end_of (shape g) m y.to_b) (end_there g x m y.to_b start y.leads_b.walk)),
    )

-- if no triple has a blinding, no node blinds two roles
pub clear_sighted : (g : Shape) → IsClear g (λ p. ⊤) → Sighted g
clear_sighted g h m a b x =
    elim (less_or a b) [
      | inl l ↦ h (record { node = m; a = a; b = b }) tt (l, x)
      | inr le ↦ elim (same_or_not a b) [ inl s ↦ x.apart s | inr d ↦ h (record { node = m; a = b; b = a }) tt (above le d, blinding_turned g m a b x) ]
    ]
  where
    above : b ≤ a → a ≢ b → b < a
    above le d = omega arith

-- a fault shows a blinding
pub fault_blind : (g : Shape) (among : PairAtNode → Type 0) (f : BlindFault) → IsFaultAmong g among f → (p : PairAtNode) × among p × IsBlind g p
fault_blind g among (Blinds node a b walk_a walk_b) x =
    (record { node = node; a = a; b = b }, x.one, (x.rising, record { apart = below x.rising; not_a = x.not_a; not_b = x.not_b; to_a = walk_a; to_b = walk_b; leads_a = x.leads_a; leads_b = x.leads_b }))
  where
    below : a < b → a ≢ b
    below l e = omega arith
fault_blind g among OutOfMemory x = x

-- if a closure past two roles has no node of the first, the two aren't blinded
pub clear_first : (g : Graph) (m a b : ℕ) → ((n : ℕ) → role_at (shape g) n ≡ a → IsWithin (record { graph = g; from = m; past = pair a b }) n → ⊥) → IsClear (shape g) (AtRoles m a b)
clear_first g m a b h p at blind =
    let x : Blinding (shape g) m a b = subst (λ (i : ℕ). Blinding (shape g) m a i) at.2 (subst (λ (i : ℕ). Blinding (shape g) m i p.b) at.1 (subst (λ (i : ℕ). Blinding (shape g) i p.a p.b) at.0 blind.1)) in
    h (end_of (shape g) m x.to_a) x.leads_a.ends (x.to_a, first_leads (shape g) m a b x.to_a x.leads_a)

-- nor if it has no node of the second
pub clear_second : (g : Graph) (m a b : ℕ) → ((n : ℕ) → role_at (shape g) n ≡ b → IsWithin (record { graph = g; from = m; past = pair a b }) n → ⊥) → IsClear (shape g) (AtRoles m a b)
clear_second g m a b h p at blind =
    let x : Blinding (shape g) m a b = subst (λ (i : ℕ). Blinding (shape g) m a i) at.2 (subst (λ (i : ℕ). Blinding (shape g) m i p.b) at.1 (subst (λ (i : ℕ). Blinding (shape g) i p.a p.b) at.0 blind.1)) in
    h (end_of (shape g) m x.to_b) x.leads_b.ends (x.to_b, second_leads (shape g) m a b x.to_b x.leads_b)

-- if it has a node of each, they are blinded, and a walk to each shows it
pub shown : (g : Graph) (m a b n k : ℕ) (walk_a walk_b : List ℕ) → a < b → b < 16 → role_at (shape g) m ≢ a → role_at (shape g) m ≢ b → role_at (shape g) n ≡ a → role_at (shape g) k ≡ b
    → LeadsPast (shape g) m (pair a b) n walk_a → LeadsPast (shape g) m (pair a b) k walk_b → IsLeastBlinding (shape g) (AtRoles m a b) (record { node = m; a = a; b = b }) walk_a walk_b
shown g m a b n k walk_a walk_b rising small not_a not_b role_a role_b to_a to_b = record {
  one = (refl, refl, refl);
  rising = rising;
  not_a = not_a;
  not_b = not_b;
  leads_a = leads_first (shape g) m a b n walk_a (omega arith) small role_a to_a;
  leads_b = leads_second (shape g) m a b k walk_b (omega arith) small role_b to_b;
  none_before = λ q at before blind. elim before [ inl l ↦ omega (arith, at.0, l) | inr r ↦ elim r.1 [ inl l ↦ omega (arith, at.1, l) | inr s ↦ omega (arith, at.2, s.1) ] ];
}

-- nodes of both roles in the closure make a blinding
pub blind_at : (g : Graph) (m a b n k : ℕ) → a < b → b < 16 → role_at (shape g) m ≢ a → role_at (shape g) m ≢ b → role_at (shape g) n ≡ a → role_at (shape g) k ≡ b
    → IsWithin (record { graph = g; from = m; past = pair a b }) n → IsWithin (record { graph = g; from = m; past = pair a b }) k → (p : PairAtNode) × AtRoles m a b p × IsBlind (shape g) p
blind_at g m a b n k rising small not_a not_b role_a role_b to_a to_b =
    let x = shown g m a b n k to_a.0 to_b.0 rising small not_a not_b role_a role_b to_a.1 to_b.1 in
    (record { node = m; a = a; b = b }, x.one, (x.rising, record { apart = apart; not_a = x.not_a; not_b = x.not_b; to_a = to_a.0; to_b = to_b.0; leads_a = x.leads_a; leads_b = x.leads_b }))
  where
    apart : a ≢ b
    apart e = omega arith

-- a fault at one triple is one among those of its node and first role, if the lesser second roles have none
pub fault_of_pair : (g : Shape) (m a b : ℕ) (f : BlindFault) → ((p : PairAtNode) → p.node ≡ m → p.a ≡ a → p.b < b → IsBlind g p → ⊥) → IsFaultAmong g (AtRoles m a b) f → IsFaultAmong g (AtPair m a) f
fault_of_pair g m a b f clear x =
    widened g (AtRoles m a b) (AtPair m a) f (λ p at. (at.0, at.1))
    (λ p q one at before. inr (clear q at.0 at.1 (elim before [ inl l ↦ absurd (omega (arith, one.0, at.0, l)) | inr r ↦ elim r.1 [ inl l ↦ absurd (omega (arith, one.1, at.1, l)) | inr s ↦ omega (arith, one.2, s.1) ] ]))) x

-- and that among those of its node, if the lesser first roles have none
pub fault_of_node : (g : Shape) (m a : ℕ) (f : BlindFault) → ((p : PairAtNode) → p.node ≡ m → p.a < a → IsBlind g p → ⊥) → IsFaultAmong g (AtPair m a) f → IsFaultAmong g (AtNode m) f
fault_of_node g m a f clear x =
    widened g (AtPair m a) (AtNode m) f (λ p at. at.0)
    (λ p q one at before. elim before [ inl l ↦ absurd (omega (arith, one.0, at, l)) | inr r ↦ elim r.1 [ inl l ↦ inr (clear q at (omega (arith, one.1, l))) | inr s ↦ inl (at, omega (arith, one.1, s.0)) ] ]) x

-- and that among all, if the lesser nodes have none
pub fault_of_graph : (g : Shape) (m : ℕ) (f : BlindFault) → ((p : PairAtNode) → p.node < m → IsBlind g p → ⊥) → IsFaultAmong g (AtNode m) f → IsFaultAmong g (λ p. ⊤) f
fault_of_graph g m f clear x =
    widened g (AtNode m) (λ p. ⊤) f (λ p at. tt)
    (λ p q one at before. elim before [ inl l ↦ inr (clear q (omega (arith, one, l))) | inr r ↦ inl (omega (arith, one, r.0)) ]) x
