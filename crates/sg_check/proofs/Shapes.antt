-- Faults of a graph's shape: at most one kind and position is reported, and only if the shape isn't right.
use Rattle.std.proofs.Common.{◌≡◌, ℕ, ◌<◌, [], length, ap, subst, inl, inr, arith}
use Rattle.std.specs.Prelude.{◌↔◌, Result, Err}
use Rattle.sg_protocol.specs.Accepted.{Reached}
use Rattle.sg_protocol.specs.Graph.{Graph}
use Rattle.sg_reach.specs.Reaches.{IsWithin}
use Rattle.sg_reach.proofs.Cases.{less_or}
use Rattle.sg_check.specs.Least.{IsNowhere, IsLeast}
use Rattle.sg_check.specs.Shaped.{IsSelfEdge, IsUnreachable, IsIdle, IsShapeFault}
use Rattle.sg_check.specs.declared.shape.ShapeFault.{ShapeFault}
use Rattle.sg_check.specs.declared.shape.ShapeFault.TheVariants.{SelfEdge, Unreachable, IdleRole}

-- there is one least number at most
pub least_once : (P : ℕ → Type 0) (m n : ℕ) → IsLeast P m → IsLeast P n → m ≡ n
least_once P m n x y =
    elim (less_or m n) [
      | inl l ↦ absurd (y.none_below m l x.here)
      | inr g ↦ elim (less_or n m) [ inl l ↦ absurd (x.none_below n l y.here) | inr h ↦ omega arith ]
    ]

-- one fault is reported at most
pub fault_once : (g : Graph) (f h : ShapeFault) → IsShapeFault g f → IsShapeFault g h → f ≡ h
fault_once g (SelfEdge e) (SelfEdge d) x y = ap SelfEdge (least_once (IsSelfEdge g) e d x y)
fault_once g (SelfEdge e) (Unreachable n) x y = absurd (y.0 e x.here)
fault_once g (SelfEdge e) (IdleRole r) x y = absurd (y.0 e x.here)
fault_once g (Unreachable n) (SelfEdge d) x y = absurd (x.0 d y.here)
fault_once g (Unreachable n) (Unreachable m) x y = ap Unreachable (least_once (IsUnreachable g) n m x.1 y.1)
fault_once g (Unreachable n) (IdleRole r) x y = absurd (y.1 n x.1.here)
fault_once g (IdleRole r) (SelfEdge d) x y = absurd (x.0 d y.here)
fault_once g (IdleRole r) (Unreachable m) x y = absurd (x.1 m y.1.here)
fault_once g (IdleRole r) (IdleRole s) x y = ap IdleRole (least_once (IsIdle g) r s x.2 y.2)

-- if walks reach each node, none is unreachable
pub none_unreachable : (g : Graph) → ((n : ℕ) → n < length g.nodes → Reached g n) → IsNowhere (IsUnreachable g)
none_unreachable g all n x = x.1 (all n x.0)

-- what is in the closure of the start past no roles is reached from the start
pub within_start : (g : Graph) (n : ℕ) → IsWithin (record { graph = g; from = 0; past = [] }) n → Reached g n
within_start g n x = (x.0, x.1.walk, x.1.ends)

-- the refusal that reports a fault is that of no other
pub refused_once : (g : Graph) (f : ShapeFault) → IsShapeFault g f → (h : ShapeFault) → (◌≡◌ {A = Result (Unit {0}) ShapeFault} (Err f) (Err h)) ↔ IsShapeFault g h
refused_once g f x h = ((λ e. let same : f ≡ h = cc in subst (IsShapeFault g) same x), (λ y. ap Err (fault_once g f h x y)))
