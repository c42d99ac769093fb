-- Lemmas on walks and blinding.
use Rattle.std.proofs.Common.{◌≡◌, ◌≢◌, ℕ, List, [], ◌∷◌, ◌++◌, refl, sym}
use Rattle.sg_model.specs.Shape.{Shape, Leads, Blinding, role_at, target, Walk, end_of}

pub walk-append : (g : Shape) (m : ℕ) (xs ys : List ℕ) → Walk g m (xs ++ ys) → Walk g m xs × Walk g (end_of g m xs) ys
walk-append g m [] ys w = (tt, w)
walk-append g m (x ∷ xs) ys w = let r = walk-append g (target g x) xs ys w.2 in ((w.0, w.1, r.0), r.1)

pub walk_join : (g : Shape) (m : ℕ) (xs ys : List ℕ) → Walk g m xs → Walk g (end_of g m xs) ys → Walk g m (xs ++ ys)
walk_join g m [] ys v w = w
walk_join g m (x ∷ xs) ys v w = (v.0, v.1, walk_join g (target g x) xs ys v.2 w)

pub end_of-append : (g : Shape) (m : ℕ) (xs ys : List ℕ) → end_of g m (xs ++ ys) ≡ end_of g (end_of g m xs) ys
end_of-append g m [] ys = refl
end_of-append g m (x ∷ xs) ys = end_of-append g (target g x) xs ys

-- the roles a and b may change places
pub blinding_turned : (g : Shape) (m a b : ℕ) → Blinding g m a b → Blinding g m b a
blinding_turned g m a b x = record { apart = λ e. x.apart (sym e); not_a = x.not_b; not_b = x.not_a; to_a = x.to_b; to_b = x.to_a; leads_a = x.leads_b; leads_b = x.leads_a }

-- a walk to a role that is not that of its first node has an edge
pub leads_on : (g : Shape) (m a b : ℕ) (es : List ℕ) → Leads g m a b es → role_at g m ≢ a → es ≢ []
leads_on g m a b [] x other e = other x.ends
leads_on g m a b (e ∷ es) x other f = absurd (cc)
