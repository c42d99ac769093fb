-- Steps of a run that stand beside walks, one after another.
use Rattle.std.specs.Prelude.{◌≡◌, ℕ, Bool, List, [], ◌∷◌, ◌++◌, map, refl}
use Rattle.std.proofs.Common.{sym, subst, append_assoc, append-nil}
use Rattle.sg_protocol.specs.Graph.{Graph}
use Rattle.sg_protocol.specs.Walk.{StoredStep}
use Rattle.sg_protocol.specs.World.{Logged}
use Rattle.sg_protocol.specs.Run.{events_of}
use Rattle.sg_protocol.specs.Explaining.{walk_after_events, walk_after_steps, IsShown, AllShown}

-- ---- steps of a run that stand beside walks

pub shown_split : (g : Graph) (sid : List ℕ) (before : List Logged) (m : List (Logged × List ℕ)) (x : Logged × List ℕ) → AllShown g sid before (m ++ x ∷ []) → AllShown g sid before m × IsShown g sid (before ++ map (λ (x : Logged × List ℕ). x.0) m) x.0 x.1
shown_split g sid before [] x a = (tt, subst (λ l. IsShown g sid l x.0 x.1) (sym (append-nil before)) a.0)
shown_split g sid before (y ∷ m) x a =
    let r = shown_split g sid (before ++ y.0 ∷ []) m x a.1 in
    ((a.0, r.0), subst (λ l. IsShown g sid l x.0 x.1) (append_assoc before (y.0 ∷ []) (map (λ (x : Logged × List ℕ). x.0) m)) r.1)

pub shown_join : (g : Graph) (sid : List ℕ) (before : List Logged) (m : List (Logged × List ℕ)) (x : Logged × List ℕ) → AllShown g sid before m → IsShown g sid (before ++ map (λ (x : Logged × List ℕ). x.0) m) x.0 x.1 → AllShown g sid before (m ++ x ∷ [])
shown_join g sid before [] x a b = (subst (λ l. IsShown g sid l x.0 x.1) (append-nil before) b, tt)
shown_join g sid before (y ∷ m) x a b = (a.0, shown_join g sid (before ++ y.0 ∷ []) m x a.1 (subst (λ l. IsShown g sid l x.0 x.1) (sym (append_assoc before (y.0 ∷ []) (map (λ (x : Logged × List ℕ). x.0) m))) b))

pub walk_after_steps-last : (g : Graph) (honest : ℕ → Bool) (sid : List ℕ) (steps : List StoredStep) (m : List (Logged × List ℕ)) (x : Logged × List ℕ) → walk_after_steps g honest sid steps (m ++ x ∷ []) ≡ walk_after_events g honest (walk_after_steps g honest sid steps m) (events_of sid (x.0 ∷ [])) x.1
walk_after_steps-last g honest sid steps [] x = refl
walk_after_steps-last g honest sid steps (y ∷ m) x = walk_after_steps-last g honest sid (walk_after_events g honest steps (events_of sid (y.0 ∷ [])) y.1) m x
