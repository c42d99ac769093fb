-- The sessions of a group begin, its turns end, and groups stand one after another.
use Rattle.std.proofs.Common.{◌≡◌, ℕ, zero, suc, ◌+◌, ◌-◌, ◌*◌, ◌<◌, ◌≤◌, ◌==◌, min, Bool, true, false, nat_le, List, [], ◌∷◌, length, inl, inr, refl, sym, ap, ◌∙◌, subst, arith, add-one}
use Rattle.std.specs.Prelude.{Result, Ok, Err, IfErr, OnOk}
use Rattle.std.proofs.lemmas.Bool.{cases_Bool, eqb-true}
use Rattle.std.proofs.lemmas.Bool.Decides.{nat_tests}
use Rattle.sg_model.specs.Limits.{most_driven}
use Rattle.sg_protocol.specs.Graph.{Graph}
use Rattle.sg_protocol.specs.IsSchedule.{AreCompiled}
use Rattle.sg_protocol.specs.Keyring.{Program}
use Rattle.sg_protocol.specs.Texts.{real}
use Rattle.sg_drive.proofs.Extends.{Goes, extends_both, extends_itself, full_more, goes_begin, goes_begin_all, goes_turns, stopped_more}
use Rattle.sg_drive.proofs.BudgetOfTurns.{begin_all_keeps, begin_keeps, group_keeps, turn_keeps}
use Rattle.sg_drive.proofs.Left.{at, budget_room, more_budget, none_left}
use Rattle.sg_sessions.proofs.OwnSetup.{few_roles_of, new_own}
use Rattle.sg_drive.proofs.Room.{room_less}
use Rattle.sg_drive.proofs.Turning.{turn_stopped}
use Rattle.sg_drive.specs.Budget.{HasBudget}
use Rattle.sg_drive.specs.Faults.{IsGenerateFault, IsStopped}
use Rattle.sg_drive.specs.Generated.{AreGroups, IsGroup, begin, begin_all, turn, turns}
use Rattle.sg_drive.specs.Going.{Going, Pending, beginning}
use Rattle.sg_drive.specs.Groups.{AreTurns, IsGroupFault, IsOfGroup, IsTurnFault}
use Rattle.sg_drive.specs.Machine.{HasRoom, Machine}
use Rattle.sg_drive.specs.declared.fault.GenerateFault.{GenerateFault}
use Rattle.sg_drive.specs.declared.fault.GenerateFault.TheVariants.{RecordFull, OutOfMemory}

-- ---- a group begins

-- the sessions of a group that have begun so far
abbrev pub begun_so_far : Machine → (first n : ℕ) → Machine
begun_so_far m first n = at m (begin_all m.seed m.graph first n m.going)

-- one more can begin
pub can_begin : (m m1 : Machine) (first n : ℕ) → m1 ≡ begun_so_far m first n → HasBudget (80 * n) (first + n) m1 → first + n < m.sessions → HasRoom 2 500000002 m1 × (first + n < m1.sessions)
can_begin m m1 first n e b l =
    (room_less 2 2 500000000 500000002 m1 (omega arith) (omega arith) (budget_room (80 * n) (first + n) m1 b), subst (λ (z : Machine). first + n < z.sessions) (sym e) l)

-- and then has begun
pub has_begun : (m m1 m2 : Machine) (first n : ℕ) → m1 ≡ begun_so_far m first n → HasBudget (80 * n) (first + n) m1 → first + n < m.sessions → m2 ≡ record m1 { going = begin m1.seed m1.graph (first + n) m1.going }
    → (m2 ≡ begun_so_far m first (n + 1)) × HasBudget (80 * (n + 1)) (first + (n + 1)) m2
has_begun m m1 m2 first n e b l q =
    let y : Going = begin_all m.seed m.graph first n m.going in
    let here : HasBudget (80 * n) (first + n) (at m y) = subst (HasBudget (80 * n) (first + n)) e b in
    let next : HasBudget (80 * n + 80) (first + n + 1) (at m (begin m.seed m.graph (first + n) y)) = begin_keeps m (first + n) (80 * n) y here (first + n) l l in
    let is : m2 ≡ at m (begin m.seed m.graph (first + n) y) = q ∙ ap (λ (z : Machine). at z (begin z.seed z.graph (first + n) z.going)) e in
    let index : first + n + 1 ≡ first + (n + 1) = omega arith in (
      is ∙ ap (λ k. begun_so_far m first k) (sym (add-one n)),
      subst (HasBudget (80 * (n + 1)) (first + (n + 1))) (sym is) (subst (λ k. HasBudget (80 * (n + 1)) k (at m (begin m.seed m.graph (first + n) y))) index (more_budget (80 * n + 80) (80 * (n + 1)) (first + n + 1) (at m (begin m.seed m.graph (first + n) y)) (omega arith) next)),
    )

goes_further : (seed : ℕ) (g : Graph) (first i n : ℕ) (x : Going) → i ≤ n → Goes (begin_all seed g first i x) (begin_all seed g first n x)
goes_further seed g first i zero x l = let same : i ≡ zero = omega (arith, l) in subst (λ z. Goes (begin_all seed g first z x) x) (sym same) (extends_itself x.replay)
goes_further seed g first i (suc n) x l = elim (cases_Bool (nat_le i n)) [
  | inl e ↦ extends_both (begin_all seed g first i x).replay (begin_all seed g first n x).replay (begin seed g (first + n) (begin_all seed g first n x)).replay (goes_further seed g first i n x (grind (arith, nat_tests))) (goes_begin seed g (first + n) (begin_all seed g first n x))
  | inr e ↦ (let above : n < i = grind (arith, nat_tests) in let same : i ≡ suc n = omega (arith, l, above) in subst (λ z. Goes (begin_all seed g first z x) (begin_all seed g first (suc n) x)) (sym same) (extends_itself (begin_all seed g first (suc n) x).replay))
]

-- a session whose beginning is stopped stops the group's
pub begin_stopped : (m m1 : Machine) (first i n : ℕ) → m1 ≡ begun_so_far m first i → i < n → (e : GenerateFault) → IsStopped (begin m1.seed m1.graph (first + i) m1.going).replay e → IsStopped (begin_all m.seed m.graph first n m.going).replay e
begin_stopped m m1 first i n q l e stopped =
    stopped_more (begin_all m.seed m.graph first (suc i) m.going).replay (begin_all m.seed m.graph first n m.going).replay e (goes_further m.seed m.graph first (suc i) n m.going (omega (arith, l)))
    (subst (λ (z : Machine). IsStopped (begin z.seed z.graph (first + i) z.going).replay e) q stopped)

-- ---- turns

-- after n turns
abbrev pub turned : Machine → (n : ℕ) → Machine
turned m n = at m (turns n m.seed m.graph m.going)

pub can_turn : (m1 : Machine) (i begun : ℕ) → HasBudget (1280 - i) begun m1 → HasRoom 2 500000000 m1
can_turn m1 i begun b = budget_room (1280 - i) begun m1 b

-- a turn uses up a step
pub has_turned : (m m1 m2 : Machine) (i begun : ℕ) → m1 ≡ turned m i → HasBudget (1280 - i) begun m1 → 0 < length m1.going.pending → m2 ≡ record m1 { going = turn m1.seed m1.graph m1.going }
    → (m2 ≡ turned m (i + 1)) × (i + 1 ≤ 1280) × HasBudget (1280 - (i + 1)) begun m2
has_turned m m1 m2 i begun e b some q = by (1280 - i) refl b
  where
    y : Going
    y = turns i m.seed m.graph m.going

    by : (k : ℕ) → 1280 - i ≡ k → HasBudget k begun m1 → (m2 ≡ turned m (i + 1)) × (i + 1 ≤ 1280) × HasBudget (1280 - (i + 1)) begun m2
    by zero z c = absurd (let none = none_left begun m1 c in let l : length m1.going.pending ≡ 0 = ap (λ (ps : List Pending). length ps) none in omega (arith, l, some))
    by (suc k) z c =
        let next : HasBudget k begun (at m1 (turn m1.seed m1.graph m1.going)) = turn_keeps m1 begun k m1.going c some in
        let less : 1280 - (i + 1) ≡ k = omega (arith, z) in
        (q ∙ ap (λ (z : Machine). at z (turn z.seed z.graph z.going)) e ∙ ap (turned m) (sym (add-one i)), omega (arith, z), subst (λ n. HasBudget n begun m2) (sym less) (subst (HasBudget k begun) (sym q) next))

-- whether a frame is pending
pub some_of : (m : Machine) (b : Bool) → b ≡ (length m.going.pending == 0) → b ≡ false → 0 < length m.going.pending
some_of m b e f = let z : (length m.going.pending == 0) ≡ false = sym e ∙ f in grind (arith, nat_tests)

nil_of : {A : Type 0} (xs : List A) → (length xs == 0) ≡ true → xs ≡ []
nil_of [] e = refl
nil_of (x ∷ xs) e = absurd (let z : length (x ∷ xs) ≡ 0 = eqb-true (length (x ∷ xs)) 0 e in omega (arith, z))

pub none_of : (m : Machine) (b : Bool) → b ≡ (length m.going.pending == 0) → b ≡ true → m.going.pending ≡ []
none_of m b e t = nil_of m.going.pending (sym e ∙ t)

-- a turn that is stopped, if a frame is pending, stops the turns
pub stops_turns : (m m1 : Machine) (i : ℕ) (e : GenerateFault) → m1 ≡ turned m i → 0 < length m1.going.pending → IsStopped (turn m1.seed m1.graph m1.going).replay e → IsTurnFault m e
stops_turns m m1 i e q some stopped count over =
    turn_stopped m.seed m.graph i count m.going e
    (λ none. let here : m1.going.pending ≡ [] = ap (λ (z : Machine). z.going.pending) q ∙ none in let l : length m1.going.pending ≡ 0 = ap (λ (ps : List Pending). length ps) here in omega (arith, l, some)) over
    (subst (λ (z : Machine). IsStopped (turn z.seed z.graph z.going).replay e) q stopped)

-- ---- groups

-- what stopped a group's beginning stops each run that goes on by it
pub begin_fault : (m : Machine) (first n : ℕ) (e : GenerateFault) → IsStopped (begin_all m.seed m.graph first n m.going).replay e → IsGroupFault first n m e
begin_fault m first n e stopped going a =
    stopped_more (begin_all m.seed m.graph first n m.going).replay going.replay e (subst (λ (z : Going). Goes (begin_all m.seed m.graph first n m.going) z) (sym a.is) (goes_turns m.seed m.graph a.count_of_turns (begin_all m.seed m.graph first n m.going))) stopped

-- and so what stopped its turns
pub turn_fault : (m m1 : Machine) (first n : ℕ) (e : GenerateFault) → m1 ≡ begun_so_far m first n → IsTurnFault m1 e → IsGroupFault first n m e
turn_fault m m1 first n e q fault going a =
    let there : IsTurnFault (begun_so_far m first n) e = subst (λ (z : Machine). IsTurnFault z e) q fault in
    subst (λ (z : Going). IsStopped z.replay e) (sym a.is) (there a.count_of_turns (ap (λ (z : Going). z.pending) (sym a.is) ∙ a.over))

-- a group that began and whose turns ended
pub group_of : (m m1 m2 : Machine) (first n : ℕ) → m1 ≡ begun_so_far m first n → AreTurns m1 m2 → IsOfGroup first n m m2
group_of m m1 m2 first n q t =
    let is : m2 ≡ at m (turns t.count m.seed m.graph (begin_all m.seed m.graph first n m.going)) = t.is ∙ ap (λ (z : Machine). turned z t.count) q in
    record {
      going = turns t.count m.seed m.graph (begin_all m.seed m.graph first n m.going);
      group = record { count_of_turns = t.count; is = refl; over = ap (λ (z : Machine). z.going.pending) (sym is) ∙ t.over };
      is = is;
    }

pub groups_end : {V E : Type 0} (m m1 m2 : Machine) (first n : ℕ) (r : Result V E) → m1 ≡ begun_so_far m first n → OnOk r (AreTurns m1 m2) → OnOk r (IsOfGroup first n m m2)
groups_end m m1 m2 first n (Ok v) q t = group_of m m1 m2 first n q t
groups_end m m1 m2 first n (Err x) q t = tt

pub groups_stop : {V : Type 0} (m m1 : Machine) (first n : ℕ) (r : Result V GenerateFault) → m1 ≡ begun_so_far m first n → IfErr r (IsTurnFault m1) → IfErr r (IsGroupFault first n m)
groups_stop m m1 first n (Ok v) q t = tt
groups_stop m m1 first n (Err x) q t = turn_fault m m1 first n x q t

-- if at most sixteen sessions begin, what is left for their frames is below what the turns may use up
pub group_begun : (m m1 : Machine) (first n : ℕ) → HasBudget 0 first m → first + n ≤ m.sessions → n ≤ 16 → m1 ≡ begun_so_far m first n → HasBudget 1280 (first + n) m1
group_begun m m1 first n b l few q = subst (HasBudget 1280 (first + n)) (sym q) (more_budget (0 + 80 * n) 1280 (first + n) (begun_so_far m first n) (omega (arith, few)) (begin_all_keeps m first n 0 m.going b l))

-- ---- the run ends

ends_from : (m : Machine) (begun : ℕ) (i k : ℕ) → HasBudget k begun (turned m i) → (n : ℕ) × ((turns n m.seed m.graph m.going).pending ≡ [])
ends_from m begun i zero b = (i, none_left begun (turned m i) b)
ends_from m begun i (suc k) b = by (turns i m.seed m.graph m.going).pending refl (λ some. ends_from m begun (suc i) k (turn_keeps m begun k (turns i m.seed m.graph m.going) b some))
  where
    by : (ps : List Pending) → (turns i m.seed m.graph m.going).pending ≡ ps → (0 < length (turns i m.seed m.graph m.going).pending → (n : ℕ) × ((turns n m.seed m.graph m.going).pending ≡ [])) → (n : ℕ) × ((turns n m.seed m.graph m.going).pending ≡ [])
    by [] e more = (i, e)
    by (p ∷ ps) e more = more (let z : length (turns i m.seed m.graph m.going).pending ≡ suc (length ps) = ap (λ (qs : List Pending). length qs) e in omega (arith, z))

-- there is a group
pub a_group : (m : Machine) (first n : ℕ) → HasBudget 0 first m → first + n ≤ m.sessions → (y : Going) × IsGroup m.seed m.graph first n m.going y
a_group m first n b l =
    let begun : Machine = begun_so_far m first n in
    let over = ends_from begun (first + n) 0 (0 + 80 * n) (begin_all_keeps m first n 0 m.going b l) in
    (turns over.0 m.seed m.graph begun.going, record { count_of_turns = over.0; is = refl; over = over.1 })

-- the size of a group
abbrev pub size_at : (sessions n : ℕ) → ℕ
size_at sessions n = min 16 (sessions - 16 * n)

-- how many sessions have begun after n groups
abbrev pub begun_after : (sessions n : ℕ) → ℕ
begun_after sessions n = min sessions (16 * n)

begun_more : (sessions n : ℕ) → 16 * n ≤ sessions → 16 * n + size_at sessions n ≡ begun_after sessions (n + 1)
begun_more sessions n l = omega (arith, l)

-- a group more, if all before it were whole
pub one_group : (m : Machine) (n : ℕ) (y z : Going) → 16 * n ≤ m.sessions → HasBudget 0 (begun_after m.sessions n) (at m y) → IsGroup m.seed m.graph (16 * n) (size_at m.sessions n) y z → HasBudget 0 (begun_after m.sessions (n + 1)) (at m z)
one_group m n y z l b a =
    let whole : begun_after m.sessions n ≡ 16 * n = omega (arith, l) in
    let here : HasBudget 0 (16 * n) (at m y) = subst (λ k. HasBudget 0 k (at m y)) whole b in
    subst (λ k. HasBudget 0 k (at m z)) (begun_more m.sessions n l) (group_keeps m (16 * n) (size_at m.sessions n) y z here (omega (arith, l)) a)

goes_group : (m : Machine) (first n : ℕ) (y z : Going) → IsGroup m.seed m.graph first n y z → Goes y z
goes_group m first n y z a =
    subst (λ (z : Going). Goes y z) (sym a.is) (extends_both y.replay (begin_all m.seed m.graph first n y).replay (turns a.count_of_turns m.seed m.graph (begin_all m.seed m.graph first n y)).replay
    (goes_begin_all m.seed m.graph first n y) (goes_turns m.seed m.graph a.count_of_turns (begin_all m.seed m.graph first n y)))

-- the groups that follow after n of them, k more
pub groups_follow : (m : Machine) (k n : ℕ) (x y : Going) → HasBudget 0 (begun_after m.sessions n) (at m y) → AreGroups n m.seed m.sessions m.graph x y → 16 * (n + k) < m.sessions + 16
    → (z : Going) × AreGroups (n + k) m.seed m.sessions m.graph x z × HasBudget 0 (begun_after m.sessions (n + k)) (at m z) × Goes y z
groups_follow m zero n x y b a l =
    let same : n ≡ n + 0 = omega arith in
    (y, subst (λ k. AreGroups k m.seed m.sessions m.graph x y) same a, subst (λ k. HasBudget 0 (begun_after m.sessions k) (at m y)) same b, extends_itself y.replay)
groups_follow m (suc k) n x y b a l =
    let before : 16 * n ≤ m.sessions = omega (arith, l) in
    let whole : begun_after m.sessions n ≡ 16 * n = omega (arith, before) in
    let here : HasBudget 0 (16 * n) (at m y) = subst (λ k. HasBudget 0 k (at m y)) whole b in
    let g = a_group (at m y) (16 * n) (size_at m.sessions n) here (omega (arith, before)) in
    let next : HasBudget 0 (begun_after m.sessions (n + 1)) (at m g.0) = one_group m n y g.0 before b g.1 in
    let one : n + 1 ≡ suc n = omega arith in
    let rest = groups_follow m k (suc n) x g.0 (subst (λ k. HasBudget 0 (begun_after m.sessions k) (at m g.0)) one next) (y, a, g.1) (omega (arith, l)) in
    let same : suc n + k ≡ n + suc k = omega arith in (
      rest.0,
      subst (λ k. AreGroups k m.seed m.sessions m.graph x rest.0) same rest.1,
      subst (λ k. HasBudget 0 (begun_after m.sessions k) (at m rest.0)) same rest.2,
      extends_both y.replay g.0.replay rest.0.replay (goes_group m (16 * n) (size_at m.sessions n) y g.0 g.1) rest.3,
    )

-- ---- the whole

-- the machine before the first group
abbrev pub machine_before : (seed sessions : ℕ) (g : Graph) (programs : List Program) → Machine
machine_before seed sessions g programs = record { seed = seed; sessions = sessions; graph = g; going = beginning sessions g programs }

pub budget_before : (seed sessions : ℕ) (g : Graph) (programs : List Program) → AreCompiled real (g ∷ []) programs → 2 ≤ length g.roles → sessions ≤ most_driven → HasBudget 0 0 (machine_before seed sessions g programs)
budget_before seed sessions g programs compiled two few = record {
  left = 0;
  ways = [];
  within = omega arith;
  has = record {
    underway = record {
      compiled = compiled;
      two = two;
      few = few;
      declared = refl;
      run = new_own g programs (beginning sessions g programs).replay.schedule compiled (few_roles_of g programs compiled two) refl;
    };
    frames = record { pending = refl; each = tt; there = tt };
    so_many = omega arith;
    covers = omega arith;
    leaves = record { steps = omega arith; draws = omega arith; lost = omega arith };
  };
}

-- a group that is stopped stops the whole
pub group_stops : (m : Machine) (groups n : ℕ) (programs : List Program) (y : Going) (e : GenerateFault) → HasBudget 0 (begun_after m.sessions n) (at m y) → AreGroups n m.seed m.sessions m.graph (beginning m.sessions m.graph programs) y → n < groups → m.sessions ≤ 16 * groups → 16 * groups < m.sessions + 16
    → IsGroupFault (16 * n) (size_at m.sessions n) (at m y) e → IsGenerateFault m.seed m.sessions m.graph programs e
group_stops m groups n programs y OutOfMemory b a l all most fault = tt
group_stops m groups n programs y (RecordFull bytes) b a l all most fault =
    let before : 16 * n ≤ m.sessions = omega (arith, l, most) in
    let whole : begun_after m.sessions n ≡ 16 * n = omega (arith, before) in
    let here : HasBudget 0 (16 * n) (at m y) = subst (λ k. HasBudget 0 k (at m y)) whole b in
    let g = a_group (at m y) (16 * n) (size_at m.sessions n) here (omega (arith, before)) in
    let next : HasBudget 0 (begun_after m.sessions (n + 1)) (at m g.0) = one_group m n y g.0 before b g.1 in
    let one : n + 1 ≡ suc n = omega arith in
    let k : ℕ = groups - suc n in
    let same : suc n + k ≡ groups = omega (arith, l) in
    let rest = groups_follow m k (suc n) (beginning m.sessions m.graph programs) g.0 (subst (λ k. HasBudget 0 (begun_after m.sessions k) (at m g.0)) one next) (y, a, g.1) (omega (arith, same, most)) in
    record {
      going = rest.0;
      generated = record { groups = groups; all = all; are = subst (λ k. AreGroups k m.seed m.sessions m.graph (beginning m.sessions m.graph programs) rest.0) same rest.1 };
      full = full_more g.0.replay rest.0.replay bytes rest.3 (fault g.0 g.1);
    }
