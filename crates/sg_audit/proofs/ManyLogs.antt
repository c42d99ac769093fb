-- Logs whose events are merged.
use Rattle.std.proofs.Common.{◌≡◌, ℕ, ◌≤◌, ◌==◌, ◌||◌, Bool, true, false, ◌⊎◌, inl, inr, List, [], ◌∷◌, filter, refl, sym, ap, ◌∙◌, subst, arith}
use Rattle.std.specs.Prelude.{IsTrue, IsPermutation, if◌then◌else◌}
use Rattle.std.specs.List.{AllByRecursion}
use Rattle.std.proofs.lemmas.Bool.Decides.{nat_tests}
use Rattle.std.proofs.lemmas.List.Sums.{sum_by-append}
use Rattle.std.proofs.lemmas.List.Sorted.{sum_by-IsPermutation}
use Rattle.sg_model.specs.Lists.{is_in}
use Rattle.sg_protocol.specs.Graph.{Graph}
use Rattle.sg_protocol.specs.Calls.{Event, role_of}
use Rattle.sg_protocol.specs.Walk.{StoredStep, OnePath}
use Rattle.sg_audit.specs.Merged.{Log, IsMerged, AscendFrom, roles_of, events_of, moment}
use Rattle.sg_audit.specs.Agree.{Agree, IsLog, NoneClashes, is_by, roles_differ}
use Rattle.sg_audit.proofs.Moments.{RiseFrom, count, rise, one_at}
use Rattle.sg_audit.proofs.Members.{In, in_permuted, in_permuted_back, in_left, in_right, in_either, in_kept, kept_in, rise_kept, ascend_kept, one_rising}

-- what holds of all holds of one, and the other way round
pub all_in : {X : Type 0} (P : X → Type 0) (xs : List X) → AllByRecursion P xs → (x : X) → In x xs → P x
all_in P [] h x i = absurd i
all_in P (y ∷ ys) h x (inl e) = subst P e h.0
all_in P (y ∷ ys) h x (inr i) = all_in P ys h.1 x i

pub all_from : {X : Type 0} (P : X → Type 0) (xs : List X) → ((x : X) → In x xs → P x) → AllByRecursion P xs
all_from P [] h = tt
all_from P (y ∷ ys) h = (h y (inl refl), all_from P ys (λ x i. h x (inr i)))

-- ---- the roles of events

in_here : (n : ℕ) (m : ℕ) (ms : List ℕ) → m ≡ n → is_in n (m ∷ ms) ≡ true
in_here n m ms e = let t : (m == n) ≡ true = grind (arith, nat_tests, e) in rw t refl

in_there : (n : ℕ) (m : ℕ) (ms : List ℕ) → is_in n ms ≡ true → is_in n (m ∷ ms) ≡ true
in_there n m ms h = by (m == n)
  where
    by : (b : Bool) → (b || is_in n ms) ≡ true
    by true = refl
    by false = h

same_role : (r : ℕ) (e : Event) → IsTrue (is_by r e) → role_of e ≡ r
same_role r e h = let t : (role_of e == r) ≡ true = h in grind (arith, nat_tests, t)

-- an event of the logs is of a role that has one
role_known : (g : Graph) (logs : List Log) → AllByRecursion (IsLog g) logs → (e : Event) → In e (events_of logs) → is_in (role_of e) (roles_of logs) ≡ true
role_known g [] h e i = absurd i
role_known g (l ∷ ls) h e i = elim (in_either e l.1 (events_of ls) i) [
  | inl a ↦ in_here (role_of e) l.0 (roles_of ls) (sym (same_role l.0 e (all_in (λ e. IsTrue (is_by l.0 e)) l.1 h.0.1 e a)))
  | inr b ↦ in_there (role_of e) l.0 (roles_of ls) (role_known g ls h.1 e b)
]

log_known : (logs : List Log) (l : Log) → In l logs → is_in l.0 (roles_of logs) ≡ true
log_known [] l i = absurd i
log_known (k ∷ ks) l (inl e) = in_here l.0 k.0 (roles_of ks) (ap (λ (l : Log). l.0) e)
log_known (k ∷ ks) l (inr i) = in_there l.0 k.0 (roles_of ks) (log_known ks l i)

-- the events of a log are events of all
in_log : (logs : List Log) (l : Log) (e : Event) → In l logs → In e l.1 → In e (events_of logs)
in_log [] l e i j = absurd i
in_log (k ∷ ks) l e (inl q) j = in_left e k.1 (events_of ks) (subst (λ (m : Log). In e m.1) (sym q) j)
in_log (k ∷ ks) l e (inr i) j = in_right e k.1 (events_of ks) (in_log ks l e i j)

-- the events of a role are in its log
of_role : (g : Graph) (logs : List Log) → roles_differ logs → AllByRecursion (IsLog g) logs → (l : Log) → In l logs → (e : Event) → In e (events_of logs) → role_of e ≡ l.0 → In e l.1
of_role g [] d h l i e j r = absurd i
of_role g (k ∷ ks) d h l i e j r = both (λ m b. of_role g ks d.1 h.1 l m e b r) i (in_either e k.1 (events_of ks) j)
  where
    no : true ≡ false → ⊥
    no q = absurd (cc)

    both : (In l ks → In e (events_of ks) → In e l.1) → In l (k ∷ ks) → In e k.1 ⊎ In e (events_of ks) → In e l.1
    both more (inl q) (inl a) = subst (λ (m : Log). In e m.1) q a
    both more (inl q) (inr b) =
        let known = role_known g ks h.1 e b in
        let same : role_of e ≡ k.0 = r ∙ sym (ap (λ (l : Log). l.0) q) in
        absurd (no (sym (subst (λ n. is_in n (roles_of ks) ≡ true) same known) ∙ d.0))
    both more (inr m) (inl a) =
        let same : l.0 ≡ k.0 = sym r ∙ same_role k.0 e (all_in (λ e. IsTrue (is_by k.0 e)) k.1 h.0.1 e a) in
        absurd (no (sym (subst (λ n. is_in n (roles_of ks) ≡ true) same (log_known ks l m)) ∙ d.0))
    both more (inr m) (inr b) = more m b

-- ---- how many events have a moment

count_log : (m : ℕ) (logs : List Log) (l : Log) → In l logs → count m l.1 ≤ count m (events_of logs)
count_log m [] l i = absurd i
count_log m (k ∷ ks) l (inl q) =
    let a = sum_by-append (λ e. if moment e == m then 1 else 0) k.1 (events_of ks) in
    let b : count m l.1 ≡ count m k.1 = ap (λ (l : Log). count m l.1) (sym q) in
    omega (arith, a, b)
count_log m (k ∷ ks) l (inr i) =
    let a = sum_by-append (λ e. if moment e == m then 1 else 0) k.1 (events_of ks) in
    let b = count_log m ks l i in
    omega (arith, a, b)

-- ---- the merged events

-- no two of the merged events have one moment
merged_one : (logs : List Log) (merged : List Event) → NoneClashes logs → IsPermutation (events_of logs) merged → (m : ℕ) → count m merged ≤ 1
merged_one logs merged apart p m =
    let a = one_at (events_of logs) apart m in
    let b = sum_by-IsPermutation (λ e. if moment e == m then 1 else 0) (events_of logs) merged p in
    omega (arith, a, b)

merged_rise : (logs : List Log) (merged : List Event) → NoneClashes logs → IsMerged logs merged → RiseFrom 0 merged
merged_rise logs merged apart m = rise 0 merged m.ascends (merged_one logs merged apart m.all)

-- of each role they are its log, if that is by time
pub restricted_by : (g : Graph) (logs : List Log) (merged : List Event) → roles_differ logs → AllByRecursion (IsLog g) logs → NoneClashes logs → IsMerged logs merged
    → AllByRecursion (λ (l : Log). AscendFrom 0 l.1) logs → AllByRecursion (λ (l : Log). filter (is_by l.0) merged ≡ l.1) logs
restricted_by g logs merged d h apart m asc = all_from (λ (l : Log). filter (is_by l.0) merged ≡ l.1) logs one
  where
    one : (l : Log) → In l logs → filter (is_by l.0) merged ≡ l.1
    one l i = one_rising 0 0 (filter (is_by l.0) merged) l.1
        (rise_kept (is_by l.0) 0 merged (merged_rise logs merged apart m))
        (rise 0 l.1 (all_in (λ (l : Log). AscendFrom 0 l.1) logs asc l i) (λ k. let a = count_log k logs l i in let b = one_at (events_of logs) apart k in omega (arith, a, b)))
        (λ x j. let k = in_kept (is_by l.0) x merged j in of_role g logs d h l i x (in_permuted_back x (events_of logs) merged m.all k.0) (same_role l.0 x k.1))
        (λ x j. kept_in (is_by l.0) x merged (in_permuted x (events_of logs) merged m.all (in_log logs l x i j)) (all_in (λ e. IsTrue (is_by l.0 e)) l.1 ((all_in (IsLog g) logs h l i).1) x j))

-- if logs agree with a walk, each is by time
pub agree_ascends : (g : Graph) (logs : List Log) (steps : List StoredStep) → Agree g logs steps → AllByRecursion (λ (l : Log). AscendFrom 0 l.1) logs
agree_ascends g logs steps a =
    all_from (λ (l : Log). AscendFrom 0 l.1) logs
    (λ l i. subst (AscendFrom 0) (all_in (λ (l : Log). filter (is_by l.0) a.merged ≡ l.1) logs a.restricted l i) (ascend_kept (is_by l.0) 0 a.merged a.is_merged.ascends))

-- there is one merged list, if nothing clashes
pub one_merged : (logs : List Log) (merged other : List Event) → NoneClashes logs → IsMerged logs merged → IsMerged logs other → other ≡ merged
one_merged logs merged other apart m n =
    one_rising 0 0 other merged (merged_rise logs other apart n) (merged_rise logs merged apart m)
    (λ x i. in_permuted x (events_of logs) merged m.all (in_permuted_back x (events_of logs) other n.all i))
    (λ x i. in_permuted x (events_of logs) other n.all (in_permuted_back x (events_of logs) merged m.all i))

pub agree_path : (g : Graph) (logs : List Log) (merged : List Event) (steps : List StoredStep) → IsMerged logs merged → Agree g logs steps → OnePath g (λ r. is_in r (roles_of logs)) merged steps
agree_path g logs merged steps m a = subst (λ es. OnePath g (λ r. is_in r (roles_of logs)) es steps) (one_merged logs merged a.merged a.apart m a.is_merged) a.path
