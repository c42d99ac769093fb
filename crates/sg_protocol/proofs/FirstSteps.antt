-- The run of a schedule's first steps is the beginning of its run.
use Rattle.std.specs.Prelude.{◌≡◌, ℕ, zero, suc, ◌+◌, ◌<◌, ◌≤◌, ◌⊎◌, List, [], ◌∷◌, ◌++◌, map, flat_map, length, take, refl, Option, Some, None, option_map, Contains}
use Rattle.std.specs.List.{AllByRecursion}
use Rattle.std.specs.Option.{option_map_or}
use Rattle.std.proofs.Common.{sym, ◌∙◌, ap, subst, inl, inr, arith}
use Rattle.std.proofs.lemmas.List.Elements.{All-take, All-from_recursion, recursion_from_All}
use Rattle.sg_model.specs.Last.{last}
use Rattle.sg_model.specs.Names.{Name}
use Rattle.sg_law.proofs.Lists.{last-append}
use Rattle.sg_protocol.specs.Frame.{Frame}
use Rattle.sg_protocol.specs.Spelling.{spelling}
use Rattle.sg_protocol.specs.Texts.{Hash, graph_text_of}
use Rattle.sg_protocol.specs.Keyring.{Program}
use Rattle.sg_protocol.specs.Schedule.{Schedule, Step, StartStep, ActStep, AbandonStep, DeliverStep, CraftStep}
use Rattle.sg_protocol.specs.Calls.{Call}
use Rattle.sg_protocol.specs.Past.{Past}
use Rattle.sg_protocol.specs.World.{World, Logged, Crafted, new_world, call_of, past_of}
use Rattle.sg_protocol.specs.Run.{called_if, uncalled, world_after, world_after_all, run}
use Rattle.sg_protocol.specs.Premises.{MadeBefore, hashed, Premises}
use Rattle.sg_protocol.specs.IsSchedule.{IsSchedule, IsStep}
use Rattle.sg_protocol.specs.Beginnings.{first_steps, IsLogUpTo, RunsGoOn, PremisesHoldBefore}
use Rattle.sg_protocol.proofs.OtherSteps.{crafted_same, all_on, with_steps}
use Rattle.sg_protocol.proofs.Progressing.{Suffix, suffix_refl, suffix_all, in_before, in_after}
use Rattle.sg_model.proofs.Small.{take_most}
use Rattle.sg_model.proofs.Members.{In, in_from_Contains, contains_from_in, in_left, in_right, in_parts, in_flat}

-- if the assumptions hold of a world they hold of one before
pub premises_earlier : (sha : Hash) (s : Schedule) (n : ℕ) (wb wf : World) → Suffix n wb.log wf.log → ((l : Logged) → In wb.log l → l.number < n) → Premises sha s wf → Premises sha s wb
premises_earlier sha s n wb wf t below p = record {
  unforged = λ l nt i j a b.
      let m : MadeBefore l.number nt wf.log = p.unforged l nt (contains_from_in wf.log l (in_after n wb.log wf.log t l (in_from_Contains wb.log l i))) j a b in
      let le = below l (in_from_Contains wb.log l i) in
      let lt = m.2 in
      (m.0, contains_from_in wb.log m.0 (in_before n wb.log wf.log t m.0 (in_from_Contains wf.log m.0 m.1) (omega (arith, le, lt))), m.2, m.3);
  collision_free = λ a b i j e. p.collision_free a b (hashed_later a i) (hashed_later b j) e;
}
  where
    flat_later : (xs ys : List Logged) (t : List ℕ) → ((l : Logged) → In xs l → In ys l) → In (flat_map (λ (l : Logged). l.notes.hashed) xs) t → In (flat_map (λ (l : Logged). l.notes.hashed) ys) t
    flat_later [] ys t f i = absurd i
    flat_later (x ∷ xs) ys t f i = elim (in_parts x.notes.hashed (flat_map (λ (l : Logged). l.notes.hashed) xs) t i) [
      | inl j ↦ in_flat (λ (l : Logged). l.notes.hashed) ys x t (f x (inl refl)) j
      | inr j ↦ flat_later xs ys t (λ l k. f l (inr k)) j
    ]

    hashed_later : (x : List ℕ) → Contains (hashed s wb) x → Contains (hashed s wf) x
    hashed_later x i = contains_from_in (hashed s wf) x (elim (in_parts (map graph_text_of s.graphs) (flat_map (λ (l : Logged). l.notes.hashed) wb.log) x (in_from_Contains (hashed s wb) x i)) [
      | inl j ↦ in_left (map graph_text_of s.graphs) (flat_map (λ (l : Logged). l.notes.hashed) wf.log) x j
      | inr j ↦ in_right (map graph_text_of s.graphs) (flat_map (λ (l : Logged). l.notes.hashed) wf.log) x (flat_later wb.log wf.log x (λ l k. in_after n wb.log wf.log t l k) j)
    ])

-- ---- the schedule's steps don't matter to one step

module _ (sha : Hash) (s : Schedule) (n : ℕ) where
  step_same : (w : World) (k : ℕ) (x : Step) → world_after sha (first_steps n s) w k x ≡ world_after sha s w k x
  step_same w k (CraftStep c) = ap (λ (o : Option Frame). uncalled w k None Crafted (option_map spelling o)) (sym (crafted_same sha s (take n s.steps) w c))
  step_same w k (StartStep who m) = refl
  step_same w k (ActStep who m label values) = refl
  step_same w k (AbandonStep who m) = refl
  step_same w k (DeliverStep who what) = refl

  pub all_same : (w : World) (k : ℕ) (xs : List Step) → world_after_all sha (first_steps n s) w k xs ≡ world_after_all sha s w k xs
  all_same w k [] = refl
  all_same w k (x ∷ xs) = ap (λ z. world_after_all sha (first_steps n s) z (k + 1) xs) (step_same w k x) ∙ all_same (world_after sha s w k x) (k + 1) xs

  -- a schedule's first steps are a schedule
  pub first_sched : IsSchedule sha s → IsSchedule sha (first_steps n s)
  first_sched h = with_steps sha s (take n s.steps) h (all_on sha s (take n s.steps) (take n s.steps) (recursion_from_All (IsStep sha s) (take n s.steps) (All-take (IsStep sha s) n s.steps h.steps)))

pub run_first : (sha : Hash) (programs : List Program) (s : Schedule) (n : ℕ) → run sha programs (first_steps n s) ≡ world_after_all sha s (new_world programs s) 1 (take n s.steps)
run_first sha programs s n = all_same sha s n (new_world programs s) 1 (take n s.steps)

-- ---- the logs

-- one entry is added at most, with this number
abbrev pub OneMore : ℕ → List Logged → List Logged → Type 0
OneMore k log log' = (log' ≡ log) ⊎ ((l : Logged) × (log' ≡ log ++ l ∷ []) × (l.number ≡ k))

-- numbers are below this one
abbrev pub AreBelow : ℕ → List Logged → Type 0
AreBelow k log = (l : Logged) → In log l → l.number < k

pub below_more : (k : ℕ) (log log' : List Logged) → OneMore k log log' → AreBelow k log → AreBelow (k + 1) log'
below_more k log log' (inl e) a l i = (let h = a l (subst (λ z. In z l) e i) in omega (arith, h))
below_more k log log' (inr m) a l i = elim (in_parts log (m.0 ∷ []) l (subst (λ z. In z l) m.1 i)) [
  | inl j ↦ (let h = a l j in omega (arith, h))
  | inr j ↦ elim j [ inl q ↦ (let h = ap (λ (z : Logged). z.number) q ∙ m.2 in omega (arith, h)) | inr q ↦ absurd q ]
]

-- worlds to which one thing after another adds one entry at most
module _ {A : Type 0} (next : World → ℕ → A → World) (all : World → ℕ → List A → World) (none : (w : World) (k : ℕ) → all w k [] ≡ w) (more : (w : World) (k : ℕ) (x : A) (xs : List A) → all w k (x ∷ xs) ≡ all (next w k x) (k + 1) xs)
    (one_more_ : (w : World) (k : ℕ) (x : A) → OneMore k w.log (next w k x).log) (suffix : (w : World) (k : ℕ) (xs : List A) → Suffix k w.log (all w k xs).log) where
  suffix_at : (j k : ℕ) (a b : List Logged) → j ≡ k → Suffix j a b → Suffix k a b
  suffix_at j k a b e h = subst (λ z. Suffix z a b) e h

  -- what the first ones add is the beginning of what all add
  pub begins_so : (n : ℕ) (xs : List A) (w : World) (k : ℕ) → Suffix (k + n) (all w k (take n xs)).log (all w k xs).log
  begins_so zero xs w k = subst (λ (z : World). Suffix (k + 0) z.log (all w k xs).log) (sym (none w k)) (suffix_at k (k + 0) w.log (all w k xs).log (omega arith) (suffix w k xs))
  begins_so (suc n) [] w k = suffix_refl (k + suc n) (all w k []).log
  begins_so (suc n) (x ∷ xs) w k =
      subst (λ (z : World). Suffix (k + suc n) z.log (all w k (x ∷ xs)).log) (sym (more w k x (take n xs)))
      (subst (λ (z : World). Suffix (k + suc n) (all (next w k x) (k + 1) (take n xs)).log z.log) (sym (more w k x xs))
      (suffix_at (k + 1 + n) (k + suc n) (all (next w k x) (k + 1) (take n xs)).log (all (next w k x) (k + 1) xs).log (omega arith) (begins_so n xs (next w k x) (k + 1))))

  -- numbers are below the next one
  pub numbers_below : (xs : List A) (w : World) (k : ℕ) → AreBelow k w.log → AreBelow (k + length xs) (all w k xs).log
  numbers_below [] w k a l i = (let h = a l (subst (λ (z : World). In z.log l) (none w k) i) in omega (arith, h))
  numbers_below (x ∷ xs) w k a l i = (let h = numbers_below xs (next w k x) (k + 1) (below_more k w.log (next w k x).log (one_more_ w k x) a) l (subst (λ (z : World). In z.log l) (more w k x xs) i) in omega (arith, h))

  -- an entry that was added is the last one when it was
  pub last_so : (xs : List A) (w : World) (k : ℕ) (l : Logged) → In (all w k xs).log l → In w.log l ⊎ ((i : ℕ) × (l.number ≡ k + i) × (last (all w k (take (suc i) xs)).log ≡ Some l))
  last_so [] w k l i = inl (subst (λ (z : World). In z.log l) (none w k) i)
  last_so (x ∷ xs) w k l i = elim (last_so xs (next w k x) (k + 1) l (subst (λ (z : World). In z.log l) (more w k x xs) i)) [
    | inl j ↦ now (one_more_ w k x) j
    | inr h ↦ inr (suc h.0, (let e = h.1 in omega (arith, e)), ap (λ (z : World). last z.log) (more w k x (take (suc h.0) xs)) ∙ h.2)
  ]
    where
      now : OneMore k w.log (next w k x).log → In (next w k x).log l → In w.log l ⊎ ((i : ℕ) × (l.number ≡ k + i) × (last (all w k (take (suc i) (x ∷ xs))).log ≡ Some l))
      now (inl e) j = inl (subst (λ z. In z l) e j)
      now (inr m) j = elim (in_parts w.log (m.0 ∷ []) l (subst (λ z. In z l) m.1 j)) [
        | inl a ↦ inl a
        | inr a ↦ elim a [
          | inl q ↦ inr (0, (let h = ap (λ (z : Logged). z.number) q ∙ m.2 in omega (arith, h)), ap (λ (z : World). last z.log) (more w k x [] ∙ none (next w k x) (k + 1)) ∙ ap last m.1 ∙ last-append w.log m.0 [] ∙ ap (λ (z : Logged). Some z) (sym q))
          | inr q ↦ absurd q
        ]
      ]

module _ (sha : Hash) (s : Schedule) where
  one_past : (w : World) (k : ℕ) (who : Name) (c : Option Call) (o : Option Past) → OneMore k w.log (option_map_or (called_if sha w k who c) o w).log
  one_past w k who c None = inl refl
  one_past w k who None (Some past) = inr (_, refl, refl)
  one_past w k who (Some c) (Some past) = inr (_, refl, refl)

  pub one_more : (w : World) (k : ℕ) (x : Step) → OneMore k w.log (world_after sha s w k x).log
  one_more w k (CraftStep c) = inr (_, refl, refl)
  one_more w k (StartStep who m) = one_past w k who (call_of sha s w k (StartStep who m)) (past_of w who)
  one_more w k (ActStep who m label values) = one_past w k who (call_of sha s w k (ActStep who m label values)) (past_of w who)
  one_more w k (AbandonStep who m) = one_past w k who (call_of sha s w k (AbandonStep who m)) (past_of w who)
  one_more w k (DeliverStep who what) = one_past w k who (call_of sha s w k (DeliverStep who what)) (past_of w who)

module _ (sha : Hash) (programs : List Program) (s : Schedule) (n : ℕ) where
  abbrev wf : World
  wf = run sha programs s

  abbrev wb : World
  wb = run sha programs (first_steps n s)

  pub goes_on : Suffix (1 + n) (run sha programs (first_steps n s)).log (run sha programs s).log
  goes_on = subst (λ (z : World). Suffix (1 + n) z.log (run sha programs s).log) (sym (run_first sha programs s n)) (begins_so (world_after sha s) (world_after_all sha s) (λ w k. refl) (λ w k x xs. refl) (one_more sha s) (suffix_all sha s) n s.steps (new_world programs s) 1)

  pub up_to : (l : Logged) → In (run sha programs (first_steps n s)).log l → l.number ≤ n
  up_to l i =
      let h = numbers_below (world_after sha s) (world_after_all sha s) (λ w k. refl) (λ w k x xs. refl) (one_more sha s) (suffix_all sha s) (take n s.steps) (new_world programs s) 1 (λ l i. absurd i) l (subst (λ (z : World). In z.log l) (run_first sha programs s n) i) in
      let k = take_most n s.steps in
      omega (arith, h, k)

  all_from_in : (P : Logged → Type 0) (xs : List Logged) → ((l : Logged) → In xs l → P l) → AllByRecursion P xs
  all_from_in P [] f = tt
  all_from_in P (x ∷ xs) f = (f x (inl refl), all_from_in P xs (λ l i. f l (inr i)))

  all_late : (xs : List Logged) → AllByRecursion (λ (l : Logged). 1 + n ≤ l.number) xs → AllByRecursion (λ (l : Logged). n < l.number) xs
  all_late [] a = tt
  all_late (x ∷ xs) a = ((let h = a.0 in omega (arith, h)), all_late xs a.1)

  pub is_up_to : IsLogUpTo n (run sha programs s) (run sha programs (first_steps n s))
  is_up_to = record {
    rest = goes_on.rest;
    parts = goes_on.is;
    before = All-from_recursion (λ (l : Logged). l.number ≤ n) wb.log (all_from_in (λ (l : Logged). l.number ≤ n) wb.log up_to);
    after = All-from_recursion (λ (l : Logged). n < l.number) goes_on.rest (all_late goes_on.rest goes_on.late);
  }

  pub premises_before : Premises sha s (run sha programs s) → Premises sha (first_steps n s) (run sha programs (first_steps n s))
  premises_before p =
      let q : Premises sha s wb = premises_earlier sha s (1 + n) wb wf goes_on (λ l i. let h = up_to l i in omega (arith, h)) p in
      record { unforged = q.unforged; collision_free = q.collision_free }

-- a step that accepts is the last one of the run up to it
pub is_last : (sha : Hash) (programs : List Program) (s : Schedule) (l : Logged) → In (run sha programs s).log l → last (run sha programs (first_steps l.number s)).log ≡ Some l
is_last sha programs s l i = elim (last_so (world_after sha s) (world_after_all sha s) (λ w k. refl) (λ w k x xs. refl) (one_more sha s) (suffix_all sha s) s.steps (new_world programs s) 1 l i) [
  | inl j ↦ absurd j
  | inr h ↦ (let n : l.number ≡ suc h.0 = (let e = h.1 in omega (arith, e)) in ap (λ (z : World). last z.log) (run_first sha programs s l.number) ∙ ap (λ k. last (world_after_all sha s (new_world programs s) 1 (take k s.steps)).log) n ∙ h.2)
]

pub runs_go_on : (sha : Hash) → RunsGoOn sha
runs_go_on sha programs s n = is_up_to sha programs s n

pub premises_hold_before : (sha : Hash) → PremisesHoldBefore sha
premises_hold_before sha programs s n p = premises_before sha programs s n p
