-- Over runs and crashes each answered join is in the ledger from then on, and so is never answered again.
use Rattle.std.proofs.Common.{◌≡◌, ◌≢◌, ◌⊎◌, inl, inr, ⊎_elim, ℕ, ◌<◌, List, [], ◌∷◌, ◌++◌, length, get_or, Contains, refl, sym, ◌∙◌, ap, subst, arith}
use Rattle.std.specs.List.{All, AllPairs}
use Rattle.std.proofs.lemmas.List.Elements.{Contains-append_left, Contains-append_right, All-cons}
use Rattle.std.proofs.lemmas.List.Kept.{AllPairs-cons}
use Rattle.sg_ledger.specs.Format.{Join, Represents, RepresentsOneOf}
use Rattle.sg_ledger.specs.Runs.{LedgerEvent, Added, CutShort, MayHappen, answered}
use Rattle.sg_ledger.proofs.SlotBySlot.{only_joins}

last_in : (joins : List Join) (join : Join) → Contains (joins ++ join ∷ []) join
last_in joins join = Contains-append_right joins (join ∷ []) join (0, omega arith, refl)

-- what the ledger has it keeps
pub kept : (joins : List Join) (events : List LedgerEvent) (last : List Join) (join : Join) → MayHappen joins events last → Contains joins join → Contains last join
kept joins [] last join happen has = subst (λ (js : List Join). Contains js join) happen has
kept joins (Added other ∷ events) last join happen has =
    kept (joins ++ other ∷ []) events last join happen.1 (Contains-append_left joins (other ∷ []) join has)
kept joins (CutShort other ∷ events) last join happen has = ⊎_elim
    (λ without. kept joins events last join without has)
    (λ with_it. kept (joins ++ other ∷ []) events last join with_it (Contains-append_left joins (other ∷ []) join has))
    happen.1

-- each answered join is in the last ledger
pub all_there : (joins : List Join) (events : List LedgerEvent) (last : List Join) → MayHappen joins events last → All (Contains last) (answered events)
all_there joins [] last happen = λ k d lt. absurd (omega (arith, lt))
all_there joins (Added join ∷ events) last happen =
    All-cons (Contains last) join (answered events)
    (kept (joins ++ join ∷ []) events last join happen.1 (last_in joins join))
    (all_there (joins ++ join ∷ []) events last happen.1)
all_there joins (CutShort join ∷ events) last happen =
    ⊎_elim (all_there joins events last) (all_there (joins ++ join ∷ []) events last) happen.1

-- none that the ledger has is answered
none_again : (joins : List Join) (events : List LedgerEvent) (last : List Join) (join : Join) → MayHappen joins events last → Contains joins join → All (λ other. join ≢ other) (answered events)
none_again joins [] last join happen has = λ k d lt. absurd (omega (arith, lt))
none_again joins (Added other ∷ events) last join happen has =
    All-cons (λ (o : Join). join ≢ o) other (answered events)
    (λ same. happen.0 (subst (Contains joins) same has))
    (none_again (joins ++ other ∷ []) events last join happen.1 (Contains-append_left joins (other ∷ []) join has))
none_again joins (CutShort other ∷ events) last join happen has = ⊎_elim
    (λ without. none_again joins events last join without has)
    (λ with_it. none_again (joins ++ other ∷ []) events last join with_it (Contains-append_left joins (other ∷ []) join has))
    happen.1

-- all that are answered differ
pub all_differ : (joins : List Join) (events : List LedgerEvent) (last : List Join) → MayHappen joins events last → AllPairs (λ a b. a ≢ b) (answered events)
all_differ joins [] last happen = λ i j d below lt. absurd (omega (arith, lt))
all_differ joins (Added join ∷ events) last happen =
    AllPairs-cons (λ (a b : Join). a ≢ b) join (answered events)
    (none_again (joins ++ join ∷ []) events last join happen.1 (last_in joins join))
    (all_differ (joins ++ join ∷ []) events last happen.1)
all_differ joins (CutShort join ∷ events) last happen =
    ⊎_elim (all_differ joins events last) (all_differ (joins ++ join ∷ []) events last) happen.1

-- what is opened after a call that was cut short
pub opened_after : (joins : List Join) (join : Join) (image : List ℕ) (opened : List Join) → RepresentsOneOf joins join image → Represents image opened
    → (opened ≡ joins) ⊎ (opened ≡ joins ++ join ∷ [])
opened_after joins join image opened before_or_after represents = ⊎_elim
    (λ before. inl (only_joins image 65536 opened joins represents.slots before.slots))
    (λ after. inr (only_joins image 65536 opened (joins ++ join ∷ []) represents.slots after.slots))
    before_or_after
