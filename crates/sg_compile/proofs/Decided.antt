-- A graph is accepted or refused.
use Rattle.std.proofs.Common.{◌≡◌, ◌≢◌, ℕ, ◌<◌, ◌⊎◌, inl, inr, List, [], ◌∷◌, ◌++◌, length, Some, refl, sym, ap, subst, arith}
use Rattle.std.proofs.lemmas.Bool.{cases_Bool, cases_lt}
use Rattle.sg_model.specs.Last.{last, last_or}
use Rattle.sg_model.specs.Lists.{is_in}
use Rattle.sg_model.specs.Shape.{Blinding, Sighted, sender}
use Rattle.sg_check.specs.Blind.{IsBefore, IsBlind, IsBlindFault, PairAtNode}
use Rattle.sg_check.specs.Least.{IsLeast, IsNowhere}
use Rattle.sg_check.specs.Shaped.{HasNode, HasShape, IsIdle, IsSelfEdge, IsShapeFault, IsUnreachable}
use Rattle.sg_check.specs.declared.blinding.BlindFault.{BlindFault}
use Rattle.sg_check.specs.declared.blinding.BlindFault.TheVariants.{Blinding as Blinds, OutOfMemory as BlindMemory}
use Rattle.sg_check.specs.declared.shape.ShapeFault.{ShapeFault}
use Rattle.sg_check.specs.declared.shape.ShapeFault.TheVariants.{SelfEdge, Unreachable, IdleRole}
use Rattle.sg_know.specs.Reads.{AcceptedReads, HasBadRead, IsFirstFault, IsNotWriter, IsReadsOwn, IsUpTo, IsLeast as IsLeastPlace, IsNowhere as IsAtNoPlace}
use Rattle.sg_know.specs.declared.fault.ReadFault.{ReadFault}
use Rattle.sg_know.specs.declared.fault.ReadFault.TheVariants.{NotWriter, ReadsOwn, BadRead, OutOfMemory as ReadMemory}
use Rattle.sg_protocol.specs.Accepted.{Reached}
use Rattle.sg_protocol.specs.Graph.{Graph, shape, writers}
use Rattle.sg_protocol.specs.Knowledge.{knows}
use Rattle.sg_compile.specs.Laws.{GraphsAreAcceptedOrRefused, Surely}
use Rattle.sg_compile.specs.declared.check.CompileFault.TheVariants.{Shape, Reads, Blinding as BlindingFault}
use Rattle.sg_compile.proofs.Accepting.{accepted_from}
use Rattle.sg_compile.proofs.Sure.{each, least, so, sure}

module _ (g : Graph) where
  -- ---- shape

  shaped : IsNowhere (IsSelfEdge g) → IsNowhere (IsUnreachable g) → IsNowhere (IsIdle g) → Surely (HasShape g)
  shaped none all used =
      so (each (Reached g) (length g.nodes) (λ n l no. all n (l, no)))
      (λ reached. so (each (HasNode g) (length g.roles) (λ r l no. used r (l, no)))
      (λ has. sure (record { no_self_edge = λ e l same. none e (l, same); all_reached = reached; each_role_has_node = has })))

  shape_or_fault : Surely (HasShape g ⊎ ((f : ShapeFault) × IsShapeFault g f))
  shape_or_fault =
      so (least (IsSelfEdge g))
      (λ a. elim a [
        | inr m ↦ sure (inr (SelfEdge m.0, m.1))
        | inl none ↦
            so (least (IsUnreachable g))
            (λ b. elim b [
              | inr m ↦ sure (inr (Unreachable m.0, (none, m.1)))
              | inl all ↦
                  so (least (IsIdle g))
                  (λ c. elim c [
                    | inr m ↦ sure (inr (IdleRole m.0, (none, all, m.1)))
                    | inl used ↦ so (shaped none all used) (λ s. sure (inl s))
                  ])
            ])
      ])

  -- ---- writes and reads

  least_place : (P : ℕ → ℕ → Type 0) → Surely (IsAtNoPlace P ⊎ ((e : ℕ) × (x : ℕ) × IsLeastPlace P e x))
  least_place P =
      so (least (λ e. (x : ℕ) × P e x))
      (λ a. elim a [
        | inl none ↦ sure (inl (λ e x p. none e (x, p)))
        | inr m ↦
            so (least (P m.0))
            (λ b. elim b [
              | inl none ↦ absurd (none (m.1).here.0 (m.1).here.1)
              | inr n ↦ sure (inr (m.0, n.0, ((n.1).here, up_to m.0 n.0 (m.1).none_below (n.1).none_below)))
            ])
      ])
    where
      up_to : (e x : ℕ) → ((k : ℕ) → k < e → ((y : ℕ) × P k y) → ⊥) → ((k : ℕ) → k < x → P e k → ⊥) → (f y : ℕ) → P f y → IsUpTo e x f y
      up_to e x before less f y p =
          elim (cases_lt e f) [
            | inl l ↦ inl l
            | inr m ↦ elim (cases_lt f e) [
              | inl l ↦ absurd (before f l (y, p))
              | inr n ↦
                  (let same : f ≡ e = omega (arith, m, n) in
                  elim (cases_lt y x) [
                    | inl l ↦ absurd (less y l (subst (λ k. P k y) same p))
                    | inr o ↦ inr (sym same, omega (arith, o))
                  ])
            ]
          ]

  last_push : (es : List ℕ) (e : ℕ) → last (es ++ e ∷ []) ≡ Some e
  last_push [] e = refl
  last_push (x ∷ es) e = ap Some (behind x es e)
    where
      behind : (x : ℕ) (es : List ℕ) (e : ℕ) → last_or x (es ++ e ∷ []) ≡ e
      behind x [] e = refl
      behind x (y ∷ es) e = behind y es e

  known : IsAtNoPlace (IsNotWriter g) → IsAtNoPlace (IsReadsOwn g) → IsAtNoPlace (HasBadRead g) → AcceptedReads g
  known a b c = record {
    writers_write = λ e x w. elim (cases_Bool (is_in (sender (shape g) e) (writers g x))) [ inl y ↦ y | inr n ↦ absurd (a e x (w, n)) ];
    others_read = λ e x w own. b e x (w, own);
    reads_known = λ walk e x w h. elim (cases_Bool (knows g (sender (shape g) e) x (walk ++ e ∷ []))) [
      | inl y ↦ y
      | inr n ↦ absurd (c e x (walk ++ e ∷ [], record { from_start = w; last_edge = last_push walk e; is_read = h; unknown = n }))
    ];
  }

  reads_or_fault : Surely (AcceptedReads g ⊎ ((f : ReadFault) × IsFirstFault g f × (f ≢ ReadMemory)))
  reads_or_fault =
      so (least_place (IsNotWriter g))
      (λ a. elim a [
        | inr m ↦ sure (inr (NotWriter m.0 m.1, m.2, λ e. cc))
        | inl none ↦
            so (least_place (IsReadsOwn g))
            (λ b. elim b [
              | inr m ↦ sure (inr (ReadsOwn m.0 m.1, (none, m.2), λ e. cc))
              | inl others ↦
                  so (least_place (HasBadRead g))
                  (λ c. elim c [
                    | inr m ↦ sure (inr (BadRead m.0 m.1 m.2.0.0, (none, others, m.2, m.2.0.1), λ e. cc))
                    | inl good ↦ sure (inl (known none others good))
                  ])
            ])
      ])

  -- ---- blinding

  sighted : ((p : PairAtNode) → IsBlind (shape g) p → ⊥) → Sighted (shape g)
  sighted clear m a b x =
      elim (cases_lt a b) [
        | inl l ↦ clear (record { node = m; a = a; b = b }) (l, x)
        | inr n ↦ elim (cases_lt b a) [
          | inl l ↦
              clear (record { node = m; a = b; b = a })
              (l, record { apart = λ e. x.apart (sym e); not_a = x.not_b; not_b = x.not_a; to_a = x.to_b; to_b = x.to_a; leads_a = x.leads_b; leads_b = x.leads_a })
          | inr o ↦ x.apart (omega (arith, n, o))
        ]
      ]

  abbrev blind_at : ℕ → ℕ → ℕ → Type 0
  blind_at m a b = IsBlind (shape g) (record { node = m; a = a; b = b })

  blind_fault : (m a b : ℕ) → IsLeast (λ k. (c : ℕ) × (d : ℕ) × blind_at k c d) m → IsLeast (λ c. (d : ℕ) × blind_at m c d) a → IsLeast (blind_at m a) b → (f : BlindFault) × IsBlindFault (shape g) f × (f ≢ BlindMemory)
  blind_fault m a b x y z =
      let w : Blinding (shape g) m a b = z.here.1 in
      (Blinds m a b w.to_a w.to_b, record { one = tt; rising = z.here.0; not_a = w.not_a; not_b = w.not_b; leads_a = w.leads_a; leads_b = w.leads_b; none_before = λ q o. before q }, λ e. cc)
    where
      before : (q : PairAtNode) → IsBefore q (record { node = m; a = a; b = b }) → IsBlind (shape g) q → ⊥
      before q (inl l) h = x.none_below q.node l (q.a, q.b, h)
      before q (inr (same, inl l)) h = y.none_below q.a l (q.b, subst (λ k. blind_at k q.a q.b) same h)
      before q (inr (same, inr (also, l))) h = z.none_below q.b l (subst (λ c. blind_at m c q.b) also (subst (λ k. blind_at k q.a q.b) same h))

  blinding_or_fault : Surely (Sighted (shape g) ⊎ ((f : BlindFault) × IsBlindFault (shape g) f × (f ≢ BlindMemory)))
  blinding_or_fault =
      so (least (λ k. (c : ℕ) × (d : ℕ) × blind_at k c d))
      (λ x. elim x [
        | inl none ↦ sure (inl (sighted (λ p h. none p.node (p.a, p.b, h))))
        | inr m ↦
            so (least (λ c. (d : ℕ) × blind_at m.0 c d))
            (λ y. elim y [
              | inl none ↦ absurd (none (m.1).here.0 ((m.1).here.1, (m.1).here.2))
              | inr a ↦
                  so (least (blind_at m.0 a.0))
                  (λ z. elim z [
                    | inl none ↦ absurd (none (a.1).here.0 (a.1).here.1)
                    | inr b ↦ sure (inr (blind_fault m.0 a.0 b.0 m.1 a.1 b.1))
                  ])
            ])
      ])

-- ---- a graph

pub accepted_or_refused : GraphsAreAcceptedOrRefused
accepted_or_refused g two =
    so (shape_or_fault g)
    (λ a. elim a [
      | inr f ↦ sure (inr (Shape f.0, f.1, λ e. cc))
      | inl s ↦
          so (reads_or_fault g)
          (λ b. elim b [
            | inr f ↦ sure (inr (Reads f.0, (s, f.1, f.2), λ e. cc))
            | inl k ↦
                so (blinding_or_fault g)
                (λ c. elim c [
                  | inr f ↦ sure (inr (BlindingFault f.0, (s, k, f.1, f.2), λ e. cc))
                  | inl clear ↦ sure (inl (accepted_from g two s k clear))
                ])
          ])
    ])
