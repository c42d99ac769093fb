-- What it says of a frame that it shows a view of a role.
use Rattle.std.proofs.Common.{◌≡◌, ℕ, zero, suc, ◌<◌, ◌==◌, ◌&&◌, ◌||◌, Bool, true, false, not, bytes_eq, List, [], ◌∷◌, map, length, slice_get, refl, sym, ap, subst, ◌∙◌, arith, inl, inr, Option, Some, None, Contains, All}
use Rattle.std.specs.List.{AllByRecursion, list_all}
use Rattle.std.specs.Option.{option_map_or}
use Rattle.std.proofs.lemmas.Bool.{and_parts, cases_Bool, eq-eqb}
use Rattle.sg_model.specs.Last.{has, last, last_of, after_last}
use Rattle.sg_model.specs.Lists.{is_in}
use Rattle.sg_model.specs.Shape.{Shape, Walk, sender, target, source}
use Rattle.sg_model.specs.Values.{Opening}
use Rattle.sg_model.proofs.LastOf.{has-last_of}
use Rattle.sg_protocol.specs.Evidence.{Seen, View, IsView, has_view}
use Rattle.sg_protocol.specs.Frame.{Item, Frame}
use Rattle.sg_protocol.specs.Graph.{Graph, Edge, shape, reads}
use Rattle.sg_protocol.specs.IsSchedule.{IsProgram}
use Rattle.sg_protocol.specs.Keyring.{Program}
use Rattle.sg_protocol.specs.Session.{last_label}
use Rattle.sg_protocol.specs.Texts.{real}
use Rattle.sg_protocol.specs.Calls.{NoSuchView}
use Rattle.sg_protocol.specs.Verdict.{row, seen, has_right_tags}
use Rattle.sg_protocol.proofs.Bridge.{labels-view_of, has_view-Contains}
use Rattle.sg_protocol.proofs.Entries.{Roles, seen_labels, has-after_last}
use Rattle.sg_protocol.proofs.Enough.{below_reads}
use Rattle.sg_model.proofs.Small.{same_bytes, length_map, or_true}
use Rattle.sg_protocol.proofs.OneTable.{reads_small}
use Rattle.sg_protocol.proofs.Splits.{role_small}
use Rattle.sg_protocol.proofs.Takes.{all_roles}
use Rattle.sg_role.specs.Looking.{is_seen}
use Rattle.sg_role.proofs.Spelled.{all_at}

-- ---- walks

walk_below : (g : Shape) (m : ℕ) (es : List ℕ) → Walk g m es → AllByRecursion (λ e. e < length g.edges) es
walk_below g m [] w = tt
walk_below g m (e ∷ es) w = (w.0, walk_below g (target g e) es w.2)

all_last_of : (P : ℕ → Type 0) (key : ℕ → ℕ) (xs : List ℕ) → AllByRecursion P xs → AllByRecursion P (last_of key xs)
all_last_of P key [] a = tt
all_last_of P key (x ∷ xs) a = elim (cases_Bool (has key (key x) xs)) [ inl e ↦ rw e (all_last_of P key xs a.1) | inr e ↦ rw e (a.0, all_last_of P key xs a.1) ]

all_after : (P : ℕ → Type 0) (key : ℕ → ℕ) (k : ℕ) (xs : List ℕ) → AllByRecursion P xs → AllByRecursion P (after_last key k xs)
all_after P key k [] a = tt
all_after P key k (x ∷ xs) a = elim (cases_Bool (has key k xs)) [
  | inl e ↦ rw e (all_after P key k xs a.1)
  | inr e ↦ elim (cases_Bool (key x == k)) [ inl d ↦ rw (e, d) a.1 | inr d ↦ rw (e, d) (a.0, a.1) ]
]

all_unmap : (P : ℕ → Type 0) (is : List Item) → AllByRecursion P (map (λ (i : Item). i.label) is) → AllByRecursion (λ (i : Item). P i.label) is
all_unmap P [] a = tt
all_unmap P (i ∷ is) a = (a.0, all_unmap P is a.1)

module _ (g : Graph) (r : ℕ) (o : Option ℕ) (items : List Item) (viewed : IsView g r (record { origin = o; items = map seen items })) where
  abbrev since : List ℕ
  since = after_last (sender (shape g)) r viewed.walk

  labels_seen : map (λ (i : Item). i.label) items ≡ last_of (sender (shape g)) since
  labels_seen = sym (seen_labels items) ∙ ap (λ (z : View). map (λ (s : Seen). s.label) z.items) (sym viewed.seen) ∙ labels-view_of g r viewed.walk

  pub labels_below : AllByRecursion (λ (i : Item). i.label < length g.edges) items
  labels_below =
      let walk = walk_below (shape g) 0 viewed.walk viewed.follows in
      let seen_ = all_last_of (λ e. e < length (shape g).edges) (sender (shape g)) since (all_after (λ e. e < length (shape g).edges) (sender (shape g)) r viewed.walk walk) in
      subst (λ n. AllByRecursion (λ (i : Item). i.label < n) items) (length_map (λ (e : Edge). record { source = e.source; target = e.target; writes = e.writes; reads = e.reads }) g.edges)
      (all_unmap (λ e. e < length (shape g).edges) items (subst (AllByRecursion (λ e. e < length (shape g).edges)) (sym labels_seen) seen_))

  pub none_own : list_all (λ (i : Item). i.role == sender (shape g) i.label) items ≡ true → has (λ (i : Item). i.role) r items ≡ false
  none_own h = go items (all_roles (shape g) items h) ∙ ap (has (sender (shape g)) r) labels_seen ∙ has-last_of (sender (shape g)) r since ∙ has-after_last (sender (shape g)) r viewed.walk
    where
      go : (is : List Item) → Roles (shape g) is → has (λ (i : Item). i.role) r is ≡ has (sender (shape g)) r (map (λ (i : Item). i.label) is)
      go [] k = refl
      go (i ∷ is) k = ap (λ z. (z == r) || has (λ (i : Item). i.role) r is) k.0 ∙ ap (λ b. (sender (shape g) i.label == r) || b) (go is k.1)

-- ---- look-ups in the table

pub contains_at : {A : Type 0} (xs : List A) (k : ℕ) (x : A) → slice_get xs k ≡ Some x → Contains xs x
contains_at [] k x e = absurd (cc)
contains_at (y ∷ ys) zero x e = (0, omega arith, some_is y x e)
  where
    some_is : {A : Type 0} (y x : A) → Some y ≡ Some x → y ≡ x
    some_is y x e = cc
contains_at (y ∷ ys) (suc k) x e = let c = contains_at ys k x e in (suc c.0, omega (arith, c.1), c.2)

pub not_viewed : (table : List View) (v : View) → (Contains table v → ⊥) → has_view table v ≡ false
not_viewed table v n = elim (cases_Bool (has_view table v)) [ inl e ↦ absurd (n (has_view-Contains table v e)) | inr e ↦ e ]

pub labels_found : (p : Program) → IsProgram real p → (o : Option ℕ) (items : List Item) (id : ℕ) → slice_get p.views id ≡ Some (record { origin = o; items = map seen items }) → All (λ (i : Item). i.label < length p.graph.edges) items
labels_found p ip o items id e = all_at (λ (i : Item). i.label < length p.graph.edges) items (labels_below p.graph p.role o items ((ip.views.each (record { origin = o; items = map seen items })).0 (contains_at p.views id (record { origin = o; items = map seen items }) e)))

-- ---- a frame that shows a view

pub record SeenFrame (p : Program) (f : Frame) : Type 0 where
  pub labels : AllByRecursion (λ (i : Item). i.label < length p.graph.edges) f.items
  pub roles : AllByRecursion (λ (i : Item). i.role < length p.graph.roles) f.items
  pub others : has (λ (i : Item). i.role) p.role f.items ≡ false
  pub variables : AllByRecursion (λ (o : Opening). o.variable < length p.graph.variables) f.openings
  pub its_last : (i : Item) × (last f.items ≡ Some i)

pub seen_frame : (p : Program) → IsProgram real p → (o : Option ℕ) (f : Frame) → is_seen p o f ≡ true → SeenFrame p f
seen_frame p ip o f h =
    let a = and_parts _ (bytes_eq (map (λ (o : Opening). o.variable) f.openings) (option_map_or (reads p.graph) (last_label f.items) [])) h in
    let b = and_parts _ (has_right_tags p f.items) a.0 in
    let c = and_parts _ (option_map_or (λ (i : Item). i.role == f.sender) (last f.items) false) b.0 in
    let d = and_parts (has_view p.views (record { origin = o; items = map seen f.items })) (list_all (λ (i : Item). i.role == sender (shape p.graph) i.label) f.items) c.0 in
    let v : IsView p.graph p.role (record { origin = o; items = map seen f.items }) = (ip.views.each (record { origin = o; items = map seen f.items })).0 (has_view-Contains p.views (record { origin = o; items = map seen f.items }) d.0) in
    record {
      labels = labels_below p.graph p.role o f.items v;
      roles = small f.items (all_roles (shape p.graph) f.items d.1);
      others = none_own p.graph p.role o f.items v d.1;
      variables = below_reads (length p.graph.variables) f.openings (option_map_or (reads p.graph) (last_label f.items) []) (same_bytes _ _ a.1) (reads_below (last_label f.items));
      its_last = the_last (last f.items) refl c.1;
    }
  where
    small : (is : List Item) → Roles (shape p.graph) is → AllByRecursion (λ (i : Item). i.role < length p.graph.roles) is
    small [] r = tt
    small (i ∷ is) r = (subst (λ z. z < length p.graph.roles) (sym r.0) (role_small p.graph ip.is_graph ip.accepted (source (shape p.graph) i.label)), small is r.1)

    reads_below : (l : Option ℕ) → AllByRecursion (λ x. x < length p.graph.variables) (option_map_or (reads p.graph) l [])
    reads_below None = tt
    reads_below (Some e) = all_members (reads p.graph e) (λ x k. reads_small p.graph ip.is_graph e x k)
      where
        all_members : (xs : List ℕ) → ((x : ℕ) → is_in x xs ≡ true → x < length p.graph.variables) → AllByRecursion (λ x. x < length p.graph.variables) xs
        all_members [] k = tt
        all_members (x ∷ xs) k = (k x (rw (eq-eqb x x refl) refl), all_members xs (λ y m. k y (rw m (or_true (x == y)))))

    the_last : (l : Option Item) → last f.items ≡ l → option_map_or (λ (i : Item). i.role == f.sender) l false ≡ true → (i : Item) × (last f.items ≡ Some i)
    the_last None e h = absurd (cc)
    the_last (Some i) e h = (i, e)

-- ---- the parts of the test

module _ (p : Program) (o : Option ℕ) (f : Frame) where
  abbrev viewed_ : Bool
  viewed_ = has_view p.views (record { origin = o; items = map seen f.items })

  pub all_true : viewed_ ≡ true
      → (list_all (λ (i : Item). i.role == sender (shape p.graph) i.label) f.items && option_map_or (λ (i : Item). i.role == f.sender) (last f.items) false && has_right_tags p f.items
      && bytes_eq (map (λ (o : Opening). o.variable) f.openings) (option_map_or (reads p.graph) (last_label f.items) [])) ≡ true
      → is_seen p o f ≡ true
  all_true v h = rw v h

  pub all_false : viewed_ ≡ false → row (not (is_seen p o f)) NoSuchView ≡ Some NoSuchView
  all_false v = rw v refl
