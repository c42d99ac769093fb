-- What an honest session sends has a spelling.
use Rattle.std.specs.Prelude.{filter_map, ◌≡◌, ℕ, zero, suc, ◌+◌, ◌<◌, ◌≤◌, ◌==◌, nat_lt, nat_le, get_or, All, ◌||◌, ◌&&◌, ◌⊎◌, Bool, true, false, not, List, [], ◌∷◌, ◌++◌, map, filter, flat_map, length, refl, Option, Some, None, option_map, IfSome, ⊤}
use Rattle.std.specs.List.{cons_option, list_all, AllByRecursion}
use Rattle.std.specs.Option.{option_or}
use Rattle.std.proofs.Common.{sym, ◌∙◌, ap, subst, inl, inr, arith, append-nil}
use Rattle.std.proofs.lemmas.Bool.{eqb-true, eq-eqb, or_parts, ne_eqb, cases_Bool, and_parts}
use Rattle.std.proofs.lemmas.Bool.Decides.{nat_tests}
use Rattle.std.proofs.lemmas.List.{map-append, length-append, length-take-le}
use Rattle.std.proofs.lemmas.List.Elements.{All-head, All-tail}
use Rattle.sg_model.specs.Last as A
use Rattle.sg_model.specs.Last.{Map, has, after_last}
use Rattle.sg_model.specs.Lists.{value_at, range_from}
use Rattle.sg_model.specs.Shape.{Arrow, role_at, source, target, sender, receiver}
use Rattle.sg_model.specs.Values.{Value, Opening}
use Rattle.sg_protocol.specs.Graph.{Graph, Edge, AreNumbers, shape, writes, reads}
use Rattle.sg_protocol.specs.Frame.{Cast, Item, Frame, IsItem, IsTag, IsValue, IsOpening, IsCastOf, tag_len}
use Rattle.sg_protocol.specs.Spelling.{spelling, magic, join_code, HasSpelling, body, u8, u16, u32, item_bytes, pair_bytes, map_bytes, join_bytes, short_text, opening_bytes, sized, value_bytes, kind_code}
use Rattle.sg_model.specs.Bytes.{AreBytes}
use Rattle.sg_protocol.specs.Texts.{Hash, IsHash, commitment, cut}
use Rattle.sg_protocol.specs.TextLaws.{IsVersion}
pub use Rattle.sg_protocol.specs.Bounds.{IsSession as FitSession}
use Rattle.sg_protocol.specs.Keyring.{Keyring, Program, targets_of}
use Rattle.sg_protocol.specs.Session.{Session, Exchange, transcript, time, place, at_turn, openings_of, opening_in, last_opening, known}
use Rattle.sg_protocol.specs.Sending.{text_to, plain_item, own_item, frame_sent, item_of, entry_of, tags_left, shown_to, opening_of, tag_for}
use Rattle.sg_law.proofs.Lists.{has-map}
use Rattle.sg_law.proofs.Lists.{in_same}
use Rattle.sg_protocol.proofs.Moves.{writes_below}
use Rattle.sg_model.specs.Lists.{rises_from, keys_of, in_order}
use Rattle.sg_law.proofs.Upto.{after-more}
use Rattle.sg_protocol.proofs.Paths.{writes_rise}
use Rattle.sg_protocol.proofs.Acts as C
use Rattle.std.specs.Prelude.{IsTrue}
use Rattle.sg_model.specs.Values.{IntValue, TextValue}
use Rattle.sg_model.specs.Names.{is_name, is_name_byte, is_letter}
use Rattle.sg_model.proofs.Small.{all-append, all_filter, length_filter, length_map, lt_of, length-flat, all_weaker, keys_of_pairs, all_below}
use Rattle.sg_model.proofs.Finding.{find_passes, find_all}
use Rattle.sg_protocol.specs.IsSchedule.{IsProgram}
use Rattle.std.specs.Prelude.{replicate, take}
use Rattle.std.specs.List.{concat}
use Rattle.std.specs.Prelude.{drop}
use Rattle.sg_protocol.specs.Targets.{IsTarget}
use Rattle.sg_protocol.specs.Graph as G
use Rattle.sg_protocol.proofs.Spelled.{to_bytes, from_bytes, bytes-append, bytes-take, bytes-zeros}
use Rattle.sg_protocol.proofs.TextLaws.{magic_long}

-- ---- numbers that differ

abbrev pub Dist : List ℕ → Type 0
Dist [] = ⊤
Dist (x ∷ xs) = (has (λ (y : ℕ). y) x xs ≡ false) × Dist xs

abbrev pub Below : ℕ → List ℕ → Type 0
Below n xs = AllByRecursion (λ x. x < n) xs

has-without : (n k : ℕ) (xs : List ℕ) → has (λ (y : ℕ). y) k xs ≡ false → has (λ (y : ℕ). y) k (filter (λ x. not (x == n)) xs) ≡ false
has-without n k [] h = refl
has-without n k (x ∷ xs) h =
    let p = or_parts (x == k) (has (λ (y : ℕ). y) k xs) h in
    elim (cases_Bool (x == n)) [ inl e ↦ rw e (has-without n k xs p.1) | inr e ↦ rw e (rw p.0 (has-without n k xs p.1)) ]

dist-without : (n : ℕ) (xs : List ℕ) → Dist xs → Dist (filter (λ x. not (x == n)) xs)
dist-without n [] d = tt
dist-without n (x ∷ xs) d = elim (cases_Bool (x == n)) [ inl e ↦ rw e (dist-without n xs d.1) | inr e ↦ rw e (has-without n x xs d.0, dist-without n xs d.1) ]

below-without : (n : ℕ) (xs : List ℕ) → Below (suc n) xs → Below n (filter (λ x. not (x == n)) xs)
below-without n [] b = tt
below-without n (x ∷ xs) b = elim (cases_Bool (x == n)) [ inl e ↦ rw e (below-without n xs b.1) | inr e ↦ rw e (under x n b.0 e, below-without n xs b.1) ]
  where
    under : (x n : ℕ) → x < suc n → (x == n) ≡ false → x < n
    under x n l e = grind (arith, nat_tests)

same-without : (n : ℕ) (xs : List ℕ) → has (λ (y : ℕ). y) n xs ≡ false → filter (λ x. not (x == n)) xs ≡ xs
same-without n [] h = refl
same-without n (x ∷ xs) h = let p = or_parts (x == n) (has (λ (y : ℕ). y) n xs) h in rw p.0 (ap (λ l. x ∷ l) (same-without n xs p.1))

length-without : (n : ℕ) (xs : List ℕ) → Dist xs → length xs ≤ length (filter (λ x. not (x == n)) xs) + 1
length-without n [] d = omega arith
length-without n (x ∷ xs) d = elim (cases_Bool (x == n)) [
  | inl e ↦ rw e (let s : filter (λ x. not (x == n)) xs ≡ xs = same-without n xs (ap (λ z. has (λ (y : ℕ). y) z xs) (sym (eqb-true x n e)) ∙ d.0) in let l : length (filter (λ x. not (x == n)) xs) ≡ length xs = ap length s in omega (arith, l))
  | inr e ↦ rw e (let l = length-without n xs d.1 in omega (arith, l))
]

pub pigeon : (n : ℕ) (xs : List ℕ) → Dist xs → Below n xs → length xs ≤ n
pigeon zero [] d b = omega arith
pigeon zero (x ∷ xs) d b = absurd (let l = b.0 in omega (arith, l))
pigeon (suc n) xs d b = (let a = pigeon n (filter (λ x. not (x == n)) xs) (dist-without n xs d) (below-without n xs b) in let c = length-without n xs d in omega (arith, a, c))

-- numbers that rise differ
rise_none : (xs : List ℕ) (x n : ℕ) → x < n → rises_from n xs ≡ true → has (λ (y : ℕ). y) x xs ≡ false
rise_none [] x n l r = refl
rise_none (y ∷ ys) x n l r =
    let p = and_parts (not (nat_lt y n)) (rises_from (suc y) ys) r in
    rw (ne_eqb y x (far y x n p.0 l)) (rise_none ys x (suc y) (low y x n p.0 l) p.1)
  where
    far : (y x n : ℕ) → not (nat_lt y n) ≡ true → x < n → y ≡ x → ⊥
    far y x n h l e = grind (arith, nat_tests)

    low : (y x n : ℕ) → not (nat_lt y n) ≡ true → x < n → x < suc y
    low y x n h l = grind (arith, nat_tests)

rise_dist : (xs : List ℕ) (n : ℕ) → rises_from n xs ≡ true → Dist xs
rise_dist [] n r = tt
rise_dist (y ∷ ys) n r = let p = and_parts (not (nat_lt y n)) (rises_from (suc y) ys) r in (rise_none ys y (suc y) (omega arith) p.1, rise_dist ys (suc y) p.1)

rise_lower : (xs : List ℕ) (m n : ℕ) → m ≤ n → rises_from n xs ≡ true → rises_from m xs ≡ true
rise_lower [] m n l r = refl
rise_lower (y ∷ ys) m n l r = let p = and_parts (not (nat_lt y n)) (rises_from (suc y) ys) r in rw (still_ y m n p.0 l) p.1
  where
    still_ : (y m n : ℕ) → not (nat_lt y n) ≡ true → m ≤ n → nat_lt y m ≡ false
    still_ y m n h l = grind (arith, nat_tests)

not_less_ : (y n : ℕ) → not (nat_lt y n) ≡ true → nat_lt y n ≡ false
not_less_ y n h = grind (arith, nat_tests)

upward : (y n : ℕ) → not (nat_lt y n) ≡ true → n ≤ suc y
upward y n h = grind (arith, nat_tests)

-- ---- maps

rise_filter : {A : Type 0} (q : ℕ × A → Bool) (m : Map A) (n : ℕ) → rises_from n (keys_of m) ≡ true → rises_from n (keys_of (filter q m)) ≡ true
rise_filter q [] n r = refl
rise_filter q (w ∷ ws) n r =
    let p = and_parts (not (nat_lt w.0 n)) (rises_from (suc w.0) (keys_of ws)) r in
    elim (cases_Bool (q w)) [
      | inl e ↦ rw e (rw (not_less_ w.0 n p.0) (rise_filter q ws (suc w.0) p.1))
      | inr e ↦ rw e (rise_lower (keys_of (filter q ws)) n (suc w.0) (upward w.0 n p.0) (rise_filter q ws (suc w.0) p.1))
    ]

abbrev pub Coms : Map (List ℕ) → Type 0
Coms m = AllByRecursion (λ (d : ℕ × List ℕ). AreBytes 32 d.1) m

value_com : (m : Map (List ℕ)) (x : ℕ) → Coms m → IfSome (value_at m x) (AreBytes 32)
value_com [] x a = tt
value_com (d ∷ m) x a = elim (cases_Bool (d.0 == x)) [ inl e ↦ rw e a.0 | inr e ↦ rw e (value_com m x a.1) ]

record Ordered (k j : ℕ) (m : Map (List ℕ)) : Type 0 where
  rises : rises_from k (keys_of m) ≡ true
  size : length m ≤ j
  fit : AllByRecursion (λ (d : ℕ × List ℕ). (d.0 < k + j) × AreBytes 32 d.1) m

ordered_picks : (m : Map (List ℕ)) → Coms m → (k j : ℕ) → Ordered k j (filter_map (λ x. option_map (λ v. (x, v)) (value_at m x)) (range_from k j))
ordered_picks m c k zero = record { rises = refl; size = omega arith; fit = tt }
ordered_picks m c k (suc j) = go (value_at m k) (value_com m k c) (filter_map (λ x. option_map (λ v. (x, v)) (value_at m x)) (range_from (suc k) j)) (ordered_picks m c (suc k) j)
  where
    more : (ms : Map (List ℕ)) → AllByRecursion (λ (d : ℕ × List ℕ). (d.0 < suc k + j) × AreBytes 32 d.1) ms → AllByRecursion (λ (d : ℕ × List ℕ). (d.0 < k + suc j) × AreBytes 32 d.1) ms
    more [] a = tt
    more (d ∷ ms) a = (((let l = a.0.0 in omega (arith, l)), a.0.1), more ms a.1)

    go : (o : Option (List ℕ)) → IfSome o (AreBytes 32) → (ms : Map (List ℕ)) → Ordered (suc k) j ms → Ordered k (suc j) (cons_option (option_map (λ v. (k, v)) o) ms)
    go None h ms r = record { rises = rise_lower (keys_of ms) k (suc k) (omega arith) r.rises; size = (let l = r.size in omega (arith, l)); fit = more ms r.fit }
    go (Some v) h ms r = record { rises = rw (same k) r.rises; size = (let l = r.size in omega (arith, l)); fit = (((omega arith), h), more ms r.fit) }
      where
        same : (k : ℕ) → nat_lt k k ≡ false
        same k = grind (arith, nat_tests)

coms_merge : (a b : Map (List ℕ)) → Coms a → Coms b → Coms (A.merge a b)
coms_merge a b c d = all-append (λ (d : ℕ × List ℕ). AreBytes 32 d.1) _ b (all_filter (λ (d : ℕ × List ℕ). AreBytes 32 d.1) _ a c) d

-- ---- items

abbrev pub Ent : Type 0
Ent = A.Entry Item (List ℕ)

pub record FitEnt (v : ℕ) (e : Ent) : Type 0 where
  step_fit : IsItem v e.step
  coms : Coms e.writes

coms_of : (m : Map (List ℕ)) → AllByRecursion (λ (d : ℕ × List ℕ). (d.0 < 32) × AreBytes 32 d.1) m → Coms m
coms_of [] a = tt
coms_of (d ∷ m) a = (a.0.1, coms_of m a.1)

pub ents_fit : (v : ℕ) (is : List Item) → AllByRecursion (IsItem v) is → AllByRecursion (FitEnt v) (map entry_of is)
ents_fit v [] a = tt
ents_fit v (i ∷ is) a = (record { step_fit = a.0; coms = coms_of i.delta a.0.delta }, ents_fit v is a.1)

carry_fit : (v : ℕ) (m : Map (List ℕ)) (es : List Ent) → Coms m → AllByRecursion (FitEnt v) es → AllByRecursion (FitEnt v) (A.carry m es)
carry_fit v m [] c a = tt
carry_fit v m (e ∷ es) c a = (record { step_fit = a.0.step_fit; coms = coms_merge m e.writes c a.0.coms }, a.1)

pub evidence_fit : (v : ℕ) (es : List Ent) → AllByRecursion (FitEnt v) es → AllByRecursion (FitEnt v) (A.evidence (λ (i : Item). i.role) es)
evidence_fit v [] a = tt
evidence_fit v (e ∷ es) a = elim (cases_Bool (has (λ (y : Ent). y.step.role) e.step.role es)) [
  | inl d ↦ rw d (carry_fit v e.writes (A.evidence (λ (i : Item). i.role) es) a.0.coms (evidence_fit v es a.1))
  | inr d ↦ rw d (a.0, evidence_fit v es a.1)
]

pub after_fit : (v k : ℕ) (es : List Ent) → AllByRecursion (FitEnt v) es → AllByRecursion (FitEnt v) (after_last (λ (y : Ent). y.step.role) k es)
after_fit v k [] a = tt
after_fit v k (e ∷ es) a = elim (cases_Bool (has (λ (y : Ent). y.step.role) k es)) [
  | inl d ↦ rw d (after_fit v k es a.1)
  | inr d ↦ elim (cases_Bool (e.step.role == k)) [ inl q ↦ rw (d, q) a.1 | inr q ↦ rw (d, q) a ]
]

item_fit : (g : Graph) → length g.variables ≤ 32 → (v : ℕ) (es : List Ent) → AllByRecursion (FitEnt v) es → AllByRecursion (IsItem v) (map (item_of g) es)
item_fit g small v [] a = tt
item_fit g small v (e ∷ es) a =
    let o : Ordered 0 (length g.variables) (in_order (length g.variables) e.writes) = ordered_picks e.writes a.0.coms 0 (length g.variables) in
    (record { role = a.0.step_fit.role; label = a.0.step_fit.label; time = a.0.step_fit.time; variables = ((let l = o.size in omega (arith, l, small)), o.rises); delta = less (in_order (length g.variables) e.writes) o.fit; roles = a.0.step_fit.roles; tags = a.0.step_fit.tags }, item_fit g small v es a.1)
  where
    less : (m : Map (List ℕ)) → AllByRecursion (λ (d : ℕ × List ℕ). (d.0 < 0 + length g.variables) × AreBytes 32 d.1) m → AllByRecursion (λ (d : ℕ × List ℕ). (d.0 < 32) × AreBytes 32 d.1) m
    less [] a = tt
    less (d ∷ m) a = (((let l = a.0.0 in omega (arith, l, small)), a.0.1), less m a.1)

left_fit : (v : ℕ) (is : List Item) → AllByRecursion (IsItem v) is → AllByRecursion (IsItem v) (tags_left is)
left_fit v [] a = tt
left_fit v (i ∷ is) a = (
  record {
    role = a.0.role;
    label = a.0.label;
    time = a.0.time;
    variables = a.0.variables;
    delta = a.0.delta;
    roles = ((let l = length_filter (λ (t : ℕ × List ℕ). not (has (λ (j : Item). j.role) t.0 is)) i.tags in let m = a.0.roles.0 in omega (arith, l, m)), rise_filter (λ (t : ℕ × List ℕ). not (has (λ (j : Item). j.role) t.0 is)) i.tags 0 a.0.roles.1);
    tags = all_filter (λ (t : ℕ × List ℕ). (t.0 < 16) × IsTag v t.1) _ i.tags a.0.tags;
  },
  left_fit v is a.1,
)

shown_fit : (g : Graph) → length g.variables ≤ 32 → (v k : ℕ) (is : List Item) → AllByRecursion (IsItem v) is → AllByRecursion (IsItem v) (shown_to g k is)
shown_fit g small v k is a = left_fit v _ (item_fit g small v _ (evidence_fit v _ (after_fit v k (map entry_of is) (ents_fit v is a))))

-- the roles of what is shown differ
pub has-ev : (k : ℕ) (es : List Ent) → has (λ (y : Ent). y.step.role) k (A.evidence (λ (i : Item). i.role) es) ≡ has (λ (y : Ent). y.step.role) k es
has-ev k [] = refl
has-ev k (e ∷ es) = elim (cases_Bool (has (λ (y : Ent). y.step.role) e.step.role es)) [
  | inl d ↦ rw d (carried_ (A.evidence (λ (i : Item). i.role) es) ∙ has-ev k es ∙ sym (there (cases_Bool (e.step.role == k)) d))
  | inr d ↦ rw d (ap (λ b. (e.step.role == k) || b) (has-ev k es))
]
  where
    carried_ : (zs : List Ent) → has (λ (y : Ent). y.step.role) k (A.carry e.writes zs) ≡ has (λ (y : Ent). y.step.role) k zs
    carried_ [] = refl
    carried_ (z ∷ zs) = refl

    there : ((e.step.role == k) ≡ true) ⊎ ((e.step.role == k) ≡ false) → has (λ (y : Ent). y.step.role) e.step.role es ≡ true → ((e.step.role == k) || has (λ (y : Ent). y.step.role) k es) ≡ has (λ (y : Ent). y.step.role) k es
    there (inl q) d = rw q (sym d ∙ ap (λ z. has (λ (y : Ent). y.step.role) z es) (eqb-true e.step.role k q))
    there (inr q) d = rw q refl

pub dist_ev : (es : List Ent) → Dist (map (λ (y : Ent). y.step.role) (A.evidence (λ (i : Item). i.role) es))
dist_ev [] = tt
dist_ev (e ∷ es) = elim (cases_Bool (has (λ (y : Ent). y.step.role) e.step.role es)) [
  | inl d ↦ rw d (same_roles (A.evidence (λ (i : Item). i.role) es) (dist_ev es))
  | inr d ↦ rw d (has-map (λ (y : Ent). y.step.role) (λ (y : ℕ). y) e.step.role (A.evidence (λ (i : Item). i.role) es) ∙ has-ev e.step.role es ∙ d, dist_ev es)
]
  where
    same_roles : (zs : List Ent) → Dist (map (λ (y : Ent). y.step.role) zs) → Dist (map (λ (y : Ent). y.step.role) (A.carry e.writes zs))
    same_roles [] h = tt
    same_roles (z ∷ zs) h = h

pub len_left : (is : List Item) → length (tags_left is) ≡ length is
len_left [] = refl
len_left (i ∷ is) = let l = len_left is in omega (arith, l)

pub roles_below : (v : ℕ) (es : List Ent) → AllByRecursion (FitEnt v) es → Below 16 (map (λ (y : Ent). y.step.role) es)
roles_below v [] a = tt
roles_below v (e ∷ es) a = (a.0.step_fit.role, roles_below v es a.1)

shown_few : (g : Graph) (v k : ℕ) (is : List Item) → AllByRecursion (IsItem v) is → length (shown_to g k is) ≤ 16
shown_few g v k is a =
    let es : List Ent = after_last (λ (y : Ent). y.step.role) k (map entry_of is) in
    let l1 = len_left (map (item_of g) (A.evidence (λ (i : Item). i.role) es)) in
    let l2 = length_map (item_of g) (A.evidence (λ (i : Item). i.role) es) in
    let l3 = length_map (λ (y : Ent). y.step.role) (A.evidence (λ (i : Item). i.role) es) in
    let p = pigeon 16 (map (λ (y : Ent). y.step.role) (A.evidence (λ (i : Item). i.role) es)) (dist_ev es) (roles_below v (A.evidence (λ (i : Item). i.role) es) (evidence_fit v es (after_fit v k (map entry_of is) (ents_fit v is a)))) in
    omega (arith, l1, l2, l3, p)

shown_some : (g : Graph) (k : ℕ) (is : List Item) (i : Item) → (i.role ≡ k → ⊥) → 1 ≤ length (shown_to g k (is ++ i ∷ []))
shown_some g k is i ne =
    let es : List Ent = after_last (λ (y : Ent). y.step.role) k (map entry_of (is ++ i ∷ [])) in
    let l1 = len_left (map (item_of g) (A.evidence (λ (i : Item). i.role) es)) in
    let l2 = length_map (item_of g) (A.evidence (λ (i : Item). i.role) es) in
    let p : has (λ (y : Ent). y.step.role) i.role (A.evidence (λ (i : Item). i.role) es) ≡ true = has-ev i.role es ∙ kept is in
    (let q = some_len (A.evidence (λ (i : Item). i.role) es) p in omega (arith, l1, l2, q))
  where
    some_len : (zs : List Ent) → has (λ (y : Ent). y.step.role) i.role zs ≡ true → 1 ≤ length zs
    some_len [] h = absurd (cc)
    some_len (z ∷ zs) h = omega arith

    kept : (is : List Item) → has (λ (y : Ent). y.step.role) i.role (after_last (λ (y : Ent). y.step.role) k (map entry_of (is ++ i ∷ []))) ≡ true
    kept is =
        ap (λ l. has (λ (y : Ent). y.step.role) i.role (after_last (λ (y : Ent). y.step.role) k l)) (map-append entry_of is (i ∷ []))
        ∙ ap (has (λ (y : Ent). y.step.role) i.role) (after-more (λ (y : Ent). y.step.role) k (map entry_of is) (entry_of i ∷ []) (rw (ne_eqb i.role k ne) refl))
        ∙ at_end (after_last (λ (y : Ent). y.step.role) k (map entry_of is))
      where
        at_end : (zs : List Ent) → has (λ (y : Ent). y.step.role) i.role (zs ++ entry_of i ∷ []) ≡ true
        at_end [] = rw (eq-eqb i.role i.role refl) refl
        at_end (z ∷ zs) = elim (cases_Bool (z.step.role == i.role)) [ inl e ↦ rw e refl | inr e ↦ rw e (at_end zs) ]

-- ---- lengths

abbrev pub total : List ℕ → ℕ
total [] = 0
total (n ∷ ns) = n + total ns

pub len_concat : (ps : List (List ℕ)) → length (concat ps) ≡ total (map (λ (p : List ℕ). length p) ps)
len_concat [] = refl
len_concat (p ∷ ps) = let l = length-append p (concat ps) in let m = len_concat ps in omega (arith, l, m)

len_take : (n : ℕ) (t : List ℕ) → length (take n t) ≤ length t
len_take zero t = omega arith
len_take (suc n) [] = omega arith
len_take (suc n) (x ∷ t) = let l = len_take n t in omega (arith, l)

drop_app : (n : ℕ) (a b : List ℕ) → length a ≡ n → drop n (a ++ b) ≡ b
drop_app zero [] b e = refl
drop_app zero (x ∷ a) b e = absurd (omega arith)
drop_app (suc n) [] b e = absurd (omega arith)
drop_app (suc n) (x ∷ a) b e = drop_app n a b (omega arith)

pub pairs_33 : (m : Map (List ℕ)) → AllByRecursion (λ (d : ℕ × List ℕ). (d.0 < 32) × AreBytes 32 d.1) m → AllByRecursion (λ (d : ℕ × List ℕ). length (pair_bytes (λ c. c) d) ≤ 33) m
pairs_33 [] a = tt
pairs_33 (d ∷ m) a = ((let l = a.0.1.0 in omega (arith, l)), pairs_33 m a.1)

pub item_len : (v : ℕ) (i : Item) → IsItem v i → length (item_bytes v i) ≤ 1527
item_len v i h =
    let c = len_concat (u8 i.role ∷ u16 i.label ∷ u32 i.time ∷ map_bytes (λ c. c) i.delta ∷ map_bytes (take (tag_len v)) i.tags ∷ []) in
    let a = length-flat 33 (pair_bytes (λ c. c)) i.delta (pairs_33 i.delta h.delta) in
    let b = length-flat 33 (pair_bytes (take (tag_len v))) i.tags (go16 i.tags h.tags) in
    let d = h.variables.0 in
    let e = h.roles.0 in
    omega (arith, c, a, b, d, e)
  where
    go16 : (m : Map (List ℕ)) → AllByRecursion (λ (t : ℕ × List ℕ). (t.0 < 16) × IsTag v t.1) m → AllByRecursion (λ (d : ℕ × List ℕ). length (pair_bytes (take (tag_len v)) d) ≤ 33) m
    go16 [] a = tt
    go16 (d ∷ m) a = ((let l = a.0.1.bytes.0 in let k = len_take (tag_len v) d.1 in omega (arith, l, k)), go16 m a.1)

value_len : (v : Value) → IsValue v → length (value_bytes v) ≤ 1024
value_len (IntValue z) h = omega arith
value_len (TextValue t) h = h.1

pub opening_len : (o : Opening) → IsOpening o → length (opening_bytes o) ≤ 1046
opening_len o h =
    let c = len_concat (u8 o.variable ∷ o.confounder ∷ u8 (kind_code o.value) ∷ sized o.value ∷ []) in
    let a = length-append (u32 (length (value_bytes o.value))) (value_bytes o.value) in
    let b = value_len o.value h.value in
    let d = h.confounder.0 in
    omega (arith, c, a, b, d)

pub short_name : (n : List ℕ) → is_name n ≡ true → length (short_text n) ≤ 33
short_name [] h = omega arith
short_name (c ∷ cs) h = le_of (length cs) (and_parts (is_letter c && list_all is_name_byte cs) (nat_le (length cs) 31) h).1
  where
    le_of : (k : ℕ) → nat_le k 31 ≡ true → suc (suc k) ≤ 33
    le_of k h = grind (arith, nat_tests)

pub join_len : (v : ℕ) (o : Option Cast) → IfSome o (IsCastOf v) → length (join_bytes o) ≤ 577
join_len v None h = omega arith
join_len v (Some c) h =
    let a = len_concat (c.graph ∷ c.nonce ∷ u8 (length c.names) ∷ flat_map short_text c.names ∷ []) in
    let b = length-flat 33 short_text c.names (go c.names h.names) in
    let d = h.graph.0 in
    let e = h.nonce.0 in
    let f = h.count.1 in
    omega (arith, a, b, d, e, f)
  where
    go : (ns : List (List ℕ)) → AllByRecursion (λ n. IsTrue (is_name n)) ns → AllByRecursion (λ n. length (short_text n) ≤ 33) ns
    go [] a = tt
    go (n ∷ ns) a = (short_name n a.0, go ns a.1)

pub items_len : (v : ℕ) (is : List Item) → AllByRecursion (IsItem v) is → AllByRecursion (λ i. length (item_bytes v i) ≤ 1527) is
items_len v is a = all_weaker (IsItem v) (λ i. length (item_bytes v i) ≤ 1527) (item_len v) is a

pub openings_len : (os : List Opening) → AllByRecursion IsOpening os → AllByRecursion (λ o. length (opening_bytes o) ≤ 1046) os
openings_len os a = all_weaker IsOpening (λ o. length (opening_bytes o) ≤ 1046) opening_len os a

spelled_len : (f : Frame) → length f.sid ≡ 32 → IfSome f.join (IsCastOf f.version) → length f.items ≤ 16 → AllByRecursion (IsItem f.version) f.items → length f.openings ≤ 32 → AllByRecursion IsOpening f.openings → length f.tag ≡ 32 → length (spelling f) ≤ 60000
spelled_len f l j n a m b t =
    let c = len_concat (magic f.version ∷ u8 (join_code f.join) ∷ f.sid ∷ u8 f.sender ∷ u8 f.receiver ∷ join_bytes f.join ∷ u16 (length f.items) ∷ flat_map (item_bytes f.version) f.items ∷ u8 (length f.openings) ∷ flat_map opening_bytes f.openings ∷ []) in
    let d = length-append (body f) (take (tag_len f.version) f.tag) in
    let e = len_take (tag_len f.version) f.tag in
    let g = length-flat 1527 (item_bytes f.version) f.items (items_len f.version f.items a) in
    let h = length-flat 1046 opening_bytes f.openings (openings_len f.openings b) in
    let i = join_len f.version f.join j in
    let k = magic_long f.version in
    omega (arith, c, d, e, g, h, i, k, l, n, m, t)

-- ---- tags

pub cut_tag : (v : ℕ) → IsVersion v → (t : List ℕ) → AreBytes 32 t → IsTag v (cut v t)
cut_tag v (inl e) t h = subst (λ v. IsTag v (cut v t)) (sym e) record { bytes = h; zeros = ap (drop 32) (sym (append-nil t)) ∙ drop_app 32 t [] h.0 }
cut_tag v (inr e) t h = subst (λ v. IsTag v (cut v t)) (sym e) record {
  bytes = ((let a = length-append (take 16 t) (replicate 16 0) in let b : length (take 16 t) ≡ 16 = length-take-le 16 t (let l = h.0 in omega (arith, l)) in omega (arith, a, b)), to_bytes _ (bytes-append (take 16 t) (replicate 16 0) (bytes-take 16 t (from_bytes t h.1)) (bytes-zeros 16)));
  zeros = drop_app 16 (take 16 t) (replicate 16 0) (length-take-le 16 t (let l = h.0 in omega (arith, l)));
}

-- ---- edges

pub ends_in : (N : ℕ) (es : List Edge) → All (λ (e : Edge). (e.source < N) × (e.target < N)) es → (k : ℕ) → k < length es → let a : Arrow = get_or (map (λ (e : Edge). record { source = e.source; target = e.target; writes = e.writes; reads = e.reads }) es) k (record { source = 0; target = 0; writes = []; reads = [] }) in (a.source < N) × (a.target < N)
ends_in N [] a k l = absurd (omega arith)
ends_in N (e ∷ es) a zero l = All-head (λ (e : Edge). (e.source < N) × (e.target < N)) e es a
ends_in N (e ∷ es) a (suc k) l = ends_in N es (All-tail (λ (e : Edge). (e.source < N) × (e.target < N)) e es a) k (omega arith)

role_in : (R : ℕ) (ns : List G.Node) → All (λ (n : G.Node). n.role < R) ns → (k : ℕ) → k < length ns → get_or (map (λ (n : G.Node). n.role) ns) k 0 < R
role_in R [] a k l = absurd (omega arith)
role_in R (n ∷ ns) a zero l = All-head (λ (n : G.Node). n.role < R) n ns a
role_in R (n ∷ ns) a (suc k) l = role_in R ns (All-tail (λ (n : G.Node). n.role < R) n ns a) k (omega arith)

pub reads_in : (N : ℕ) (es : List Edge) → All (λ (e : Edge). AreNumbers N e.writes × AreNumbers N e.reads) es → (k : ℕ) → let a : Arrow = get_or (map (λ (e : Edge). record { source = e.source; target = e.target; writes = e.writes; reads = e.reads }) es) k (record { source = 0; target = 0; writes = []; reads = [] }) in (rises_from 0 a.reads ≡ true) × Below N a.reads
reads_in N [] a k = (refl, tt)
reads_in N (e ∷ es) a zero = let h = (All-head (λ (e : Edge). AreNumbers N e.writes × AreNumbers N e.reads) e es a).1 in let p = and_parts (rises_from 0 e.reads) (list_all (λ k. nat_lt k N) e.reads) h in (p.0, all_below N e.reads p.1)
reads_in N (e ∷ es) a (suc k) = reads_in N es (All-tail (λ (e : Edge). AreNumbers N e.writes × AreNumbers N e.reads) e es a) k

below_weak : (m n : ℕ) (xs : List ℕ) → m ≤ n → Below m xs → Below n xs
below_weak m n [] l b = tt
below_weak m n (x ∷ xs) l b = ((let h = b.0 in omega (arith, h, l)), below_weak m n xs l b.1)

-- ---- openings

record Opens (k n : ℕ) (os : List Opening) : Type 0 where
  rises : rises_from k (map (λ (o : Opening). o.variable) os) ≡ true
  size : length os ≤ n
  fit : AllByRecursion IsOpening os

opens_all : (h : ℕ → Option Opening) → ((y : ℕ) (o : Opening) → h y ≡ Some o → (o.variable ≡ y) × IsOpening o) → (xs : List ℕ) (k : ℕ) → rises_from k xs ≡ true → Opens k (length xs) (filter_map h xs)
opens_all h f [] k r = record { rises = refl; size = omega arith; fit = tt }
opens_all h f (x ∷ xs) k r = let p = and_parts (not (nat_lt x k)) (rises_from (suc x) xs) r in go (h x) refl (filter_map h xs) (opens_all h f xs (suc x) p.1) p.0
  where
    go : (o : Option Opening) → h x ≡ o → (os : List Opening) → Opens (suc x) (length xs) os → not (nat_lt x k) ≡ true → Opens k (suc (length xs)) (cons_option o os)
    go None e os r q = record { rises = rise_lower (map (λ (o : Opening). o.variable) os) k (suc x) (upward x k q) r.rises; size = (let l = r.size in omega (arith, l)); fit = r.fit }
    go (Some o) e os r q =
        let g = f x o e in
        record { rises = rw g.0 (rw (not_less_ x k q) r.rises); size = (let l = r.size in omega (arith, l)); fit = (g.1, r.fit) }

opening_in_ok : (os : List Opening) (y : ℕ) (o : Opening) → AllByRecursion IsOpening os → opening_in os y ≡ Some o → (o.variable ≡ y) × IsOpening o
opening_in_ok os y o a e = (eqb-true o.variable y (find_passes (λ (o : Opening). o.variable == y) os o e), find_all (λ (o : Opening). o.variable == y) IsOpening os o a e)

or_some : {A : Type 0} (a b : Option A) (x : A) → option_or a b ≡ Some x → (a ≡ Some x) ⊎ (b ≡ Some x)
or_some None b x e = inr e
or_some (Some y) b x e = inl e

last_ok : (es : List Exchange) (y : ℕ) (o : Opening) → AllByRecursion IsOpening (flat_map openings_of es) → last_opening y es ≡ Some o → (o.variable ≡ y) × IsOpening o
last_ok [] y o a e = absurd (cc)
last_ok (x ∷ es) y o a e =
    let ps = split_all (openings_of x) (flat_map openings_of es) a in
    elim (or_some (last_opening y es) (opening_in (openings_of x) y) o e) [ inl h ↦ last_ok es y o ps.1 h | inr h ↦ opening_in_ok (openings_of x) y o ps.0 h ]
  where
    split_all : (xs ys : List Opening) → AllByRecursion IsOpening (xs ++ ys) → AllByRecursion IsOpening xs × AllByRecursion IsOpening ys
    split_all [] ys a = (tt, a)
    split_all (z ∷ xs) ys a = let r = split_all xs ys a.1 in ((a.0, r.0), r.1)

-- ---- the frame that a session sends

module _ (sha : Hash) (hash : IsHash sha) (p : Program) (ip : IsProgram sha p) (keys : Keyring) (x : Session) (fx : FitSession x) (label : ℕ) (os : List Opening)
    (turn : at_turn p.graph x ≡ true) (edge : nat_lt label (length p.graph.edges) ≡ true) (leaves_place : source (shape p.graph) label ≡ place p.graph x) (early : nat_le 1000000 (time x) ≡ false)
    (names_os : map (λ (o : Opening). o.variable) os ≡ writes p.graph label) (open_os : AllByRecursion IsOpening os) where
  abbrev g : Graph
  g = p.graph

  abbrev v : ℕ
  v = x.cast.version

  abbrev oi : Item
  oi = own_item sha keys p x label os

  abbrev sent_frame : Frame
  sent_frame = frame_sent sha keys p x label os

  in_edges : label < length g.edges
  in_edges = lt_of label (length g.edges) edge

  ends : (source (shape g) label < length g.nodes) × (target (shape g) label < length g.nodes)
  ends = ends_in (length g.nodes) g.edges ip.is_graph.ends label in_edges

  by_x : sender (shape g) label ≡ x.role
  by_x = ap (role_at (shape g)) leaves_place ∙ eqb-true (role_at (shape g) (place g x)) x.role turn

  apart : sender (shape g) label ≡ receiver (shape g) label → ⊥
  apart e = ip.accepted.no_self_edge label in_edges e

  sender_in : sender (shape g) label < length g.roles
  sender_in = role_in (length g.roles) g.nodes ip.is_graph.roles (source (shape g) label) ends.0

  receiver_in : receiver (shape g) label < length g.roles
  receiver_in = role_in (length g.roles) g.nodes ip.is_graph.roles (target (shape g) label) ends.1

  few_roles : length g.roles ≤ 16
  few_roles = ip.is_graph.sizes.0

  few_variables : length g.variables ≤ 32
  few_variables = ip.is_graph.sizes.1

  tag_ok : (r : ℕ) (text : List ℕ) → IsTag v (tag_for sha keys x.cast r text)
  tag_ok r text = cut_tag v fx.version _ (hash _)

  ts_rise : rises_from 0 (targets_of p label) ≡ true
  ts_rise = (and_parts (rises_from 0 (get_or p.targets label [])) (list_all (λ k. nat_lt k (length g.roles)) (get_or p.targets label [])) (ip.targets.rising label)).0

  ts_below : Below (length g.roles) (targets_of p label)
  ts_below = all_below (length g.roles) (get_or p.targets label []) (and_parts (rises_from 0 (get_or p.targets label [])) (list_all (λ k. nat_lt k (length g.roles)) (get_or p.targets label [])) (ip.targets.rising label)).1

  not_in : (t : ℕ) → t < length g.roles → (IsTarget (shape g) label t → ⊥) → has (λ (y : ℕ). y) t (targets_of p label) ≡ false
  not_in t l none = elim (cases_Bool (has (λ (y : ℕ). y) t (targets_of p label))) [
    | inl e ↦ absurd (none ((ip.targets.each label t in_edges l).0 (sym (in_same t (targets_of p label)) ∙ e)))
    | inr e ↦ e
  ]

  ts_few : length (targets_of p label) ≤ 14
  ts_few =
      let d : Dist (sender (shape g) label ∷ receiver (shape g) label ∷ targets_of p label) = (
        rw (ne_eqb (receiver (shape g) label) (sender (shape g) label) (λ e. apart (sym e))) (not_in (sender (shape g) label) sender_in (λ t. t.not_sender refl)),
        (not_in (receiver (shape g) label) receiver_in (λ t. t.not_receiver refl), rise_dist (targets_of p label) 0 ts_rise),
      ) in
      let b : Below 16 (sender (shape g) label ∷ receiver (shape g) label ∷ targets_of p label) = ((let l = sender_in in let k = few_roles in omega (arith, l, k)), ((let l = receiver_in in let k = few_roles in omega (arith, l, k)), below_weak (length g.roles) 16 (targets_of p label) few_roles ts_below)) in
      let q = pigeon 16 (sender (shape g) label ∷ receiver (shape g) label ∷ targets_of p label) d b in
      omega (arith, q)

  writes_few : length (writes g label) ≤ 32
  writes_few = (let q = pigeon (length g.variables) (writes g label) (rise_dist (writes g label) 0 (writes_rise g ip.is_graph label)) (writes_below g ip.is_graph label) in let k = few_variables in omega (arith, q, k))

  oi_keys : keys_of oi.delta ≡ map (λ (o : Opening). o.variable) os
  oi_keys = C.keys_of_commits sha x.sid os

  oi_len : length oi.delta ≤ 32
  oi_len = (let a = length_map {B = ℕ × List ℕ} (λ (o : Opening). (o.variable, commitment sha x.sid o)) os in let b : length (map (λ (o : Opening). o.variable) os) ≡ length (writes g label) = ap length names_os in let c = length_map (λ (o : Opening). o.variable) os in let d = writes_few in omega (arith, a, b, c, d))

  oi_delta : (zs : List Opening) → AllByRecursion IsOpening zs → AllByRecursion (λ (d : ℕ × List ℕ). (d.0 < 32) × AreBytes 32 d.1) (map (λ (o : Opening). (o.variable, commitment sha x.sid o)) zs)
  oi_delta [] a = tt
  oi_delta (o ∷ zs) a = ((a.0.variable, hash _), oi_delta zs a.1)

  tags_of : (T : ℕ → List ℕ) → ((t : ℕ) → IsTag v (T t)) → (zs : List ℕ) → Below 16 zs → AllByRecursion (λ (t : ℕ × List ℕ). (t.0 < 16) × IsTag v t.1) (map (λ t. (t, T t)) zs)
  tags_of T k [] b = tt
  tags_of T k (z ∷ zs) b = ((b.0, k z), tags_of T k zs b.1)

  oi_ok : IsItem v oi
  oi_ok = record {
    role = fx.role;
    label = (let a = in_edges in let b = ip.is_graph.sizes.3 in omega (arith, a, b));
    time = ((omega arith), (let a = C.le_false 1000000 (time x) early in omega (arith, a)));
    variables = (oi_len, ap (rises_from 0) (oi_keys ∙ names_os) ∙ writes_rise g ip.is_graph label);
    delta = oi_delta os open_os;
    roles = ((let a = length_map {B = ℕ × List ℕ} (λ t. (t, tag_for sha keys x.cast t (text_to g x (transcript x) (plain_item sha x label os) t))) (targets_of p label) in let b = ts_few in omega (arith, a, b)), ap (rises_from 0) (keys_of_pairs (λ t. tag_for sha keys x.cast t (text_to g x (transcript x) (plain_item sha x label os) t)) (targets_of p label)) ∙ ts_rise);
    tags = tags_of (λ t. tag_for sha keys x.cast t (text_to g x (transcript x) (plain_item sha x label os) t)) (λ t. tag_ok t _) (targets_of p label) (below_weak (length g.roles) 16 (targets_of p label) few_roles ts_below);
  }

  pub all_transcript : AllByRecursion (IsItem v) (transcript x ++ oi ∷ [])
  all_transcript = all-append (IsItem v) (transcript x) (oi ∷ []) fx.items (oi_ok, tt)

  items_ok : AllByRecursion (IsItem v) sent_frame.items
  items_ok = shown_fit g few_variables v (receiver (shape g) label) (transcript x ++ oi ∷ []) all_transcript

  items_few : length sent_frame.items ≤ 16
  items_few = shown_few g v (receiver (shape g) label) (transcript x ++ oi ∷ []) all_transcript

  items_some : 1 ≤ length sent_frame.items
  items_some = shown_some g (receiver (shape g) label) (transcript x) oi (λ e. apart (by_x ∙ e))

  reads_ : (rises_from 0 (reads g label) ≡ true) × Below (length g.variables) (reads g label)
  reads_ = reads_in (length g.variables) g.edges ip.is_graph.variables label

  opens_ok : Opens 0 (length (reads g label)) sent_frame.openings
  opens_ok = opens_all (opening_of x os) ok (reads g label) 0 reads_.0
    where
      ok : (y : ℕ) (o : Opening) → opening_of x os y ≡ Some o → (o.variable ≡ y) × IsOpening o
      ok y o e = elim (or_some (opening_in os y) (known x y) o e) [ inl h ↦ opening_in_ok os y o open_os h | inr h ↦ last_ok x.exchanges y o fx.openings h ]

  opens_few : length sent_frame.openings ≤ 32
  opens_few = (let a = opens_ok.size in let b = pigeon (length g.variables) (reads g label) (rise_dist (reads g label) 0 reads_.0) reads_.1 in let c = few_variables in omega (arith, a, b, c))

  join_ok : IfSome sent_frame.join (IsCastOf v)
  join_ok = elim (cases_Bool (has (λ (j : Item). j.role) (receiver (shape g) label) (transcript x))) [ inl e ↦ rw e tt | inr e ↦ rw e fx.cast ]

  pub sent_spelled : HasSpelling (frame_sent sha keys p x label os)
  sent_spelled = record {
    fields = record {
      version = fx.version;
      sid = fx.sid;
      roles = (fx.role, (let a = receiver_in in let b = few_roles in omega (arith, a, b)), λ e. apart (by_x ∙ sym e));
      join = join_ok;
      count = (items_some, (let a = items_few in omega (arith, a)));
      items = items_ok;
      variables = (opens_few, opens_ok.rises);
      openings = opens_ok.fit;
      tag = tag_ok _ _;
    };
    short = spelled_len sent_frame fx.sid.0 join_ok items_few items_ok opens_few opens_ok.fit (tag_ok _ _).bytes.0;
  }
