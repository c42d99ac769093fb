-- Graphs with one text, look-ups, and the pasts with which a schedule begins.
use Rattle.std.specs.Prelude.{codes, ◌≡◌, ℕ, nat_le, ◌||◌, ◌&&◌, ◌⊎◌, Bool, true, false, not, List, [], ◌∷◌, ◌++◌, map, flat_map, length, find, bytes_eq, refl, Some}
use Rattle.std.specs.List.{list_all, AllByRecursion}
use Rattle.std.proofs.Common.{sym, ◌∙◌, ap, subst, inl, inr, append_assoc}
use Rattle.std.proofs.lemmas.Bool.{cases_Bool, and_parts, not-true}
use Rattle.std.proofs.lemmas.Slice.Eq.{bytes_eq-Decides}
use Rattle.sg_model.specs.Lists.{below, all_differ}
use Rattle.sg_model.specs.Names.{Name}
use Rattle.sg_protocol.specs.Graph.{Graph, IsGraph, canonical, ended, variable_line, node_line, edge_line}
use Rattle.sg_protocol.specs.Frame.{Cast}
use Rattle.sg_protocol.specs.Session.{principal}
use Rattle.std.specs.Prelude.{zero, suc, ◌<◌, get_or}
use Rattle.std.proofs.Common.{arith}
use Rattle.sg_protocol.specs.Texts.{Hash}
use Rattle.sg_protocol.specs.Keyring.{Program}
use Rattle.sg_protocol.specs.Schedule.{Schedule, honest_role, PairKey}
use Rattle.sg_model.specs.Lists.{has_text}
use Rattle.sg_protocol.specs.Past.{Past}
use Rattle.sg_protocol.specs.World.{keyring_of}
use Rattle.sg_protocol.specs.IsSchedule.{IsSchedule, AreCompiled, parts}
use Rattle.sg_model.specs.Names.{is_name, is_name_byte, is_letter, reserved}
use Rattle.sg_model.proofs.Small.{same_bytes, clash, bytes_eq-flip}
use Rattle.sg_model.proofs.Members.{In, in_parts, in_map, map_in}
use Rattle.sg_protocol.proofs.TextLaws as TL

-- ---- graphs with one text

abbrev Free : List ℕ → Type 0
Free cs = AllByRecursion (λ c. c ≡ 59 → ⊥) cs

cut_at : (a b s t : List ℕ) → Free a → Free b → a ++ 59 ∷ s ≡ b ++ 59 ∷ t → a ≡ b
cut_at [] [] s t f h e = refl
cut_at [] (y ∷ b) s t f h e = absurd (h.0 (cc))
cut_at (x ∷ a) [] s t f h e = absurd (f.0 (cc))
cut_at (x ∷ a) (y ∷ b) s t f h e = let p : x ≡ y = cc in let q : a ++ 59 ∷ s ≡ b ++ 59 ∷ t = cc in ap (λ z. z ∷ a) p ∙ ap (λ l. y ∷ l) (cut_at a b s t f.1 h.1 q)

letter_free : (c : ℕ) → is_letter c ≡ true → c ≡ 59 → ⊥
letter_free c h e = (let f : is_letter 59 ≡ true = subst (λ z. is_letter z ≡ true) e h in absurd (cc))

byte_free : (c : ℕ) → is_name_byte c ≡ true → c ≡ 59 → ⊥
byte_free c h e = (let f : is_name_byte 59 ≡ true = subst (λ z. is_name_byte z ≡ true) e h in absurd (cc))

bytes_free : (cs : List ℕ) → list_all is_name_byte cs ≡ true → Free cs
bytes_free [] h = tt
bytes_free (c ∷ cs) h = let p = and_parts (is_name_byte c) (list_all is_name_byte cs) h in (byte_free c p.0, bytes_free cs p.1)

name_free : (n : List ℕ) → is_name n ≡ true → Free n
name_free [] h = tt
name_free (c ∷ cs) h =
    let p = and_parts (is_letter c && list_all is_name_byte cs) (nat_le (length cs) 31) h in
    let q = and_parts (is_letter c) (list_all is_name_byte cs) p.0 in
    (letter_free c q.0, bytes_free cs q.1)

graph_name_free : (g : Graph) → IsGraph g → Free g.name
graph_name_free g is =
    let a = and_parts (list_all (λ n. is_name n && not (has_text n reserved)) (g.name ∷ [])) (all_differ (g.name ∷ [])) is.named in
    let b = and_parts (is_name g.name && not (has_text g.name reserved)) true a.0 in
    name_free g.name (and_parts (is_name g.name) (not (has_text g.name reserved)) b.0).0

prefix : (g : Graph) → (rest : List ℕ) × (canonical g ≡ codes "graph " ++ (g.name ++ 59 ∷ rest))
prefix g =
    let A : List ℕ = flat_map (λ r. ended (codes "role " ++ r)) g.roles in
    let B' : List ℕ = flat_map (variable_line g) g.variables in
    let C' : List ℕ = flat_map (node_line g) g.nodes in
    let D : List ℕ = flat_map (edge_line g) g.edges in
    (10 ∷ (A ++ (B' ++ (C' ++ D))), five (codes "graph ") g.name A B' C' D)
  where
    five : (w n a b c d : List ℕ) → ((((((w ++ n) ++ 59 ∷ 10 ∷ []) ++ a) ++ b) ++ c) ++ d) ≡ w ++ (n ++ 59 ∷ 10 ∷ (a ++ (b ++ (c ++ d))))
    five w n a b c d = simp append_assoc

pub same_name : (g g' : Graph) → IsGraph g → IsGraph g' → canonical g ≡ canonical g' → g.name ≡ g'.name
same_name g g' is is' e =
    let f = prefix g in
    let f' = prefix g' in
    let t = TL.parts (codes "graph ") (codes "graph ") (g.name ++ 59 ∷ f.0) (g'.name ++ 59 ∷ f'.0) refl (sym f.1 ∙ e ∙ f'.1) in
    cut_at g.name g'.name f.0 f'.0 (graph_name_free g is) (graph_name_free g' is') t.1

-- a name that stands before is none of the later ones
not_later : (x : Graph) (gs : List Graph) (y : Graph) → all_differ (map (λ (g : Graph). g.name) (x ∷ gs)) ≡ true → In gs y → x.name ≡ y.name → ⊥
not_later x gs y d j e = clash (has_text x.name (map (λ (g : Graph). g.name) gs)) (there gs j) (not-true (has_text x.name (map (λ (g : Graph). g.name) gs)) (and_parts (not (has_text x.name (map (λ (g : Graph). g.name) gs))) (all_differ (map (λ (g : Graph). g.name) gs)) d).0)
  where
    there : (zs : List Graph) → In zs y → has_text x.name (map (λ (g : Graph). g.name) zs) ≡ true
    there [] i = absurd i
    there (z ∷ zs) (inl p) = rw ((bytes_eq-Decides x.name z.name).1 (e ∙ ap (λ (z : Graph). z.name) p)) refl
    there (z ∷ zs) (inr i) = elim (cases_Bool (bytes_eq x.name z.name)) [ inl h ↦ rw h refl | inr h ↦ rw h (there zs i) ]

pub same_named : (gs : List Graph) (g g' : Graph) → all_differ (map (λ (g : Graph). g.name) gs) ≡ true → In gs g → In gs g' → g.name ≡ g'.name → g ≡ g'
same_named [] g g' d i j e = absurd i
same_named (x ∷ gs) g g' d (inl p) (inl q) e = p ∙ sym q
same_named (x ∷ gs) g g' d (inl p) (inr j) e = absurd (not_later x gs g' d j (ap (λ (z : Graph). z.name) (sym p) ∙ e))
same_named (x ∷ gs) g g' d (inr i) (inl q) e = absurd (not_later x gs g d i (ap (λ (z : Graph). z.name) (sym q) ∙ sym e))
same_named (x ∷ gs) g g' d (inr i) (inr j) e = same_named gs g g' (and_parts (not (has_text x.name (map (λ (g : Graph). g.name) gs))) (all_differ (map (λ (g : Graph). g.name) gs)) d).1 i j e

-- ---- look-ups

-- a program's graph is one of the graphs
in_parts_of : (gs : List Graph) (y : Graph × ℕ) → In (parts gs) y → In gs y.0
in_parts_of [] y i = absurd i
in_parts_of (g ∷ gs) y i = elim (in_parts (map (λ r. (g, r)) (below (length g.roles))) (parts gs) y i) [
  | inl j ↦ (let r = map_in (λ r. (g, r)) (below (length g.roles)) y j in inl (ap (λ (z : Graph × ℕ). z.0) r.2))
  | inr j ↦ inr (in_parts_of gs y j)
]

pub program_graph : (sha : Hash) (gs : List Graph) (ps : List Program) → AreCompiled sha gs ps → (p : Program) → In ps p → In gs p.graph
program_graph sha gs ps c p i = in_parts_of gs (p.graph, p.role) (subst (λ l. In l (p.graph, p.role)) c.all (in_map (λ (p : Program). (p.graph, p.role)) ps p i))

-- ---- the beginning

abbrev pub new_past : List PairKey → List Program → Name → Past
new_past keys programs me = record { keys = keyring_of keys me; programs = programs; first = []; calls = [] }

pub first_past : (keys : List PairKey) (programs : List Program) (names : List Name) (who : Name) (p : Past) → find (λ (p : Past). bytes_eq p.keys.me who) (map (new_past keys programs) names) ≡ Some p → (p ≡ new_past keys programs who) × (has_text who names ≡ true)
first_past keys programs [] who p e = absurd (cc)
first_past keys programs (n ∷ ns) who p e = elim (cases_Bool (bytes_eq n who)) [
  | inl h ↦ (let f : Some (new_past keys programs n) ≡ Some p = rw h at e in let q : new_past keys programs n ≡ p = cc in let same : n ≡ who = same_bytes n who h in (sym q ∙ ap (new_past keys programs) same, rw ((bytes_eq-Decides who n).1 (sym same)) refl))
  | inr h ↦ (let r = first_past keys programs ns who p (rw h at e) in (r.0, or_more (bytes_eq who n) r.1))
]
  where
    or_more : (b : Bool) → has_text who ns ≡ true → (b || has_text who ns) ≡ true
    or_more true k = refl
    or_more false k = k

-- an honest principal has a past
pub has_past : (keys : List PairKey) (programs : List Program) (names : List Name) (who : Name) → has_text who names ≡ true → (p : Past) × (find (λ (p : Past). bytes_eq p.keys.me who) (map (new_past keys programs) names) ≡ Some p)
has_past keys programs [] who h = absurd (cc)
has_past keys programs (n ∷ ns) who h = elim (cases_Bool (bytes_eq n who)) [
  | inl e ↦ (new_past keys programs n, rw e refl)
  | inr e ↦ (let r = has_past keys programs ns who (others e) in (r.0, rw e r.1))
]
  where
    later : (b : Bool) → b ≡ false → (b || has_text who ns) ≡ true → has_text who ns ≡ true
    later true f k = absurd (cc)
    later false f k = k

    others : bytes_eq n who ≡ false → has_text who ns ≡ true
    others e = later (bytes_eq who n) (bytes_eq-flip n who e) h

-- an honest role is one of the cast
pub honest_inside : (sha : Hash) (s : Schedule) → IsSchedule sha s → (c : Cast) (k : ℕ) → honest_role s c k ≡ true → k < length c.names
honest_inside sha s sched c k h = elim (in_range c.names k) [
  | inl l ↦ l
  | inr e ↦ absurd (let n : is_name [] ≡ true = subst (λ z. is_name z ≡ true) e (named s.honest (principal c k) (and_parts (all_differ s.honest) (list_all is_name s.honest) sched.honest_names).1 h) in cc)
]
  where
    in_range : (ts : List Name) (k : ℕ) → (k < length ts) ⊎ (get_or ts k [] ≡ [])
    in_range [] k = inr refl
    in_range (t ∷ ts) zero = inl (omega arith)
    in_range (t ∷ ts) (suc k) = elim (in_range ts k) [ inl l ↦ inl (omega (arith, l)) | inr e ↦ inr e ]

    named : (ts : List Name) (n : Name) → list_all is_name ts ≡ true → has_text n ts ≡ true → is_name n ≡ true
    named [] n a h = absurd (cc)
    named (t ∷ ts) n a h =
        let p = and_parts (is_name t) (list_all is_name ts) a in
        elim (cases_Bool (bytes_eq n t)) [ inl e ↦ subst (λ z. is_name z ≡ true) (sym (same_bytes n t e)) p.0 | inr e ↦ named ts n p.1 (rw e at h) ]
