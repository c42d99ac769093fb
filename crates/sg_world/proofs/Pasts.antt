-- The nodes represent their pasts, also after a call at one of them.
use Rattle.std.proofs.Common.{◌≡◌, ℕ, zero, suc, Bool, true, false, not, List, [], ◌∷◌, map, find, bytes_eq, if◌then◌else◌, Some, slice_get, refl, sym, ◌∙◌, ap, subst}
use Rattle.indexmap.specs.IndexMap.{set_value_at}
use Rattle.std.proofs.lemmas.Bool.{and_parts, not-true, or_right, or_parts}
use Rattle.sg_model.proofs.Small.{same_bytes, bytes_same, clash}
use Rattle.sg_model.specs.Lists.{has_text, all_differ}
use Rattle.sg_model.specs.Names.{Name}
use Rattle.sg_protocol.specs.Calls.{Call}
use Rattle.sg_protocol.specs.NodeStates.{NodeState, RepresentsPast}
use Rattle.sg_protocol.specs.Past.{Past, past_after}
use Rattle.sg_protocol.specs.Texts.{real}
use Rattle.sg_node.specs.Answers.{IsAnsweredPast}
use Rattle.sg_world.specs.Representation.{RepresentsAs, RepresentPasts}

abbrev pub Named : Type 0
Named = Name × NodeState

-- the names of the nodes
abbrev pub names : List Named → List Name
names ns = map (λ (n : Named). n.0) ns

-- the past with the call, if it is this principal's
abbrev pub next : Name → Call → Past → Past
next who call p = if bytes_eq p.keys.me who then past_after real p call else p

-- the past of a principal whose node this is
pub record Found (old : NodeState) (who : Name) (ps : List Past) : Type 0 where
  pub past : Past
  pub is_past : find (λ (p : Past). bytes_eq p.keys.me who) ps ≡ Some past
  pub represents : RepresentsPast old past
  pub answered : IsAnsweredPast past

pub in_names : (ns : List Named) (i : ℕ) (who : Name) (old : NodeState) → slice_get ns i ≡ Some (who, old) → has_text who (names ns) ≡ true
in_names [] i who old e = absurd (cc)
in_names (n ∷ ns) zero who old e = let q : n ≡ (who, old) = cc in rw (bytes_same who n.0 (sym (ap (λ (z : Named). z.0) q))) refl
in_names (n ∷ ns) (suc i) who old e = or_right (bytes_eq who n.0) (has_text who (names ns)) (in_names ns i who old e)

-- the first name is not that of a later node
first_differs : (n : Named) (ns : List Named) (who : Name) → all_differ (names (n ∷ ns)) ≡ true → has_text who (names ns) ≡ true → bytes_eq n.0 who ≡ false
first_differs n ns who d h = by (bytes_eq n.0 who) refl
  where
    by : (t : Bool) → bytes_eq n.0 who ≡ t → bytes_eq n.0 who ≡ false
    by false e = e
    by true e = clash (has_text n.0 (names ns)) (subst (λ (z : Name). has_text z (names ns) ≡ true) (sym (same_bytes n.0 who e)) h) (not-true (has_text n.0 (names ns)) (and_parts (not (has_text n.0 (names ns))) (all_differ (names ns)) d).0)

pub found : (ns : List Named) (ps : List Past) (i : ℕ) (who : Name) (old : NodeState) → RepresentPasts ns ps → all_differ (names ns) ≡ true → slice_get ns i ≡ Some (who, old) → Found old who ps
found [] ps i who old h d e = absurd (cc)
found (n ∷ ns) [] i who old h d e = absurd h
found (n ∷ ns) (p ∷ ps) zero who old h d e =
    let q : n ≡ (who, old) = cc in
    record {
      past = p;
      is_past = rw (bytes_same p.keys.me who (h.0.me ∙ ap (λ (z : Named). z.0) q)) refl;
      represents = subst (λ (z : Named). RepresentsPast z.1 p) q h.0.represents;
      answered = h.0.answered;
    }
found (n ∷ ns) (p ∷ ps) (suc i) who old h d e =
    let later = found ns ps i who old h.1 (and_parts (not (has_text n.0 (names ns))) (all_differ (names ns)) d).1 e in
    let other : bytes_eq p.keys.me who ≡ false = subst (λ (z : Name). bytes_eq z who ≡ false) (sym h.0.me) (first_differs n ns who d (in_names ns i who old e)) in
    record { past = later.past; is_past = rw other later.is_past; represents = later.represents; answered = later.answered }

-- a call at one node leaves the pasts of the others
others : (ns : List Named) (ps : List Past) (who : Name) (call : Call) → RepresentPasts ns ps → has_text who (names ns) ≡ false → map (next who call) ps ≡ ps
others [] [] who call h a = refl
others [] (p ∷ ps) who call h a = absurd h
others (n ∷ ns) [] who call h a = refl
others (n ∷ ns) (p ∷ ps) who call h a =
    let parts = or_parts (bytes_eq who n.0) (has_text who (names ns)) a in
    let other : bytes_eq p.keys.me who ≡ false = subst (λ (z : Name). bytes_eq z who ≡ false) (sym h.0.me) (swapped who n.0 parts.0) in
    (λ i. (if other i then past_after real p call else p) ∷ others ns ps who call h.1 parts.1 i)
  where
    swapped : (a b : Name) → bytes_eq a b ≡ false → bytes_eq b a ≡ false
    swapped a b e = by (bytes_eq b a) refl
      where
        by : (t : Bool) → bytes_eq b a ≡ t → bytes_eq b a ≡ false
        by false q = q
        by true q = clash (bytes_eq a b) (bytes_same a b (sym (same_bytes b a q))) e

pub after : (ns : List Named) (ps : List Past) (i : ℕ) (who : Name) (old new : NodeState) (call : Call) → RepresentPasts ns ps → all_differ (names ns) ≡ true → slice_get ns i ≡ Some (who, old)
    → ((past : Past) → past.keys.me ≡ who → RepresentsPast old past → IsAnsweredPast past → RepresentsAs (who, new) (past_after real past call)) → RepresentPasts (set_value_at ns i new) (map (next who call) ps)
after [] ps i who old new call h d e go = absurd (cc)
after (n ∷ ns) [] i who old new call h d e go = absurd h
after (n ∷ ns) (p ∷ ps) zero who old new call h d e go =
    let q : n ≡ (who, old) = cc in
    let named : n.0 ≡ who = ap (λ (z : Named). z.0) q in
    let me : p.keys.me ≡ who = h.0.me ∙ named in
    let apart = not-true (has_text n.0 (names ns)) (and_parts (not (has_text n.0 (names ns))) (all_differ (names ns)) d).0 in
    let now : RepresentsAs (n.0, new) (past_after real p call) = subst (λ (z : Name). RepresentsAs (z, new) (past_after real p call)) (sym named) (go p me (subst (λ (z : Named). RepresentsPast z.1 p) q h.0.represents) h.0.answered) in
    let first : next who call p ≡ past_after real p call = (rw (bytes_same p.keys.me who me) refl) in
    (subst (RepresentsAs (n.0, new)) (sym first) now, subst (RepresentPasts ns) (sym (others ns ps who call h.1 (subst (λ (z : Name). has_text z (names ns) ≡ false) named apart))) h.1)
after (n ∷ ns) (p ∷ ps) (suc i) who old new call h d e go =
    let other : bytes_eq p.keys.me who ≡ false = subst (λ (z : Name). bytes_eq z who ≡ false) (sym h.0.me) (first_differs n ns who d (in_names ns i who old e)) in
    let first : next who call p ≡ p = (rw other refl) in
    (subst (RepresentsAs n) (sym first) h.0, after ns ps i who old new call h.1 (and_parts (not (has_text n.0 (names ns))) (all_differ (names ns)) d).1 e go)
