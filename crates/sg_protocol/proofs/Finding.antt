-- Where names that differ stand, what was joined later, and what a search finds.
use Rattle.std.specs.Prelude.{◌≡◌, ℕ, zero, suc, ◌<◌, ◌==◌, get_or, ◌&&◌, true, false, not, List, [], ◌∷◌, ◌++◌, length, bytes_eq, refl}
use Rattle.std.proofs.Common.{sym, ap, inl, inr, arith}
use Rattle.std.proofs.lemmas.Bool.{eq-eqb, cases_Bool, and_parts, not-true}
use Rattle.std.proofs.lemmas.Slice.Eq.{bytes_eq-Decides}
use Rattle.sg_model.specs.Lists.{all_differ, has_text}
use Rattle.sg_model.proofs.Small.{clash}
use Rattle.sg_protocol.specs.Node.{has_joined}

-- what stands at an index of a list of names is among them
text_there : (t : List ℕ) (ts : List (List ℕ)) (k : ℕ) → k < length ts → t ≡ get_or ts k [] → has_text t ts ≡ true
text_there t [] k l e = absurd (omega arith)
text_there t (u ∷ us) zero l e = rw ((bytes_eq-Decides t u).1 e) refl
text_there t (u ∷ us) (suc k) l e = elim (cases_Bool (bytes_eq t u)) [ inl f ↦ rw f refl | inr f ↦ rw f (text_there t us k (omega arith) e) ]

-- names that all differ stand at one index each
pub one_index : (ts : List (List ℕ)) (h k : ℕ) → all_differ ts ≡ true → h < length ts → k < length ts → get_or ts h [] ≡ get_or ts k [] → h ≡ k
one_index [] h k d l m e = absurd (omega arith)
one_index (t ∷ ts) zero zero d l m e = refl
one_index (t ∷ ts) zero (suc k) d l m e = absurd (clash (has_text t ts) (text_there t ts k (omega arith) e) (not-true (has_text t ts) (and_parts (not (has_text t ts)) (all_differ ts) d).0))
one_index (t ∷ ts) (suc h) zero d l m e = absurd (clash (has_text t ts) (text_there t ts h (omega arith) (sym e)) (not-true (has_text t ts) (and_parts (not (has_text t ts)) (all_differ ts) d).0))
one_index (t ∷ ts) (suc h) (suc k) d l m e = ap suc (one_index ts h k (and_parts (not (has_text t ts)) (all_differ ts) d).1 (omega arith) (omega arith) e)

-- pairs that are joined later
pub joined_more : (js : List (List ℕ × ℕ)) (j : List ℕ × ℕ) (sid : List ℕ) (r : ℕ) → has_joined js sid r ≡ true → has_joined (js ++ j ∷ []) sid r ≡ true
joined_more [] j sid r h = absurd (cc)
joined_more (i ∷ js) j sid r h = elim (cases_Bool (bytes_eq i.0 sid && (i.1 == r))) [ inl e ↦ rw e refl | inr e ↦ rw e (joined_more js j sid r (rw e at h)) ]

pub joined_less : (js : List (List ℕ × ℕ)) (j : List ℕ × ℕ) (sid : List ℕ) (r : ℕ) → bytes_eq j.0 sid ≡ false → has_joined (js ++ j ∷ []) sid r ≡ true → has_joined js sid r ≡ true
joined_less [] j sid r n h = absurd (let f : false ≡ true = rw n at h in cc)
joined_less (i ∷ js) j sid r n h = elim (cases_Bool (bytes_eq i.0 sid && (i.1 == r))) [ inl e ↦ rw e refl | inr e ↦ rw e (joined_less js j sid r n (rw e at h)) ]

pub joined_now : (js : List (List ℕ × ℕ)) (sid : List ℕ) (r : ℕ) → has_joined (js ++ (sid, r) ∷ []) sid r ≡ true
joined_now [] sid r = rw ((bytes_eq-Decides sid sid).1 refl, eq-eqb r r refl) refl
joined_now (j ∷ js) sid r = elim (cases_Bool (bytes_eq j.0 sid && (j.1 == r))) [ inl e ↦ rw e refl | inr e ↦ rw e (joined_now js sid r) ]
