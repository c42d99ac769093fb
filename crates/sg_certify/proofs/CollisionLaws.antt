-- The first collision, text by text.
use Rattle.std.proofs.Common.{◌≡◌, ℕ, suc, ◌+◌, ◌<◌, Bool, true, false, not, ◌&&◌, List, [], ◌∷◌, ◌++◌, map, length, take, drop, get_or, find, flat_map, if◌then◌else◌, bytes_eq, option_map, Option, Some, None, Contains, refl, sym, ap, ◌∙◌, inl, inr, arith, append_assoc, append-nil, take-append-drop, drop-cons}
use Rattle.std.specs.Option.{option_or}
use Rattle.std.proofs.lemmas.Bool.{cases_Bool}
use Rattle.std.proofs.lemmas.List.Elements.{Contains-get_or, Contains-append_right}
use Rattle.std.proofs.lemmas.Grind.{flat_map-append}
use Rattle.std.proofs.lemmas.List.{take_more}
use Rattle.std.proofs.lemmas.List.Folds.{find-append}
use Rattle.sg_model.proofs.Small.{same_bytes, bytes_same}
use Rattle.sg_protocol.specs.Broken.{collide, collision_after, first_collision}
use Rattle.sg_protocol.specs.Notes.{Notes}
use Rattle.sg_protocol.specs.Premises.{CollisionFree}
use Rattle.sg_protocol.specs.Texts.{real}
use Rattle.sg_protocol.specs.World.{Logged}
use Rattle.sg_protocol.proofs.Broken.{collision_is_first}
use Rattle.sg_certify.specs.Collisions.{text_under, other_text, text_if, Keeps}

or_assoc : {A : Type 0} (a b c : Option A) → option_or a (option_or b c) ≡ option_or (option_or a b) c
or_assoc None b c = refl
or_assoc (Some x) b c = refl

-- the first collision of two lists
after-append : (xs ys zs : List (List ℕ)) → collision_after real xs (ys ++ zs) ≡ option_or (collision_after real xs ys) (collision_after real (xs ++ ys) zs)
after-append xs [] zs = ap (λ l. collision_after real l zs) (sym (append-nil xs))
after-append xs (y ∷ ys) zs =
    let f = option_map (λ a. (a, y)) (find (λ a. collide real a y) xs) in
    ap (option_or f) (after-append (xs ++ y ∷ []) ys zs ∙ ap (λ l. option_or (collision_after real (xs ++ y ∷ []) ys) (collision_after real l zs)) (append_assoc xs (y ∷ []) ys))
    ∙ or_assoc f (collision_after real (xs ++ y ∷ []) ys) (collision_after real (xs ++ y ∷ ys) zs)

-- texts of which those with the digest of t are t
met_none : (t : List ℕ) (ts : List (List ℕ)) → ((a : List ℕ) → Contains ts a → real a ≡ real t → a ≡ t) → find (λ a. collide real a t) ts ≡ None
met_none t [] h = refl
met_none t (a ∷ ts) h = ap (λ b. if b then Some a else find (λ a. collide real a t) ts) not_this ∙ met_none t ts (λ x i e. h x (Contains-append_right (a ∷ []) ts x i) e)
  where
    not_this : collide real a t ≡ false
    not_this = elim (cases_Bool (bytes_eq (real a) (real t))) [
      | inl e ↦ ap (λ b. bytes_eq (real a) (real t) && not b) (bytes_same a t (h a (Contains-get_or (a ∷ ts) 0 a (omega arith)) (same_bytes (real a) (real t) e))) ∙ ap (λ b. b && false) e
      | inr e ↦ ap (λ b. b && not (bytes_eq a t)) e
    ]

-- the first of the texts that collides with t is the first with its digest, if that is another text
met : (t : List ℕ) (ts : List (List ℕ)) → CollisionFree real ts → find (λ a. collide real a t) ts ≡ other_text (find (λ a. bytes_eq (real a) (real t)) ts) t
met t [] free = refl
met t (a ∷ ts) free = on (met t ts (λ x y i j s. free x y (Contains-append_right (a ∷ []) ts x i) (Contains-append_right (a ∷ []) ts y j) s)) (bytes_eq (real a) (real t)) refl (bytes_eq a t) refl
  where
    on : find (λ a. collide real a t) ts ≡ other_text (find (λ a. bytes_eq (real a) (real t)) ts) t → (p : Bool) → bytes_eq (real a) (real t) ≡ p → (q : Bool) → bytes_eq a t ≡ q → (if p && not q then Some a else find (λ a. collide real a t) ts) ≡ other_text (if p then Some a else find (λ a. bytes_eq (real a) (real t)) ts) t
    on rest false e q d = rest
    on rest true e false d = sym (ap (λ b. if b then None else Some a) d)
    on rest true e true d =
        met_none t ts (λ x i s. free x a (Contains-append_right (a ∷ []) ts x i) (Contains-get_or (a ∷ ts) 0 a (omega arith)) (s ∙ sym (same_bytes (real a) (real t) e)) ∙ same_bytes a t d)
        ∙ sym (ap (λ b. if b then None else Some a) d)

met_kept : (texts : List (List ℕ)) (table : List (List ℕ × List ℕ)) → Keeps texts table → (t : List ℕ) → find (λ a. collide real a t) texts ≡ other_text (text_under (real t) table) t
met_kept texts table k t = met t texts ((collision_is_first real texts).0.0 k.free) ∙ ap (λ o. other_text o t) (sym (k.found (real t)))

pub keeps_none : Keeps [] []
keeps_none = record { found = λ h. refl; free = refl }

-- a text more, of which nothing else is known
pub keeps_more : (texts : List (List ℕ)) (old new : List (List ℕ × List ℕ)) (t : List ℕ) → Keeps texts old → other_text (text_under (real t) old) t ≡ None → ((h : List ℕ) → text_under h new ≡ option_or (text_under h old) (text_if h t)) → Keeps (texts ++ t ∷ []) new
keeps_more texts old new t k none more = record {
  found = λ h. more h ∙ ap (λ o. option_or o (text_if h t)) (k.found h) ∙ sym (find-append (λ a. bytes_eq (real a) h) texts (t ∷ []));
  free = after-append [] texts (t ∷ []) ∙ ap (λ o. option_or o (collision_after real texts (t ∷ []))) k.free ∙ ap (λ o. option_or (option_map (λ a. (a, t)) o) None) (met_kept texts old k t ∙ none);
}

-- a text that collides with one before it
pub hits : (texts : List (List ℕ)) (table : List (List ℕ × List ℕ)) (t one : List ℕ) → Keeps texts table → other_text (text_under (real t) table) t ≡ Some one → (after : List (List ℕ)) → first_collision real (texts ++ t ∷ after) ≡ Some (one, t)
hits texts table t one k some after =
    after-append [] texts (t ∷ after) ∙ ap (λ o. option_or o (collision_after real texts (t ∷ after))) k.free ∙ ap (λ o. option_or (option_map (λ a. (a, t)) o) (collision_after real (texts ++ t ∷ []) after)) (met_kept texts table k t ∙ some)

-- the list, with one of its elements by itself
pub split_at : {A : Type 0} (before texts after : List A) (i : ℕ) (d : A) → i < length texts → (before ++ texts) ++ after ≡ (before ++ take i texts) ++ get_or texts i d ∷ (drop (suc i) texts ++ after)
split_at before texts after i d lt =
    ap (λ l. (before ++ l) ++ after) (sym (take-append-drop i texts) ∙ ap (λ l. take i texts ++ l) (drop-cons texts i d lt))
    ∙ ap (λ l. l ++ after) (sym (append_assoc before (take i texts) (get_or texts i d ∷ drop (suc i) texts)))
    ∙ append_assoc (before ++ take i texts) (get_or texts i d ∷ drop (suc i) texts) after

-- what the first steps hashed, with one more
pub hashed_more : (ns : List Notes) (i : ℕ) (d : Notes) → i < length ns → flat_map (λ (n : Notes). n.hashed) (take (i + 1) ns) ≡ flat_map (λ (n : Notes). n.hashed) (take i ns) ++ (get_or ns i d).hashed
hashed_more ns i d lt = ap (flat_map (λ (n : Notes). n.hashed)) (take_more ns i d lt) ∙ flat_map-append (λ (n : Notes). n.hashed) (take i ns) (get_or ns i d ∷ []) ∙ ap (λ l. flat_map (λ (n : Notes). n.hashed) (take i ns) ++ l) (append-nil (get_or ns i d).hashed)

-- what all steps hashed, with the next one by itself
pub hashed_split : (ns : List Notes) (i : ℕ) (d : Notes) → i < length ns → flat_map (λ (n : Notes). n.hashed) ns ≡ (flat_map (λ (n : Notes). n.hashed) (take i ns) ++ (get_or ns i d).hashed) ++ flat_map (λ (n : Notes). n.hashed) (drop (suc i) ns)
hashed_split ns i d lt =
    ap (flat_map (λ (n : Notes). n.hashed)) (sym (take-append-drop i ns) ∙ ap (λ l. take i ns ++ l) (drop-cons ns i d lt))
    ∙ flat_map-append (λ (n : Notes). n.hashed) (take i ns) (get_or ns i d ∷ drop (suc i) ns)
    ∙ sym (append_assoc (flat_map (λ (n : Notes). n.hashed) (take i ns)) (get_or ns i d).hashed (flat_map (λ (n : Notes). n.hashed) (drop (suc i) ns)))

-- what the steps of a log hashed
pub hashed_notes : (log : List Logged) → flat_map (λ (n : Notes). n.hashed) (map (λ (l : Logged). l.notes) log) ≡ flat_map (λ (l : Logged). l.notes.hashed) log
hashed_notes [] = refl
hashed_notes (l ∷ ls) = ap (λ xs. l.notes.hashed ++ xs) (hashed_notes ls)
