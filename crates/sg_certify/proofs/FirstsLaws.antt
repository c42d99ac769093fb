-- The table of first texts, in terms of its list.
use Rattle.std.proofs.Common.{◌≡◌, ℕ, Bool, true, false, cond, List, [], ◌∷◌, ◌++◌, map, if◌then◌else◌, bytes_eq, option_map, Option, Some, None, refl, sym, ap, ◌∙◌, Bor}
use Rattle.std.specs.Map.{lookup}
use Rattle.std.specs.Option.{option_or}
use Rattle.std.proofs.lemmas.List.{map-append}
use Rattle.indexmap.specs.IndexMap.{insert_entry}
use Rattle.sg_model.proofs.Small.{bytes_eq-swap}
use Rattle.sg_certify.specs.Collisions.{text_under}

-- an entry, and what is seen of it
abbrev pub Entry : Type 0
Entry = List ℕ × Bor (List ℕ)

abbrev pub seen : Entry → List ℕ × List ℕ
seen e = (e.0, (e.1).now)

by_test : (b : Bool) (v : Bor (List ℕ)) (o : Option (Bor (List ℕ))) (u : Option (List ℕ)) → u ≡ option_map (λ t. t.now) o → (if b then Some v.now else u) ≡ option_map (λ t. t.now) (cond b (Some v) o)
by_test true v o u h = refl
by_test false v o u h = h

-- what the table has under a digest
pub under-lookup : (h : List ℕ) (es : List Entry) → text_under h (map seen es) ≡ option_map (λ t. t.now) (lookup (bytes_eq h) es)
under-lookup h [] = refl
under-lookup h (e ∷ es) = ap (λ b. if b then Some (e.1).now else text_under h (map seen es)) (bytes_eq-swap e.0 h) ∙ by_test (bytes_eq h e.0) e.1 (lookup (bytes_eq h) es) _ (under-lookup h es)

none_there : (o : Option (Bor (List ℕ))) → option_map (λ t. t.now) o ≡ None → o ≡ None
none_there None h = refl
none_there (Some t) h = absurd (let z : Some t.now ≡ None = h in cc)

-- no entry is there, so the table looks for none
pub lookup_none : (h : List ℕ) (es : List Entry) → text_under h (map seen es) ≡ None → lookup (bytes_eq h) es ≡ None
lookup_none h es e = none_there (lookup (bytes_eq h) es) (sym (under-lookup h es) ∙ e)

insert_last : (b : Bool) (h : List ℕ) (t : Bor (List ℕ)) (e : Entry) (es : List Entry) → cond b (Some e.1) (lookup (bytes_eq h) es) ≡ None → (lookup (bytes_eq h) es ≡ None → insert_entry bytes_eq es h t ≡ es ++ (h, t) ∷ []) → (if b then (e.0, t) ∷ es else e ∷ insert_entry bytes_eq es h t) ≡ e ∷ es ++ (h, t) ∷ []
insert_last true h t e es n k = absurd (let z : Some e.1 ≡ None = n in cc)
insert_last false h t e es n k = ap (λ l. e ∷ l) (k n)

-- a digest that is not there goes last
pub insert-none : (h : List ℕ) (t : Bor (List ℕ)) (es : List Entry) → lookup (bytes_eq h) es ≡ None → insert_entry bytes_eq es h t ≡ es ++ (h, t) ∷ []
insert-none h t [] n = refl
insert-none h t (e ∷ es) n = insert_last (bytes_eq h e.0) h t e es n (insert-none h t es)

-- what is seen of the table with a new text
pub seen_added : (h : List ℕ) (t : Bor (List ℕ)) (es : List Entry) (table : List (List ℕ × List ℕ)) → map seen es ≡ table → text_under h table ≡ None → map seen (insert_entry bytes_eq es h t) ≡ table ++ (h, t.now) ∷ []
seen_added h t es table is n = ap (map seen) (insert-none h t es (lookup_none h es (ap (text_under h) is ∙ n))) ∙ map-append seen es ((h, t) ∷ []) ∙ ap (λ l. l ++ (h, t.now) ∷ []) is

under_by : (b : Bool) (t : List ℕ) (u v w : Option (List ℕ)) → v ≡ option_or u w → (if b then Some t else v) ≡ option_or (if b then Some t else u) w
under_by true t u v w h = refl
under_by false t u v w h = h

-- a text more
pub under_more : (h d t : List ℕ) (es : List (List ℕ × List ℕ)) → text_under h (es ++ (d, t) ∷ []) ≡ option_or (text_under h es) (if bytes_eq d h then Some t else None)
under_more h d t [] = refl
under_more h d t (e ∷ es) = under_by (bytes_eq e.0 h) e.1 (text_under h es) (text_under h (es ++ (d, t) ∷ [])) (if bytes_eq d h then Some t else None) (under_more h d t es)
