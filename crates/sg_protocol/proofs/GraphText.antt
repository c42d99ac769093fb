-- A canonical text is of one graph.
use Rattle.std.specs.Prelude.{◌≡◌, ◌≢◌, ℕ, zero, suc, ◌<◌, nat_lt, Bool, true, false, not, ◌&&◌, if◌then◌else◌, List, [], ◌∷◌, ◌++◌, map, length, get_or, codes, bytes_eq, flat_map, refl}
use Rattle.std.specs.List.{AllByRecursion, list_all}
use Rattle.std.proofs.Common.{sym, ◌∙◌, ap, subst, arith}
use Rattle.std.proofs.Math.ListN.{get_or-map}
use Rattle.std.proofs.lemmas.List.{append_assoc, append_cancel_left, append-nil, length-map}
use Rattle.std.proofs.lemmas.List.Concat.{flat_map-append}
use Rattle.std.proofs.lemmas.List.Elements.{recursion_from_All}
use Rattle.std.proofs.lemmas.List.Folds.{list_any_at}
use Rattle.std.proofs.lemmas.Slice.Eq.{bytes_eq-Decides}
use Rattle.std.proofs.lemmas.Bool.{ltb-true, and_from}
use Rattle.sg_model.specs.Lists.{has_text, all_differ, rises_from}
use Rattle.sg_model.specs.Names.{Name, is_letter, is_name_byte, is_name, reserved}
use Rattle.sg_model.proofs.Small.{and_left, and_right, all-append, all_weaker, all-both}
use Rattle.sg_protocol.specs.Graph.{VariableKind, Int, Text, Variable, Node, Edge, Graph, IsGraph, AreNumbers, ended, spaced, clause, kind_text, variable_line, node_line, edge_line, canonical}
use Rattle.sg_protocol.specs.TextLaws.{OneGraph}
use Rattle.sg_protocol.proofs.TextLaws.{one_canonical}

-- ---- pieces, one after another

-- spellings that end by themselves before a rest with Q, and begin with the byte k
record Pieces {A : Type 0} (P : A → Type 0) (Q : List ℕ → Type 0) (k : ℕ) (spell : A → List ℕ) : Type 0 where
  same : (x y : A) (s t : List ℕ) → P x → P y → Q s → Q t → spell x ++ s ≡ spell y ++ t → (x ≡ y) × (s ≡ t)
  begins : (x : A) (s : List ℕ) → get_or (spell x ++ s) 0 0 ≡ k
  next : (x : A) (s : List ℕ) → Q (spell x ++ s)

next_all : {A : Type 0} {P : A → Type 0} {Q : List ℕ → Type 0} {k : ℕ} {spell : A → List ℕ} → Pieces P Q k spell → (xs : List A) (s : List ℕ) → Q s → Q (flat_map spell xs ++ s)
next_all p [] s h = h
next_all {A} {P} {Q} {k} {spell} p (x ∷ xs) s h = subst Q (sym (append_assoc (spell x) (flat_map spell xs) s)) (p.next x (flat_map spell xs ++ s))

-- the first byte of some piece
begins_one : {A : Type 0} {P : A → Type 0} {Q : List ℕ → Type 0} {k : ℕ} {spell : A → List ℕ} → Pieces P Q k spell → (x : A) (xs : List A) (s : List ℕ) → get_or (flat_map spell (x ∷ xs) ++ s) 0 0 ≡ k
begins_one {A} {P} {Q} {k} {spell} p x xs s = ap (λ l. get_or l 0 0) (append_assoc (spell x) (flat_map spell xs) s) ∙ p.begins x (flat_map spell xs ++ s)

-- no piece and not the rest begins with m
begins_not : {A : Type 0} {P : A → Type 0} {Q : List ℕ → Type 0} {k : ℕ} {spell : A → List ℕ} → Pieces P Q k spell → (m : ℕ) (xs : List A) (s : List ℕ) → k ≢ m → get_or s 0 0 ≢ m → get_or (flat_map spell xs ++ s) 0 0 ≢ m
begins_not p m [] s n h = h
begins_not p m (x ∷ xs) s n h = λ e. n (sym (begins_one p x xs s) ∙ e)

section : {A : Type 0} {P : A → Type 0} {Q : List ℕ → Type 0} {k : ℕ} {spell : A → List ℕ} → Pieces P Q k spell → (xs ys : List A) (s t : List ℕ) → AllByRecursion P xs → AllByRecursion P ys →
    Q s → Q t → get_or s 0 0 ≢ k → get_or t 0 0 ≢ k → flat_map spell xs ++ s ≡ flat_map spell ys ++ t → (xs ≡ ys) × (s ≡ t)
section p [] [] s t h j q r m n e = (refl, e)
section p [] (y ∷ ys) s t h j q r m n e = absurd (m (ap (λ l. get_or l 0 0) e ∙ begins_one p y ys t))
section p (x ∷ xs) [] s t h j q r m n e = absurd (n (sym (ap (λ l. get_or l 0 0) e) ∙ begins_one p x xs s))
section {A} {P} {Q} {k} {spell} p (x ∷ xs) (y ∷ ys) s t h j q r m n e =
    let first : (x ≡ y) × (flat_map spell xs ++ s ≡ flat_map spell ys ++ t) = p.same x y (flat_map spell xs ++ s) (flat_map spell ys ++ t) h.0 j.0 (next_all p xs s q) (next_all p ys t r)
    (sym (append_assoc (spell x) (flat_map spell xs) s) ∙ e ∙ append_assoc (spell y) (flat_map spell ys) t) in
    let others : (xs ≡ ys) × (s ≡ t) = section p xs ys s t h.1 j.1 q r m n first.1 in
    let a : x ≡ y = first.0 in
    let b : xs ≡ ys = others.0 in
    (cc, others.1)

-- ---- words

-- nothing, or a byte that no word has
abbrev stops : (ℕ → Bool) → List ℕ → Bool
stops p [] = true
stops p (b ∷ bs) = not (p b)

clash : (x y : Bool) → x ≡ y → not x ≡ true → y ≡ true → ⊥
clash true y e h k = cc
clash false y e h k = cc

word_same : (p : ℕ → Bool) (x y s t : List ℕ) → list_all p x ≡ true → list_all p y ≡ true → stops p s ≡ true → stops p t ≡ true → x ++ s ≡ y ++ t → (x ≡ y) × (s ≡ t)
word_same p [] [] s t h k q r e = (refl, e)
word_same p [] (y ∷ ys) [] t h k q r e = cc
word_same p [] (y ∷ ys) (b ∷ s) t h k q r e = let f : b ≡ y = cc in absurd (clash (p b) (p y) (ap p f) q (and_left (p y) (list_all p ys) k))
word_same p (x ∷ xs) [] s [] h k q r e = cc
word_same p (x ∷ xs) [] s (b ∷ t) h k q r e = let f : b ≡ x = cc in absurd (clash (p b) (p x) (ap p f) r (and_left (p x) (list_all p xs) h))
word_same p (x ∷ xs) (y ∷ ys) s t h k q r e =
    let f : x ≡ y = cc in
    let g : xs ++ s ≡ ys ++ t = cc in
    let i : (xs ≡ ys) × (s ≡ t) = word_same p xs ys s t (and_right (p x) (list_all p xs) h) (and_right (p y) (list_all p ys) k) q r g in
    let j : xs ≡ ys = i.0 in
    (cc, i.1)

-- bytes that a name may have
abbrev IsWord : List ℕ → Type 0
IsWord n = list_all is_name_byte n ≡ true

abbrev Stops : List ℕ → Type 0
Stops s = stops is_name_byte s ≡ true

words : Pieces IsWord Stops 32 (λ n. 32 ∷ n)
words = record {
  same = λ x y s t h k q r e. word_same is_name_byte x y s t h k q r (ap tail e);
  begins = λ x s. refl;
  next = λ x s. refl;
}
  where
    tail : List ℕ → List ℕ
    tail [] = []
    tail (x ∷ xs) = xs

-- ---- names

-- a name that is not reserved
abbrev good : List ℕ → Bool
good n = is_name n && not (has_text n reserved)

pub letter_byte : (a b x : Bool) → x ≡ true → (if a then true else (if b then true else x)) ≡ true
letter_byte true b x h = refl
letter_byte false true x h = refl
letter_byte false false x h = h

name_word : (n : List ℕ) → is_name n ≡ true → IsWord n
name_word [] h = refl
name_word (c ∷ cs) h =
    let both : (is_letter c && list_all is_name_byte cs) ≡ true = and_left (is_letter c && list_all is_name_byte cs) _ h in
    and_from (is_name_byte c) (list_all is_name_byte cs) (letter_byte _ _ (is_letter c) (and_left (is_letter c) (list_all is_name_byte cs) both)) (and_right (is_letter c) (list_all is_name_byte cs) both)

good_word : (n : List ℕ) → good n ≡ true → IsWord n
good_word n h = name_word n (and_left (is_name n) (not (has_text n reserved)) h)

good_not : (n r : List ℕ) → has_text r reserved ≡ true → good n ≡ true → n ≢ r
good_not n r t h e = clash (has_text n reserved) (has_text r reserved) (ap (λ x. has_text x reserved) e) (and_right (is_name n) (not (has_text n reserved)) h) t

not_there : (n : Name) (ns : List Name) (j : ℕ) → j < length ns → n ≡ get_or ns j [] → not (has_text n ns) ≡ true → ⊥
not_there n ns j h e d = clash (has_text n ns) true (list_any_at (bytes_eq n) ns j [] h ((bytes_eq-Decides n (get_or ns j [])).1 e)) d refl

-- no name stands twice
get_same : (ns : List Name) → all_differ ns ≡ true → (i j : ℕ) → i < length ns → j < length ns → get_or ns i [] ≡ get_or ns j [] → i ≡ j
get_same [] d i j h k e = absurd (omega arith)
get_same (n ∷ ns) d zero zero h k e = refl
get_same (n ∷ ns) d zero (suc j) h k e = absurd (not_there n ns j (omega arith) e (and_left (not (has_text n ns)) (all_differ ns) d))
get_same (n ∷ ns) d (suc i) zero h k e = absurd (not_there n ns i (omega arith) (sym e) (and_left (not (has_text n ns)) (all_differ ns) d))
get_same (n ∷ ns) d (suc i) (suc j) h k e = ap suc (get_same ns (and_right (not (has_text n ns)) (all_differ ns) d) i j (omega arith) (omega arith) e)

-- names by their numbers below n
record Names (n : ℕ) (f : ℕ → Name) : Type 0 where
  same : (i j : ℕ) → i < n → j < n → f i ≡ f j → i ≡ j
  are_good : (i : ℕ) → i < n → good (f i) ≡ true

good_at : (ns : List Name) (i : ℕ) → i < length ns → list_all good ns ≡ true → good (get_or ns i []) ≡ true
good_at [] i h g = absurd (omega arith)
good_at (n ∷ ns) zero h g = and_left (good n) (list_all good ns) g
good_at (n ∷ ns) (suc i) h g = good_at ns i (omega arith) (and_right (good n) (list_all good ns) g)

names_of : (ns : List Name) → (list_all good ns && all_differ ns) ≡ true → Names (length ns) (λ i. get_or ns i [])
names_of ns h = record {
  same = λ i j l m e. get_same ns (and_right (list_all good ns) (all_differ ns) h) i j l m e;
  are_good = λ i l. good_at ns i l (and_left (list_all good ns) (all_differ ns) h);
}

-- names of what has a name
named : {A : Type 0} (f : A → Name) (xs : List A) (d : A) → f d ≡ [] → (list_all good (map f xs) && all_differ (map f xs)) ≡ true → Names (length xs) (λ i. f (get_or xs i d))
named {A} f xs d z h = record {
  same = λ i j l m e. get_same (map f xs) (and_right (list_all good (map f xs)) (all_differ (map f xs)) h) i j (omega (arith, length-map xs f)) (omega (arith, length-map xs f)) (at i ∙ e ∙ sym (at j));
  are_good = λ i l. subst (λ x. good x ≡ true) (at i) (good_at (map f xs) i (omega (arith, length-map xs f)) (and_left (list_all good (map f xs)) (all_differ (map f xs)) h));
}
  where
    at : (i : ℕ) → get_or (map f xs) i [] ≡ f (get_or xs i d)
    at i = ap (get_or (map f xs) i) (sym z) ∙ get_or-map f xs i d

abbrev AreBelow : ℕ → List ℕ → Type 0
AreBelow n ks = list_all (λ k. nat_lt k n) ks ≡ true

names_good : (n : ℕ) (f : ℕ → Name) → Names n f → (ks : List ℕ) → AreBelow n ks → AllByRecursion (λ x. good x ≡ true) (map f ks)
names_good n f p [] h = tt
names_good n f p (k ∷ ks) h = (p.are_good k (ltb-true k n (and_left (nat_lt k n) _ h)), names_good n f p ks (and_right (nat_lt k n) _ h))

numbers_same : (n : ℕ) (f : ℕ → Name) → Names n f → (ks ls : List ℕ) → AreBelow n ks → AreBelow n ls → map f ks ≡ map f ls → ks ≡ ls
numbers_same n f p [] [] h j e = refl
numbers_same n f p [] (l ∷ ls) h j e = cc
numbers_same n f p (k ∷ ks) [] h j e = cc
numbers_same n f p (k ∷ ks) (l ∷ ls) h j e =
    let d : f k ≡ f l = cc in
    let r : map f ks ≡ map f ls = cc in
    let a : k ≡ l = p.same k l (ltb-true k n (and_left (nat_lt k n) _ h)) (ltb-true l n (and_left (nat_lt l n) _ j)) d in
    let b : ks ≡ ls = numbers_same n f p ks ls (and_right (nat_lt k n) _ h) (and_right (nat_lt l n) _ j) r in
    cc

all_good : {A : Type 0} (f : A → Name) (xs : List A) → list_all good (map f xs) ≡ true → AllByRecursion (λ x. good (f x) ≡ true) xs
all_good f [] h = tt
all_good f (x ∷ xs) h = (and_left (good (f x)) (list_all good (map f xs)) h, all_good f xs (and_right (good (f x)) (list_all good (map f xs)) h))

-- ---- lines

abbrev AnyRest : List ℕ → Type 0
AnyRest s = Unit {0}

abbrev role_line : Name → List ℕ
role_line r = ended (codes "role " ++ r)

roles : Pieces (λ r. good r ≡ true) AnyRest 114 role_line
roles = record { same = role_same; begins = λ x s. refl; next = λ x s. tt }
  where
    spelled : (x s : List ℕ) → role_line x ++ s ≡ codes "role " ++ (x ++ 59 ∷ 10 ∷ s)
    spelled x s = ap (λ l. codes "role " ++ l) (append_assoc x (59 ∷ 10 ∷ []) s)

    role_same : (x y s t : List ℕ) → good x ≡ true → good y ≡ true → AnyRest s → AnyRest t → role_line x ++ s ≡ role_line y ++ t → (x ≡ y) × (s ≡ t)
    role_same x y s t h k q r e =
        let w : (x ≡ y) × ((let l : List ℕ = 59 ∷ 10 ∷ s in l) ≡ 59 ∷ 10 ∷ t) = word_same is_name_byte x y (59 ∷ 10 ∷ s) (59 ∷ 10 ∷ t) (good_word x h) (good_word y k) refl refl
        (append_cancel_left (codes "role ") _ _ (sym (spelled x s) ∙ e ∙ spelled y t)) in
        (w.0, append_cancel_left (59 ∷ 10 ∷ []) s t w.1)

-- a variable's line, by the names of roles
abbrev variable_of : (ℕ → Name) → Variable → List ℕ
variable_of f v = ended (codes "var " ++ v.name ++ codes ": " ++ kind_text v.kind ++ codes " by" ++ spaced (map f v.writers))

abbrev IsVariable : ℕ → Variable → Type 0
IsVariable n v = (good v.name ≡ true) × AreBelow n v.writers

less_apart : (m n : ℕ) → m < n → m ≢ n
less_apart m n h e = omega arith

kind_same : (a b : VariableKind) (s t : List ℕ) → kind_text a ++ s ≡ kind_text b ++ t → (a ≡ b) × (s ≡ t)
kind_same Int Int s t e = (refl, append_cancel_left (codes "int") s t e)
kind_same Int Text s t e = absurd (less_apart 105 116 (omega arith) (ap (λ l. get_or l 0 0) e))
kind_same Text Int s t e = absurd (less_apart 105 116 (omega arith) (sym (ap (λ l. get_or l 0 0) e)))
kind_same Text Text s t e = (refl, append_cancel_left (codes "text") s t e)

variables : (n : ℕ) (f : ℕ → Name) → Names n f → Pieces (IsVariable n) AnyRest 118 (variable_of f)
variables n f p = record { same = variable_same; begins = λ x s. refl; next = λ x s. tt }
  where
    made : Name → VariableKind → List ℕ → Variable
    made a k w = record { name = a; kind = k; writers = w }

    spelled : (a k w s : List ℕ) → ended (codes "var " ++ a ++ codes ": " ++ k ++ codes " by" ++ w) ++ s ≡ codes "var " ++ (a ++ (codes ": " ++ (k ++ (codes " by" ++ (w ++ 59 ∷ 10 ∷ s)))))
    spelled a k w s = simp append_assoc

    variable_same : (x y : Variable) (s t : List ℕ) → IsVariable n x → IsVariable n y → AnyRest s → AnyRest t → variable_of f x ++ s ≡ variable_of f y ++ t → (x ≡ y) × (s ≡ t)
    variable_same x y s t h k q r e =
        let end_x : List ℕ = spaced (map f x.writers) ++ 59 ∷ 10 ∷ s in
        let end_y : List ℕ = spaced (map f y.writers) ++ 59 ∷ 10 ∷ t in
        let w : (x.name ≡ y.name) × (codes ": " ++ (kind_text x.kind ++ (codes " by" ++ end_x)) ≡ codes ": " ++ (kind_text y.kind ++ (codes " by" ++ end_y))) =
        word_same is_name_byte x.name y.name _ _ (good_word x.name h.0) (good_word y.name k.0) refl refl
        (append_cancel_left (codes "var ") _ _ (sym (spelled x.name (kind_text x.kind) (spaced (map f x.writers)) s) ∙ e ∙ spelled y.name (kind_text y.kind) (spaced (map f y.writers)) t)) in
        let c : (x.kind ≡ y.kind) × (codes " by" ++ end_x ≡ codes " by" ++ end_y) = kind_same x.kind y.kind _ _ (append_cancel_left (codes ": ") _ _ w.1) in
        let l : (map f x.writers ≡ map f y.writers) × ((let l : List ℕ = 59 ∷ 10 ∷ s in l) ≡ 59 ∷ 10 ∷ t) =
        section words (map f x.writers) (map f y.writers) (59 ∷ 10 ∷ s) (59 ∷ 10 ∷ t)
        (all_weaker (λ a. good a ≡ true) IsWord good_word _ (names_good n f p x.writers h.1)) (all_weaker (λ a. good a ≡ true) IsWord good_word _ (names_good n f p y.writers k.1))
        refl refl (λ z. omega arith) (λ z. omega arith) (append_cancel_left (codes " by") _ _ c.1) in
        let a : x.name ≡ y.name = w.0 in
        let b : x.kind ≡ y.kind = c.0 in
        let d : x.writers ≡ y.writers = numbers_same n f p x.writers y.writers h.1 k.1 l.0 in
        let g : made x.name x.kind x.writers ≡ made y.name y.kind y.writers = cc (a, b, d) in
        (g, append_cancel_left (59 ∷ 10 ∷ []) s t l.1)

-- a node's line, by the names of roles
abbrev node_of : (ℕ → Name) → Node → List ℕ
node_of f n = ended (codes "node " ++ n.name ++ codes ": " ++ f n.role)

abbrev IsNode : ℕ → Node → Type 0
IsNode n x = (good x.name ≡ true) × (x.role < n)

nodes : (n : ℕ) (f : ℕ → Name) → Names n f → Pieces (IsNode n) AnyRest 110 (node_of f)
nodes n f p = record { same = node_same; begins = λ x s. refl; next = λ x s. tt }
  where
    made : Name → ℕ → Node
    made a r = record { name = a; role = r }

    spelled : (a r s : List ℕ) → ended (codes "node " ++ a ++ codes ": " ++ r) ++ s ≡ codes "node " ++ (a ++ (codes ": " ++ (r ++ 59 ∷ 10 ∷ s)))
    spelled a r s = simp append_assoc

    node_same : (x y : Node) (s t : List ℕ) → IsNode n x → IsNode n y → AnyRest s → AnyRest t → node_of f x ++ s ≡ node_of f y ++ t → (x ≡ y) × (s ≡ t)
    node_same x y s t h k q r e =
        let w : (x.name ≡ y.name) × (codes ": " ++ (f x.role ++ 59 ∷ 10 ∷ s) ≡ codes ": " ++ (f y.role ++ 59 ∷ 10 ∷ t)) =
        word_same is_name_byte x.name y.name _ _ (good_word x.name h.0) (good_word y.name k.0) refl refl
        (append_cancel_left (codes "node ") _ _ (sym (spelled x.name (f x.role) s) ∙ e ∙ spelled y.name (f y.role) t)) in
        let l : (f x.role ≡ f y.role) × ((let l : List ℕ = 59 ∷ 10 ∷ s in l) ≡ 59 ∷ 10 ∷ t) =
        word_same is_name_byte (f x.role) (f y.role) (59 ∷ 10 ∷ s) (59 ∷ 10 ∷ t) (good_word (f x.role) (p.are_good x.role h.1)) (good_word (f y.role) (p.are_good y.role k.1)) refl refl
        (append_cancel_left (codes ": ") _ _ w.1) in
        let a : x.name ≡ y.name = w.0 in
        let b : x.role ≡ y.role = p.same x.role y.role h.1 k.1 l.0 in
        let g : made x.name x.role ≡ made y.name y.role = cc (a, b) in
        (g, append_cancel_left (59 ∷ 10 ∷ []) s t l.1)

-- ---- what an edge writes and reads: a word and names, if there are some, and then a second such word

abbrev led : List ℕ → List Name → List Name
led word [] = []
led word (n ∷ ns) = word ∷ n ∷ ns

led_same : (word : List ℕ) (c d : List Name) → led word c ≡ led word d → c ≡ d
led_same word [] [] e = refl
led_same word [] (y ∷ d) e = cc
led_same word (x ∷ c) [] e = cc
led_same word (x ∷ c) (y ∷ d) e = cc

split_same : (word : List ℕ) (a b c d : List Name) → AllByRecursion (λ n. n ≢ word) a → AllByRecursion (λ n. n ≢ word) b → a ++ led word c ≡ b ++ led word d → (a ≡ b) × (c ≡ d)
split_same word [] [] c d h k e = (refl, led_same word c d e)
split_same word [] (y ∷ b) [] d h k e = cc
split_same word [] (y ∷ b) (x ∷ c) d h k e = let f : y ≡ word = cc in absurd (k.0 f)
split_same word (x ∷ a) [] c [] h k e = cc
split_same word (x ∷ a) [] c (y ∷ d) h k e = let f : x ≡ word = cc in absurd (h.0 f)
split_same word (x ∷ a) (y ∷ b) c d h k e =
    let f : x ≡ y = cc in
    let g : a ++ led word c ≡ b ++ led word d = cc in
    let r : (a ≡ b) × (c ≡ d) = split_same word a b c d h.1 k.1 g in
    let i : a ≡ b = r.0 in
    (cc, r.1)

two_same : (first second : List ℕ) (a b c d : List Name) → first ≢ second → AllByRecursion (λ n. n ≢ second) a → AllByRecursion (λ n. n ≢ second) b →
    led first a ++ led second c ≡ led first b ++ led second d → (a ≡ b) × (c ≡ d)
two_same first second [] [] c d n h k e = (refl, led_same second c d e)
two_same first second [] (y ∷ b) [] d n h k e = cc
two_same first second [] (y ∷ b) (x ∷ c) d n h k e = let f : first ≡ second = cc in absurd (n f)
two_same first second (x ∷ a) [] c [] n h k e = cc
two_same first second (x ∷ a) [] c (y ∷ d) n h k e = let f : first ≡ second = cc in absurd (n f)
two_same first second (x ∷ a) (y ∷ b) c d n h k e = let g : (x ∷ a) ++ led second c ≡ (y ∷ b) ++ led second d = cc in split_same second (x ∷ a) (y ∷ b) c d h k g

clause_led : (word : List ℕ) (ns : List Name) → clause (32 ∷ word) ns ≡ spaced (led word ns)
clause_led word [] = refl
clause_led word (n ∷ ns) = refl

led_words : (word : List ℕ) → IsWord word → (ns : List Name) → AllByRecursion IsWord ns → AllByRecursion IsWord (led word ns)
led_words word w [] h = tt
led_words word w (n ∷ ns) h = (w, h)

-- the words and names after an edge's target
abbrev uses : List Name → List Name → List Name
uses ws rs = led (codes "writes") ws ++ led (codes "reads") rs

uses_spelled : (ws rs : List Name) (t : List ℕ) → clause (codes " writes") ws ++ (clause (codes " reads") rs ++ t) ≡ spaced (uses ws rs) ++ t
uses_spelled ws rs t =
    ap (λ l. l ++ (clause (codes " reads") rs ++ t)) (clause_led (codes "writes") ws)
    ∙ ap (λ l. spaced (led (codes "writes") ws) ++ (l ++ t)) (clause_led (codes "reads") rs)
    ∙ sym (append_assoc (spaced (led (codes "writes") ws)) (spaced (led (codes "reads") rs)) t)
    ∙ ap (λ l. l ++ t) (sym (flat_map-append (λ n. 32 ∷ n) (led (codes "writes") ws) (led (codes "reads") rs)))

uses_words : (ws rs : List Name) → AllByRecursion (λ a. good a ≡ true) ws → AllByRecursion (λ a. good a ≡ true) rs → AllByRecursion IsWord (uses ws rs)
uses_words ws rs h k = all-append IsWord (led (codes "writes") ws) (led (codes "reads") rs)
    (led_words (codes "writes") refl ws (all_weaker (λ a. good a ≡ true) IsWord good_word ws h)) (led_words (codes "reads") refl rs (all_weaker (λ a. good a ≡ true) IsWord good_word rs k))

uses_same : (ws xs rs ys : List Name) → AllByRecursion (λ a. good a ≡ true) ws → AllByRecursion (λ a. good a ≡ true) xs → uses ws rs ≡ uses xs ys → (ws ≡ xs) × (rs ≡ ys)
uses_same ws xs rs ys h k e = two_same (codes "writes") (codes "reads") ws xs rs ys (λ z. less_apart 114 119 (omega arith) (sym (ap (λ l. get_or l 0 0) z)))
    (all_weaker (λ a. good a ≡ true) (λ a. a ≢ codes "reads") (λ a g. good_not a (codes "reads") refl g) ws h)
    (all_weaker (λ a. good a ≡ true) (λ a. a ≢ codes "reads") (λ a g. good_not a (codes "reads") refl g) xs k) e

-- an edge's line, by the names of nodes and of variables
abbrev edge_of : (ℕ → Name) → (ℕ → Name) → Edge → List ℕ
edge_of f g e = ended (codes "edge " ++ e.name ++ codes ": " ++ f e.source ++ codes " -> " ++ f e.target ++ clause (codes " writes") (map g e.writes) ++ clause (codes " reads") (map g e.reads))

abbrev IsEdge : ℕ → ℕ → Edge → Type 0
IsEdge m n e = (good e.name ≡ true) × (((e.source < m) × (e.target < m)) × (AreBelow n e.writes × AreBelow n e.reads))

edges : (m n : ℕ) (f g : ℕ → Name) → Names m f → Names n g → Pieces (IsEdge m n) AnyRest 101 (edge_of f g)
edges m n f g p q = record { same = edge_same; begins = λ x s. refl; next = λ x s. tt }
  where
    made : Name → ℕ → ℕ → List ℕ → List ℕ → Edge
    made a b c w r = record { name = a; source = b; target = c; writes = w; reads = r }

    spelled : (a b c w r s : List ℕ) → ended (codes "edge " ++ a ++ codes ": " ++ b ++ codes " -> " ++ c ++ w ++ r) ++ s
        ≡ codes "edge " ++ (a ++ (codes ": " ++ (b ++ (codes " -> " ++ (c ++ (w ++ (r ++ 59 ∷ 10 ∷ s)))))))
    spelled a b c w r s = simp append_assoc

    after : Edge → List ℕ → List ℕ
    after x s = spaced (uses (map g x.writes) (map g x.reads)) ++ 59 ∷ 10 ∷ s

    line : (x : Edge) (s : List ℕ) → edge_of f g x ++ s ≡ codes "edge " ++ (x.name ++ (codes ": " ++ (f x.source ++ (codes " -> " ++ (f x.target ++ after x s)))))
    line x s = spelled x.name (f x.source) (f x.target) (clause (codes " writes") (map g x.writes)) (clause (codes " reads") (map g x.reads)) s
        ∙ ap (λ l. codes "edge " ++ (x.name ++ (codes ": " ++ (f x.source ++ (codes " -> " ++ (f x.target ++ l)))))) (uses_spelled (map g x.writes) (map g x.reads) (59 ∷ 10 ∷ s))

    edge_same : (x y : Edge) (s t : List ℕ) → IsEdge m n x → IsEdge m n y → AnyRest s → AnyRest t → edge_of f g x ++ s ≡ edge_of f g y ++ t → (x ≡ y) × (s ≡ t)
    edge_same x y s t h k u v e =
        let w1 : (x.name ≡ y.name) × (codes ": " ++ (f x.source ++ (codes " -> " ++ (f x.target ++ after x s))) ≡ codes ": " ++ (f y.source ++ (codes " -> " ++ (f y.target ++ after y t)))) =
        word_same is_name_byte x.name y.name _ _ (good_word x.name h.0) (good_word y.name k.0) refl refl (append_cancel_left (codes "edge ") _ _ (sym (line x s) ∙ e ∙ line y t)) in
        let w2 : (f x.source ≡ f y.source) × (codes " -> " ++ (f x.target ++ after x s) ≡ codes " -> " ++ (f y.target ++ after y t)) =
        word_same is_name_byte (f x.source) (f y.source) _ _ (good_word (f x.source) (p.are_good x.source ((h.1).0).0)) (good_word (f y.source) (p.are_good y.source ((k.1).0).0)) refl refl
        (append_cancel_left (codes ": ") _ _ w1.1) in
        let w3 : (f x.target ≡ f y.target) × (after x s ≡ after y t) =
        word_same is_name_byte (f x.target) (f y.target) (after x s) (after y t) (good_word (f x.target) (p.are_good x.target ((h.1).0).1)) (good_word (f y.target) (p.are_good y.target ((k.1).0).1))
        (next_all words (uses (map g x.writes) (map g x.reads)) (59 ∷ 10 ∷ s) refl) (next_all words (uses (map g y.writes) (map g y.reads)) (59 ∷ 10 ∷ t) refl)
        (append_cancel_left (codes " -> ") _ _ w2.1) in
        let gx : AllByRecursion (λ a. good a ≡ true) (map g x.writes) = names_good n g q x.writes ((h.1).1).0 in
        let gy : AllByRecursion (λ a. good a ≡ true) (map g y.writes) = names_good n g q y.writes ((k.1).1).0 in
        let w4 : (uses (map g x.writes) (map g x.reads) ≡ uses (map g y.writes) (map g y.reads)) × ((let l : List ℕ = 59 ∷ 10 ∷ s in l) ≡ 59 ∷ 10 ∷ t) =
        section words (uses (map g x.writes) (map g x.reads)) (uses (map g y.writes) (map g y.reads)) (59 ∷ 10 ∷ s) (59 ∷ 10 ∷ t)
        (uses_words (map g x.writes) (map g x.reads) gx (names_good n g q x.reads ((h.1).1).1)) (uses_words (map g y.writes) (map g y.reads) gy (names_good n g q y.reads ((k.1).1).1))
        refl refl (λ z. omega arith) (λ z. omega arith) w3.1 in
        let w5 : (map g x.writes ≡ map g y.writes) × (map g x.reads ≡ map g y.reads) = uses_same (map g x.writes) (map g y.writes) (map g x.reads) (map g y.reads) gx gy w4.0 in
        let a : x.name ≡ y.name = w1.0 in
        let b : x.source ≡ y.source = p.same x.source y.source ((h.1).0).0 ((k.1).0).0 w2.0 in
        let c : x.target ≡ y.target = p.same x.target y.target ((h.1).0).1 ((k.1).0).1 w3.0 in
        let d : x.writes ≡ y.writes = numbers_same n g q x.writes y.writes ((h.1).1).0 ((k.1).1).0 w5.0 in
        let r : x.reads ≡ y.reads = numbers_same n g q x.reads y.reads ((h.1).1).1 ((k.1).1).1 w5.1 in
        let i : made x.name x.source x.target x.writes x.reads ≡ made y.name y.source y.target y.writes y.reads = cc (a, b, c, d, r) in
        (i, append_cancel_left (59 ∷ 10 ∷ []) s t w4.1)

-- ---- graphs

all_variables : (g : Graph) → IsGraph g → AllByRecursion (IsVariable (length g.roles)) g.variables
all_variables g h = all-both (λ v. good v.name ≡ true) (λ v. AreBelow (length g.roles) v.writers) g.variables
    (all_good (λ v. v.name) g.variables (and_left _ (all_differ (map (λ v. v.name) g.variables)) h.variable_names))
    (all_weaker (λ v. AreNumbers (length g.roles) v.writers × (0 < length v.writers)) (λ v. AreBelow (length g.roles) v.writers) (λ v a. and_right (rises_from 0 v.writers) _ a.0) g.variables (recursion_from_All (λ v. AreNumbers (length g.roles) v.writers × (0 < length v.writers)) g.variables h.writers))

all_nodes : (g : Graph) → IsGraph g → AllByRecursion (IsNode (length g.roles)) g.nodes
all_nodes g h = all-both (λ n. good n.name ≡ true) (λ n. n.role < length g.roles) g.nodes
    (all_good (λ n. n.name) g.nodes (and_left _ (all_differ (map (λ n. n.name) g.nodes)) h.node_names))
    (recursion_from_All (λ n. n.role < length g.roles) g.nodes h.roles)

all_edges : (g : Graph) → IsGraph g → AllByRecursion (IsEdge (length g.nodes) (length g.variables)) g.edges
all_edges g h = all-both (λ e. good e.name ≡ true) (λ e. ((e.source < length g.nodes) × (e.target < length g.nodes)) × (AreBelow (length g.variables) e.writes × AreBelow (length g.variables) e.reads)) g.edges
    (all_good (λ e. e.name) g.edges (and_left _ (all_differ (map (λ e. e.name) g.edges)) h.edge_names))
    (all-both (λ e. (e.source < length g.nodes) × (e.target < length g.nodes)) (λ e. AreBelow (length g.variables) e.writes × AreBelow (length g.variables) e.reads) g.edges
    (recursion_from_All (λ e. (e.source < length g.nodes) × (e.target < length g.nodes)) g.edges h.ends)
    (all_weaker (λ e. AreNumbers (length g.variables) e.writes × AreNumbers (length g.variables) e.reads) (λ e. AreBelow (length g.variables) e.writes × AreBelow (length g.variables) e.reads) (λ e a. (and_right (rises_from 0 e.writes) _ a.0, and_right (rises_from 0 e.reads) _ a.1)) g.edges
    (recursion_from_All (λ e. AreNumbers (length g.variables) e.writes × AreNumbers (length g.variables) e.reads) g.edges h.variables)))

-- the names by numbers
abbrev by_role : List Name → ℕ → Name
by_role ns i = get_or ns i []

abbrev by_variable : List Variable → ℕ → Name
by_variable vs i = (get_or vs i (record { name = []; kind = Int; writers = [] })).name

abbrev by_node : List Node → ℕ → Name
by_node ns i = (get_or ns i (record { name = []; role = 0 })).name

-- the sections from the last on
abbrev edge_part : List Node → List Variable → List Edge → List ℕ
edge_part ns vs es = flat_map (edge_of (by_node ns) (by_variable vs)) es ++ []

abbrev node_part : List Name → List Node → List ℕ → List ℕ
node_part rs ns t = flat_map (node_of (by_role rs)) ns ++ t

abbrev variable_part : List Name → List Variable → List ℕ → List ℕ
variable_part rs vs t = flat_map (variable_of (by_role rs)) vs ++ t

abbrev role_part : List Name → List ℕ → List ℕ
role_part rs t = flat_map role_line rs ++ t

-- what follows the roles, and what follows the variables
abbrev after_variables : Graph → List ℕ
after_variables g = node_part g.roles g.nodes (edge_part g.nodes g.variables g.edges)

abbrev after_roles : Graph → List ℕ
after_roles g = variable_part g.roles g.variables (after_variables g)

sections : (a b c d e : List ℕ) → ended (codes "graph " ++ a) ++ b ++ c ++ d ++ e ≡ codes "graph " ++ (a ++ (59 ∷ 10 ∷ (b ++ (c ++ (d ++ (e ++ []))))))
sections a b c d e = simp (append_assoc, append-nil)

canonical_parts : (g : Graph) → canonical g ≡ codes "graph " ++ (g.name ++ (59 ∷ 10 ∷ role_part g.roles (after_roles g)))
canonical_parts g = sections g.name (flat_map role_line g.roles) (flat_map (variable_line g) g.variables) (flat_map (node_line g) g.nodes) (flat_map (edge_line g) g.edges)

graph_roles : (g : Graph) → IsGraph g → Names (length g.roles) (by_role g.roles)
graph_roles g h = names_of g.roles h.role_names

graph_variables : (g : Graph) → IsGraph g → Names (length g.variables) (by_variable g.variables)
graph_variables g h = named (λ v. v.name) g.variables (record { name = []; kind = Int; writers = [] }) refl h.variable_names

graph_nodes : (g : Graph) → IsGraph g → Names (length g.nodes) (by_node g.nodes)
graph_nodes g h = named (λ n. n.name) g.nodes (record { name = []; role = 0 }) refl h.node_names

-- no part begins as an earlier one does
edge_begins : (g : Graph) → IsGraph g → (m : ℕ) → 101 < m → get_or (edge_part g.nodes g.variables g.edges) 0 0 ≢ m
edge_begins g h m l = begins_not (edges (length g.nodes) (length g.variables) (by_node g.nodes) (by_variable g.variables) (graph_nodes g h) (graph_variables g h)) m g.edges [] (less_apart 101 m l) (less_apart 0 m (omega arith))

node_begins : (g : Graph) → IsGraph g → (m : ℕ) → 110 < m → get_or (after_variables g) 0 0 ≢ m
node_begins g h m l = begins_not (nodes (length g.roles) (by_role g.roles) (graph_roles g h)) m g.nodes (edge_part g.nodes g.variables g.edges) (less_apart 110 m l) (edge_begins g h m (omega arith))

variable_begins : (g : Graph) → IsGraph g → get_or (after_roles g) 0 0 ≢ 114
variable_begins g h = begins_not (variables (length g.roles) (by_role g.roles) (graph_roles g h)) 114 g.variables (after_variables g) (λ e. less_apart 114 118 (omega arith) (sym e)) (node_begins g h 114 (omega arith))

-- a canonical text is of one graph
pub canonical_same : (g h : Graph) → IsGraph g → IsGraph h → canonical g ≡ canonical h → g ≡ h
canonical_same g h p q e =
    let named : (g.name ≡ h.name) × ((let l : List ℕ = 59 ∷ 10 ∷ role_part g.roles (after_roles g) in l) ≡ 59 ∷ 10 ∷ role_part h.roles (after_roles h)) =
    word_same is_name_byte g.name h.name _ _ (good_word g.name (one_good g p.named)) (good_word h.name (one_good h q.named)) refl refl
    (append_cancel_left (codes "graph ") _ _ (sym (canonical_parts g) ∙ e ∙ canonical_parts h)) in
    let at_roles : (g.roles ≡ h.roles) × (after_roles g ≡ after_roles h) =
    section roles g.roles h.roles (after_roles g) (after_roles h)
    (all_good (λ r. r) g.roles (subst (λ ns. list_all good ns ≡ true) (sym (map_itself g.roles)) (and_left _ (all_differ g.roles) p.role_names)))
    (all_good (λ r. r) h.roles (subst (λ ns. list_all good ns ≡ true) (sym (map_itself h.roles)) (and_left _ (all_differ h.roles) q.role_names)))
    tt tt (variable_begins g p) (variable_begins h q) (append_cancel_left (59 ∷ 10 ∷ []) _ _ named.1) in
    let r : h.roles ≡ g.roles = sym at_roles.0 in
    let at_variables : (g.variables ≡ h.variables) × (after_variables g ≡ after_variables h) =
    section (variables (length g.roles) (by_role g.roles) (graph_roles g p)) g.variables h.variables (after_variables g) (after_variables h)
    (all_variables g p) (subst (λ rs. AllByRecursion (IsVariable (length rs)) h.variables) r (all_variables h q))
    tt tt (node_begins g p 118 (omega arith)) (node_begins h q 118 (omega arith))
    (subst (λ rs. after_roles g ≡ variable_part rs h.variables (after_variables h)) r at_roles.1) in
    let at_nodes : (g.nodes ≡ h.nodes) × (edge_part g.nodes g.variables g.edges ≡ edge_part h.nodes h.variables h.edges) =
    section (nodes (length g.roles) (by_role g.roles) (graph_roles g p)) g.nodes h.nodes (edge_part g.nodes g.variables g.edges) (edge_part h.nodes h.variables h.edges)
    (all_nodes g p) (subst (λ rs. AllByRecursion (IsNode (length rs)) h.nodes) r (all_nodes h q))
    tt tt (edge_begins g p 110 (omega arith)) (edge_begins h q 110 (omega arith))
    (subst (λ rs. after_variables g ≡ node_part rs h.nodes (edge_part h.nodes h.variables h.edges)) r at_variables.1) in
    let n : h.nodes ≡ g.nodes = sym at_nodes.0 in
    let v : h.variables ≡ g.variables = sym at_variables.0 in
    let at_edges : (g.edges ≡ h.edges) × ((let l : List ℕ = [] in l) ≡ []) =
    section (edges (length g.nodes) (length g.variables) (by_node g.nodes) (by_variable g.variables) (graph_nodes g p) (graph_variables g p)) g.edges h.edges [] []
    (all_edges g p) (subst (λ ns. AllByRecursion (IsEdge (length ns) (length g.variables)) h.edges) n (subst (λ vs. AllByRecursion (IsEdge (length h.nodes) (length vs)) h.edges) v (all_edges h q)))
    tt tt (less_apart 0 101 (omega arith)) (less_apart 0 101 (omega arith))
    (subst (λ ns. edge_part g.nodes g.variables g.edges ≡ edge_part ns g.variables h.edges) n (subst (λ vs. edge_part g.nodes g.variables g.edges ≡ edge_part h.nodes vs h.edges) v at_nodes.1)) in
    same_graph g h named.0 at_roles.0 at_variables.0 at_nodes.0 at_edges.0
  where
    made : Name → List Name → List Variable → List Node → List Edge → Graph
    made a r v n e = record { name = a; roles = r; variables = v; nodes = n; edges = e }

    same_graph : (g h : Graph) → g.name ≡ h.name → g.roles ≡ h.roles → g.variables ≡ h.variables → g.nodes ≡ h.nodes → g.edges ≡ h.edges → g ≡ h
    same_graph g h a b c d e = let i : made g.name g.roles g.variables g.nodes g.edges ≡ made h.name h.roles h.variables h.nodes h.edges = cc in i

    one_good : (g : Graph) → (list_all good (g.name ∷ []) && all_differ (g.name ∷ [])) ≡ true → good g.name ≡ true
    one_good g h = and_left (good g.name) (list_all good []) (and_left (list_all good (g.name ∷ [])) (all_differ (g.name ∷ [])) h)

    map_itself : (ns : List Name) → map (λ r. r) ns ≡ ns
    map_itself [] = refl
    map_itself (n ∷ ns) = ap (λ l. n ∷ l) (map_itself ns)

pub one_graph : OneGraph
one_graph g h p q e = canonical_same g h p q (one_canonical g h e)
