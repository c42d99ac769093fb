-- The table of names, as sessions are declared and met.
use Rattle.std.proofs.Common.{◌≡◌, ℕ, suc, ◌+◌, ◌<◌, nat_lt, Bool, true, false, not, ◌||◌, sym, ap, ◌∙◌, refl, List, [], ◌∷◌, ◌++◌, map, filter, length, cond, position, Option, Some, None, is_some, bytes_eq, true≢false, append-nil, append_assoc, arith, ne_eqb, eq-eqb, lt-ltb, le-ltb, length-append}
use Rattle.std.specs.List.{find, position_or_len, list_any}
use Rattle.std.specs.Option.{option_map_or, option_or}
use Rattle.std.proofs.lemmas.Bool.{or_parts, or_right, or_left}
use Rattle.std.proofs.lemmas.List.{map-append, length-map}
use Rattle.std.proofs.lemmas.List.Elements.{filter-append}
use Rattle.std.proofs.lemmas.List.Folds.{find-append, list_any-append, position_or_len_push}
use Rattle.std.proofs.lemmas.Bool.Decides.{Decides-like, same_from_decides}
use Rattle.std.proofs.lemmas.Slice.Eq.{bytes_eq-Decides}
use Rattle.sg_model.specs.Lists.{has_text}
use Rattle.sg_model.specs.Names.{Name}
use Rattle.sg_model.proofs.Small.{bytes_refl}
use Rattle.sg_text.specs.Sessions.{firsts, KnownSessions, declared_sids, undeclared, all_sids, numbered, session_name, Naming, naming, with_declared, with_event}
use Rattle.sg_text.proofs.Firsts.{has_text-filter, has_text-filtered, has_text-firsts, firsts-new, firsts-again}

-- ---- which sids there are

-- the sid is not declared
abbrev is_other : KnownSessions → List ℕ → Bool
is_other m sid = not (has_text sid (declared_sids m))

-- a sid is among those of all sessions if it is declared or met
pub has_text-all_sids : (m : KnownSessions) (sid : List ℕ) → has_text sid (all_sids m) ≡ (has_text sid (declared_sids m) || has_text sid m.events)
has_text-all_sids m sid =
    list_any-append (bytes_eq sid) (firsts (declared_sids m)) (undeclared m) ∙ ap (λ b. b || has_text sid (undeclared m)) (has_text-firsts sid (declared_sids m)) ∙ by (has_text sid (declared_sids m)) refl
  where
    by : (b : Bool) → has_text sid (declared_sids m) ≡ b → (b || has_text sid (undeclared m)) ≡ (b || has_text sid m.events)
    by true e = refl
    by false e = has_text-filter (is_other m) sid (ap not e) (firsts m.events) ∙ has_text-firsts sid m.events

-- an event of such a session leaves those that are not declared
undeclared-again : (m : KnownSessions) (sid : List ℕ) → has_text sid (all_sids m) ≡ true → undeclared (with_event m sid) ≡ undeclared m
undeclared-again m sid h = by (has_text sid m.events) refl
  where
    declared : (b : Bool) → has_text sid (declared_sids m) ≡ b → has_text sid m.events ≡ false → has_text sid (declared_sids m) ≡ true
    declared true e miss = e
    declared false e miss = absurd (true≢false (sym h ∙ has_text-all_sids m sid ∙ ap (λ b. b || has_text sid m.events) e ∙ miss))

    by : (b : Bool) → has_text sid m.events ≡ b → undeclared (with_event m sid) ≡ undeclared m
    by true e = ap (filter (is_other m)) (firsts-again sid m.events e)
    by false e =
        ap (filter (is_other m)) (firsts-new sid m.events e) ∙ filter-append (is_other m) (firsts m.events) (sid ∷ [])
        ∙ ap (λ b. undeclared m ++ cond (not b) (sid ∷ []) []) (declared (has_text sid (declared_sids m)) refl e) ∙ append-nil (undeclared m)

-- and one of another session puts its sid last
undeclared-new : (m : KnownSessions) (sid : List ℕ) → has_text sid (all_sids m) ≡ false → undeclared (with_event m sid) ≡ undeclared m ++ sid ∷ []
undeclared-new m sid h =
    let miss = or_parts (has_text sid (declared_sids m)) (has_text sid m.events) (sym (has_text-all_sids m sid) ∙ h) in
    ap (filter (is_other m)) (firsts-new sid m.events miss.1) ∙ filter-append (is_other m) (firsts m.events) (sid ∷ [])
    ∙ ap (λ b. undeclared m ++ cond (not b) (sid ∷ []) []) miss.0

-- ---- indices

index_found : (p : List ℕ → Bool) (xs : List (List ℕ)) → list_any p xs ≡ true → position_or_len p xs < length xs
index_found p [] h = absurd (true≢false (sym h))
index_found p (x ∷ xs) h = by (p x) refl (index_found p xs)
  where
    by : (b : Bool) → p x ≡ b → (list_any p xs ≡ true → position_or_len p xs < length xs) → cond (not b) (1 + position_or_len p xs) 0 < suc (length xs)
    by true e rest = omega arith
    by false e rest = let l : position_or_len p xs < length xs = rest (sym (ap (λ b. b || list_any p xs) e) ∙ h) in omega arith

index_missed : (p : List ℕ → Bool) (xs : List (List ℕ)) → list_any p xs ≡ false → position_or_len p xs ≡ length xs
index_missed p [] h = refl
index_missed p (x ∷ xs) h = ap (λ b. cond (not b) (1 + position_or_len p xs) 0) (or_parts (p x) (list_any p xs) h).0 ∙ rest (index_missed p xs (or_parts (p x) (list_any p xs) h).1)
  where
    rest : position_or_len p xs ≡ length xs → 1 + position_or_len p xs ≡ suc (length xs)
    rest e = omega arith

-- the index of one that is there stays
position-push_found : (p : List ℕ → Bool) (xs : List (List ℕ)) (y : List ℕ) → list_any p xs ≡ true → position p (xs ++ y ∷ []) ≡ position p xs
position-push_found p xs y h =
    let l : position_or_len p xs < length xs = index_found p xs h in
    let same : position_or_len p (xs ++ y ∷ []) ≡ position_or_len p xs = position_or_len_push p xs y ∙ ap (λ b. cond b (length xs + cond (p y) 0 1) (position_or_len p xs)) (ne_eqb (position_or_len p xs) (length xs) (λ e. omega arith)) in
    let longer : position_or_len p xs < length (xs ++ y ∷ []) = omega (arith, length-append xs (y ∷ [])) in
    ap (λ n. cond (nat_lt n (length (xs ++ y ∷ []))) (Some n) None) same ∙ ap (λ b. cond b (Some (position_or_len p xs)) None) (lt-ltb (position_or_len p xs) (length (xs ++ y ∷ [])) longer ∙ sym (lt-ltb (position_or_len p xs) (length xs) l))

-- the index of a new one is behind the others
position-push_new : (p : List ℕ → Bool) (xs : List (List ℕ)) (y : List ℕ) → list_any p xs ≡ false → p y ≡ true → position p (xs ++ y ∷ []) ≡ Some (length xs)
position-push_new p xs y h t =
    let last : position_or_len p xs ≡ length xs = index_missed p xs h in
    let at : position_or_len p (xs ++ y ∷ []) ≡ length xs =
    position_or_len_push p xs y ∙ ap (λ b. cond b (length xs + cond (p y) 0 1) (position_or_len p xs)) (eq-eqb (position_or_len p xs) (length xs) last) ∙ ap (λ b. length xs + cond b 0 1) t ∙ omega arith in
    let longer : length xs < length (xs ++ y ∷ []) = omega (arith, length-append xs (y ∷ [])) in
    ap (λ n. cond (nat_lt n (length (xs ++ y ∷ []))) (Some n) None) at ∙ ap (λ b. cond b (Some (length xs)) None) (lt-ltb (length xs) (length (xs ++ y ∷ [])) longer)

-- ---- names

-- a declared sid is found among the declared sessions
find_declared : (sid : List ℕ) (ds : List (Name × List ℕ)) → is_some (find (λ (d : Name × List ℕ). bytes_eq d.1 sid) ds) ≡ has_text sid (map (λ (d : Name × List ℕ). d.1) ds)
find_declared sid [] = refl
find_declared sid (d ∷ ds) = rw (turned d.1) (by (bytes_eq sid d.1) (find_declared sid ds))
  where
    turned : (t : List ℕ) → bytes_eq t sid ≡ bytes_eq sid t
    turned t = same_from_decides _ _ (bytes_eq-Decides t sid) (Decides-like _ sym sym (bytes_eq-Decides sid t))

    by : (b : Bool) → is_some (find (λ (d : Name × List ℕ). bytes_eq d.1 sid) ds) ≡ has_text sid (map (λ (d : Name × List ℕ). d.1) ds)
        → is_some (cond b (Some d) (find (λ (d : Name × List ℕ). bytes_eq d.1 sid) ds)) ≡ (b || has_text sid (map (λ (d : Name × List ℕ). d.1) ds))
    by true h = refl
    by false h = h

-- what an entry is called
abbrev called : Option (Name × List ℕ) → Name → Name
called found other = option_map_or (λ (d : Name × List ℕ). d.0) found other

-- the declared sessions with a sid
abbrev found_in : KnownSessions → List ℕ → Option (Name × List ℕ)
found_in m sid = find (λ (d : Name × List ℕ). bytes_eq d.1 sid) m.declared

found_name : (found : Option (Name × List ℕ)) (a b : Name) → is_some found ≡ true → called found a ≡ called found b
found_name None a b h = absurd (true≢false (sym h))
found_name (Some d) a b h = refl

missed_name : (found : Option (Name × List ℕ)) (a : Name) → is_some found ≡ false → called found a ≡ a
missed_name None a h = refl
missed_name (Some d) a h = absurd (true≢false h)

-- an event leaves the names of sids that are there
name-kept : (letter : ℕ) (m : KnownSessions) (new sid : List ℕ) → has_text sid (all_sids m) ≡ true → session_name letter (with_event m new) sid ≡ session_name letter m sid
name-kept letter m new sid h = by (has_text sid (declared_sids m)) refl
  where
    index : (b : Bool) → has_text new (all_sids m) ≡ b → has_text sid (undeclared m) ≡ true → position (bytes_eq sid) (undeclared (with_event m new)) ≡ position (bytes_eq sid) (undeclared m)
    index true e there = ap (position (bytes_eq sid)) (undeclared-again m new e)
    index false e there = ap (position (bytes_eq sid)) (undeclared-new m new e) ∙ position-push_found (bytes_eq sid) (undeclared m) new there

    by : (b : Bool) → has_text sid (declared_sids m) ≡ b → session_name letter (with_event m new) sid ≡ session_name letter m sid
    by true e = found_name (found_in m sid) _ _ (find_declared sid m.declared ∙ e)
    by false e =
        let there : has_text sid (undeclared m) ≡ true =
        sym (list_any-append (bytes_eq sid) (firsts (declared_sids m)) (undeclared m) ∙ ap (λ b. b || has_text sid (undeclared m)) (has_text-firsts sid (declared_sids m) ∙ e)) ∙ h in
        ap (λ o. called (found_in m sid) (option_map_or (λ n. numbered letter (n + 1)) o [])) (index (has_text new (all_sids m)) refl there)

-- the name of a sid that is not declared and met first
name-new : (letter : ℕ) (m : KnownSessions) (sid : List ℕ) → has_text sid (all_sids m) ≡ false → session_name letter (with_event m sid) sid ≡ numbered letter (length (undeclared m) + 1)
name-new letter m sid h =
    let miss = or_parts (has_text sid (declared_sids m)) (has_text sid m.events) (sym (has_text-all_sids m sid) ∙ h) in
    missed_name (found_in m sid) _ (find_declared sid m.declared ∙ miss.0)
    ∙ ap (λ o. option_map_or (λ n. numbered letter (n + 1)) o []) (ap (position (bytes_eq sid)) (undeclared-new m sid h)
    ∙ position-push_new (bytes_eq sid) (undeclared m) sid (has_text-filtered (is_other m) sid (firsts m.events) (has_text-firsts sid m.events ∙ miss.1)) (bytes_refl sid))

-- ---- the table

-- a key with what a function has for it
abbrev paired : (List ℕ → Name) → List ℕ → List ℕ × Name
paired f k = (k, f k)

-- functions that agree on the keys make one table
names-same : (f g : List ℕ → Name) (ks : List (List ℕ)) → ((k : List ℕ) → has_text k ks ≡ true → f k ≡ g k) → map (paired f) ks ≡ map (paired g) ks
names-same f g [] h = refl
names-same f g (k ∷ ks) h =
    let here : f k ≡ g k = h k (or_left (bytes_eq k k) (has_text k ks) (bytes_refl k)) in
    let rest : map (paired f) ks ≡ map (paired g) ks = names-same f g ks (λ j m. h j (or_right (bytes_eq j k) (has_text j ks) m)) in
    λ i. (k, here i) ∷ rest i

-- one more key makes one more entry, if the function agrees with another on the keys before
names-more : (f g : List ℕ → Name) (ks all : List (List ℕ)) (k : List ℕ) (name : Name) → all ≡ ks ++ k ∷ [] → ((j : List ℕ) → has_text j ks ≡ true → f j ≡ g j) → f k ≡ name
    → map (paired f) all ≡ map (paired g) ks ++ (k, name) ∷ []
names-more f g ks all k name e h n =
    let before : map (paired f) ks ≡ map (paired g) ks = names-same f g ks h in
    ap (map (paired f)) e ∙ map-append (paired f) ks (k ∷ []) ∙ (λ i. before i ++ (k, n i) ∷ [])

-- the table with one more entry
abbrev pub with_name : Naming → List ℕ → Name → Naming
with_name t sid name = record t { names = t.names ++ (sid, name) ∷ [] }

-- an event of a session that is there leaves the table
pub naming-known_again : (letter : ℕ) (m : KnownSessions) (sid : List ℕ) → has_text sid (all_sids m) ≡ true → naming letter (with_event m sid) ≡ naming letter m
naming-known_again letter m sid h =
    let sids : all_sids (with_event m sid) ≡ all_sids m = ap (λ us. firsts (declared_sids m) ++ us) (undeclared-again m sid h) in
    let names : (naming letter (with_event m sid)).names ≡ (naming letter m).names =
    ap (map (paired (session_name letter (with_event m sid)))) sids ∙ names-same (session_name letter (with_event m sid)) (session_name letter m) (all_sids m) (name-kept letter m sid) in
    λ i. record { letter = letter; declared = length (firsts (declared_sids m)); names = names i }

-- and one of another session puts it last
pub naming-known_new : (letter : ℕ) (m : KnownSessions) (sid : List ℕ) → has_text sid (all_sids m) ≡ false → naming letter (with_event m sid) ≡ with_name (naming letter m) sid (numbered letter (length (undeclared m) + 1))
naming-known_new letter m sid h =
    let sids : all_sids (with_event m sid) ≡ all_sids m ++ sid ∷ [] =
    ap (λ us. firsts (declared_sids m) ++ us) (undeclared-new m sid h) ∙ sym (append_assoc (firsts (declared_sids m)) (undeclared m) (sid ∷ [])) in
    let names : (naming letter (with_event m sid)).names ≡ (naming letter m).names ++ (sid, numbered letter (length (undeclared m) + 1)) ∷ [] =
    names-more (session_name letter (with_event m sid)) (session_name letter m) (all_sids m) (all_sids (with_event m sid)) sid (numbered letter (length (undeclared m) + 1)) sids (name-kept letter m sid) (name-new letter m sid h) in
    λ i. record { letter = letter; declared = length (firsts (declared_sids m)); names = names i }

-- how many are not declared
pub length-undeclared : (letter : ℕ) (m : KnownSessions) → length (naming letter m).names ≡ (naming letter m).declared + length (undeclared m)
length-undeclared letter m = length-map (all_sids m) (paired (session_name letter m)) ∙ length-append (firsts (declared_sids m)) (undeclared m)

-- ---- declarations, before any event

-- without events none is undeclared
pub undeclared-none : (m : KnownSessions) → m.events ≡ [] → undeclared m ≡ []
undeclared-none m e = ap (λ es. filter (is_other m) (firsts es)) e

-- so the sids are the declared ones
all_sids-declared : (m : KnownSessions) → m.events ≡ [] → all_sids m ≡ firsts (declared_sids m)
all_sids-declared m e = ap (λ us. firsts (declared_sids m) ++ us) (undeclared-none m e) ∙ append-nil (firsts (declared_sids m))

declared_sids-more : (m : KnownSessions) (name : Name) (sid : List ℕ) → declared_sids (with_declared m name sid) ≡ declared_sids m ++ sid ∷ []
declared_sids-more m name sid = map-append (λ (d : Name × List ℕ). d.1) m.declared ((name, sid) ∷ [])

found_first : (one two : Option (Name × List ℕ)) (a b : Name) → is_some one ≡ true → called (option_or one two) a ≡ called one b
found_first None two a b h = absurd (true≢false (sym h))
found_first (Some d) two a b h = refl

found_second : (one : Option (Name × List ℕ)) (d : Name × List ℕ) (a : Name) → is_some one ≡ false → called (option_or one (Some d)) a ≡ d.0
found_second None d a h = refl
found_second (Some x) d a h = absurd (true≢false h)

-- a declaration leaves the names of sids that are there
name-declared : (letter : ℕ) (m : KnownSessions) (name : Name) (new sid : List ℕ) → has_text sid (declared_sids m) ≡ true → session_name letter (with_declared m name new) sid ≡ session_name letter m sid
name-declared letter m name new sid h =
    let other : Name = option_map_or (λ n. numbered letter (n + 1)) (position (bytes_eq sid) (undeclared (with_declared m name new))) [] in
    ap (λ o. called o other) (find-append (λ (d : Name × List ℕ). bytes_eq d.1 sid) m.declared ((name, new) ∷ []))
    ∙ found_first (found_in m sid) _ other (option_map_or (λ n. numbered letter (n + 1)) (position (bytes_eq sid) (undeclared m)) []) (find_declared sid m.declared ∙ h)

-- and names its own
name-of_declared : (letter : ℕ) (m : KnownSessions) (name : Name) (sid : List ℕ) → has_text sid (declared_sids m) ≡ false → session_name letter (with_declared m name sid) sid ≡ name
name-of_declared letter m name sid h =
    let other : Name = option_map_or (λ n. numbered letter (n + 1)) (position (bytes_eq sid) (undeclared (with_declared m name sid))) [] in
    ap (λ o. called o other) (find-append (λ (d : Name × List ℕ). bytes_eq d.1 sid) m.declared ((name, sid) ∷ []))
    ∙ ap (λ b. called (option_or (found_in m sid) (cond b (Some (name, sid)) None)) other) (bytes_refl sid)
    ∙ found_second (found_in m sid) (name, sid) other (find_declared sid m.declared ∙ h)

declared_there : (m : KnownSessions) (sid : List ℕ) (b : Bool) → m.events ≡ [] → has_text sid (all_sids m) ≡ b → has_text sid (declared_sids m) ≡ b
declared_there m sid b e h = sym (ap (has_text sid) (all_sids-declared m e) ∙ has_text-firsts sid (declared_sids m)) ∙ h

-- a declaration of a sid that is there leaves the table
pub naming-declared_again : (letter : ℕ) (m : KnownSessions) (name : Name) (sid : List ℕ) → m.events ≡ [] → has_text sid (all_sids m) ≡ true → naming letter (with_declared m name sid) ≡ naming letter m
naming-declared_again letter m name sid e h =
    let there : has_text sid (declared_sids m) ≡ true = declared_there m sid true e h in
    let firsts_are : firsts (declared_sids (with_declared m name sid)) ≡ firsts (declared_sids m) = ap firsts (declared_sids-more m name sid) ∙ firsts-again sid (declared_sids m) there in
    let sids : all_sids (with_declared m name sid) ≡ all_sids m = all_sids-declared (with_declared m name sid) e ∙ firsts_are ∙ sym (all_sids-declared m e) in
    let names : (naming letter (with_declared m name sid)).names ≡ (naming letter m).names =
    ap (map (paired (session_name letter (with_declared m name sid)))) sids
    ∙ names-same (session_name letter (with_declared m name sid)) (session_name letter m) (all_sids m) (λ k t. name-declared letter m name sid k (declared_there m k true e t)) in
    λ i. record { letter = letter; declared = length (firsts_are i); names = names i }

-- and one of another puts it last
pub naming-declared_new : (letter : ℕ) (m : KnownSessions) (name : Name) (sid : List ℕ) → m.events ≡ [] → has_text sid (all_sids m) ≡ false
    → naming letter (with_declared m name sid) ≡ record { letter = letter; declared = (naming letter m).declared + 1; names = (naming letter m).names ++ (sid, name) ∷ [] }
naming-declared_new letter m name sid e h =
    let miss : has_text sid (declared_sids m) ≡ false = declared_there m sid false e h in
    let firsts_are : firsts (declared_sids (with_declared m name sid)) ≡ firsts (declared_sids m) ++ sid ∷ [] = ap firsts (declared_sids-more m name sid) ∙ firsts-new sid (declared_sids m) miss in
    let sids : all_sids (with_declared m name sid) ≡ all_sids m ++ sid ∷ [] = all_sids-declared (with_declared m name sid) e ∙ firsts_are ∙ ap (λ us. us ++ sid ∷ []) (sym (all_sids-declared m e)) in
    let names : (naming letter (with_declared m name sid)).names ≡ (naming letter m).names ++ (sid, name) ∷ [] =
    names-more (session_name letter (with_declared m name sid)) (session_name letter m) (all_sids m) (all_sids (with_declared m name sid)) sid name sids
    (λ k t. name-declared letter m name sid k (declared_there m k true e t)) (name-of_declared letter m name sid miss) in
    let count : length (firsts (declared_sids (with_declared m name sid))) ≡ (naming letter m).declared + 1 = ap length firsts_are ∙ length-append (firsts (declared_sids m)) (sid ∷ []) in
    λ i. record { letter = letter; declared = count i; names = names i }

-- ---- no such session

index_none : (p : List ℕ → Bool) (xs : List (List ℕ)) → list_any p xs ≡ false → position p xs ≡ None
index_none p xs h = ap (λ n. cond (nat_lt n (length xs)) (Some n) None) (index_missed p xs h) ∙ ap (λ b. cond b (Some (length xs)) None) (le-ltb (length xs) (length xs) (omega arith))

-- a session that is not there has no name
pub session_name-none : (letter : ℕ) (m : KnownSessions) (sid : List ℕ) → has_text sid (all_sids m) ≡ false → session_name letter m sid ≡ []
session_name-none letter m sid h =
    let miss = or_parts (has_text sid (declared_sids m)) (has_text sid m.events) (sym (has_text-all_sids m sid) ∙ h) in
    missed_name (found_in m sid) _ (find_declared sid m.declared ∙ miss.0)
    ∙ ap (λ o. option_map_or (λ n. numbered letter (n + 1)) o []) (index_none (bytes_eq sid) (undeclared m) (has_text-filtered (is_other m) sid (firsts m.events) (has_text-firsts sid m.events ∙ miss.1)))
