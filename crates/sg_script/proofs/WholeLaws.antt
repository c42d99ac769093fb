-- What holds of each start and each choice that an entry spells.
use Rattle.std.proofs.Common.{◌≡◌, ℕ, zero, suc, ◌+◌, ◌<◌, ◌≤◌, Bool, true, false, not, ◌&&◌, inl, inr, List, [], ◌∷◌, length, map, filter_map, find, position, bytes_eq, nat_le, nat_lt, if◌then◌else◌, refl, sym, ap, subst, ◌∙◌, arith, get_or, pos, negsuc, ℤ}
use Rattle.std.specs.Prelude.{Option, Some, None, is_some, option_map, option_and_then, IsTrue, Result, Ok, Err, IfOk, codes}
use Rattle.std.specs.List.{All, AllByRecursion}
use Rattle.std.proofs.lemmas.Bool.Decides.{nat_tests}
use Rattle.std.proofs.lemmas.List.{length-map}
use Rattle.std.proofs.lemmas.List.Elements.{All-from_recursion}
use Rattle.std.proofs.lemmas.Bool.{and_parts}
use Rattle.toml.specs.Data.{Data, Items, Members, get_member, as_str, as_integer, as_array, as_table}
use Rattle.sg_base.specs.Words.{name}
use Rattle.sg_graph.proofs.FirstIndex.{passes_there}
use Rattle.sg_graph.specs.Parts.{variable_names, node_names, edge_names}
use Rattle.sg_keys.specs.KeyFile.{all_keys, at, has_keys_alone, list_of, text_at}
use Rattle.sg_model.specs.Last.{Map}
use Rattle.sg_model.specs.Lists.{below, range_from, rises_from}
use Rattle.sg_model.specs.Names.{Name, is_name}
use Rattle.sg_model.specs.Values.{Value}
use Rattle.sg_model.proofs.Small.{some_same}
use Rattle.sg_protocol.specs.Graph.{Graph}
use Rattle.sg_protocol.specs.Keyring.{Program}
use Rattle.sg_protocol.specs.TextLaws.{IsVersion}
use Rattle.sg_program.specs.Together.{is_named}
use Rattle.sg_script.specs.Script.{Start, Choice, Script, IsStart, IsChoice, IsScript}
use Rattle.sg_script.specs.Format.{between, number_or, name_of, all_there, cast_in, cast_of, graph_named, number_of, spelled_value, given, values_in, values_or_none, start_keys, start_from, start_of, choice_keys, choice_from, choice_at, choice_of, SpellsScript}

-- ---- steps

-- a first step that gave something, and then a second
pub record Steps {A B : Type 0} (f : A → Option B) (o : Option A) (y : B) : Type 0 where
  pub first : A
  pub was : o ≡ Some first
  pub next : f first ≡ Some y

steps : {A B : Type 0} (f : A → Option B) (o : Option A) (y : B) → option_and_then f o ≡ Some y → Steps f o y
steps f None y h = absurd (cc)
steps f (Some x) y h = record { first = x; was = refl; next = h }

tested : {A : Type 0} (b : Bool) (o : Option A) (y : A) → (if b then o else None) ≡ Some y → (b ≡ true) × (o ≡ Some y)
tested true o y h = (refl, h)
tested false o y h = absurd (cc)

-- an entry is a table with these keys alone, and its parts are read
record Entry {A : Type 0} (read : Members → Option A) (y : A) : Type 0 where
  table : Members
  read_is : read table ≡ Some y

entry_is : {A : Type 0} (words : List (List ℕ)) (read : Members → Option A) (d : Data) (y : A) → option_and_then (λ t. if has_keys_alone words t then read t else None) (as_table d) ≡ Some y → Entry read y
entry_is words read d y h =
    let f = steps (λ t. if has_keys_alone words t then read t else None) (as_table d) y h in
    record { table = f.first; read_is = (tested (has_keys_alone words f.first) (read f.first) y f.next).1 }

-- ---- numbers

between_within : (least most : ℕ) (z : ℤ) (v : ℕ) → between least most z ≡ Some v → (least ≤ v) × (v ≤ most)
between_within least most (pos n) v h =
    let t = tested (nat_le least n && nat_le n most) (Some n) v h in
    let same : n ≡ v = some_same t.1 in
    let tests = and_parts (nat_le least n) (nat_le n most) t.0 in
    let low : least ≤ n = grind (arith, nat_tests, tests.0) in
    let high : n ≤ most = grind (arith, nat_tests, tests.1) in
    (omega arith, omega arith)
between_within least most (negsuc n) v h = absurd (cc)

number_within : (missing least most : ℕ) (o : Option Data) (v : ℕ) → least ≤ missing → missing ≤ most → number_or missing least most o ≡ Some v → (least ≤ v) × (v ≤ most)
number_within missing least most None v low high h = let same : missing ≡ v = some_same h in (omega arith, omega arith)
number_within missing least most (Some d) v low high h =
    let s = steps (between least most) (as_integer d) v h in
    between_within least most s.first v s.next

one_or_two : (v : ℕ) → 1 ≤ v → v ≤ 2 → IsVersion v
one_or_two zero low high = absurd (omega arith)
one_or_two (suc zero) low high = inl refl
one_or_two (suc (suc zero)) low high = inr refl
one_or_two (suc (suc (suc v))) low high = absurd (omega arith)

-- ---- lists

there_is : {A : Type 0} (os : List (Option A)) (xs : List A) → all_there os ≡ Some xs → os ≡ map Some xs
there_is [] xs h = let e : [] ≡ xs = some_same h in rw (← e) refl
there_is (None ∷ os) xs h = absurd (cc)
there_is {A} (Some x ∷ os) xs h = by (all_there os) (λ ys e. there_is os ys e) h
  where
    by : (o : Option (List A)) → ((ys : List A) → o ≡ Some ys → os ≡ map Some ys) → option_map (λ ys. x ∷ ys) o ≡ Some xs → (Some x ∷ os) ≡ map Some xs
    by None ih k = absurd (cc)
    by (Some ys) ih k =
        let whole : (x ∷ ys) ≡ xs = some_same k in
        rw (← whole) (ap (λ ps. Some x ∷ ps) (ih ys refl))

-- what holds of each that is read
each_holds : {A : Type 0} (read : Data → Option A) (P : A → Type 0) → ((d : Data) (x : A) → read d ≡ Some x → P x) → (ds : List Data) (xs : List A) → map read ds ≡ map Some xs → AllByRecursion P xs
each_holds read P h [] [] e = tt
each_holds read P h [] (x ∷ xs) e = absurd (cc)
each_holds read P h (d ∷ ds) [] e = absurd (cc)
each_holds read P h (d ∷ ds) (x ∷ xs) e =
    let here : read d ≡ Some x = cc in
    let later : map read ds ≡ map Some xs = cc in
    (h d x here, each_holds read P h ds xs later)

same_length : {A B : Type 0} (read : B → Option A) (ds : List B) (xs : List A) → map read ds ≡ map Some xs → length ds ≡ length xs
same_length read ds xs e = sym (length-map ds read) ∙ ap length e ∙ length-map xs Some

-- ---- starts

name_is : (d : Data) (n : Name) → name_of d ≡ Some n → IsTrue (is_name n)
unfolding name
name_is d n h =
    let s = steps name (as_str d) n h in
    let t = tested (is_name s.first) (Some s.first) n s.next in
    subst (λ (m : Name). is_name m ≡ true) (some_same t.1) t.0

-- a cast of 2 to 16 names
pub record IsCast (c : List Name) : Type 0 where
  pub two : 2 ≤ length c
  pub sixteen : length c ≤ 16
  pub names : All (λ n. IsTrue (is_name n)) c

cast_is : (ds : List Data) (c : List Name) → cast_in ds ≡ Some c → IsCast c
cast_is ds c h =
    let t = tested (nat_le 2 (length ds) && nat_le (length ds) 16) (all_there (map name_of ds)) c h in
    let tests = and_parts (nat_le 2 (length ds)) (nat_le (length ds) 16) t.0 in
    let low : 2 ≤ length ds = grind (arith, nat_tests, tests.0) in
    let high : length ds ≤ 16 = grind (arith, nat_tests, tests.1) in
    let each = there_is (map name_of ds) c t.1 in
    let same = same_length name_of ds c each in
    record { two = omega arith; sixteen = omega arith; names = All-from_recursion (λ (n : Name). IsTrue (is_name n)) c (each_holds name_of (λ (n : Name). IsTrue (is_name n)) name_is ds c each) }

cast_at_is : (o : Option Data) (c : List Name) → cast_of o ≡ Some c → IsCast c
cast_at_is None c h = absurd (cc)
cast_at_is (Some d) c h =
    let s = steps (λ (items : Items). cast_in (list_of items)) (as_array d) c h in
    cast_is (list_of s.first) c s.next

-- a program that is found
pub record Has (programs : List Program) (n : Name) (g : Graph) : Type 0 where
  pub program : Program
  pub found : find (is_named n) programs ≡ Some program
  pub same : program.graph ≡ g

has_program : (programs : List Program) (n : Name) (g : Graph) → graph_named programs n ≡ Some g → Has programs n g
has_program programs n g h = by (find (is_named n) programs) refl h
  where
    by : (o : Option Program) → find (is_named n) programs ≡ o → option_map (λ (p : Program). p.graph) o ≡ Some g → Has programs n g
    by None e k = absurd (cc)
    by (Some p) e k = record { program = p; found = e; same = some_same k }

is_there : {A : Type 0} (o : Option A) → is_some o ≡ true → (x : A) × (o ≡ Some x)
is_there None h = absurd (cc)
is_there (Some x) h = (x, refl)

parts_start : (programs : List Program) (on : Option Name) (ov : Option ℕ) (oc : Option (List Name)) (s : Start) → start_from programs on ov oc ≡ Some s
    → ((v : ℕ) → ov ≡ Some v → IsVersion v) → ((c : List Name) → oc ≡ Some c → IsCast c) → IsStart programs s
parts_start programs None ov oc s h v c = absurd (cc)
parts_start programs (Some n) None oc s h v c = absurd (cc)
parts_start programs (Some n) (Some i) None s h v c = absurd (cc)
parts_start programs (Some n) (Some i) (Some names) s h v c =
    let t = tested (is_some (graph_named programs n)) (Some (record { graph = n; version = i; cast = names })) s h in
    let g = is_there (graph_named programs n) t.0 in
    let p = has_program programs n g.0 g.1 in
    let k = c names refl in
    let whole : IsStart programs (record { graph = n; version = i; cast = names }) =
    record { program = p.program; found = p.found; version = v i refl; two = k.two; sixteen = k.sixteen; names = k.names } in
    subst (IsStart programs) (some_same t.1) whole

version_is : (o : Option Data) (v : ℕ) → number_or 1 1 2 o ≡ Some v → IsVersion v
version_is o v h = let w = number_within 1 1 2 o v (omega arith) (omega arith) h in one_or_two v w.0 w.1

-- what an entry spells is a start
pub start_is : (programs : List Program) (d : Data) (s : Start) → start_of programs d ≡ Some s → IsStart programs s
unfolding start_of
start_is programs d s h =
    let e = entry_is start_keys (λ t. start_from programs (at name (codes "graph") t) (number_or 1 1 2 (get_member (codes "version") t)) (cast_of (get_member (codes "cast") t))) d s h in
    parts_start programs _ _ _ s e.read_is (version_is (get_member (codes "version") e.table)) (cast_at_is (get_member (codes "cast") e.table))

-- ---- choices

number_below : (names : List Name) (text : List ℕ) (i : ℕ) → number_of names text ≡ Some i → i < length names
number_below names text i h =
    let s = steps (λ (n : Name). position (bytes_eq n) names) (name text) i h in
    (passes_there (bytes_eq s.first) names i [] s.next).0

number_at_below : (names : List Name) (key : List ℕ) (table : Members) (i : ℕ) → at (number_of names) key table ≡ Some i → i < length names
number_at_below names key table i h =
    let s = steps (number_of names) (text_at key table) i h in
    number_below names s.first i s.next

-- pairs of numbers that rise, each at least `least` and below `most`
pub record Rising {A : Type 0} (least most : ℕ) (m : Map A) : Type 0 where
  pub rise : rises_from least (map (λ (w : ℕ × A). w.0) m) ≡ true
  pub under : AllByRecursion (λ (w : ℕ × A). w.0 < most) m

module _ {A : Type 0} (f : ℕ → Option (Option (ℕ × A))) (own : (x : ℕ) (p : ℕ × A) → f x ≡ Some (Some p) → p.0 ≡ x) where
  -- what holds of the numbers behind i
  abbrev Rest : (k i most : ℕ) → Type 0
  Rest k i most = (l : ℕ) (ys : Map A) → l ≤ suc i → all_there (filter_map f (range_from (suc i) k)) ≡ Some ys → Rising l most ys

  rising : (k i least most : ℕ) (m : Map A) → least ≤ i → i + k ≤ most → all_there (filter_map f (range_from i k)) ≡ Some m → Rising least most m
  rising zero i least most m low high h = (let e : [] ≡ m = some_same h in subst (Rising least most) e (record { rise = refl; under = tt }))
  rising (suc k) i least most m low high h = more (λ l ys low' e. rising k (suc i) l most ys low' (omega arith) e) (f i) refl h
    where
      last : Rest k i most → (p : ℕ × A) → p.0 ≡ i → (o : Option (Map A)) → all_there (filter_map f (range_from (suc i) k)) ≡ o → option_map (λ ys. p ∷ ys) o ≡ Some m → Rising least most m
      last ih p here None e' h' = absurd (cc)
      last ih p here (Some ys) e' h' =
          let whole : (p ∷ ys) ≡ m = some_same h' in
          let rest = ih (suc i) ys (omega arith) e' in
          let first : not (nat_lt p.0 least) ≡ true = grind (arith, nat_tests) in
          let tail : rises_from (suc p.0) (map (λ (w : ℕ × A). w.0) ys) ≡ true = rw here rest.rise in
          let under : p.0 < most = omega arith in
          let all : Rising least most (p ∷ ys) = record { rise = rw (first, tail) refl; under = (under, rest.under) } in
          subst (Rising least most) whole all

      more : Rest k i most → (o : Option (Option (ℕ × A))) → f i ≡ o → all_there (filter_map f (range_from i (suc k))) ≡ Some m → Rising least most m
      more ih None e h = ih least m (omega arith) (rw e at h)
      more ih (Some None) e h = (let no : None ≡ Some m = rw e at h in absurd (cc))
      more ih (Some (Some p)) e h =
          let there : option_map (λ ys. p ∷ ys) (all_there (filter_map f (range_from (suc i) k))) ≡ Some m = rw e at h in
          last ih p (own i p e) (all_there (filter_map f (range_from (suc i) k))) refl there

given_own : (names : List Name) (table : Members) (x : ℕ) (p : ℕ × Value) → given names table x ≡ Some (Some p) → p.0 ≡ x
given_own names table x p h = by (get_member (get_or names x []) table) h
  where
    inner : (o : Option Value) → option_map (λ (v : Value). (x, v)) o ≡ Some p → p.0 ≡ x
    inner None k = absurd (cc)
    inner (Some v) k = let e : (x, v) ≡ p = some_same k in sym (ap (λ (q : ℕ × Value). q.0) e)

    by : (o : Option Data) → option_map (λ (d : Data). option_map (λ (v : Value). (x, v)) (spelled_value d)) o ≡ Some (Some p) → p.0 ≡ x
    by None k = absurd (cc)
    by (Some d) k = inner (spelled_value d) (some_same k)

values_rise : (names : List Name) (o : Option Data) (m : Map Value) → values_or_none names o ≡ Some m → Rising 0 (length names) m
values_rise names None m h = (let e : [] ≡ m = some_same h in subst (Rising 0 (length names)) e (record { rise = refl; under = tt }))
values_rise names (Some d) m h =
    let s = steps (values_in names) (as_table d) m h in
    let t = tested (all_keys (λ k. is_some (number_of names k)) s.first) (all_there (filter_map (given names s.first) (below (length names)))) m s.next in
    rising (given names s.first) (given_own names s.first) (length names) 0 0 (length names) m (omega arith) (omega arith) t.1

-- each part of a choice is one
record Parts (n : Name) (om ol : Option ℕ) (ov : Option (Map Value)) (ot : Option ℕ) (c : Choice) : Type 0 where
  graph : n ≡ c.graph
  node : om ≡ Some c.node
  label : ol ≡ Some c.label
  values : ov ≡ Some c.values
  times : ot ≡ Some c.times

parts_of : (n : Name) (om ol : Option ℕ) (ov : Option (Map Value)) (ot : Option ℕ) (c : Choice) → choice_from n om ol ov ot ≡ Some c → Parts n om ol ov ot c
parts_of n None ol ov ot c h = absurd (cc)
parts_of n (Some m) None ov ot c h = absurd (cc)
parts_of n (Some m) (Some l) None ot c h = absurd (cc)
parts_of n (Some m) (Some l) (Some vs) None c h = absurd (cc)
parts_of n (Some m) (Some l) (Some vs) (Some t) c h =
    let e : record { graph = n; node = m; label = l; values = vs; times = t } ≡ c = some_same h in
    record {
      graph = ap (λ (d : Choice). d.graph) e;
      node = ap (λ (d : Choice). Some d.node) e;
      label = ap (λ (d : Choice). Some d.label) e;
      values = ap (λ (d : Choice). Some d.values) e;
      times = ap (λ (d : Choice). Some d.times) e;
    }

choice_at_is : (programs : List Program) (table : Members) (n : Name) (g : Graph) (c : Choice) → graph_named programs n ≡ Some g → choice_at table n g ≡ Some c → IsChoice programs c
choice_at_is programs table n g c found h =
    let p = has_program programs n g found in
    let parts = parts_of n (at (number_of (node_names g)) (codes "node") table) (at (number_of (edge_names g)) (codes "label") table)
    (values_or_none (variable_names g) (get_member (codes "values") table)) (number_or 1 1 1000000 (get_member (codes "times") table)) c h in
    let node = number_at_below (node_names g) (codes "node") table c.node parts.node in
    let label = number_at_below (edge_names g) (codes "label") table c.label parts.label in
    let values = values_rise (variable_names g) (get_member (codes "values") table) c.values parts.values in
    let times = number_within 1 1 1000000 (get_member (codes "times") table) c.times (omega arith) (omega arith) parts.times in
    record {
      program = p.program;
      found = subst (λ (m : Name). find (is_named m) programs ≡ Some p.program) parts.graph p.found;
      node = rw p.same (rw length-map at node);
      label = rw p.same (rw length-map at label);
      rise = values.rise;
      variables = rw p.same (All-from_recursion (λ (w : ℕ × Value). w.0 < length g.variables) c.values (subst (λ (k : ℕ). AllByRecursion (λ (w : ℕ × Value). w.0 < k) c.values) (length-map g.variables (λ v. v.name)) values.under));
      once = times.0;
      many = times.1;
    }

-- what an entry spells is a choice
pub choice_is : (programs : List Program) (d : Data) (c : Choice) → choice_of programs d ≡ Some c → IsChoice programs c
unfolding choice_of
choice_is programs d c h =
    let e = entry_is choice_keys (λ t. option_and_then (λ n. option_and_then (choice_at t n) (graph_named programs n)) (at name (codes "graph") t)) d c h in
    let n = steps (λ n. option_and_then (choice_at e.table n) (graph_named programs n)) (at name (codes "graph") e.table) c e.read_is in
    let g = steps (choice_at e.table n.first) (graph_named programs n.first) c n.next in
    choice_at_is programs e.table n.first g.first c g.was g.next

-- ---- scripts

-- a script that is spelled is one
pub script_is : (programs : List Program) (bytes : List ℕ) (s : Script) → SpellsScript programs bytes s → IsScript programs s
script_is programs bytes s (table, e, t) = record {
  starts = All-from_recursion (IsStart programs) s.starts (each_holds _ (IsStart programs) (start_is programs) t.starts s.starts t.each_start);
  choices = All-from_recursion (IsChoice programs) s.choices (each_holds _ (IsChoice programs) (choice_is programs) t.choices s.choices t.each_choice);
}

-- so is each that is answered
pub script_answered : {E : Type 0} (programs : List Program) (bytes : List ℕ) (r : Result Script E) → IfOk r (SpellsScript programs bytes) → IfOk r (IsScript programs)
script_answered programs bytes (Ok s) h = script_is programs bytes s h
script_answered programs bytes (Err e) h = tt
