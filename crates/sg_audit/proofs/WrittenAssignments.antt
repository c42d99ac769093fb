-- VAR=VALUE, as it is read and as it is written.
use Rattle.std.specs.Prelude.{◌≡◌, Bool, true, false, ◌&&◌, ◌||◌, if◌then◌else◌, List, [], ◌∷◌, map, codes, bytes_eq, refl, Option, Some, None, option_map, option_and_then, is_some, unwrap_or}
use Rattle.std.specs.List.{list_all}
use Rattle.std.proofs.Common.{sym, ◌∙◌, ap}
use Rattle.sg_model.specs.Lists.{has_text}
use Rattle.sg_model.specs.Names.{Name, is_name}
use Rattle.sg_model.specs.Values.{Value, TextValue}
use Rattle.sg_model.proofs.Small.{and_left, and_right, some_same}
use Rattle.sg_parse.specs.Reading.{index_of}
use Rattle.sg_sched.specs.Format.LineContents.{Word, Assignment as Pair, assignment_word}
use Rattle.sg_sched.specs.Format.Values.{spelled_value, is_value, value_of}
use Rattle.sg_sched.specs.Format.Reading.{split_at}
use Rattle.sg_sched.proofs.FormLaws.{none_some}
use Rattle.sg_sched.proofs.PartLaws.{split_is, split_ok}
use Rattle.sg_sched.proofs.FormatWords.{both, name_lacks}
use Rattle.sg_audit.specs.LineContents.{Assignments, one_assigned, both_assigned}
use Rattle.sg_audit.specs.Reading.{as_named, assigned, all_assigned, shown_or_hidden}
use Rattle.sg_audit.specs.Written.{shown_value, assigned_in}

-- a reader of values: which words it takes, and what they are
pub record IsReader {A : Type 0} (read : Word → Option A) (ok : Word → Bool) (value : Word → A) : Type 0 where
  pub reads : (w : Word) → read w ≡ (if ok w then Some (value w) else None)

pub of_values : IsReader spelled_value is_value value_of
of_values = record { reads = λ w. by (spelled_value w) }
  where
    by : (o : Option Value) → o ≡ (if is_some o then Some (unwrap_or o (TextValue [])) else None)
    by None = refl
    by (Some v) = refl

-- a value, or ? for a hidden one
abbrev pub is_shown : Word → Bool
is_shown w = bytes_eq w (codes "?") || is_value w

pub of_writes : IsReader shown_or_hidden is_shown shown_value
unfolding shown_or_hidden
of_writes = record { reads = λ w. by (bytes_eq w (codes "?")) (spelled_value w) }
  where
    by : (b : Bool) (o : Option Value) → (if b then Some None else option_map (λ v. Some v) o) ≡ (if b || is_some o then Some (if b then None else Some (unwrap_or o (TextValue []))) else None)
    by true o = refl
    by false None = refl
    by false (Some v) = refl

-- ---- one word

-- a word that is VAR=VALUE, and what it gives
pub record Pairs {A : Type 0} (names : List Name) (ok : Word → Bool) (value : Word → A) (w : Word) (v : Assignments A) : Type 0 where
  pub pair : Pair
  pub spelled : w ≡ assignment_word pair
  pub form : (is_name pair.variable && ok pair.value) ≡ true
  pub gives : v ≡ one_assigned names pair.variable (value pair.value)

pub pair_is : {A : Type 0} (names : List Name) (read : Word → Option A) (ok : Word → Bool) (value : Word → A) → IsReader read ok value → (w : Word) (v : Assignments A) → assigned names read w ≡ Some v → Pairs names ok value w v
unfolding assigned
pair_is {A} names read ok value r w v h = found (split_at 61 w) refl h
  where
    valued : (p : Word × Word) → split_at 61 w ≡ Some p → is_name p.0 ≡ true → (b : Bool) → ok p.1 ≡ b → option_map (one_assigned names p.0) (if b then Some (value p.1) else None) ≡ Some v → Pairs names ok value w v
    valued p e n true q h = record { pair = record { variable = p.0; value = p.1 }; spelled = split_is 61 w p.0 p.1 e; form = both n q; gives = sym (some_same h) }
    valued p e n false q h = none_some h

    named : (p : Word × Word) → split_at 61 w ≡ Some p → (b : Bool) → is_name p.0 ≡ b → (if b then option_map (one_assigned names p.0) (read p.1) else None) ≡ Some v → Pairs names ok value w v
    named p e true n h = valued p e n (ok p.1) refl (sym (ap (option_map (one_assigned names p.0)) (r.reads p.1)) ∙ h)
    named p e false n h = none_some h

    found : (o : Option (Word × Word)) → split_at 61 w ≡ o → option_and_then (as_named names read) o ≡ Some v → Pairs names ok value w v
    found None e h = none_some h
    found (Some p) e h = named p e (is_name p.0) refl h

pub pair_ok : {A : Type 0} (names : List Name) (read : Word → Option A) (ok : Word → Bool) (value : Word → A) → IsReader read ok value → (p : Pair) → (is_name p.variable && ok p.value) ≡ true
    → assigned names read (assignment_word p) ≡ Some (one_assigned names p.variable (value p.value))
unfolding assigned
pair_ok names read ok value r p h =
    let n = and_left (is_name p.variable) (ok p.value) h in
    let v = and_right (is_name p.variable) (ok p.value) h in
    ap (option_and_then (as_named names read)) (split_ok 61 p.variable p.value (name_lacks 61 p.variable refl n))
    ∙ ap (λ b. if b then option_map (one_assigned names p.variable) (read p.value) else None) n
    ∙ ap (option_map (one_assigned names p.variable)) (r.reads p.value ∙ ap (λ b. if b then Some (value p.value) else None) v)

-- ---- all words

and_swap : (a b : Bool) → (a && b) ≡ (b && a)
and_swap true true = refl
and_swap true false = refl
and_swap false true = refl
and_swap false false = refl

-- one in front of the others
pub in_prefix : {A : Type 0} (names : List Name) (value : Word → A) (p : Pair) (ps : List Pair) → both_assigned (one_assigned names p.variable (value p.value)) (assigned_in names value ps) ≡ assigned_in names value (p ∷ ps)
in_prefix {A} names value p ps = by (has_text p.variable names) refl
  where
    rest : Assignments A
    rest = assigned_in names value ps

    by : (b : Bool) → has_text p.variable names ≡ b → both_assigned (one_assigned names p.variable (value p.value)) (assigned_in names value ps) ≡ assigned_in names value (p ∷ ps)
    by true e = rw e (λ i. record { pairs = (index_of p.variable names, value p.value) ∷ rest.pairs; known = and_swap rest.known true i })
    by false e = rw e (λ i. record { pairs = rest.pairs; known = and_swap rest.known false i })

-- words that are VAR=VALUE, and what they give
pub record AllPairs {A : Type 0} (names : List Name) (ok : Word → Bool) (value : Word → A) (ws : List Word) (v : Assignments A) : Type 0 where
  pub list : List Pair
  pub spelled : ws ≡ map assignment_word list
  pub form : list_all (λ p. is_name p.variable && ok p.value) list ≡ true
  pub gives : v ≡ assigned_in names value list

pub pairs_are : {A : Type 0} (names : List Name) (read : Word → Option A) (ok : Word → Bool) (value : Word → A) → IsReader read ok value → (ws : List Word) (v : Assignments A) → all_assigned names read ws ≡ Some v → AllPairs names ok value ws v
pairs_are names read ok value r [] v h = record { list = []; spelled = refl; form = refl; gives = sym (some_same h) }
pairs_are {A} names read ok value r (w ∷ ws) v h = first (assigned names read w) refl (pairs_are names read ok value r ws) h
  where
    rest : ((u : Assignments A) → all_assigned names read ws ≡ Some u → AllPairs names ok value ws u) → (x : Assignments A) → assigned names read w ≡ Some x → (o : Option (Assignments A)) → all_assigned names read ws ≡ o → option_map (both_assigned x) o ≡ Some v → AllPairs names ok value (w ∷ ws) v
    rest ih x e None f h = none_some h
    rest ih x e (Some u) f h =
        let a = pair_is names read ok value r w x e in
        let b = ih u f in
        record {
          list = a.pair ∷ b.list;
          spelled = λ i. a.spelled i ∷ b.spelled i;
          form = both a.form b.form;
          gives = sym (some_same h) ∙ (λ i. both_assigned (a.gives i) (b.gives i)) ∙ in_prefix names value a.pair b.list;
        }

    first : (o : Option (Assignments A)) → assigned names read w ≡ o → ((u : Assignments A) → all_assigned names read ws ≡ Some u → AllPairs names ok value ws u) → option_and_then (λ v. option_map (both_assigned v) (all_assigned names read ws)) o ≡ Some v → AllPairs names ok value (w ∷ ws) v
    first None e ih h = none_some h
    first (Some x) e ih h = rest ih x e (all_assigned names read ws) refl h

pub pairs_ok : {A : Type 0} (names : List Name) (read : Word → Option A) (ok : Word → Bool) (value : Word → A) → IsReader read ok value → (ps : List Pair) → list_all (λ p. is_name p.variable && ok p.value) ps ≡ true
    → all_assigned names read (map assignment_word ps) ≡ Some (assigned_in names value ps)
pairs_ok names read ok value r [] h = refl
pairs_ok names read ok value r (p ∷ ps) h =
    let a = pair_ok names read ok value r p (and_left (is_name p.variable && ok p.value) (list_all (λ p. is_name p.variable && ok p.value) ps) h) in
    let b = pairs_ok names read ok value r ps (and_right (is_name p.variable && ok p.value) (list_all (λ p. is_name p.variable && ok p.value) ps) h) in
    (λ i. option_and_then (λ v. option_map (both_assigned v) (b i)) (a i)) ∙ ap Some (in_prefix names value p ps)
