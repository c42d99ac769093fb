-- The steps of a walk, as they are read and as they are written.
use Rattle.std.specs.Prelude.{◌≡◌, ℕ, ◌-◌, ◌==◌, nat_lt, Bool, true, false, not, ◌&&◌, if◌then◌else◌, List, [], ◌∷◌, ◌++◌, map, length, take, slice_index, codes, refl, Option, Some, None, option_map, option_and_then}
use Rattle.std.specs.List.{list_all}
use Rattle.std.specs.Option.{option_map_or}
use Rattle.std.proofs.Common.{sym, ◌∙◌, ap, arith, true≢false, append-nil}
use Rattle.std.proofs.lemmas.Grind.{common_steps}
use Rattle.std.proofs.lemmas.Bool.{eqb-true}
use Rattle.sg_model.specs.Names.{Name, is_name}
use Rattle.sg_model.specs.Values.{Value}
use Rattle.sg_model.proofs.Small.{and_left, and_right, some_same}
use Rattle.sg_protocol.specs.Graph.{Graph}
use Rattle.sg_graph.specs.Parts.{variable_names, edge_names}
use Rattle.sg_sched.specs.Format.LineContents.{Word, Assignment as Pair, assignment_word, joined_names}
use Rattle.sg_sched.specs.Format.Reading.{split_at}
use Rattle.sg_sched.proofs.FormLaws.{none_some}
use Rattle.sg_sched.proofs.PartLaws.{split_is, split_ok}
use Rattle.sg_sched.proofs.FormatWords.{both, lacks, name_lacks}
use Rattle.sg_audit.specs.LineContents.{Assignments, StepContent, numbered}
use Rattle.sg_audit.specs.Reading.{all_assigned, shown_or_hidden, parts, unclosed, written, labelled, unstarred, step, steps}
use Rattle.sg_audit.specs.Written.{WrittenStep, writes_word, step_word, is_write, is_step, shown_value, assigned_in, step_in}
use Rattle.sg_audit.proofs.WrittenAssignments.{of_writes, is_shown, pairs_are, pairs_ok}
use Rattle.sg_audit.proofs.WrittenSteps.{Split, split_of, parts_joined, closed_writes}

-- ---- what stands before )

unclosed_ok : (v : Word) → unclosed (v ++ 41 ∷ []) ≡ Some v
unclosed_ok v =
    let at : slice_index (v ++ 41 ∷ []) (length (v ++ 41 ∷ []) - 1) ≡ 41 = grind (arith, common_steps) in
    let prefix : take (length (v ++ 41 ∷ []) - 1) (v ++ 41 ∷ []) ≡ v = grind (arith, common_steps) in
    rw (at, prefix) refl

ends_with : (c : ℕ) (cs : Word) → slice_index (c ∷ cs) (length cs) ≡ 41 → c ∷ cs ≡ take (length cs) (c ∷ cs) ++ 41 ∷ []
ends_with c [] e = λ i. e i ∷ []
ends_with c (d ∷ ds) e = ap (λ xs. c ∷ xs) (ends_with d ds e)

unclosed_is : (w v : Word) → unclosed w ≡ Some v → w ≡ v ++ 41 ∷ []
unclosed_is [] v h = none_some h
unclosed_is (c ∷ cs) v h = by (slice_index (c ∷ cs) (length (c ∷ cs) - 1) == 41) refl h
  where
    less : length (c ∷ cs) - 1 ≡ length cs
    less = omega arith

    by : (b : Bool) → (slice_index (c ∷ cs) (length (c ∷ cs) - 1) == 41) ≡ b → (if b then Some (take (length (c ∷ cs) - 1) (c ∷ cs)) else None) ≡ Some v → c ∷ cs ≡ v ++ 41 ∷ []
    by false e h = none_some h
    by true e h =
        let last : slice_index (c ∷ cs) (length cs) ≡ 41 = ap (slice_index (c ∷ cs)) (sym less) ∙ eqb-true _ 41 e in
        ends_with c cs last ∙ ap (λ n. take n (c ∷ cs) ++ 41 ∷ []) (sym less) ∙ ap (λ x. x ++ 41 ∷ []) (some_same h)

-- ---- what a step writes

-- one write at least
abbrev pub are_some : List Pair → Bool
are_some ps = nat_lt 0 (length ps) && list_all is_write ps

pub record Writes (names : List Name) (w : Word) (v : Assignments (Option Value)) : Type 0 where
  pub list : List Pair
  pub spelled : w ≡ joined_names (map assignment_word list) ++ 41 ∷ []
  pub form : are_some list ≡ true
  pub gives : v ≡ assigned_in names shown_value list

some_length : (p : Pair) (ps : List Pair) → nat_lt 0 (length (p ∷ ps)) ≡ true
some_length p ps = grind (arith, common_steps)

writes_are : (names : List Name) (w : Word) (v : Assignments (Option Value)) → written names w ≡ Some v → Writes names w v
writes_are names w v h = found (unclosed w) refl h
  where
    listed : (inner : Word) → w ≡ inner ++ 41 ∷ [] → (s : Split false inner) → (ps : List Pair) → parts false inner ≡ map assignment_word ps → list_all is_write ps ≡ true → v ≡ assigned_in names shown_value ps → Writes names w v
    listed inner e s [] f g k = let bad : s.first ∷ s.more ≡ [] = sym s.all ∙ f in absurd (cc)
    listed inner e s (p ∷ ps) f g k = record {
      list = p ∷ ps;
      spelled = e ∙ ap (λ x. x ++ 41 ∷ []) (sym (ap joined_names (sym f ∙ s.all) ∙ s.back));
      form = both (some_length p ps) g;
      gives = k;
    }

    found : (o : Option Word) → unclosed w ≡ o → option_and_then (λ inner. all_assigned names shown_or_hidden (parts false inner)) o ≡ Some v → Writes names w v
    found None e h = none_some h
    found (Some inner) e h =
        let a = pairs_are names shown_or_hidden is_shown shown_value of_writes (parts false inner) v h in
        listed inner (unclosed_is w inner e) (split_of false inner) a.list a.spelled a.form a.gives

writes_ok : (names : List Name) (ps : List Pair) → are_some ps ≡ true → written names (joined_names (map assignment_word ps) ++ 41 ∷ []) ≡ Some (assigned_in names shown_value ps)
writes_ok names [] h = absurd (true≢false (sym h))
writes_ok names (p ∷ ps) h =
    let all : list_all is_write (p ∷ ps) ≡ true = and_right (nat_lt 0 (length (p ∷ ps))) (list_all is_write (p ∷ ps)) h in
    ap (option_and_then (λ inner. all_assigned names shown_or_hidden (parts false inner))) (unclosed_ok (joined_names (map assignment_word (p ∷ ps))))
    ∙ ap (all_assigned names shown_or_hidden) (parts_joined (assignment_word p) (map assignment_word ps) (closed_writes (p ∷ ps) all))
    ∙ pairs_ok names shown_or_hidden is_shown shown_value of_writes (p ∷ ps) all

-- ---- steps

split_lacks : (mark : ℕ) (w : Word) → lacks mark w ≡ true → split_at mark w ≡ None
split_lacks mark [] h = refl
split_lacks mark (c ∷ cs) h = by (split_lacks mark cs (and_right (not (c == mark)) (lacks mark cs) h)) (c == mark) refl (and_left (not (c == mark)) (lacks mark cs) h)
  where
    by : split_at mark cs ≡ None → (b : Bool) → (c == mark) ≡ b → not (c == mark) ≡ true → split_at mark (c ∷ cs) ≡ None
    by rest false e l = rw (e, rest) refl
    by rest true e l = absurd (true≢false (sym l ∙ ap not e))

-- a name has no star in front
no_star : (n rest : Word) → is_name n ≡ true → unstarred (n ++ rest) ≡ n ++ rest
no_star [] rest h = absurd (true≢false (sym h))
no_star (c ∷ cs) rest h =
    let lack : lacks 42 (c ∷ cs) ≡ true = name_lacks 42 (c ∷ cs) refl h in
    by (c == 42) refl (and_left (not (c == 42)) (lacks 42 cs) lack)
  where
    by : (b : Bool) → (c == 42) ≡ b → not (c == 42) ≡ true → unstarred (c ∷ (cs ++ rest)) ≡ c ∷ (cs ++ rest)
    by false e l = rw e refl
    by true e l = absurd (true≢false (sym l ∙ ap not e))

unstar_ok : (s : WrittenStep) → is_name s.label ≡ true → unstarred (step_word s) ≡ s.label ++ writes_word s.writes
unstar_ok s n = by s.starred
  where
    by : (b : Bool) → unstarred ((if b then codes "*" else []) ++ (s.label ++ writes_word s.writes)) ≡ s.label ++ writes_word s.writes
    by true = refl
    by false = no_star s.label (writes_word s.writes) n

-- a word is what it is without its star, with or without a star
pub record Star (w : Word) : Type 0 where
  pub starred : Bool
  pub all : w ≡ (if starred then codes "*" else []) ++ unstarred w

star_of : (w : Word) → Star w
star_of [] = record { starred = false; all = refl }
star_of (c ∷ cs) = by (c == 42) refl
  where
    by : (b : Bool) → (c == 42) ≡ b → Star (c ∷ cs)
    by true e = record { starred = true; all = rw e (ap (λ x. x ∷ cs) (eqb-true c 42 e)) }
    by false e = record { starred = false; all = rw e refl }

pub record Steps (g : Graph) (w : Word) (s : StepContent) : Type 0 where
  pub written : WrittenStep
  pub spelled : w ≡ step_word written
  pub form : is_step written ≡ true
  pub says : step_in g written ≡ s

pub step_is : (g : Graph) (w : Word) (s : StepContent) → step g w ≡ Some s → Steps g w s
unfolding step
step_is g w s h = found (split_at 40 (unstarred w)) refl h
  where
    star : Star w
    star = star_of w

    bare : (b : Bool) → is_name (unstarred w) ≡ b → (if b then Some (record { label = numbered (edge_names g) (unstarred w); writes = record { pairs = []; known = true } }) else None) ≡ Some s → Steps g w s
    bare false e h = none_some h
    bare true e h = record {
      written = record { starred = star.starred; label = unstarred w; writes = None };
      spelled = star.all ∙ ap (λ x. (if star.starred then codes "*" else []) ++ x) (sym (append-nil (unstarred w)));
      form = both e refl;
      says = some_same h;
    }

    listed : (p : Word × Word) → split_at 40 (unstarred w) ≡ Some p → is_name p.0 ≡ true → (o : Option (Assignments (Option Value))) → written (variable_names g) p.1 ≡ o
        → option_map (λ writes. record { label = numbered (edge_names g) p.0; writes = writes }) o ≡ Some s → Steps g w s
    listed p e n None f h = none_some h
    listed p e n (Some v) f h =
        let a = writes_are (variable_names g) p.1 v f in
        record {
          written = record { starred = star.starred; label = p.0; writes = Some a.list };
          spelled = star.all ∙ ap (λ x. (if star.starred then codes "*" else []) ++ x) (split_is 40 (unstarred w) p.0 p.1 e ∙ ap (λ x. p.0 ++ 40 ∷ x) a.spelled);
          form = both n a.form;
          says = (λ i. record { label = numbered (edge_names g) p.0; writes = sym a.gives i }) ∙ some_same h;
        }

    named : (p : Word × Word) → split_at 40 (unstarred w) ≡ Some p → (b : Bool) → is_name p.0 ≡ b
        → (if b then option_map (λ writes. record { label = numbered (edge_names g) p.0; writes = writes }) (written (variable_names g) p.1) else None) ≡ Some s → Steps g w s
    named p e false n h = none_some h
    named p e true n h = listed p e n (written (variable_names g) p.1) refl h

    found : (o : Option (Word × Word)) → split_at 40 (unstarred w) ≡ o → labelled g (unstarred w) o ≡ Some s → Steps g w s
    found None e h = bare (is_name (unstarred w)) refl h
    found (Some p) e h = named p e (is_name p.0) refl h

pub step_ok : (g : Graph) (s : WrittenStep) → is_step s ≡ true → step g (step_word s) ≡ Some (step_in g s)
unfolding step
step_ok g s h =
    let n = and_left (is_name s.label) (option_map_or are_some s.writes true) h in
    ap (λ u. labelled g u (split_at 40 u)) (unstar_ok s n) ∙ by s.writes refl n (and_right (is_name s.label) (option_map_or are_some s.writes true) h)
  where
    by : (o : Option (List Pair)) → s.writes ≡ o → is_name s.label ≡ true → option_map_or are_some o true ≡ true
        → labelled g (s.label ++ writes_word s.writes) (split_at 40 (s.label ++ writes_word s.writes)) ≡ Some (record { label = numbered (edge_names g) s.label; writes = assigned_in (variable_names g) shown_value (option_map_or (λ ps. ps) s.writes []) })
    by None e n f =
        let plain : s.label ++ writes_word s.writes ≡ s.label = ap (λ o. s.label ++ writes_word o) e ∙ append-nil s.label in
        ap (λ u. labelled g u (split_at 40 u)) plain ∙ ap (labelled g s.label) (split_lacks 40 s.label (name_lacks 40 s.label refl n))
        ∙ ap (λ b. if b then Some (record { label = numbered (edge_names g) s.label; writes = record { pairs = []; known = true } }) else None) n
        ∙ ap (λ o. Some (record { label = numbered (edge_names g) s.label; writes = assigned_in (variable_names g) shown_value (option_map_or (λ ps. ps) o []) })) (sym e)
    by (Some ps) e n f =
        let rest : Word = joined_names (map assignment_word ps) ++ 41 ∷ [] in
        ap (λ o. labelled g (s.label ++ writes_word o) (split_at 40 (s.label ++ writes_word o))) e
        ∙ ap (labelled g (s.label ++ 40 ∷ rest)) (split_ok 40 s.label rest (name_lacks 40 s.label refl n))
        ∙ ap (λ b. if b then option_map (λ writes. record { label = numbered (edge_names g) s.label; writes = writes }) (written (variable_names g) rest) else None) n
        ∙ ap (option_map (λ writes. record { label = numbered (edge_names g) s.label; writes = writes })) (writes_ok (variable_names g) ps f)
        ∙ ap (λ o. Some (record { label = numbered (edge_names g) s.label; writes = assigned_in (variable_names g) shown_value (option_map_or (λ ps. ps) o []) })) (sym e)

pub record AllSteps (g : Graph) (ws : List Word) (ss : List StepContent) : Type 0 where
  pub list : List WrittenStep
  pub spelled : ws ≡ map step_word list
  pub form : list_all is_step list ≡ true
  pub says : map (step_in g) list ≡ ss

pub steps_are : (g : Graph) (ws : List Word) (ss : List StepContent) → steps g ws ≡ Some ss → AllSteps g ws ss
steps_are g [] ss h = record { list = []; spelled = refl; form = refl; says = some_same h }
steps_are g (w ∷ ws) ss h = first (step g w) refl (steps_are g ws) h
  where
    rest : ((us : List StepContent) → steps g ws ≡ Some us → AllSteps g ws us) → (s : StepContent) → step g w ≡ Some s → (o : Option (List StepContent)) → steps g ws ≡ o → option_map (λ us. s ∷ us) o ≡ Some ss → AllSteps g (w ∷ ws) ss
    rest ih s e None f h = none_some h
    rest ih s e (Some us) f h =
        let a = step_is g w s e in
        let b = ih us f in
        record { list = a.written ∷ b.list; spelled = λ i. a.spelled i ∷ b.spelled i; form = both a.form b.form; says = (λ i. a.says i ∷ b.says i) ∙ some_same h }

    first : (o : Option StepContent) → step g w ≡ o → ((us : List StepContent) → steps g ws ≡ Some us → AllSteps g ws us) → option_and_then (λ s. option_map (λ us. s ∷ us) (steps g ws)) o ≡ Some ss → AllSteps g (w ∷ ws) ss
    first None e ih h = none_some h
    first (Some s) e ih h = rest ih s e (steps g ws) refl h

pub steps_ok : (g : Graph) (ss : List WrittenStep) → list_all is_step ss ≡ true → steps g (map step_word ss) ≡ Some (map (step_in g) ss)
steps_ok g [] h = refl
steps_ok g (s ∷ ss) h =
    let a = step_ok g s (and_left (is_step s) (list_all is_step ss) h) in
    let b = steps_ok g ss (and_right (is_step s) (list_all is_step ss) h) in
    λ i. option_and_then (λ s. option_map (λ us. s ∷ us) (b i)) (a i)
