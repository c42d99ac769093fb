-- What a line adds is what its tests say, one after the other.
use Rattle.std.proofs.Common.{◌≡◌, ℕ, ◌≤◌, Bool, true, false, not, ◌&&◌, ◌||◌, List, [], ◌∷◌, length, refl, sym, ap, ◌∙◌, arith, if◌then◌else◌}
use Rattle.std.specs.Prelude.{◌==◌, slice_get, Option, Some, None, Ok, Err, option_map, nat_lt, nat_le, position, bytes_eq, codes}
use Rattle.std.specs.List.{list_any, list_all}
use Rattle.std.specs.Option.{option_map_or}
use Rattle.std.proofs.lemmas.Bool.{ltb-true}
use Rattle.sg_model.specs.Limits.{most_steps}
use Rattle.sg_model.specs.Names.{Name}
use Rattle.sg_model.specs.Lists.{has_text, first_some}
use Rattle.sg_protocol.specs.Graph.{Graph}
use Rattle.sg_protocol.specs.Schedule.{Step, StartStep, ActStep, AbandonStep, DeliverStep}
use Rattle.sg_sched.specs.Pair.{edge, labels}
use Rattle.sg_sched.specs.Format.LineContents.{Word, Assignment, Delivered, EdgeLine, HonestLine, KeyLine, SessionLine, StartLine, ActLine, AbandonLine, DeliverLine}
use Rattle.sg_sched.specs.Format.Values.{bytes_of}
use Rattle.sg_sched.specs.Format.Items.{Item, EdgeItem, HonestItem, KeyItem, SessionItem, StepItem, SoFar, graphs_declared, graph_names, session_names, index, graph_for, labels_of, is_key_of}
use Rattle.sg_sched.specs.Format.Numbered.{values, what_of}
use Rattle.sg_sched.specs.Format.Kinds.{Form, TooManySteps, TooManySessions, Unknown, Twice, NotHonest}
use Rattle.sg_sched.specs.Format.Faults.{where', fits_graph, is_like, knows_variable}
use Rattle.sg_sched_text.specs.Plus.{plus}
use Rattle.sg_sched_text.specs.Adding.{Added, added, after_line, add_edge, add_honest, add_key, add_session, session_at, fits_at, add_step, start_step, abandon_step, act_step, act_of, known_values, is_twice}
use Rattle.sg_sched_text.proofs.Indices.{known_index, then_index, or_index}

-- ---- declarations

edge_tests : (past : SoFar) (late full named pair : Bool) (item : Item)
    → added past (first_some (where' (late || full) Form ∷ None ∷ where' (not true) Unknown ∷ where' (named || pair) Twice ∷ where' (not true) NotHonest ∷ [])) (Some item)
    ≡ (if late then Err Form else if full then Err Form else if named then Err Twice else if pair then Err Twice else Ok (plus past item))
edge_tests past true full named pair item = refl
edge_tests past false true named pair item = refl
edge_tests past false false true pair item = refl
edge_tests past false false false true item = refl
edge_tests past false false false false item = refl

pub edge_added : (past : SoFar) (label : Name) (from to : ℕ) → add_edge past label from to ≡ after_line past (EdgeLine label from to)
unfolding add_edge after_line
edge_added past label from to =
    sym (edge_tests past (nat_lt 0 past.group) (nat_le 512 (length past.edges)) (has_text label (labels past.edges)) (has_text (codes "pair") (graph_names past.blocks)) (EdgeItem (edge label from to)))

once_tests : (past : SoFar) (late named : Bool) (item : Item)
    → added past (first_some (where' late Form ∷ None ∷ where' (not true) Unknown ∷ where' named Twice ∷ where' (not true) NotHonest ∷ [])) (Some item)
    ≡ (if late then Err Form else if named then Err Twice else Ok (plus past item))
once_tests past true named item = refl
once_tests past false true item = refl
once_tests past false false item = refl

pub honest_added : (past : SoFar) (who : Name) → add_honest past who ≡ after_line past (HonestLine who)
unfolding add_honest after_line
honest_added past who = sym (once_tests past (nat_lt 1 past.group) (has_text who past.honest) (HonestItem who))

pub key_added : (past : SoFar) (one two : Name) (digits : Word) → add_key past one two digits ≡ after_line past (KeyLine one two digits)
unfolding add_key after_line
key_added past one two digits = sym (once_tests past (nat_lt 2 past.group) (list_any (is_key_of one two) past.keys) (KeyItem (record { one = one; two = two; key = bytes_of digits })))

session_tests : (past : SoFar) (late fits full known named like : Bool) (item : Item)
    → added past (first_some (where' (late || not fits) Form ∷ (if full then Some TooManySessions else None) ∷ where' (not known) Unknown ∷ where' (named || like) Twice ∷ where' (not true) NotHonest ∷ [])) (Some item)
    ≡ (if late then Err Form else if not fits then Err Form else if full then Err TooManySessions
    else if known then (if named then Err Twice else if like then Err Twice else Ok (plus past item)) else Err Unknown)
session_tests past true fits full known named like item = refl
session_tests past false false full known named like item = refl
session_tests past false true true known named like item = refl
session_tests past false true false false named like item = refl
session_tests past false true false true true like item = refl
session_tests past false true false true false true item = refl
session_tests past false true false true false false item = refl

fits_is : (past : SoFar) (graph : Name) (names : List Name) → fits_at past (position (bytes_eq graph) (graph_names (graphs_declared past))) names ≡ fits_graph past graph names
fits_is past graph names = ap (λ o. option_map_or (λ g. length names == length g.roles) o true) (then_index (slice_get (graphs_declared past)) graph (graph_names (graphs_declared past)))

pub session_added : (past : SoFar) (name graph : Name) (nonce : ℕ) (names : List Name) (version : ℕ)
    → add_session past name graph nonce names version ≡ after_line past (SessionLine name graph nonce names version)
unfolding add_session after_line
session_added past name graph nonce names version =
    let gs = graph_names (graphs_declared past) in
    let one : ℕ → Added = λ index.
    if has_text name (session_names past) then Err Twice
    else if list_any (is_like index nonce names version) past.sessions then Err Twice
    else Ok (plus past (SessionItem (session_at name nonce names version index))) in
    (λ i. if nat_lt 3 past.group then Err Form else if not (fits_is past graph names i) then Err Form else if nat_le 100000 (length past.sessions) then Err TooManySessions
    else or_index one (Err Unknown) graph gs i)
    ∙ sym (session_tests past (nat_lt 3 past.group) (fits_graph past graph names) (nat_le 100000 (length past.sessions)) (has_text graph gs) (has_text name (session_names past))
    (list_any (is_like (index graph gs) nonce names version) past.sessions) (SessionItem (session_at name nonce names version (index graph gs))))

-- ---- steps

step_tests : (past : SoFar) (late full known repeated honest : Bool) (made : Step) → late ≡ false
    → added past (first_some (where' late Form ∷ (if full then Some TooManySteps else None) ∷ where' (not known) Unknown ∷ where' repeated Twice ∷ where' (not honest) NotHonest ∷ [])) (Some (StepItem made))
    ≡ (if full then Err TooManySteps else option_map_or (λ s. if repeated then Err Twice else if honest then Ok (plus past (StepItem s)) else Err NotHonest) (if known then Some made else None) (Err Unknown))
step_tests past true full known repeated honest made h = absurd (cc)
step_tests past false true known repeated honest made h = refl
step_tests past false false false repeated honest made h = refl
step_tests past false false true true honest made h = refl
step_tests past false false true false false made h = refl
step_tests past false false true false true made h = refl

not_late : (n : ℕ) → n ≤ 4 → nat_lt 4 n ≡ false
not_late n h = by (nat_lt 4 n) refl
  where
    by : (b : Bool) → nat_lt 4 n ≡ b → b ≡ false
    by false e = refl
    by true e = absurd (omega (arith, ltb-true 4 n e, h))

module _ (past : SoFar) (h : past.group ≤ 4) where
  after_step : (repeated honest known : Bool) (made : Step) (step : Option Step) → step ≡ (if known then Some made else None)
      → add_step past repeated honest step
      ≡ added past (first_some (where' (nat_lt 4 past.group) Form ∷ (if nat_le most_steps (length past.steps) then Some TooManySteps else None) ∷ where' (not known) Unknown ∷ where' repeated Twice ∷ where' (not honest) NotHonest ∷ []))
      (Some (StepItem made))
  unfolding add_step
  after_step repeated honest known made step e =
      ap (add_step past repeated honest) e ∙ sym (step_tests past (nat_lt 4 past.group) (nat_le most_steps (length past.steps)) known repeated honest made (not_late past.group h))

  pub start_added : (who session : Name) → add_step past false (has_text who past.honest) (start_step past who session) ≡ after_line past (StartLine who session)
  unfolding after_line
  start_added who session =
      after_step false (has_text who past.honest) (has_text session (session_names past)) (StartStep who (index session (session_names past))) (start_step past who session)
      (known_index (StartStep who) session (session_names past))

  pub abandon_added : (who session : Name) → add_step past false (has_text who past.honest) (abandon_step past who session) ≡ after_line past (AbandonLine who session)
  unfolding after_line
  abandon_added who session =
      after_step false (has_text who past.honest) (has_text session (session_names past)) (AbandonStep who (index session (session_names past))) (abandon_step past who session)
      (known_index (AbandonStep who) session (session_names past))

  pub deliver_added : (who : Name) (what : Delivered) → add_step past false (has_text who past.honest) (Some (DeliverStep who (what_of what))) ≡ after_line past (DeliverLine who what)
  unfolding after_line
  deliver_added who what = after_step false (has_text who past.honest) true (DeliverStep who (what_of what)) (Some (DeliverStep who (what_of what))) refl

  act_tests : (a b c : Bool) (made : Step) → (if a then (if b then (if c then Some made else None) else None) else None) ≡ (if a && b && c then Some made else None)
  act_tests true true true made = refl
  act_tests true true false made = refl
  act_tests true false c made = refl
  act_tests false b c made = refl

  act_known : (g : Option Graph) (who label : Name) (vs : List Assignment) (s l : ℕ) → option_map (ActStep who s l) (known_values g vs) ≡ (if list_all (λ v. knows_variable g v.variable) vs then Some (ActStep who s l (values g vs)) else None)
  act_known g who label vs s l = by (list_all (λ v. knows_variable g v.variable) vs)
    where
      by : (b : Bool) → option_map (ActStep who s l) (if b then Some (values g vs) else None) ≡ (if b then Some (ActStep who s l (values g vs)) else None)
      by true = refl
      by false = refl

  pub act_added : (who session label : Name) (vs : List Assignment)
      → add_step past (is_twice vs) (has_text who past.honest) (act_step past who session label vs) ≡ after_line past (ActLine who session label vs)
  unfolding after_line
  act_added who session label vs =
      let g = graph_for session past in
      let s = index session (session_names past) in
      let l = index label (labels_of g) in
      let made = ActStep who s l (values g vs) in
      let all = list_all (λ v. knows_variable g v.variable) vs in
      let step : act_step past who session label vs ≡ (if has_text session (session_names past) && has_text label (labels_of g) && all then Some made else None) =
      then_index (act_of g who label vs) session (session_names past)
      ∙ ap (λ o. if has_text session (session_names past) then o else None) (then_index (λ n. option_map (ActStep who s n) (known_values g vs)) label (labels_of g)
      ∙ ap (λ o. if has_text label (labels_of g) then o else None) (act_known g who label vs s l))
      ∙ act_tests (has_text session (session_names past)) (has_text label (labels_of g)) all made in
      after_step (is_twice vs) (has_text who past.honest) (has_text session (session_names past) && has_text label (labels_of g) && all) made (act_step past who session label vs) step
