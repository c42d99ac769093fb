-- What is written is the report of the account.
use Rattle.std.proofs.Common.{◌≡◌, ◌≢◌, ℕ, Bool, true, false, ◌&&◌, not, List, [], ◌∷◌, ◌++◌, map, flat_map, filter, if◌then◌else◌, bytes_eq, Option, Some, None, is_none, is_some, option_map, MatchBool, OnOk, Result, Ok, Err, refl, sym, ◌∙◌, ap}
use Rattle.std.specs.List.{AllByRecursion}
use Rattle.std.proofs.lemmas.Bool.{and_parts}
use Rattle.std.proofs.lemmas.List.Elements.{All-from_recursion}
use Rattle.sg_text.proofs.Steps.{walk_line-same}
use Rattle.sg_text.specs.Walks.{walk_line}
use Rattle.sg_model.specs.Lists.{has_text, is_in}
use Rattle.sg_protocol.proofs.Broken.{collision_is_first, forged_is_first}
use Rattle.sg_protocol.specs.Broken.{first_collision, first_forged}
use Rattle.sg_protocol.specs.Calls.{Event, sid_of}
use Rattle.sg_protocol.specs.Graph.{Graph}
use Rattle.sg_protocol.specs.Notes.{Note}
use Rattle.sg_protocol.specs.Premises.{hashed}
use Rattle.sg_protocol.specs.Texts.{real}
use Rattle.sg_report.specs.Report.{Explains, IsReport, SessionWalk, lines_from, known_sessions, name_in, premise_lines, premises_hold, walk_of}
use Rattle.sg_world.specs.Account.{account, forgery, honest_in}
use Rattle.sg_setting.specs.Replay.{Replay, run_of}
use Rattle.sg_world.specs.Walked.{IsPath, Path, PremisesHold, WalksAreWritten, path_line}
use Rattle.sg_world.proofs.PremiseLaws.{collision_free_is, unforged_is}
use Rattle.sg_world.proofs.WalkLaws.{none_with_event, some_with_event}

-- ---- the assumptions

pub not_not : (b : Bool) → not (not b) ≡ b
not_not true = refl
not_not false = refl

pub on_ok : {A E P Q : Type 0} (res : Result A E) → (P → Q) → OnOk res P → OnOk res Q
on_ok (Ok x) f h = f h
on_ok (Err x) f h = tt

none_of : {A B : Type 0} (f : A → B) (o : Option A) → is_none (option_map f o) ≡ true → o ≡ None
none_of f None h = refl
none_of f (Some x) h = absurd (let z : false ≡ true = h in cc)

none_is : {A : Type 0} (o : Option A) → is_none o ≡ true → o ≡ None
none_is None h = refl
none_is (Some x) h = absurd (let z : false ≡ true = h in cc)

-- both assumptions hold if the account says so
pub hold_is : (r : Replay) → premises_hold (account r) ≡ true → PremisesHold r
hold_is r h =
    let both = and_parts (is_none (account r).forged) (account r).collision_free h in
    record { unforged = unforged_is r (none_of forgery (first_forged r.schedule (run_of r)) both.0); collision_free = collision_free_is r (none_is (first_collision real (hashed r.schedule (run_of r))) both.1) }

-- and the account says so if they do
pub says_hold : (r : Replay) → PremisesHold r → premises_hold (account r) ≡ true
says_hold r p =
    let texts = hashed r.schedule (run_of r) in
    ap (λ o. is_none (option_map forgery o) && is_none (first_collision real texts)) ((forged_is_first r.schedule (run_of r)).0.1 p.unforged) ∙ ap (λ o. is_none o) ((collision_is_first real texts).0.1 p.collision_free)

-- a forged note breaks them
pub forged_breaks : {X : Type 0} (r : Replay) (f : X → ℕ × Note) (o : Option X) → option_map f o ≡ first_forged r.schedule (run_of r) → is_some o ≡ true → PremisesHold r → ⊥
forged_breaks r f None e h p = absurd (let z : false ≡ true = h in cc)
forged_breaks r f (Some x) e h p = let none : Some (f x) ≡ None = e ∙ (forged_is_first r.schedule (run_of r)).0.1 p.unforged in cc

-- and if there is none, a collision says it
pub collision_says : {X Y : Type 0} (r : Replay) (f : X → ℕ × Note) (g : Y → List ℕ × List ℕ) (a : Option X) (b : Option Y) → option_map f a ≡ first_forged r.schedule (run_of r) → is_some a ≡ false
    → option_map g b ≡ first_collision real (hashed r.schedule (run_of r)) → MatchBool (not (is_some b)) (PremisesHold r) (PremisesHold r → ⊥)
collision_says r f g (Some x) b e h q = absurd (let z : true ≡ false = h in cc)
collision_says r f g None None e h q = record { unforged = unforged_is r (sym e); collision_free = collision_free_is r (sym q) }
collision_says r f g None (Some y) e h q = λ p. (let none : Some (g y) ≡ None = q ∙ (collision_is_first real (hashed r.schedule (run_of r))).0.1 p.collision_free in cc)

-- ---- events

-- the sid is that of an event, or there is no such session
pub event_there : (b : Bool) (es : List Event) (sid : List ℕ) → b ≡ has_text sid (map sid_of es) → MatchBool b (filter (λ e. bytes_eq (sid_of e) sid) es ≢ []) (filter (λ e. bytes_eq (sid_of e) sid) es ≡ [])
event_there true es sid h = some_with_event es sid (sym h)
event_there false es sid h = none_with_event es sid (sym h)

-- ---- the text

-- a walk as the report has it
abbrev session_walk : Path → SessionWalk
session_walk p = record { sid = p.sid; steps = p.steps }

module _ (r : Replay) where
  line_is : (p : Path) → IsPath r p → path_line (known_sessions (account r)) p ≡ walk_of (account r) (session_walk p)
  line_is p h =
      walk_line-same (name_in (known_sessions (account r)) p.sid) p.graph (λ role. is_in role p.honest) (honest_in r p.sid) h.honest p.steps
      ∙ ap (λ (g : Graph). walk_line (name_in (known_sessions (account r)) p.sid) g (honest_in r p.sid) p.steps) h.graph

  lines_are : (ps : List Path) → AllByRecursion (IsPath r) ps → flat_map (path_line (known_sessions (account r))) ps ≡ flat_map (walk_of (account r)) (map session_walk ps)
  lines_are [] h = refl
  lines_are (p ∷ ps) h =
      let here : path_line (known_sessions (account r)) p ≡ walk_of (account r) (session_walk p) = line_is p h.0 in
      let rest : flat_map (path_line (known_sessions (account r))) ps ≡ flat_map (walk_of (account r)) (map session_walk ps) = lines_are ps h.1 in
      λ i. here i ++ rest i

  explain : (ps : List Path) → AllByRecursion (IsPath r) ps → AllByRecursion (Explains (account r)) (map session_walk ps)
  explain [] h = tt
  explain (p ∷ ps) h = ((h.0).path, explain ps h.1)

  sids_are : (ps : List Path) → map (λ (w : SessionWalk). w.sid) (map session_walk ps) ≡ map (λ (p : Path). p.sid) ps
  sids_are [] = refl
  sids_are (p ∷ ps) = ap (λ (z : List (List ℕ)). p.sid ∷ z) (sids_are ps)

  -- with the walks, if the assumptions hold
  pub report_with : (one two three : List ℕ) → one ≡ lines_from (known_sessions (account r)) 1 (account r).lines → two ≡ one ++ premise_lines (account r).forged (account r).collision_free
      → premises_hold (account r) ≡ true → WalksAreWritten r two three → IsReport (account r) three
  report_with one two three lines premises hold w = record {
    walks = map session_walk w.paths;
    right = λ h. record { sessions = sids_are w.paths ∙ w.sids; explain = All-from_recursion (Explains (account r)) (map session_walk w.paths) (explain w.paths w.each) };
    spelled = w.text ∙ (λ i. premises i ++ lines_are w.paths w.each i) ∙ ap (λ z. (z ++ premise_lines (account r).forged (account r).collision_free) ++ flat_map (walk_of (account r)) (map session_walk w.paths)) lines
        ∙ ap (λ b. lines_from (known_sessions (account r)) 1 (account r).lines ++ premise_lines (account r).forged (account r).collision_free ++ (if b then flat_map (walk_of (account r)) (map session_walk w.paths) else [])) (sym hold);
  }
