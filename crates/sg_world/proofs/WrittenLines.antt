-- Lines that are written one after another.
use Rattle.std.proofs.Common.{◌≡◌, ℕ, zero, suc, ◌+◌, ◌<◌, nat_lt, Bool, true, false, if◌then◌else◌, List, [], ◌∷◌, ◌++◌, map, find, length, take, get_or, Bor, Option, Some, None, refl, sym, ◌∙◌, ap, subst, arith, append_assoc, append-nil}
use Rattle.std.proofs.lemmas.Bool.{ltb-false}
use Rattle.std.proofs.lemmas.List.{get_or_past, map_more}
use Rattle.std.specs.Prelude.{codes, OnOk, Result, Ok, Err, unwrap_or}
use Rattle.std.specs.Option.{option_map_or, option_to_list}
use Rattle.std.specs.Fmt.{decimal}
use Rattle.sg_text.specs.Sessions.{KnownSessions}
use Rattle.sg_protocol.specs.Calls.{ActFault, SendFault}
use Rattle.sg_protocol.specs.Graph.{Graph, Int, Variable}
use Rattle.sg_protocol.specs.Schedule.{who_of}
use Rattle.sg_receipt.specs.declared.refusal.ActRefusal.{ActRefusal}
use Rattle.sg_receipt.specs.declared.refusal.ActRefusal.TheVariants.{BadValues}
use Rattle.sg_report.specs.Lines.{by_whom, graph_or_none, line_text, reported_text}
use Rattle.sg_report.specs.Reasons.{act_text}
use Rattle.sg_report.specs.Outcome.{graph_in, outcome_of}
use Rattle.sg_report.specs.Report.{StepLine, line, lines_from, name_in}
use Rattle.sg_report.specs.Reported.{session_reported}
use Rattle.sg_report.specs.declared.outcome.Outcome.{Outcome}
use Rattle.sg_report.specs.declared.outcome.Outcome.TheVariants as OfStep
use Rattle.sg_world.specs.Account.{graph_reported, variable_refused}
use Rattle.sg_world.specs.RecordModel.{TakenStep}
use Rattle.sg_world.specs.KeptLines.{IsRenamed, left_by, line_kept}
use Rattle.sg_setting.specs.Setting.{Setting}

-- one more line
lines_push : (m : KnownSessions) (k : ℕ) (ls : List StepLine) (l : StepLine) → lines_from m k (ls ++ l ∷ []) ≡ lines_from m k ls ++ line m (k + length ls) l
lines_push m k [] l = append-nil (line m k l) ∙ ap (λ n. line m n l) (let e : k ≡ k + 0 = omega arith in e)
lines_push m k (x ∷ xs) l =
    let index : (k + 1) + length xs ≡ k + suc (length xs) = omega arith in
    ap (λ t. line m k x ++ t) (lines_push m (k + 1) xs l ∙ ap (λ n. lines_from m (k + 1) xs ++ line m n l) index)
    ∙ sym (append_assoc (line m k x) (lines_from m (k + 1) xs) (line m (k + suc (length xs)) l))

-- as many lines as steps
as_many : (d : Setting) (es : List TakenStep) (i : ℕ) → i < length es → length (map (line_kept d) (take i es)) ≡ i
as_many d [] i l = absurd (omega arith)
as_many d (x ∷ es) zero l = refl
as_many d (x ∷ es) (suc i) l = ap suc (as_many d es i (omega arith))

-- one more line is written
pub line_more : (m : KnownSessions) (d : Setting) (es : List TakenStep) (i : ℕ) (e : TakenStep) (old mid new : List ℕ) → i < length es → e ≡ get_or es i e
    → mid ≡ old ++ lines_from m 1 (map (line_kept d) (take i es)) → new ≡ mid ++ line m (i + 1) (line_kept d e) → new ≡ old ++ lines_from m 1 (map (line_kept d) (take (i + 1) es))
line_more m d es i e old mid new l at before written =
    let ls = map (line_kept d) (take i es) in
    let many = as_many d es i l in
    let index : i + 1 ≡ 1 + length ls = omega (arith, many) in
    let upto : map (line_kept d) (take (i + 1) es) ≡ ls ++ line_kept d e ∷ [] = map_more (line_kept d) es i e l ∙ ap (λ (x : TakenStep). ls ++ line_kept d x ∷ []) (sym at) in
    written ∙ (λ j. before j ++ line m (index j) (line_kept d e)) ∙ append_assoc old (lines_from m 1 ls) (line m (1 + length ls) (line_kept d e))
    ∙ ap (λ t. old ++ t) (sym (lines_push m 1 ls (line_kept d e)) ∙ sym (ap (lines_from m 1) upto))

-- ---- one line

module _ (gs : List Graph) (o : Outcome) where
  abbrev by_line : Option Graph
  by_line = graph_reported gs (graph_in o) (outcome_of o)

  -- the one that it is renamed to has the text of the line
  pub other_text : (other : Outcome) → IsRenamed gs o (Some other) → (session : List ℕ) → reported_text session (graph_or_none (graph_in other)) (outcome_of o) ≡ reported_text session (graph_or_none by_line) (outcome_of o)
  other_text other is session = ap (λ g. reported_text session (graph_or_none g) (outcome_of o)) is.1

-- ---- an act that was refused for a variable

module _ (gs : List Graph) (o : Outcome) (x : ℕ) (g : Bor Graph) (is : o ≡ OfStep.NotActed (BadValues x g)) where
  -- the variable that a graph has where it has none
  abbrev no_variable : Variable
  no_variable = record { name = []; kind = Int; writers = [] }

  -- the text by a graph, or by none
  abbrev refused_for : Option Graph → List ℕ
  refused_for o = codes "refused " ++ act_text (graph_or_none o) (ActFault.Send (SendFault.BadValues x))

  -- its graph has the variable
  pub not_renamed : nat_lt x (length g.now.variables) ≡ true → IsRenamed gs o None
  not_renamed has = subst (λ (z : Outcome). IsRenamed gs z None) (sym is)
      (λ session. ap (λ (b : Bool). refused_for (if b then Some g.now else find (λ (h : Graph). nat_lt x (length h.variables)) gs)) (sym has))

  -- none of the graphs has it
  pub named_nowhere : nat_lt x (length g.now.variables) ≡ false → find (λ (h : Graph). nat_lt x (length h.variables)) gs ≡ None → IsRenamed gs o None
  named_nowhere lacks none = subst (λ (z : Outcome). IsRenamed gs z None) (sym is)
      (λ session. ap (λ (v : Variable). codes "refused " ++ codes "bad-values " ++ v.name)
      (get_or_past g.now.variables x no_variable (ltb-false x (length g.now.variables) lacks) ∙ sym (get_or_past [] x no_variable (omega arith)))
      ∙ ap refused_for (sym none) ∙ ap (λ (b : Bool). refused_for (if b then Some g.now else find (λ (h : Graph). nat_lt x (length h.variables)) gs)) (sym lacks))

  -- this is the first that has it
  pub renamed_to : (h : Bor Graph) → nat_lt x (length g.now.variables) ≡ false → find (λ (h : Graph). nat_lt x (length h.variables)) gs ≡ Some h.now → IsRenamed gs o (Some (OfStep.NotActed (BadValues x h)))
  renamed_to h lacks at =
      subst (λ (z : Outcome). IsRenamed gs z (Some (OfStep.NotActed (BadValues x h)))) (sym is)
      (refl, sym (ap (λ (b : Bool). if b then Some g.now else find (λ (h : Graph). nat_lt x (length h.variables)) gs) lacks ∙ at))

-- of any other outcome the line is by its own graph
pub not_refused : (gs : List Graph) (o : Outcome) → variable_refused (outcome_of o) ≡ None → IsRenamed gs o None
not_refused gs o none = λ session.
    ap (λ (z : Option ℕ). reported_text session (graph_or_none (option_map_or (λ x. find (λ (h : Graph). nat_lt x (length h.variables)) (option_to_list (graph_in o) ++ gs)) z (graph_in o))) (outcome_of o)) (sym none)

-- none but an act is refused for a variable, and an act for bad values alone
pub not_an_act : (o : Outcome) → ((why : ActRefusal) → o ≡ OfStep.NotActed why → ⊥) → variable_refused (outcome_of o) ≡ None
not_an_act (OfStep.NotActed why) never = absurd (never why refl)
not_an_act other never = refl

pub no_bad_values : (why : ActRefusal) → ((x : ℕ) (g : Bor Graph) → why ≡ BadValues x g → ⊥) → variable_refused (outcome_of (OfStep.NotActed why)) ≡ None
no_bad_values (BadValues x g) never = absurd (never x g refl)
no_bad_values other never = refl

-- what is written of a step is its line
pub entry_written : {A E : Type 0} (res : Result A E) (m : KnownSessions) (d : Setting) (k : ℕ) (e : TakenStep) (who sid : Option (List ℕ)) (name session : List ℕ) (graph : Option Graph) (old new : List ℕ)
    → who ≡ who_of e.step → name ≡ unwrap_or who [] → sid ≡ session_reported (left_by d.sessions e.step) (outcome_of e.outcome) → session ≡ option_map_or (name_in m) sid []
    → ((session : List ℕ) → reported_text session (graph_or_none graph) (outcome_of e.outcome) ≡ reported_text session (graph_or_none (line_kept d e).graph) (outcome_of e.outcome))
    → OnOk res (new ≡ old ++ line_text session (graph_or_none graph) k name (outcome_of e.outcome)) → OnOk res (new ≡ old ++ line m k (line_kept d e))
entry_written (Err x) m d k e who sid name session graph old new is_who is_name is_sid is_session same h = tt
entry_written (Ok x) m d k e who sid name session graph old new is_who is_name is_sid is_session same h =
    h ∙ ap (λ t. old ++ (decimal k ++ 32 ∷ by_whom name (outcome_of e.outcome) ++ t ++ 10 ∷ [])) (same session)
    ∙ (λ i. old ++ line_text ((is_session ∙ ap (λ z. option_map_or (name_in m) z []) is_sid) i) (graph_or_none (line_kept d e).graph) k ((is_name ∙ ap (λ z. unwrap_or z []) is_who) i) (outcome_of e.outcome))
