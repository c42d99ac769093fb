-- The steps of the schedule that bytes spell: each is a craft or an honest principal's.
use Rattle.std.proofs.Common.{◌≡◌, ℕ, ◌≤◌, ◌&&◌, Bool, true, List, [], ◌∷◌, ◌++◌, refl, sym, ap, ◌∙◌, subst, arith, append-nil}
use Rattle.std.specs.Prelude.{Some, nat_lt}
use Rattle.std.specs.List.{list_all}
use Rattle.std.specs.Option.{option_map_or}
use Rattle.std.proofs.lemmas.Bool.{or_parts}
use Rattle.std.proofs.lemmas.List.Folds.{list_all-append}
use Rattle.sg_model.specs.Lists.{has_text}
use Rattle.sg_model.specs.Names.{Name}
use Rattle.sg_protocol.specs.Schedule.{PairKey, Schedule, Step, StartStep, ActStep, AbandonStep, DeliverStep, CraftStep, who_of}
use Rattle.sg_protocol.specs.Steps.{is_taken}
use Rattle.sg_protocol.specs.Texts.{Hash}
use Rattle.sg_sched.specs.Pair.{edge}
use Rattle.sg_sched.specs.Format.Values.{bytes_of}
use Rattle.sg_sched.specs.Format.LineContents.{LineContent, BlockLine, EdgeLine, HonestLine, KeyLine, SessionLine, StartLine, ActLine, AbandonLine, DeliverLine, MakeLine}
use Rattle.sg_sched.specs.Format.Items.{Session, Item, GraphItem, EdgeItem, HonestItem, KeyItem, SessionItem, StepItem, SoFar, so_far, declared, graphs_declared, graph_names, session_names, graph_for, labels_of, index}
use Rattle.sg_sched.specs.Format.Numbered.{made_after, values, what_of, craft}
use Rattle.sg_sched.specs.Format.Spells.{Line, Add, Skip, Say, Show, Declare, Nothing, Next, SpellsSchedule}
use Rattle.sg_sched_text.specs.Plus.{plus}
use Rattle.sg_sched_text.proofs.Growing.{one_more}
use Rattle.sg_sched_text.proofs.RightLines.{IsRight, right, in_group}

-- ---- what is known of a step

-- the step is a craft, or of one of these principals
abbrev is_of : List Name → Step → Bool
is_of honest x = option_map_or (λ who. has_text who honest) (who_of x) true

-- it is known of each step so far, and there is none before the last group
record AllTaken (p : SoFar) : Type 0 where
  steps : list_all (is_of p.honest) p.steps ≡ true
  none_yet : p.group ≤ 3 → p.steps ≡ []

-- ---- one item more

module _ (p : SoFar) (a : AllTaken p) where
  -- an item of an earlier group
  early : (i : Item) → (plus p i).steps ≡ p.steps → p.group ≤ 3 → AllTaken (plus p i)
  early i same first =
      let none : (plus p i).steps ≡ [] = same ∙ a.none_yet first in
      record { steps = ap (λ (xs : List Step). list_all (is_of (plus p i).honest) xs) none; none_yet = λ h. none }

  step_more : (x : Step) (i : Item) → is_of p.honest x ≡ true → StepItem x ≡ i → AllTaken (plus p i)
  step_more x i of same = subst (λ i. AllTaken (plus p i)) same (record {
    steps = list_all-append (is_of p.honest) p.steps (x ∷ []) ∙ (λ j. a.steps j && (of j && true));
    none_yet = λ h. absurd (omega (arith, h));
  })

  early_more : (j i : Item) (n : ℕ) → n ≤ 3 → p.group ≤ n → (plus p j).steps ≡ p.steps → j ≡ i → AllTaken (plus p i)
  early_more j i n l h none same = subst (λ i. AllTaken (plus p i)) same (early j none (omega (arith, l, h)))

  statement_more : (statement : LineContent) (i : Item) → IsRight p statement → made_after p statement ≡ Some i → AllTaken (plus p i)
  statement_more BlockLine i r m = absurd (cc)
  statement_more (EdgeLine label from to) i r m = early_more (EdgeItem (edge label from to)) i 0 (omega arith) (in_group p 0 (or_parts (nat_lt 0 p.group) _ r.form).0) refl (cc)
  statement_more (HonestLine who) i r m = early_more (HonestItem who) i 1 (omega arith) (in_group p 1 r.form) refl (cc)
  statement_more (KeyLine one two digits) i r m = let k : PairKey = record { one = one; two = two; key = bytes_of digits } in early_more (KeyItem k) i 2 (omega arith) (in_group p 2 r.form) refl (cc)
  statement_more (SessionLine name graph nonce names version) i r m =
      let s : Session = record { name = name; graph = index graph (graph_names (graphs_declared p)); nonce = nonce; names = names; version = version } in
      early_more (SessionItem s) i 3 (omega arith) (in_group p 3 (or_parts (nat_lt 3 p.group) _ r.form).0) refl (cc)
  statement_more (StartLine who session) i r m = step_more (StartStep who (index session (session_names p))) i r.honest (cc)
  statement_more (ActLine who session label vs) i r m =
      step_more (ActStep who (index session (session_names p)) (index label (labels_of (graph_for session p))) (values (graph_for session p) vs)) i r.honest (cc)
  statement_more (AbandonLine who session) i r m = step_more (AbandonStep who (index session (session_names p))) i r.honest (cc)
  statement_more (DeliverLine who what) i r m = step_more (DeliverStep who (what_of what)) i r.honest (cc)
  statement_more (MakeLine c) i r m = step_more (CraftStep (craft p (graph_for c.session p) c)) i refl (cc)

-- ---- lines

all_taken : {ls : List Line} {items : List Item} → Declare ls items → AllTaken (so_far items)
all_taken Nothing = record { steps = refl; none_yet = λ h. refl }
all_taken (Next {items = items} {new = new} d a) = added items _ new a (all_taken d)
  where
    added : (items : List Item) (more : List Line) (new : List Item) → Add items more new → AllTaken (so_far items) → AllTaken (so_far (items ++ new))
    added items _ _ (Skip h) s = subst (λ is. AllTaken (so_far is)) (sym (append-nil items)) s
    added items _ _ (Say {statement = statement} {item = item} says no_fault makes) s = subst AllTaken (sym (one_more items item)) (statement_more (so_far items) s statement item (right (so_far items) statement no_fault) makes)
    added items _ _ (Show {g = g} b spelled fresh) s =
        let r = right (so_far items) BlockLine b.opened.in_group in
        subst AllTaken (sym (one_more items (GraphItem g))) (early_more (so_far items) s (GraphItem g) (GraphItem g) 0 (omega arith) (in_group (so_far items) 0 r.form) refl refl)

-- ---- the schedule

module _ (sha : Hash) (bytes : List ℕ) (s : Schedule) (h : SpellsSchedule sha bytes s) where
  -- each step is a craft or an honest principal's
  pub spelled_taken : list_all (is_taken s) s.steps ≡ true
  spelled_taken = subst (λ (t : Schedule). list_all (is_taken t) t.steps ≡ true) h.schedule (all_taken h.declared).steps
