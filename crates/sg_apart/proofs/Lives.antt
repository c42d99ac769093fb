-- All lives of a principal are one past.
use Rattle.std.specs.Prelude.{◌≡◌, ℕ, List, [], ◌∷◌, ◌++◌, All, map, flat_map, refl}
use Rattle.std.specs.List.{AllByRecursion}
use Rattle.std.proofs.Common.{sym, ◌∙◌, ap, subst, append_assoc}
use Rattle.std.proofs.lemmas.List.Elements.{All-from_recursion, recursion_from_All}
use Rattle.sg_model.proofs.Small.{all-append}
use Rattle.sg_protocol.specs.Texts.{Hash}
use Rattle.sg_protocol.specs.Session.{Session}
use Rattle.sg_protocol.specs.Keyring.{Keyring, Program}
use Rattle.sg_protocol.specs.Calls.{Event, Abandon, Abandoned, events_of_answer}
use Rattle.sg_protocol.specs.Node.{Node}
use Rattle.sg_protocol.specs.NodeAfter.{node_after}
use Rattle.sg_protocol.specs.Past.{AnsweredCall, AreAnswers, Past, new_node, node_after_all, node_of}
use Rattle.sg_protocol.specs.Ranges.{IsCallInRange}
use Rattle.sg_protocol.specs.Restarts.{AreLives, begun_anew, events_of_lives}
use Rattle.sg_protocol.proofs.Anew.{anew, first_answer, first_left, with_live, with_own}
use Rattle.sg_protocol.proofs.Paths.{flat_map-append}
use Rattle.sg_apart.specs.Laws.{IsHonest}
use Rattle.sg_apart.specs.Lives.{IsLaterLife, IsOnePast, LivesAreOnePast, abandoned, one_past}

abbrev Ranged : AnsweredCall → Type 0
Ranged c = IsCallInRange c.call

abbrev events_in : List AnsweredCall → List Event
events_in cs = flat_map (λ (c : AnsweredCall). events_of_answer c.answer) cs

-- ---- calls, one list after another

after-append : (n : Node) (xs ys : List AnsweredCall) → node_after_all n (xs ++ ys) ≡ node_after_all (node_after_all n xs) ys
after-append n [] ys = refl
after-append n (x ∷ xs) ys = after-append (node_after n x.call x.answer) xs ys

answers-append : (sha : Hash) (n : Node) (xs ys : List AnsweredCall) → AreAnswers sha n xs → AreAnswers sha (node_after_all n xs) ys → AreAnswers sha n (xs ++ ys)
answers-append sha n [] ys a b = b
answers-append sha n (x ∷ xs) ys a b = (a.0, answers-append sha (node_after n x.call x.answer) xs ys a.1 b)

-- ---- abandonments

abandoned_answers : (sha : Hash) (n : Node) (live : List Session) → n.live ≡ live → AreAnswers sha n (abandoned live)
abandoned_answers sha n [] e = tt
abandoned_answers sha n (x ∷ xs) e =
    let a = first_answer sha n x xs e in
    let left : node_after n (Abandon x.sid) Abandoned ≡ with_live n xs = ap (node_after n (Abandon x.sid)) (sym a) ∙ first_left sha n x xs e in
    (sym a, subst (λ m. AreAnswers sha m (abandoned xs)) (sym left) (abandoned_answers sha (with_live n xs) xs refl))

abandoned_node : (sha : Hash) (n : Node) (live : List Session) → n.live ≡ live → node_after_all n (abandoned live) ≡ with_live n []
abandoned_node sha n [] e = sym (with_own n [] e)
abandoned_node sha n (x ∷ xs) e =
    ap (λ m. node_after_all m (abandoned xs)) (ap (node_after n (Abandon x.sid)) (sym (first_answer sha n x xs e)) ∙ first_left sha n x xs e)
    ∙ abandoned_node sha (with_live n xs) xs refl

abandoned_ranged : (live : List Session) → AllByRecursion Ranged (abandoned live)
abandoned_ranged [] = tt
abandoned_ranged (x ∷ xs) = (tt, abandoned_ranged xs)

abandoned_events : (live : List Session) → events_in (abandoned live) ≡ []
abandoned_events [] = refl
abandoned_events (x ∷ xs) = abandoned_events xs

-- ---- one life more

module _ (sha : Hash) (p q : Past) (honest : IsHonest sha p) (later : IsLaterLife p q) (over : q.first ≡ (node_of p).joins) (answers : AreAnswers sha (new_node q.keys q.programs q.first) q.calls) where
  abbrev both : Past
  both = record p { calls = p.calls ++ (abandoned (node_of p).live ++ q.calls) }

  -- after the abandonments the node is that of the later life as it begins
  begins : node_after_all (node_of p) (abandoned (node_of p).live) ≡ new_node q.keys q.programs q.first
  begins =
      abandoned_node sha (node_of p) (node_of p).live refl ∙ sym (anew p)
      ∙ ap (λ (k : Keyring). new_node k p.programs (node_of p).joins) (sym later.keys) ∙ ap (λ (ps : List Program). new_node q.keys ps (node_of p).joins) (sym later.programs) ∙ ap (new_node q.keys q.programs) (sym over)

  both_answers : AreAnswers sha (new_node p.keys p.programs p.first) both.calls
  both_answers = answers-append sha (new_node p.keys p.programs p.first) p.calls (abandoned (node_of p).live ++ q.calls) honest.answers
      (answers-append sha (node_of p) (abandoned (node_of p).live) q.calls (abandoned_answers sha (node_of p) (node_of p).live refl) (subst (λ n. AreAnswers sha n q.calls) (sym begins) answers))

  both_node : node_of both ≡ node_of q
  both_node = after-append (new_node p.keys p.programs p.first) p.calls (abandoned (node_of p).live ++ q.calls) ∙ after-append (node_of p) (abandoned (node_of p).live) q.calls ∙ ap (λ n. node_after_all n q.calls) begins

  both_events : events_in both.calls ≡ events_in p.calls ++ events_in q.calls
  both_events =
      flat_map-append (λ (c : AnsweredCall). events_of_answer c.answer) p.calls (abandoned (node_of p).live ++ q.calls)
      ∙ ap (λ l. events_in p.calls ++ l) (flat_map-append (λ (c : AnsweredCall). events_of_answer c.answer) (abandoned (node_of p).live) q.calls ∙ ap (λ l. l ++ events_in q.calls) (abandoned_events (node_of p).live))

  both_honest : IsHonest sha both
  both_honest = record {
    programs = honest.programs;
    first = honest.first;
    calls = All-from_recursion Ranged both.calls (all-append Ranged p.calls (abandoned (node_of p).live ++ q.calls) (recursion_from_All Ranged p.calls honest.calls) (all-append Ranged (abandoned (node_of p).live) q.calls (abandoned_ranged (node_of p).live) (recursion_from_All Ranged q.calls later.calls)));
    answers = both_answers;
  }

all_later : (p p' : Past) → p'.keys ≡ p.keys → p'.programs ≡ p.programs → (qs : List Past) → AllByRecursion (IsLaterLife p) qs → AllByRecursion (IsLaterLife p') qs
all_later p p' k e [] a = tt
all_later p p' k e (q ∷ qs) a = (record { keys = (a.0).keys ∙ sym k; programs = (a.0).programs ∙ sym e; calls = (a.0).calls }, all_later p p' k e qs a.1)

all_lives : (sha : Hash) (p : Past) (qs : List Past) → IsHonest sha p → AllByRecursion (IsLaterLife p) qs → AreLives sha (node_of p).joins qs → IsOnePast sha (one_past p qs) (p ∷ qs)
all_lives sha p [] honest later lives = record { honest = honest; events = sym (right_nil (events_in p.calls)) }
  where
    right_nil : (xs : List Event) → xs ++ [] ≡ xs
    right_nil [] = refl
    right_nil (x ∷ xs) = ap (λ l. x ∷ l) (right_nil xs)
all_lives sha p (q ∷ qs) honest later lives =
    let p' : Past = record p { calls = p.calls ++ (abandoned (node_of p).live ++ q.calls) } in
    let rest : IsOnePast sha (one_past p' qs) (p' ∷ qs) = all_lives sha p' qs (both_honest sha p q honest later.0 lives.0 lives.1) (all_later p p' refl refl qs later.1)
    (subst (λ (n : Node). AreLives sha n.joins qs) (sym (both_node sha p q honest later.0 lives.0 lives.1)) lives.2) in
    record {
      honest = rest.honest;
      events = rest.events ∙ ap (λ l. l ++ events_of_lives qs) (both_events sha p q honest later.0 lives.0 lives.1) ∙ append_assoc (events_in p.calls) (events_in q.calls) (events_of_lives qs);
    }

pub lives_are_one_past : (sha : Hash) → LivesAreOnePast sha
lives_are_one_past sha p ps honest later lives = all_lives sha p ps honest (recursion_from_All (IsLaterLife p) ps later) lives
