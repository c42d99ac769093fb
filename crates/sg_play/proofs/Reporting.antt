-- What a player represents once it has reported the outcome of a call.
use Rattle.std.proofs.Common.{◌≡◌, ℕ, ◌+◌, Bool, true, false, if◌then◌else◌, List, [], ◌∷◌, ◌++◌, map, flat_map, length, Option, None, refl, sym, ap, ◌∙◌, subst, arith}
use Rattle.std.specs.Prelude.{◌-◌, ◌^◌, min}
use Rattle.std.specs.Fmt.{decimal}
use Rattle.std.specs.Option.{option_map_or}
use Rattle.std.proofs.lemmas.List.{append-nil, length-append, map-append}
use Rattle.std.proofs.lemmas.List.Concat.{flat_map-append}
use Rattle.sg_base.specs.declared.address.Addr.{Addr}
use Rattle.sg_text.specs.Sessions.{KnownSessions, Naming, naming, session_name}
use Rattle.sg_node.proofs.Life.{pasts_go_on}
use Rattle.sg_node.specs.Answers.{graph_named}
use Rattle.sg_model.specs.Names.{Name}
use Rattle.sg_protocol.specs.Calls as Protocol
use Rattle.sg_protocol.specs.Calls.{Call, Answer, events_of_answer, sid_of}
use Rattle.sg_protocol.specs.Graph.{Graph}
use Rattle.sg_protocol.specs.Keyring.{Keyring}
use Rattle.sg_protocol.specs.NodeStates.{NodeState}
use Rattle.sg_protocol.specs.Named.{graph_of_call, names_numbers}
use Rattle.sg_protocol.specs.Past.{AnsweredCall, node_of, past_after}
use Rattle.sg_protocol.specs.Texts.{real}
use Rattle.sg_report.proofs.NamedAnswers.{reported-without_numbers, text-anywhere}
use Rattle.sg_report.specs.Lines.{by_whom, graph_or_none, line_text, reported_text}
use Rattle.sg_report.specs.Outcome.{graph_in}
use Rattle.sg_report.specs.Reported.{Reported, reported_answer, session_reported, sid_left, sid_reported}
use Rattle.sg_report.specs.declared.outcome.Outcome.{Outcome}
use Rattle.sg_play.specs.declared.player.Player.{Player}
use Rattle.sg_play.specs.Asking.{IsAsked, IsAskedWithFrames, sealed_in}
use Rattle.sg_play.specs.Meeting.{known_more}
use Rattle.sg_play.specs.Played.{Play, answer_in, called, sid_answered, step_in}
use Rattle.sg_play.specs.Posting.{frames_made}
use Rattle.sg_play.specs.Representation.{HasAsked, RepresentsPlay}
use Rattle.sg_play.specs.Steps.{counted, frames_in, frames_of, known_in}
use Rattle.sg_play.proofs.Called.{is_addressed}
use Rattle.sg_play.proofs.Endings.{frames_more}

-- ---- names

sids_more : (calls : List AnsweredCall) (c : AnsweredCall) → (known_in (calls ++ c ∷ [])).events ≡ (known_in calls).events ++ map sid_of (events_of_answer c.answer)
sids_more calls c =
    ap (map sid_of) (flat_map-append (λ (c : AnsweredCall). events_of_answer c.answer) calls (c ∷ []) ∙ ap (λ l. flat_map (λ (c : AnsweredCall). events_of_answer c.answer) calls ++ l) (append-nil (events_of_answer c.answer)))
    ∙ map-append sid_of (flat_map (λ (c : AnsweredCall). events_of_answer c.answer) calls) (events_of_answer c.answer)

abbrev with_events : List (List ℕ) → KnownSessions
with_events l = record { declared = []; events = l }

known_by : (m : List (List ℕ)) (k : ℕ) (a : Answer) → with_events (m ++ map sid_of (events_of_answer a)) ≡ known_more (with_events m) (reported_answer k a)
known_by m k (Protocol.Happened e) = refl
known_by m k (Protocol.Sends e to f) = refl
known_by m k other = ap with_events (append-nil m)

-- the sessions after a call, by what is reported of it
pub known_after : (calls : List AnsweredCall) (c : AnsweredCall) (k : ℕ) → known_in (calls ++ c ∷ []) ≡ known_more (known_in calls) (reported_answer k c.answer)
known_after calls c k = ap with_events (sids_more calls c) ∙ known_by (known_in calls).events k c.answer

-- the session in which something happened
pub reported_given : (k : ℕ) (a : Answer) → sid_reported (reported_answer k a) ≡ sid_answered a
reported_given k (Protocol.Happened e) = refl
reported_given k (Protocol.Sends e to f) = refl
reported_given k other = refl

-- ---- a call

one_more : {A : Type 0} (xs : List A) (x : A) → length (xs ++ x ∷ []) ≡ length xs + 1
one_more xs x = length-append xs (x ∷ [])

-- what sends no frame has none
no_frames : (keys : Keyring) (a : Answer) → None ≡ sealed_in a → [] ≡ frames_in keys a
no_frames keys (Protocol.Sends e to f) h = cc
no_frames keys other h = refl

no_more : (n : ℕ) → n ≡ n + 0
no_more n = omega arith

counts_more : (most n k : ℕ) → min (min n most + k) most ≡ min (n + k) most
counts_more most n k = omega arith

-- what is added to a count is added to the number that it counts
counted_more : (n k : ℕ) → counted (counted n + k) ≡ counted (n + k)
counted_more n k = counts_more (2 ^ 64 - 1) n k

-- a call was asked, and these frames are counted
asked_so : (pl : Player) (n : NodeState) (frames : ℕ) (p : Play) (c : Call) (o : Outcome) (sealed : Option (Name × List ℕ)) (made : List (Addr × List ℕ)) → RepresentsPlay pl p → IsAsked (counted (length (frames_of p.steps) + 1)) pl.node n p.past c o sealed
    → frames ≡ counted (length (frames_of p.steps) + length made) → made ≡ frames_in p.past.keys (answer_in p c) → HasAsked (record pl { node = n; frames = frames }) p c o made
asked_so pl n frames p c o sealed made s h count is = record {
  node = h.goes_on.represents;
  answered_past = pasts_go_on p.past c s.answered h.range;
  keys = s.keys;
  programs = s.programs;
  choices = s.choices;
  names = s.names;
  steps = s.steps;
  frames = count;
  is_reported = h.is_reported;
  is_graph = h.is_graph;
  is_made = is;
}

-- it sends no frame
pub asked_quiet : (pl : Player) (n : NodeState) (p : Play) (c : Call) (o : Outcome) → RepresentsPlay pl p → ((number : ℕ) → IsAsked number pl.node n p.past c o None) → HasAsked (record pl { node = n }) p c o []
asked_quiet pl n p c o s h =
    let came = h (counted (length (frames_of p.steps) + 1)) in
    asked_so pl n pl.frames p c o None [] s came (s.frames ∙ ap counted (no_more (length (frames_of p.steps)))) (no_frames p.past.keys (answer_in p c) came.is_sealed)

-- by a player that has the rest as before
pub asked_by : (old new : Player) (p : Play) (c : Call) (o : Outcome) → RepresentsPlay old p → new ≡ record old { node = new.node } → ((number : ℕ) → IsAsked number old.node new.node p.past c o None) → HasAsked new p c o []
asked_by old new p c o s is h = subst (λ (pl : Player). HasAsked pl p c o []) (sym is) (asked_quiet old new.node p c o s h)

-- it is an act, with its frame
pub asked_made : (pl : Player) (n : NodeState) (frames : ℕ) (p : Play) (c : Call) (o : Outcome) (frame : Option (Addr × (Name × List ℕ))) → RepresentsPlay pl p → IsAskedWithFrames pl.keys.now pl.frames frames pl.node n p.past c o frame
    → HasAsked (record pl { node = n; frames = frames }) p c o (frames_made frame)
asked_made pl n frames p c o frame s h =
    asked_so pl n frames p c o (sealed_in (answer_in p c)) (frames_made frame) s (subst (λ k. IsAsked k pl.node n p.past c o (sealed_in (answer_in p c))) (ap (λ k. counted (k + 1)) s.frames ∙ counted_more (length (frames_of p.steps)) 1) h.is_asked)
    (h.is_counted ∙ ap (λ k. counted (k + length (frames_made frame))) s.frames ∙ counted_more (length (frames_of p.steps)) (length (frames_made frame))) (ap frames_made h.is_frame ∙ is_addressed pl.keys.now (answer_in p c) ∙ ap (λ (k : Keyring). frames_in k (answer_in p c)) (sym s.keys))

-- what is reported of a call
abbrev pub reported_in : Play → Call → Reported
reported_in p c = reported_answer (counted (length (frames_of p.steps) + 1)) (answer_in p c)

-- the sessions that are met with it
known_with : (p : Play) (c : Call) → known_more (known_in p.past.calls) (reported_in p c) ≡ known_in (past_after real p.past c).calls
known_with p c = sym (known_after p.past.calls (record { call = c; answer = answer_in p c }) (counted (length (frames_of p.steps) + 1)))

-- the number of a step
step_counted : (pl : Player) (p : Play) (c : Call) → pl.steps ≡ counted (length p.past.calls) → counted (pl.steps + 1) ≡ counted (length (past_after real p.past c).calls)
step_counted pl p c steps = ap (λ n. counted (n + 1)) steps ∙ counted_more (length p.past.calls) 1 ∙ ap counted (sym (one_more p.past.calls (record { call = c; answer = answer_in p c })))

-- what reporting a step leaves of a player
pub reported_rest : (old known : Player) (number : ℕ) → known ≡ record old { names = known.names } → number ≡ counted (known.steps + 1) → record known { steps = number } ≡ record old { names = known.names; steps = counted (old.steps + 1) }
reported_rest old known number is next = (λ i. record (is i) { steps = next i }) ∙ (λ i. record old { names = known.names; steps = counted ((is i).steps + 1) })

-- what names nothing has the same text by the graph of the call
text_by : (session : List ℕ) (k : ℕ) (a : Answer) (g : Option Graph) → reported_text session (graph_or_none (graph_named a g)) (reported_answer k a) ≡ reported_text session (graph_or_none g) (reported_answer k a)
text_by session k a g = by (names_numbers a) refl
  where
    by : (b : Bool) → names_numbers a ≡ b → reported_text session (graph_or_none (if b then g else None)) (reported_answer k a) ≡ reported_text session (graph_or_none g) (reported_answer k a)
    by true e = refl
    by false e = text-anywhere session (graph_or_none None) (graph_or_none g) (reported_answer k a) (reported-without_numbers None k a e)

-- the line is that of the step
pub line_is : (pl : Player) (p : Play) (c : Call) (o : Outcome) (left : Option (List ℕ)) (made : List (Addr × List ℕ)) (line : List ℕ) → HasAsked pl p c o made → left ≡ sid_left c
    → line ≡ line_text (option_map_or (session_name 115 (known_more (known_in p.past.calls) (reported_in p c))) (session_reported left (reported_in p c)) []) (graph_or_none (graph_in o)) (counted (pl.steps + 1)) pl.keys.now.me (reported_in p c) → line ≡ (step_in p c).line
line_is pl p c o left made line h l e =
    let known = known_with p c in
    let number = step_counted pl p c h.steps in
    let graphed = h.is_graph in
    let me : pl.keys.now.me ≡ p.past.keys.me = ap (λ (k : Keyring). k.me) (sym h.keys) in
    let session : List ℕ = option_map_or (session_name 115 (known_in (past_after real p.past c).calls)) (session_reported (sid_left c) (reported_in p c)) [] in
    e ∙ (λ i. line_text (option_map_or (session_name 115 (known i)) (session_reported (l i) (reported_in p c)) []) (graph_or_none (graphed i)) (number i) (me i) (reported_in p c))
    ∙ ap (λ text. decimal (counted (length (past_after real p.past c).calls)) ++ 32 ∷ by_whom p.past.keys.me (reported_in p c) ++ text ++ 10 ∷ []) (text_by session (counted (length (frames_of p.steps) + 1)) (answer_in p c) (graph_of_call real (node_of p.past) c))

-- the names are those after it
pub names_are : (ns : Naming) (p : Play) (c : Call) → ns ≡ naming 115 (known_more (known_in p.past.calls) (reported_in p c)) → ns ≡ naming 115 (known_in (past_after real p.past c).calls)
names_are ns p c e = e ∙ ap (naming 115) (known_with p c)

-- and the player represents the play with the step
pub represents_reported : (old new : Player) (p : Play) (c : Call) (o : Outcome) (made : List (Addr × List ℕ)) → HasAsked old p c o made → new ≡ record old { names = new.names; steps = counted (old.steps + 1) }
    → new.names ≡ naming 115 (known_more (known_in p.past.calls) (reported_in p c)) → RepresentsPlay new (called p c)
represents_reported old new p c o made h is names = subst (λ (pl : Player). RepresentsPlay pl (called p c)) (sym is) (record {
  node = h.node;
  answered = h.answered_past;
  keys = h.keys;
  programs = h.programs;
  choices = h.choices;
  names = names_are new.names p c names;
  steps = step_counted old p c h.steps;
  frames = h.frames ∙ ap counted (ap (λ (l : List (Addr × List ℕ)). length (frames_of p.steps) + length l) h.is_made ∙ sym (ap length (frames_more p.steps (step_in p c)) ∙ length-append (frames_of p.steps) (frames_in p.past.keys (answer_in p c))));
})
