-- What a server represents once it has reported the outcome of a call.
use Rattle.std.proofs.Common.{◌≡◌, ◌≤◌, ◌<◌, ℕ, ◌+◌, Bool, true, false, nat_lt, if◌then◌else◌, List, [], ◌∷◌, ◌++◌, length, Option, Some, None, option_map, refl, sym, ap, ◌∙◌, subst, arith}
use Rattle.std.proofs.lemmas.Bool.{le-ltb, lt-ltb}
use Rattle.std.proofs.lemmas.Bool.Decides.{nat_tests}
use Rattle.std.proofs.lemmas.List.{length-append}
use Rattle.std.specs.Option.{option_map_or}
use Rattle.sg_again.specs.LastFrames.{LastFrames, SentFrame}
use Rattle.sg_base.specs.declared.address.Addr.{Addr}
use Rattle.sg_model.specs.Lists.{has_text}
use Rattle.sg_model.specs.Names.{Name}
use Rattle.sg_node.specs.Answers.{graph_named}
use Rattle.sg_play.proofs.Called.{is_addressed}
use Rattle.sg_play.proofs.Reporting.{known_after}
use Rattle.sg_play.proofs.Sessions.{count_known}
use Rattle.sg_play.specs.Asking.{addressed, sealed_in}
use Rattle.sg_play.specs.Meeting.{known_more}
use Rattle.sg_play.specs.Played.{Play, answer_in, called, step_in}
use Rattle.sg_play.specs.Posting.{frames_made}
use Rattle.sg_play.specs.Representation.{RepresentsPlay}
use Rattle.sg_play.specs.Steps.{Step, counted, frames_of, known_in}
use Rattle.sg_play.specs.declared.player.Player.{Player}
use Rattle.sg_protocol.specs.Calls as Protocol
use Rattle.sg_protocol.specs.Calls.{Answer, Call, Event, sid_of}
use Rattle.sg_protocol.specs.Graph.{Graph}
use Rattle.sg_protocol.specs.Keyring.{Keyring}
use Rattle.sg_protocol.specs.Past.{node_of}
use Rattle.sg_protocol.specs.Spelling.{spelling}
use Rattle.sg_protocol.specs.Texts.{real}
use Rattle.sg_protocol.specs.Named.{graph_of_call, names_numbers}
use Rattle.sg_report.specs.Outcome.{graph_in, graph_of_event, outcome_of}
use Rattle.sg_report.specs.declared.outcome.Outcome.{Outcome}
use Rattle.sg_report.specs.declared.outcome.Outcome.TheVariants as held
use Rattle.sg_report.specs.Reported as Report
use Rattle.sg_report.specs.Reported.{Reported, event_reported, session_reported, sid_left, sid_reported, reported_answer}
use Rattle.sg_serve.specs.declared.server.Server.{Server}
use Rattle.sg_serve.specs.Posted.{posted}
use Rattle.sg_serve.specs.Serving.{Serving, as_sent, calls, frame_made, graphs_after, graphs_with, last_of, session_in, sids_of}
use Rattle.sg_serve.specs.Representation.{HasCalled, HasReplied}
use Rattle.sg_text.proofs.Naming.{naming-known_again, naming-known_new}
use Rattle.sg_text.specs.Sessions.{KnownSessions, Naming, all_sids, naming, numbered, sids_known, undeclared, with_event}

-- ---- graphs

pub no_graph : (p : Play) (g : Option Graph) (gs : List (Option Graph)) → length (sids_of p) ≤ length gs → gs ≡ graphs_with p g gs
no_graph p g gs l = sym (ap (λ (b : Bool). if b then gs ++ g ∷ [] else gs) (le-ltb (length gs) (length (sids_of p)) l))

pub one_graph : (p : Play) (g : Option Graph) (gs : List (Option Graph)) → length gs < length (sids_of p) → gs ++ g ∷ [] ≡ graphs_with p g gs
one_graph p g gs l = sym (ap (λ (b : Bool). if b then gs ++ g ∷ [] else gs) (lt-ltb (length gs) (length (sids_of p)) l))

not_below : (m n : ℕ) → nat_lt m n ≡ false → n ≤ m
not_below m n h = grind (arith, nat_tests, h)

-- with one more there are enough
enough_with : (p : Play) (g : Option Graph) (gs : List (Option Graph)) → length (sids_of p) ≤ length gs + 1 → length (sids_of p) ≤ length (graphs_with p g gs)
enough_with p g gs l = by (nat_lt (length gs) (length (sids_of p))) refl
  where
    by : (b : Bool) → nat_lt (length gs) (length (sids_of p)) ≡ b → length (sids_of p) ≤ length (if b then gs ++ g ∷ [] else gs)
    by true e = omega (arith, length-append gs (g ∷ []))
    by false e = not_below (length gs) (length (sids_of p)) e

-- ---- the sessions with an event

-- an event makes at most one more
names_grow : (m : KnownSessions) (sid : Option (List ℕ)) → length (naming 115 (option_map_or (with_event m) sid m)).names ≤ length (naming 115 m).names + 1
names_grow m None = omega arith
names_grow m (Some sid) = by (has_text sid (all_sids m)) refl
  where
    by : (b : Bool) → has_text sid (all_sids m) ≡ b → length (naming 115 (with_event m sid)).names ≤ length (naming 115 m).names + 1
    by true e = let same = ap (λ (t : Naming). length t.names) (naming-known_again 115 m sid e) in omega (arith, same)
    by false e =
        let more = ap (λ (t : Naming). length t.names) (naming-known_new 115 m sid e) ∙ length-append (naming 115 m).names ((sid, numbered 115 (length (undeclared m) + 1)) ∷ []) in
        omega (arith, more)

module _ (p : Play) (c : Call) (n : ℕ) where
  known_so : known_in (called p c).past.calls ≡ known_more (known_in p.past.calls) (reported_answer n (answer_in p c))
  known_so = known_after p.past.calls (record { call = c; answer = answer_in p c }) n

  sids_grow : length (sids_of (called p c)) ≤ length (sids_of p) + 1
  sids_grow =
      let old = count_known (naming 115 (known_in p.past.calls)) p.past.calls refl in
      let new = count_known (naming 115 (known_in (called p c).past.calls)) (called p c).past.calls refl in
      let grown : length (naming 115 (known_in (called p c).past.calls)).names ≤ length (naming 115 (known_in p.past.calls)).names + 1 =
      subst (λ (m : KnownSessions). length (naming 115 m).names ≤ length (naming 115 (known_in p.past.calls)).names + 1) (sym known_so) (names_grow (known_in p.past.calls) (sid_reported (reported_answer n (answer_in p c)))) in
      omega (arith, old, new, grown)

  -- a call without an event makes none
  sids_same : event_reported (reported_answer n (answer_in p c)) ≡ None → sids_of (called p c) ≡ sids_of p
  sids_same e = ap sids_known (known_so ∙ ap (λ (x : Option Event). option_map_or (with_event (known_in p.past.calls)) (option_map sid_of x) (known_in p.past.calls)) e)

-- ---- the graph of an event

-- it stands beside the numbers of the outcome
of_event : (o : Outcome) (e : Event) → event_reported (outcome_of o) ≡ Some e → graph_of_event o ≡ graph_in o
of_event (held.NotActed why) e h = absurd (cc)
of_event (held.NotDelivered why) e h = absurd (cc)
of_event other e h = refl

-- an answer with an event names numbers
event_named : (n : ℕ) (a : Answer) (e : Event) → event_reported (reported_answer n a) ≡ Some e → names_numbers a ≡ true
event_named n (Protocol.Happened x) e h = refl
event_named n (Protocol.Sends x to f) e h = refl
event_named n other e h = absurd (cc)

-- so the graphs are those after the call
graphs_so : (p : Play) (c : Call) (n : ℕ) (o : Outcome) (gs : List (Option Graph)) → outcome_of o ≡ reported_answer n (answer_in p c) → graph_in o ≡ graph_named (answer_in p c) (graph_of_call real (node_of p.past) c) → length (sids_of p) ≤ length gs
    → graphs_with (called p c) (graph_of_event o) gs ≡ graphs_after p c gs
graphs_so p c n o gs reported graphed enough = by (event_reported (outcome_of o)) refl
  where
    by : (x : Option Event) → event_reported (outcome_of o) ≡ x → graphs_with (called p c) (graph_of_event o) gs ≡ graphs_after p c gs
    by None e =
        let few : length (sids_of (called p c)) ≤ length gs = subst (λ (l : List (List ℕ)). length l ≤ length gs) (sym (sids_same p c n (ap event_reported (sym reported) ∙ e))) enough in
        sym (no_graph (called p c) (graph_of_event o) gs few) ∙ no_graph (called p c) (graph_of_call real (node_of p.past) c) gs few
    by (Some e) is =
        ap (λ (g : Option Graph). graphs_with (called p c) g gs)
        (of_event o e is ∙ graphed ∙ ap (λ (b : Bool). if b then graph_of_call real (node_of p.past) c else None) (event_named n (answer_in p c) e (ap event_reported (sym reported) ∙ is)))

-- ---- the frame

-- the frame has the number that is reported of it
frame_is : (keys : Keyring) (n number : ℕ) (a : Answer) (reported : Reported) (frame : Option (Addr × (Name × List ℕ))) → reported ≡ reported_answer n a → ((e : Event) (to : Name) (k : ℕ) → reported ≡ Report.Sends e to k → number ≡ k) → frame ≡ addressed keys (sealed_in a)
    → option_map (as_sent number) frame ≡ option_map (as_sent n) (addressed keys (sealed_in a))
frame_is keys n number (Protocol.Happened e) reported frame t h is = ap (option_map (as_sent number)) is
frame_is keys n number (Protocol.Sends e to f) reported frame t h is = ap (option_map (as_sent number)) is ∙ ap (λ (k : ℕ). option_map (as_sent k) (addressed keys (Some (to, spelling f)))) (h e to n t)
frame_is keys n number Protocol.Abandoned reported frame t h is = ap (option_map (as_sent number)) is
frame_is keys n number (Protocol.NotStarted x) reported frame t h is = ap (option_map (as_sent number)) is
frame_is keys n number (Protocol.NotActed x) reported frame t h is = ap (option_map (as_sent number)) is
frame_is keys n number Protocol.NotAbandoned reported frame t h is = ap (option_map (as_sent number)) is
frame_is keys n number (Protocol.NotDelivered x) reported frame t h is = ap (option_map (as_sent number)) is

-- it goes out as it was made
posted_made : (n : ℕ) (frame : Option (Addr × (Name × List ℕ))) → posted (option_map (as_sent n) frame) ≡ frames_made frame
posted_made n None = refl
posted_made n (Some f) = refl

-- ---- a call was reported

module _ (sv : Server) (pl : Player) (s : Serving) (c : Call) (o : Outcome) (frame : Option (Addr × (Name × List ℕ))) (left : Option (List ℕ)) (h : HasCalled sv s c o frame) (leaves : left ≡ sid_left c) where
  -- the number of a frame
  abbrev next : ℕ
  next = counted (length (frames_of s.play.steps) + 1)

  pub session_is : (session : Option (List ℕ)) → session ≡ session_reported left (outcome_of o) → session ≡ session_in s.play c
  session_is session e =
      e ∙ ap (session_reported left) h.asked.is_reported ∙ ap (λ (l : Option (List ℕ)). session_reported l (reported_answer next (answer_in s.play c))) leaves

  pub made_is : (number : ℕ) → ((e : Event) (to : Name) (k : ℕ) → outcome_of o ≡ Report.Sends e to k → number ≡ k) → option_map (as_sent number) frame ≡ frame_made s.play c
  made_is number is = frame_is s.play.past.keys next number (answer_in s.play c) (outcome_of o) frame h.asked.is_reported is h.is_frame

  -- the line, the frame, the graphs and the last frames make the reply
  pub replied : (line : List ℕ) (kept copy : Option SentFrame) (gs : List (Option Graph)) (session : Option (List ℕ)) (last : LastFrames) (step : Step) → (line ≡ (step_in s.play c).line) × RepresentsPlay pl (called s.play c) → kept ≡ frame_made s.play c → copy ≡ kept
      → gs ≡ graphs_with (called s.play c) (graph_of_event o) sv.graphs → session ≡ session_in s.play c → last ≡ last_of (called s.play c) session kept sv.last → step ≡ record { line = line; frames = posted copy } → (new : Server) → new ≡ record sv { player = pl; graphs = gs; last = last } → HasReplied new step (calls s c)
  replied line kept copy gs session last step t k e g ss l is new new_is = subst (λ (x : Server). HasReplied x step (calls s c)) (sym new_is) (record {
    represents = record {
      player = t.1;
      graphs = g ∙ graphs_so s.play c next o sv.graphs h.asked.is_reported h.asked.is_graph h.enough ∙ ap (graphs_after s.play c) h.graphs;
      enough = subst (λ (l : List (Option Graph)). length (sids_of (called s.play c)) ≤ length l) (sym g) (enough_with (called s.play c) (graph_of_event o) sv.graphs (let grow = sids_grow s.play c next in omega (arith, grow, h.enough)));
      last = l ∙ (λ i. last_of (called s.play c) (ss i) (k i) (h.last i));
    };
    is_step = is ∙ (λ i. record { line = t.0 i; frames = posted (e i) }) ∙ ap (λ (f : Option SentFrame). record { line = (step_in s.play c).line; frames = posted f }) k ∙ ap (λ (fs : List (Addr × List ℕ)). record { line = (step_in s.play c).line; frames = fs }) (posted_made next (addressed s.play.past.keys (sealed_in (answer_in s.play c))) ∙ is_addressed s.play.past.keys (answer_in s.play c));
  })
