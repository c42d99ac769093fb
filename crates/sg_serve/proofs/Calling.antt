-- What a request that calls the node comes to, in each state that the server represents.
use Rattle.std.proofs.Common.{◌≡◌, ℕ, ◌-◌, Bool, true, false, if◌then◌else◌, List, [], map, length, find, position, bytes_eq, Option, Some, None, is_some, IfOk, OnOk, Result, Ok, Err, Bor, refl, sym, ap, ◌∙◌, subst}
use Rattle.std.specs.Prelude.{not, slice_get, unwrap_or}
use Rattle.std.specs.Option.{option_copied, option_map_or}
use Rattle.sg_answers.specs.Answers.{wrong_text}
use Rattle.sg_answers.specs.declared.line.Wrong.TheVariants.{Twice, Unknown}
use Rattle.sg_base.specs.declared.address.Addr.{Addr}
use Rattle.sg_model.specs.Last.{Map}
use Rattle.sg_model.specs.Names.{Name}
use Rattle.sg_model.specs.Values.{Value}
use Rattle.sg_play.proofs.Called.{is_addressed}
use Rattle.sg_play.proofs.Running.{without_some}
use Rattle.sg_play.specs.Asking.{addressed, sealed_in}
use Rattle.sg_play.specs.Played.{Play, answer_in, cast_of_start, next_confounders, next_random}
use Rattle.sg_play.specs.Posting.{frames_made}
use Rattle.sg_play.specs.Representation.{HasAsked, RepresentsPlay}
use Rattle.sg_play.specs.Steps.{Step}
use Rattle.sg_play.specs.declared.player.Player.{Player}
use Rattle.sg_program.specs.Together.{is_named}
use Rattle.sg_protocol.specs.Calls.{Abandon, Act, Call, Start}
use Rattle.sg_protocol.specs.Graph.{Graph}
use Rattle.sg_protocol.specs.Keyring.{Program}
use Rattle.sg_sched_text.specs.Adding.{is_twice, known_values}
use Rattle.sg_report.specs.declared.outcome.Outcome.{Outcome}
use Rattle.sg_report.specs.Reported.{sid_left}
use Rattle.sg_sched.specs.Format.LineContents.{Assignment}
use Rattle.sg_script.specs.Script.{Start as ScriptStart}
use Rattle.sg_serve.specs.declared.fault.ServeFault.{ServeFault}
use Rattle.sg_serve.specs.declared.server.Server.{Server}
use Rattle.sg_serve.specs.Serving.{Reply, Serving, acts, acts_by, acts_if, calls, graph_at, less, of_session, says, sids_of, starts}
use Rattle.sg_serve.specs.Representation.{HasCalled, HasReplied, RepresentsServing}
use Rattle.sg_serve.proofs.Saying.{of_some}

-- ---- a call that makes its frame

pub called_made : (sv : Server) (pl : Player) (s : Serving) (c : Call) (o : Outcome) (frame : Option (Addr × (Name × List ℕ))) → RepresentsServing sv s → HasAsked pl s.play c o (frames_made frame) → frame ≡ addressed s.play.past.keys (sealed_in (answer_in s.play c))
    → HasCalled (record sv { player = pl }) s c o frame
called_made sv pl s c o frame st asked is = record {
  asked = asked;
  answered_before = st.player.answered;
  is_frame = is;
  graphs = st.graphs;
  enough = st.enough;
  last = st.last;
}

-- what makes no frame has none
no_frame : (frame : Option (Addr × (Name × List ℕ))) → [] ≡ frames_made frame → None ≡ frame
no_frame None e = refl
no_frame (Some f) e = absurd (cc)

pub called_quiet : (sv : Server) (pl : Player) (s : Serving) (c : Call) (o : Outcome) → RepresentsServing sv s → HasAsked pl s.play c o [] → HasCalled (record sv { player = pl }) s c o None
called_quiet sv pl s c o st asked =
    called_made sv pl s c o None st asked (no_frame (addressed s.play.past.keys (sealed_in (answer_in s.play c))) (asked.is_made ∙ sym (is_addressed s.play.past.keys (answer_in s.play c))))

-- a session was left
pub abandoned : (sv new : Server) (pl : Player) (n : ℕ) (sid : List ℕ) (o : Outcome) (r : Result Step ServeFault) → ((p : Play) → RepresentsPlay sv.player p → Some sid ≡ slice_get (sids_of p) (n - 1))
    → ((p : Play) → RepresentsPlay sv.player p → HasAsked pl p (Abandon sid) o []) → IfOk r (λ step. (s : Serving) (c : Call) → HasCalled (record sv { player = pl }) s c o None → Some sid ≡ sid_left c → HasReplied new step (calls s c))
    → IfOk r (λ step. (s : Serving) → RepresentsServing sv s → HasReplied new step (of_session s n (λ x. calls s (Abandon x))))
abandoned sv new pl n sid o (Ok step) at asked h =
    λ s st. subst (λ (y : Reply). HasReplied new step y) (of_some s n sid (λ x. calls s (Abandon x)) (sym (at s.play st.player))) (h s (Abandon sid) (called_quiet sv pl s (Abandon sid) o st (asked s.play st.player)) refl)
abandoned sv new pl n sid o (Err f) at asked h = tt

-- ---- random bytes

-- the random bytes that are left are no part of what is represented
pub less_represents : (sv : Server) (n : ℕ) (s : Serving) → RepresentsServing sv s → RepresentsServing sv (less n s)
less_represents sv n s st = record { player = without_some n sv.player s.play st.player; graphs = st.graphs; enough = st.enough; last = st.last }

-- ---- an act

pub acted : (sv new : Server) (pl : Player) (random : Option (List (List ℕ))) (sid : List ℕ) (label n : ℕ) (vs : Map Value) (ws : List (List ℕ)) (o : Outcome) (frame : Option (Addr × (Name × List ℕ))) (r : Result Step ServeFault) → n ≡ length vs
    → ((all : List (List ℕ)) → random ≡ Some all → ws ≡ next_confounders n all) → ((p : Play) → RepresentsPlay sv.player p → HasAsked pl p (Act sid label vs ws) o (frames_made frame))
    → ((p : Play) → RepresentsPlay sv.player p → frame ≡ addressed p.past.keys (sealed_in (answer_in p (Act sid label vs ws))))
    → IfOk r (λ step. (s : Serving) (c : Call) → HasCalled (record sv { player = pl }) s c o frame → None ≡ sid_left c → HasReplied new step (calls s c))
    → IfOk r (λ step. (s : Serving) → RepresentsServing sv s → random ≡ Some s.play.random → HasReplied new step (acts s sid label vs))
acted sv new pl random sid label n vs ws o frame (Ok step) count drawn asked made h = λ s st w.
    let m = length vs in
    let k = Act sid label vs ws in
    let q = less m s in
    let lst = less_represents sv m s st in
    subst (λ (c : Call). HasReplied new step (calls (less m s) c)) (ap (Act sid label vs) (drawn s.play.random w ∙ ap (λ (i : ℕ). next_confounders i s.play.random) count))
    (h q k (called_made sv pl q k o frame lst (asked q.play lst.player) (made q.play lst.player)) refl)
acted sv new pl random sid label n vs ws o frame (Err f) count drawn asked made h = tt

pub not_twice : (b : Bool) → true ≡ b → false ≡ not b
not_twice true e = refl
not_twice false e = absurd (cc)

-- an act that is given well
pub acts_is : (s : Serving) (n : ℕ) (sid : List ℕ) (g : Graph) (name : Name) (given : List Assignment) (label : ℕ) (vs : Map Value) → Some sid ≡ slice_get (sids_of s.play) (n - 1) → Some g ≡ graph_at s n → Some label ≡ position (bytes_eq name) (map (λ e. e.name) g.edges)
    → Some vs ≡ known_values (Some g) given → false ≡ is_twice given → acts s sid label vs ≡ of_session s n (λ x. acts_by s x (graph_at s n) name given)
acts_is s n sid g name given label vs at is index known once =
    ap (λ (b : Bool). if b then says s (wrong_text Twice) else acts s sid label vs) once
    ∙ ap (λ (o : Option (Map Value)). option_map_or (λ values. if is_twice given then says s (wrong_text Twice) else acts s sid label values) o (says s (wrong_text Unknown))) known
    ∙ ap (λ (o : Option ℕ). option_map_or (acts_if s sid (Some g) given) o (says s (wrong_text Unknown))) index
    ∙ ap (λ (o : Option Graph). acts_by s sid o name given) is
    ∙ of_some s n sid (λ x. acts_by s x (graph_at s n) name given) (sym at)

-- the graph of a session
pub graph_is : (sv : Server) (s : Serving) (n : ℕ) → RepresentsServing sv s → unwrap_or (slice_get sv.graphs (n - 1)) None ≡ graph_at s n
graph_is sv s n st = ap (λ (gs : List (Option Graph)). unwrap_or (slice_get gs (n - 1)) None) st.graphs

-- a reply by another name
pub replied_by : (sv new : Server) (random : Option (List (List ℕ))) (a b : Serving → Reply) (r : Result Step ServeFault) → ((s : Serving) → RepresentsServing sv s → a s ≡ b s)
    → IfOk r (λ step. (s : Serving) → RepresentsServing sv s → random ≡ Some s.play.random → HasReplied new step (a s)) → IfOk r (λ step. (s : Serving) → RepresentsServing sv s → random ≡ Some s.play.random → HasReplied new step (b s))
replied_by sv new random a b (Ok step) e h = λ s st w. subst (λ (y : Reply). HasReplied new step y) (e s st) (h s st w)
replied_by sv new random a b (Err f) e h = tt

pub random_by : (sv : Server) (random left : Option (List (List ℕ))) (a b : Serving → Reply) (r : Result Step ServeFault) → ((s : Serving) → RepresentsServing sv s → a s ≡ b s)
    → OnOk r ((s : Serving) → random ≡ Some s.play.random → left ≡ Some (a s).0.play.random) → OnOk r ((s : Serving) → RepresentsServing sv s → random ≡ Some s.play.random → left ≡ Some (b s).0.play.random)
random_by sv random left a b (Ok step) e h = λ s st w. h s w ∙ ap (λ (y : Reply). Some y.0.play.random) (e s st)
random_by sv random left a b (Err f) e h = tt

-- ---- a start

-- there is no program of its graph's name
pub no_start : (s : Serving) (start : ScriptStart) (now : List Program) (found : Option (Bor Program)) → option_copied found ≡ find (is_named start.graph) now → is_some found ≡ false → s.play.past.programs ≡ now → says s (wrong_text Unknown) ≡ starts s start
no_start s start now None e none is = ap (λ (o : Option Program). option_map_or (λ p. calls (less 1 s) (Start (cast_of_start s.play.past.programs start (next_random s.play.random)))) o (says s (wrong_text Unknown))) (e ∙ ap (find (is_named start.graph)) (sym is))
no_start s start now (Some p) e none is = absurd (cc)

-- there is one
pub starts_is : (s : Serving) (start : ScriptStart) (now : List Program) (nonce : List ℕ) (found : Option (Bor Program)) → option_copied found ≡ find (is_named start.graph) now → is_some found ≡ true → s.play.past.programs ≡ now
    → nonce ≡ next_random s.play.random → calls (less 1 s) (Start (cast_of_start now start nonce)) ≡ starts s start
starts_is s start now nonce None e some is w = absurd (cc)
starts_is s start now nonce (Some p) e some is w =
    (λ i. calls (less 1 s) (Start (cast_of_start (sym is i) start (w i))))
    ∙ ap (λ (o : Option Program). option_map_or (λ p. calls (less 1 s) (Start (cast_of_start s.play.past.programs start (next_random s.play.random)))) o (says s (wrong_text Unknown))) (e ∙ ap (find (is_named start.graph)) (sym is))
