-- What an answer that makes no call comes to, in each state that the server represents.
use Rattle.std.proofs.Common.{◌≡◌, ℕ, ◌-◌, ◌<◌, ◌≤◌, Bool, true, false, List, [], length, map, get_or, Option, Some, None, is_some, option_map, IfOk, OnErr, Result, Ok, Err, Bor, refl, sym, ap, ◌∙◌, subst}
use Rattle.std.specs.Prelude.{slice_get, unwrap_or}
use Rattle.std.specs.Option.{option_copied, option_map_or}
use Rattle.std.proofs.lemmas.Option.{slice_get-map, slice_get-get_or, slice_get_past}
use Rattle.sg_again.specs.LastFrames.{SentFrame, frame_of}
use Rattle.sg_answers.specs.Answers.{unknown_text, nothing_text, turn_text, waits_text, over_text, unsent_text}
use Rattle.sg_play.specs.Steps.{Step}
use Rattle.sg_protocol.specs.Graph.{Graph}
use Rattle.sg_protocol.specs.Keyring.{Program}
use Rattle.sg_protocol.specs.Named.{live_with}
use Rattle.sg_protocol.specs.Past.{node_of}
use Rattle.sg_protocol.specs.Session.{Session}
use Rattle.sg_protocol.specs.Turn.{turn_of}
use Rattle.sg_serve.specs.declared.fault.ServeFault.{ServeFault}
use Rattle.sg_serve.specs.declared.server.Server.{Server}
use Rattle.sg_serve.specs.Lines.{given, unsent_line}
use Rattle.sg_serve.specs.Posted.{posted}
use Rattle.sg_serve.specs.Serving.{Reply, Serving, of_session, repeats, says, sends_again, sids_of, turn_line}
use Rattle.sg_serve.specs.Representation.{HasReplied, RepresentsServing}

-- ---- a text

-- an answer whose frame the link didn't take
pub unsent_is : (took : Bool) (frame : Option SentFrame) (text : List ℕ) (step : Step) → took ≡ false → is_some frame ≡ true → record { line = text; frames = posted frame } ≡ step → (given took step).line ≡ unsent_text text
unsent_is true frame text step e n is = absurd (cc)
unsent_is false None text step e n is = absurd (cc)
unsent_is false (Some f) text step e n is = ap (λ (s : Step). unsent_line s.frames s.line) (sym is)

-- what holds anyway on Err
pub on_err : {T E : Type 0} (r : Result T E) (P : Type 0) → P → OnErr r P
on_err (Ok t) P h = tt
on_err (Err e) P h = h

-- what follows on Err
pub mapped_err : {T E : Type 0} (r : Result T E) (P Q : Type 0) → (P → Q) → OnErr r P → OnErr r Q
mapped_err (Ok t) P Q f h = tt
mapped_err (Err e) P Q f h = f h

-- ---- graphs

pub graph_some : {A : Type 0} (xs : List (Option (Bor A))) (now : List (Option A)) (i : ℕ) (x : Option (Bor A)) → map option_copied xs ≡ now → i < length xs → x ≡ get_or xs i x → option_copied x ≡ unwrap_or (slice_get now i) None
graph_some {A} xs now i x v l e =
    ap option_copied e
    ∙ sym (ap (λ (o : Option (Option A)). unwrap_or o None) (ap (λ (ys : List (Option A)). slice_get ys i) (sym v) ∙ slice_get-map option_copied xs i ∙ ap (option_map option_copied) (slice_get-get_or xs i x l)))

pub graph_none : {A : Type 0} (xs : List (Option (Bor A))) (now : List (Option A)) (i : ℕ) → map option_copied xs ≡ now → length xs ≤ i → None ≡ unwrap_or (slice_get now i) None
graph_none {A} xs now i v l =
    sym (ap (λ (o : Option (Option A)). unwrap_or o None) (ap (λ (ys : List (Option A)). slice_get ys i) (sym v) ∙ slice_get-map option_copied xs i ∙ ap (option_map option_copied) (slice_get_past xs i l)))

-- there is a value if there is one that it comes of
pub some_same : {A B : Type 0} (r : Option (Bor A)) (o : Option B) (f : B → A) → option_copied r ≡ option_map f o → is_some r ≡ is_some o
some_same None None f e = refl
some_same None (Some b) f e = absurd (cc)
some_same (Some x) None f e = absurd (cc)
some_same (Some x) (Some b) f e = refl

-- ---- a session

-- of a session that there isn't
pub of_none : (s : Serving) (n : ℕ) (reply : List ℕ → Reply) → slice_get (sids_of s.play) (n - 1) ≡ None → says s (unknown_text n) ≡ of_session s n reply
of_none s n reply e = ap (λ (o : Option (List ℕ)). option_map_or reply o (says s (unknown_text n))) (sym e)

-- of one that there is
pub of_some : (s : Serving) (n : ℕ) (sid : List ℕ) (reply : List ℕ → Reply) → slice_get (sids_of s.play) (n - 1) ≡ Some sid → reply sid ≡ of_session s n reply
of_some s n sid reply e = ap (λ (o : Option (List ℕ)). option_map_or reply o (says s (unknown_text n))) (sym e)

-- no frame of it is kept
pub nothing_again : (s : Serving) (n : ℕ) (sid : List ℕ) → slice_get (sids_of s.play) (n - 1) ≡ Some sid → frame_of s.last sid ≡ None → says s (nothing_text n) ≡ of_session s n (sends_again s n)
nothing_again s n sid is e = ap (λ (o : Option SentFrame). option_map_or (repeats s) o (says s (nothing_text n))) (sym e) ∙ of_some s n sid (sends_again s n) is

-- its last frame is sent again
pub frame_again : (s : Serving) (n : ℕ) (sid : List ℕ) (f : SentFrame) → slice_get (sids_of s.play) (n - 1) ≡ Some sid → frame_of s.last sid ≡ Some f → repeats s f ≡ of_session s n (sends_again s n)
frame_again s n sid f is e = ap (λ (o : Option SentFrame). option_map_or (repeats s) o (says s (nothing_text n))) (sym e) ∙ of_some s n sid (sends_again s n) is

-- ---- where it is

module _ (s : Serving) (n : ℕ) (sid : List ℕ) (graph : Option Graph) (is : graph ≡ option_map (λ (x : Program × Session). x.0.graph) (live_with (node_of s.play.past) sid)) where
  -- where it is by the graph that it has if it is live
  abbrev line_by : Option Graph → List ℕ
  line_by o = option_map_or (λ (g : Graph). option_map_or (turn_text n g) (turn_of (node_of s.play.past) sid) (waits_text n)) o (over_text n)

  by_graph : line_by graph ≡ turn_line s n sid
  by_graph = ap line_by is ∙ by (live_with (node_of s.play.past) sid)
    where
      by : (o : Option (Program × Session)) → line_by (option_map (λ (x : Program × Session). x.0.graph) o) ≡ option_map_or (λ (x : Program × Session). option_map_or (turn_text n x.0.graph) (turn_of (node_of s.play.past) sid) (waits_text n)) o (over_text n)
      by None = refl
      by (Some x) = refl

  pub at_turn : (g : Graph) (node : ℕ) → graph ≡ Some g → turn_of (node_of s.play.past) sid ≡ Some node → turn_text n g node ≡ turn_line s n sid
  at_turn g node live t = ap (λ (o : Option ℕ). option_map_or (turn_text n g) o (waits_text n)) (sym t) ∙ ap line_by (sym live) ∙ by_graph

  pub waits : (g : Graph) → graph ≡ Some g → turn_of (node_of s.play.past) sid ≡ None → waits_text n ≡ turn_line s n sid
  waits g live t = ap (λ (o : Option ℕ). option_map_or (turn_text n g) o (waits_text n)) (sym t) ∙ ap line_by (sym live) ∙ by_graph

  pub is_over : graph ≡ None → over_text n ≡ turn_line s n sid
  is_over none = ap line_by (sym none) ∙ by_graph

-- ---- in each state

-- a text that is this one
pub text_each : (sv : Server) (text : List ℕ) (line : Serving → List ℕ) (r : Result Step ServeFault) → ((s : Serving) → RepresentsServing sv s → text ≡ line s) → IfOk r (λ x. x ≡ record { line = text; frames = [] })
    → IfOk r (λ x. (s : Serving) → RepresentsServing sv s → x ≡ record { line = line s; frames = [] })
text_each sv text line (Ok step) e h = λ s st. h ∙ ap (λ (l : List ℕ). record { line = l; frames = [] }) (e s st)
text_each sv text line (Err f) e h = tt

-- an answer that is this one
pub replied_each : (sv : Server) (step : Step) (reply : Serving → Reply) (r : Result Step ServeFault) → ((s : Serving) → RepresentsServing sv s → (s, step) ≡ reply s) → IfOk r (λ x. x ≡ step)
    → IfOk r (λ x. (s : Serving) → RepresentsServing sv s → HasReplied sv x (reply s))
replied_each sv step reply (Ok x) e h = λ s st. subst (λ (y : Reply). HasReplied sv x y) (e s st) (record { represents = st; is_step = h })
replied_each sv step reply (Err f) e h = tt

-- an answer of one text in each state
pub replied_line : (sv : Server) (line : Serving → List ℕ) (reply : Serving → Reply) (r : Result Step ServeFault) → ((s : Serving) → RepresentsServing sv s → says s (line s) ≡ reply s)
    → IfOk r (λ x. (s : Serving) → RepresentsServing sv s → x ≡ record { line = line s; frames = [] }) → IfOk r (λ x. (s : Serving) → RepresentsServing sv s → HasReplied sv x (reply s))
replied_line sv line reply (Ok x) e h = λ s st. subst (λ (y : Reply). HasReplied sv x y) (e s st) (record { represents = st; is_step = h s st })
replied_line sv line reply (Err f) e h = tt
