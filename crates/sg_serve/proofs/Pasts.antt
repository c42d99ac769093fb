-- The past of a run is that of a node, line by line.
use Rattle.std.proofs.Common.{◌≡◌, ◌⊎◌, inl, inr, ℕ, Bool, true, false, if◌then◌else◌, List, [], ◌∷◌, ◌++◌, find, position, slice_get, bytes_eq, Option, Some, None, is_some, refl, sym, ap, ◌∙◌, subst}
use Rattle.std.specs.Prelude.{◌-◌}
use Rattle.std.specs.Option.{option_map_or}
use Rattle.sg_again.specs.LastFrames.{frame_of}
use Rattle.sg_answers.specs.Answers.{nothing_text, unknown_text}
use Rattle.sg_input.specs.Lines.{Line, Whole, TooLong}
use Rattle.sg_ledger.specs.Format.{Join}
use Rattle.sg_model.specs.Names.{Name}
use Rattle.sg_program.specs.Together.{is_named}
use Rattle.sg_protocol.specs.Acting.{answer}
use Rattle.sg_protocol.specs.Calls.{Abandon, Call}
use Rattle.sg_protocol.specs.Graph.{Graph}
use Rattle.sg_protocol.specs.Keyring.{Keyring, Program}
use Rattle.sg_protocol.specs.Node.{Node}
use Rattle.sg_protocol.specs.NodeAfter.{node_after}
use Rattle.sg_protocol.specs.Past.{AreAnswers, AnsweredCall, Past, new_node, node_after_all, past_after}
use Rattle.sg_protocol.specs.Texts.{Hash, real}
use Rattle.sg_sched_text.specs.Adding.{is_twice, known_values}
use Rattle.sg_request.specs.Request.{request_of}
use Rattle.sg_request.specs.declared.request.Request.{Request}
use Rattle.sg_request.specs.declared.request.Request.TheVariants as request
use Rattle.sg_sched.specs.Format.Items.{labels_of}
use Rattle.sg_sched.specs.Format.LineContents.{Assignment}
use Rattle.sg_script.specs.Script.{Start as ScriptStart}
use Rattle.sg_wait.specs.Waiting.{received}
use Rattle.sg_serve.specs.Laws.{AgainChangesNothing, IsOfNode, RunsAreOfNodes}
use Rattle.sg_serve.specs.Lines.{Run, asked, receives, with_line, with_lines}
use Rattle.sg_serve.specs.Served.{opening}
use Rattle.sg_serve.specs.Serving.{Reply, Serving, acts_by, acts_if, graph_at, of_session, repeats, replies, says, sends_again, sids_of, starts}

-- one call more, or none
abbrev pub Goes : Past → Past → Type 0
Goes a b = (b ≡ a) ⊎ ((c : Call) × (b ≡ past_after real a c))

abbrev GoesTo : Serving → Reply → Type 0
GoesTo s reply = Goes s.play.past reply.0.play.past

by_option : {A : Type 0} (s : Serving) (f : A → Reply) (o : Option A) (d : Reply) → ((a : A) → GoesTo s (f a)) → GoesTo s d → GoesTo s (option_map_or f o d)
by_option s f None d h g = g
by_option s f (Some a) d h g = h a

by_bool : (s : Serving) (b : Bool) (x y : Reply) → GoesTo s x → GoesTo s y → GoesTo s (if b then x else y)
by_bool s true x y h g = h
by_bool s false x y h g = g

in_session : (s : Serving) (n : ℕ) (f : List ℕ → Reply) → ((sid : List ℕ) → GoesTo s (f sid)) → GoesTo s (of_session s n f)
in_session s n f h = by_option s f (slice_get (sids_of s.play) (n - 1)) _ h (inl refl)

by_start : (s : Serving) (start : ScriptStart) → GoesTo s (starts s start)
by_start s start = by_option s _ (find (is_named start.graph) s.play.past.programs) _ (λ p. inr (_, refl)) (inl refl)

by_act : (s : Serving) (sid : List ℕ) (graph : Option Graph) (label : Name) (given : List Assignment) → GoesTo s (acts_by s sid graph label given)
by_act s sid graph label given =
    by_option s (acts_if s sid graph given) (position (bytes_eq label) (labels_of graph)) _
    (λ l. by_option s _ (known_values graph given) _ (λ values. by_bool s (is_twice given) _ _ (inl refl) (inr (_, refl))) (inl refl)) (inl refl)

by_request : (s : Serving) (q : Request) → GoesTo s (replies s q)
by_request s (request.Start graph version names) = by_start s (record { graph = graph; version = version; cast = names })
by_request s (request.Act n label given) = in_session s n _ (λ sid. by_act s sid (graph_at s n) label given)
by_request s (request.Abandon n) = in_session s n _ (λ sid. inr (Abandon sid, refl))
by_request s (request.Receive within) = inl refl
by_request s (request.Again n) = in_session s n _ (λ sid. by_option s (repeats s) (frame_of s.last sid) _ (λ f. inl refl) (inl refl))
by_request s (request.Turn n) = in_session s n _ (λ sid. inl refl)
by_request s (request.Id n) = in_session s n _ (λ sid. inl refl)
by_request s request.Quit = inl refl

by_wait : (took limited : Bool) (r : Run) → Goes r.serving.play.past (receives took limited r).serving.play.past
by_wait true limited r = by_option r.serving _ (received limited r.coming).0 _ (λ bytes. inr (_, refl)) (inl refl)
by_wait false limited r = inl refl

by_asked : (took : Bool) (r : Run) (q : Request) → Goes r.serving.play.past (asked took r q).serving.play.past
by_asked took r (request.Start graph version names) = by_request r.serving (request.Start graph version names)
by_asked took r (request.Act n label given) = by_request r.serving (request.Act n label given)
by_asked took r (request.Abandon n) = by_request r.serving (request.Abandon n)
by_asked took r (request.Receive within) = by_wait took (is_some within) r
by_asked took r (request.Again n) = by_request r.serving (request.Again n)
by_asked took r (request.Turn n) = by_request r.serving (request.Turn n)
by_asked took r (request.Id n) = by_request r.serving (request.Id n)
by_asked took r request.Quit = inl refl

run_option : (took : Bool) (r : Run) (o : Option Request) (d : Run) → Goes r.serving.play.past d.serving.play.past → Goes r.serving.play.past (option_map_or (asked took r) o d).serving.play.past
run_option took r None d h = h
run_option took r (Some q) d h = by_asked took r q

pub by_line : (took : Bool) (r : Run) (line : Line) → Goes r.serving.play.past (with_line took r line).serving.play.past
by_line took r TooLong = inl refl
by_line took r (Whole bytes) = run_option took r (request_of bytes) _ (inl refl)

-- ---- answers

answers_more : (sha : Hash) (n : Node) (cs : List AnsweredCall) (c : Call) → AreAnswers sha n cs → AreAnswers sha n (cs ++ record { call = c; answer = answer sha (node_after_all n cs) c } ∷ [])
answers_more sha n [] c h = (refl, tt)
answers_more sha n (d ∷ cs) c h = (h.0, answers_more sha (node_after n d.call d.answer) cs c h.1)

module _ (keys : Keyring) (programs : List Program) (first : List Join) where
  -- a past of such a node
  record OfNode (past : Past) : Type 0 where
    is_keys : past.keys ≡ keys
    is_programs : past.programs ≡ programs
    is_first : past.first ≡ first
    answers : AreAnswers real (new_node past.keys past.programs past.first) past.calls

  of_more : (a b : Past) → Goes a b → OfNode a → OfNode b
  of_more a b (inl e) h = subst OfNode (sym e) h
  of_more a b (inr (c, e)) h = subst OfNode (sym e) (record { is_keys = h.is_keys; is_programs = h.is_programs; is_first = h.is_first; answers = answers_more real (new_node a.keys a.programs a.first) a.calls c h.answers })

  of_lines : (r : Run) (xs : List (Line × Bool)) → OfNode r.serving.play.past → OfNode (with_lines r xs).serving.play.past
  of_lines r [] h = h
  of_lines r (x ∷ xs) h = of_lines (with_line x.1 r x.0) xs (of_more r.serving.play.past (with_line x.1 r x.0).serving.play.past (by_line x.1 r x.0) h)

  as_run : (r : Run) → OfNode r.serving.play.past → IsOfNode keys programs first r
  as_run r h = record {
    is_keys = h.is_keys;
    is_programs = h.is_programs;
    is_first = h.is_first;
    answers = subst (λ (n : Node). AreAnswers real n r.serving.play.past.calls) (λ i. new_node (h.is_keys i) (h.is_programs i) (h.is_first i)) h.answers;
  }

pub of_nodes : RunsAreOfNodes
of_nodes keys programs first coming random lines =
    as_run keys programs first (with_lines (opening keys programs first coming random) lines) (of_lines keys programs first (opening keys programs first coming random) lines (record { is_keys = refl; is_programs = refl; is_first = refl; answers = tt }))

-- ---- a frame once more

again_same : (s : Serving) (o : Option _) (n : ℕ) → (option_map_or (sends_again s n) o (says s (unknown_text n))).0 ≡ s
again_same s None n = refl
again_same s (Some sid) n = by (frame_of s.last sid)
  where
    by : (o : Option _) → (option_map_or (repeats s) o (says s (nothing_text n))).0 ≡ s
    by None = refl
    by (Some f) = refl

pub again_same_run : AgainChangesNothing
again_same_run took r bytes n e =
    ap (λ (o : Option Request). (option_map_or (asked took r) o (with_line took r TooLong)).serving) e ∙ again_same r.serving (slice_get (sids_of r.serving.play) (n - 1)) n
