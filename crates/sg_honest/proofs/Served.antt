-- The past of a run of lines that were served is that of an honest principal.
use Rattle.std.specs.Prelude.{◌≡◌, ◌-◌, ◌==◌, ◌||◌, ◌&&◌, ◌<◌, nat_le, ℕ, Bool, true, false, if◌then◌else◌, List, [], ◌∷◌, IfSome, IsTrue, find, is_some, length, position, bytes_eq, slice_get, refl, Option, Some, None}
use Rattle.std.specs.List.{AllByRecursion, list_all}
use Rattle.std.specs.Option.{option_map_or}
use Rattle.std.proofs.Common.{sym, subst, inl, inr, arith}
use Rattle.std.proofs.lemmas.Bool.{and_parts, cases_Bool, eqb-true}
use Rattle.std.proofs.lemmas.Bool.Decides.{nat_tests}
use Rattle.std.proofs.lemmas.List.Elements.{recursion_from_All}
use Rattle.sg_again.specs.LastFrames.{frame_of}
use Rattle.sg_input.specs.Lines.{Line, TooLong, Whole}
use Rattle.sg_ledger.specs.Format.{Join}
use Rattle.sg_model.specs.Bytes.{AreBytes, IsBytes}
use Rattle.sg_model.specs.Last.{Map}
use Rattle.sg_model.specs.Names.{Name, is_name}
use Rattle.sg_model.specs.Values.{Value}
use Rattle.sg_play.specs.Played.{cast_of_start, next_confounders, next_random}
use Rattle.sg_program.specs.Together.{is_named}
use Rattle.sg_protocol.specs.Calls.{Abandon, Act, Call, Deliver, Start}
use Rattle.sg_protocol.specs.Frame.{IsValue}
use Rattle.sg_protocol.specs.Graph.{Graph}
use Rattle.sg_protocol.specs.IsSchedule.{IsProgram}
use Rattle.sg_protocol.specs.Keyring.{Program}
use Rattle.sg_protocol.specs.Ranges.{IsCallInRange, IsCast}
use Rattle.sg_protocol.specs.TextLaws.{IsVersion}
use Rattle.sg_protocol.specs.Texts.{real}
use Rattle.sg_request.specs.Request.{is_cast, is_request, request_of}
use Rattle.sg_request.specs.declared.request.Request.{Request}
use Rattle.sg_request.specs.declared.request.Request.TheVariants as request
use Rattle.sg_request.proofs.Sound.{form_sound}
use Rattle.sg_sched.specs.Format.Forms.{are_names, is_assignment}
use Rattle.sg_sched.specs.Format.Items.{labels_of}
use Rattle.sg_sched.specs.Format.Numbered.{values}
use Rattle.sg_sched.specs.Format.Faults.{knows_variable}
use Rattle.sg_sched.specs.Format.LineContents.{Assignment}
use Rattle.sg_sched_text.specs.Adding.{is_twice, known_values}
use Rattle.sg_sched_text.proofs.MeantSteps.{values_fit}
use Rattle.sg_script.specs.Script.{Start as ScriptStart}
use Rattle.sg_serve.specs.Lines.{Run, asked, receives, with_line, with_lines}
use Rattle.sg_serve.specs.Served.{opening}
use Rattle.sg_serve.specs.Serving.{Reply, Serving, acts, acts_by, acts_if, calls, graph_at, less, of_session, repeats, replies, sids_of, starts, takes}
use Rattle.sg_wait.specs.Waiting.{deliveries_of, received}
use Rattle.sg_wait.specs.declared.coming.Coming.{Coming}
use Rattle.sg_wait.specs.declared.coming.Coming.TheVariants.{Delivery, Silence}
use Rattle.sg_honest.specs.Laws.{RunsAreHonest}
use Rattle.sg_honest.proofs.Plays.{Fine, act_ranged, begins_fine, called_fine, honest, next_bytes, start_ranged, without_fine}

module _ (programs : List Program) (first : List Join) (are : AllByRecursion (IsProgram real) programs) where
  abbrev FineTo : Reply → Type 0
  FineTo reply = Fine programs first are reply.0.play

  by_option : {A : Type 0} (f : A → Reply) (o : Option A) (d : Reply) → ((a : A) → o ≡ Some a → FineTo (f a)) → FineTo d → FineTo (option_map_or f o d)
  by_option f None d h g = g
  by_option f (Some a) d h g = h a refl

  by_bool : (b : Bool) (x y : Reply) → FineTo x → FineTo y → FineTo (if b then x else y)
  by_bool true x y h g = h
  by_bool false x y h g = g

  calls_fine : (s : Serving) (c : Call) → Fine programs first are s.play → IsCallInRange c → FineTo (calls s c)
  calls_fine s c h range = called_fine programs first are s.play c h range

  in_session : (s : Serving) (n : ℕ) (f : List ℕ → Reply) → Fine programs first are s.play → ((sid : List ℕ) → FineTo (f sid)) → FineTo (of_session s n f)
  in_session s n f h g = by_option f (slice_get (sids_of s.play) (n - 1)) _ (λ sid e. g sid) h

  -- ---- a start

  version_of : (n : ℕ) → (n == 1 || n == 2) ≡ true → IsVersion n
  version_of n h = elim (cases_Bool (n == 1)) [
    | inl e ↦ inl (eqb-true n 1 e)
    | inr e ↦ inr (let k : (n == 2) ≡ true = rw e at h in eqb-true n 2 k)
  ]

  names_rec : (ns : List Name) → list_all is_name ns ≡ true → AllByRecursion (λ n. IsTrue (is_name n)) ns
  names_rec [] h = tt
  names_rec (n ∷ ns) h = let q = and_parts (is_name n) (list_all is_name ns) h in (q.0, names_rec ns q.1)

  by_start : (s : Serving) (start : ScriptStart) → Fine programs first are s.play → (start.version == 1 || start.version == 2) ≡ true → is_cast start.cast ≡ true → FineTo (starts s start)
  by_start s start h v c = by_option _ (find (is_named start.graph) s.play.past.programs) _ (λ p e. calls_fine (less 1 s) (Start (cast_of_start s.play.past.programs start (next_random s.play.random))) (without_fine programs first are 1 s.play h) (range p e)) h
    where
      counts : (nat_le 2 (length start.cast) ≡ true) × (nat_le (length start.cast) 16 ≡ true)
      counts = and_parts (nat_le 2 (length start.cast)) (nat_le (length start.cast) 16) (and_parts (nat_le 2 (length start.cast) && nat_le (length start.cast) 16) (are_names start.cast) c).0

      range : (p : Program) → find (is_named start.graph) s.play.past.programs ≡ Some p → IsCast (cast_of_start s.play.past.programs start (next_random s.play.random))
      range p e = subst (λ ps. IsCast (cast_of_start ps start (next_random s.play.random))) (sym h.its_programs)
          (start_ranged programs first are start (next_random s.play.random) p (subst (λ ps. find (is_named start.graph) ps ≡ Some p) h.its_programs e) (version_of start.version v) (let a = counts.0 in grind (arith, nat_tests, a)) (let a = counts.1 in grind (arith, nat_tests, a)) (names_rec start.cast (and_parts (nat_le 2 (length start.cast) && nat_le (length start.cast) 16) (are_names start.cast) c).1) (next_bytes s.play.random h.random))

  -- ---- an act

  known_are : (g : Option Graph) (given : List Assignment) (vs : Map Value) → known_values g given ≡ Some vs → values g given ≡ vs
  known_are g given vs e = go (list_all (λ v. knows_variable g v.variable) given) e
    where
      go : (b : Bool) → (if b then Some (values g given) else None) ≡ Some vs → values g given ≡ vs
      go true q = cc
      go false q = absurd (cc)

  by_act : (s : Serving) (sid : List ℕ) (graph : Option Graph) (label : Name) (given : List Assignment) → Fine programs first are s.play → list_all is_assignment given ≡ true → FineTo (acts_by s sid graph label given)
  by_act s sid graph label given h g =
      by_option (acts_if s sid graph given) (position (bytes_eq label) (labels_of graph)) _
      (λ l e. by_option _ (known_values graph given) _ (λ vs q. by_bool (is_twice given) _ _ h (acts_fine l vs (known_are graph given vs q))) h) h
    where
      acts_fine : (l : ℕ) (vs : Map Value) → values graph given ≡ vs → FineTo (acts s sid l vs)
      acts_fine l vs q = calls_fine (less (length vs) s) (Act sid l vs (next_confounders (length vs) s.play.random)) (without_fine programs first are (length vs) s.play h) (act_ranged programs first are sid l vs s.play.random h.random (subst (AllByRecursion (λ (w : ℕ × Value). (w.0 < 256) × IsValue w.1)) q (values_fit graph given g)))

  -- ---- a request

  by_request : (s : Serving) (q : Request) → Fine programs first are s.play → is_request q ≡ true → FineTo (replies s q)
  by_request s (request.Start graph version names) h is = (let a = and_parts _ _ is in let b = and_parts _ _ a.0 in by_start s (record { graph = graph; version = version; cast = names }) h b.1 a.1)
  by_request s (request.Act n label given) h is = in_session s n _ h (λ sid. by_act s sid (graph_at s n) label given h (and_parts _ _ is).1)
  by_request s (request.Abandon n) h is = in_session s n _ h (λ sid. calls_fine s (Abandon sid) h tt)
  by_request s (request.Receive within) h is = h
  by_request s (request.Again n) h is = in_session s n _ h (λ sid. by_option (repeats s) (frame_of s.last sid) _ (λ f e. h) h)
  by_request s (request.Turn n) h is = in_session s n _ h (λ sid. h)
  by_request s (request.Id n) h is = in_session s n _ h (λ sid. h)
  by_request s request.Quit h is = h

  -- ---- a line

  record Fit (r : Run) : Type 0 where
    play : Fine programs first are r.serving.play
    coming : AllByRecursion IsBytes (deliveries_of r.coming)

  received_bytes : (limited : Bool) (coming : List Coming) → AllByRecursion IsBytes (deliveries_of coming) → IfSome (received limited coming).0 IsBytes × AllByRecursion IsBytes (deliveries_of (received limited coming).1)
  received_bytes limited [] h = (tt, tt)
  received_bytes limited (Delivery bytes ∷ coming) h = (h.0, h.1)
  received_bytes true (Silence ∷ coming) h = (tt, h)
  received_bytes false (Silence ∷ coming) h = received_bytes false coming h

  takes_fine : (s : Serving) (o : Option (List ℕ)) → Fine programs first are s.play → IfSome o IsBytes → FineTo (takes s o)
  takes_fine s None h b = h
  takes_fine s (Some bytes) h b = calls_fine s (Deliver bytes) h b

  waits_fit : (took limited : Bool) (r : Run) → Fit r → Fit (receives took limited r)
  waits_fit true limited r h = (let x = received_bytes limited r.coming h.coming in record { play = takes_fine r.serving (received limited r.coming).0 h.play x.0; coming = x.1 })
  waits_fit false limited r h = record { play = h.play; coming = h.coming }

  asked_fit : (took : Bool) (r : Run) (q : Request) → Fit r → is_request q ≡ true → Fit (asked took r q)
  asked_fit took r (request.Start graph version names) h is = record { play = by_request r.serving (request.Start graph version names) h.play is; coming = h.coming }
  asked_fit took r (request.Act n label given) h is = record { play = by_request r.serving (request.Act n label given) h.play is; coming = h.coming }
  asked_fit took r (request.Abandon n) h is = record { play = by_request r.serving (request.Abandon n) h.play is; coming = h.coming }
  asked_fit took r (request.Receive within) h is = waits_fit took (is_some within) r h
  asked_fit took r (request.Again n) h is = record { play = by_request r.serving (request.Again n) h.play is; coming = h.coming }
  asked_fit took r (request.Turn n) h is = record { play = by_request r.serving (request.Turn n) h.play is; coming = h.coming }
  asked_fit took r (request.Id n) h is = record { play = by_request r.serving (request.Id n) h.play is; coming = h.coming }
  asked_fit took r request.Quit h is = record { play = h.play; coming = h.coming }

  line_fit : (took : Bool) (r : Run) (line : Line) → Fit r → Fit (with_line took r line)
  line_fit took r TooLong h = record { play = h.play; coming = h.coming }
  line_fit took r (Whole bytes) h = go (request_of bytes) (λ q e. (form_sound _ q e).indices)
    where
      go : (o : Option Request) → ((q : Request) → o ≡ Some q → is_request q ≡ true) → Fit (option_map_or (asked took r) o (with_line took r TooLong))
      go None f = record { play = h.play; coming = h.coming }
      go (Some q) f = asked_fit took r q h (f q refl)

  lines_fit : (r : Run) (xs : List (Line × Bool)) → Fit r → Fit (with_lines r xs)
  lines_fit r [] h = h
  lines_fit r (x ∷ xs) h = lines_fit (with_line x.1 r x.0) xs (line_fit x.1 r x.0 h)

  begins_fit : (keys : _) (coming : List Coming) (random : List (List ℕ)) → AllByRecursion IsBytes (deliveries_of coming) → AllByRecursion (AreBytes 16) random → Fit (opening keys programs first coming random)
  begins_fit keys coming random ds rs = record { play = begins_fine programs first are keys [] random tt rs; coming = ds }

  run_fine : (r : Run) → Fit r → Fine programs first are r.serving.play
  run_fine r h = h.play

pub runs_are_honest : RunsAreHonest
runs_are_honest keys programs first coming random lines are differ ds rs =
    let are_ = recursion_from_All (IsProgram real) programs are in
    let r : Run = with_lines (opening keys programs first coming random) lines in
    honest programs first are_ r.serving.play (run_fine programs first are_ r (lines_fit programs first are_ (opening keys programs first coming random) lines (begins_fit programs first are_ keys coming random (recursion_from_All IsBytes (deliveries_of coming) ds) (recursion_from_All (AreBytes 16) random rs)))) differ
