-- The past of a play is that of an honest principal.
use Rattle.std.specs.Prelude.{◌≡◌, ℕ, zero, suc, ◌<◌, ◌≤◌, List, [], ◌∷◌, ◌++◌, All, IsTrue, drop, find, length, replicate, refl, take, Option, Some, None}
use Rattle.std.specs.List.{AllByRecursion}
use Rattle.std.specs.Option.{option_map_or}
use Rattle.std.proofs.Common.{sym, ap, subst, inl, inr, arith}
use Rattle.std.proofs.lemmas.Bool.{cases_Bool}
use Rattle.std.proofs.lemmas.List.Elements.{All-from_recursion, recursion_from_All}
use Rattle.sg_apart.specs.Laws.{IsHonest}
use Rattle.sg_ledger.specs.Format.{Join}
use Rattle.sg_model.specs.Bytes.{AreBytes, IsBytes}
use Rattle.sg_model.specs.Names.{Name, is_name}
use Rattle.sg_model.specs.Values.{Value}
use Rattle.sg_model.proofs.Small.{all-append}
use Rattle.sg_model.proofs.Finding.{find_all}
use Rattle.sg_play.specs.Choosing.{is_ready, used}
use Rattle.sg_play.specs.Played.{Play, abandons, act_by, acts, all_deliveries, all_starts, answer_in, beginning, called, cast_of_start, chosen, next_confounders, next_random, or_abandons, played, plays, plays_on, sid_answered, starts, with_turn, without}
use Rattle.sg_program.specs.Together.{is_named}
use Rattle.sg_protocol.specs.Acting.{answer}
use Rattle.sg_protocol.specs.Calls.{Abandon, Act, Answer, Call, Deliver, Sends, Start}
use Rattle.sg_protocol.specs.Frame.{IsValue}
use Rattle.sg_protocol.specs.IsSchedule.{IsProgram}
use Rattle.sg_protocol.specs.Keyring.{Keyring, Program}
use Rattle.sg_protocol.specs.Node.{Node}
use Rattle.sg_protocol.specs.NodeAfter.{node_after}
use Rattle.sg_protocol.specs.Past.{AnsweredCall, AreAnswers, Past, new_node, node_after_all, node_of, pairs_differ}
use Rattle.sg_protocol.specs.Ranges.{IsCallInRange, IsCast}
use Rattle.sg_protocol.specs.Session.{Session}
use Rattle.sg_protocol.specs.Texts.{graph_text_of, real}
use Rattle.sg_protocol.specs.TextLaws.{IsVersion}
use Rattle.sg_protocol.specs.Named.{live_with}
use Rattle.sg_protocol.specs.Turn.{turn_of}
use Rattle.sg_protocol.proofs.RealHash.{real_hash}
use Rattle.sg_protocol.proofs.Spelled.{bytes-zeros, to_bytes}
use Rattle.sg_script.specs.Script.{Choice, IsChoice, IsScript, IsStart, Script}
use Rattle.sg_script.specs.Script.{Start as ScriptStart}
use Rattle.sg_honest.specs.Laws.{HasValues, PlaysAreHonest, up_to}

abbrev pub Ranged : AnsweredCall → Type 0
Ranged c = IsCallInRange c.call

abbrev pub AreRandom : List (List ℕ) → Type 0
AreRandom random = AllByRecursion (AreBytes 16) random

-- ---- random bytes

zeros : AreBytes 16 (replicate 16 0)
zeros = (refl, to_bytes (replicate 16 0) (bytes-zeros 16))

pub next_bytes : (random : List (List ℕ)) → AreRandom random → AreBytes 16 (next_random random)
next_bytes [] h = zeros
next_bytes (r ∷ rs) h = h.0

pub without_bytes : (n : ℕ) (random : List (List ℕ)) → AreRandom random → AreRandom (drop n random)
without_bytes zero random h = h
without_bytes (suc n) [] h = tt
without_bytes (suc n) (r ∷ rs) h = without_bytes n rs h.1

confounders : (n : ℕ) (random : List (List ℕ)) → AreRandom random → (length (next_confounders n random) ≡ n) × AreRandom (next_confounders n random)
confounders zero random h = (refl, tt)
confounders (suc n) random h = (let r = confounders n (drop 1 random) (without_bytes 1 random h) in (ap suc r.0, (next_bytes random h, r.1)))

-- ---- a play

answers_more : (n : Node) (cs : List AnsweredCall) (c : Call) → AreAnswers real n cs → AreAnswers real n (cs ++ record { call = c; answer = answer real (node_after_all n cs) c } ∷ [])
answers_more n [] c h = (refl, tt)
answers_more n (d ∷ cs) c h = (h.0, answers_more (node_after n d.call d.answer) cs c h.1)

abbrev AreWritten : Choice → Type 0
AreWritten c = AllByRecursion (λ (w : ℕ × Value). (w.0 < 256) × IsValue w.1) c.values

module _ (programs : List Program) (first : List Join) (are : AllByRecursion (IsProgram real) programs) where
  -- what is kept of each play
  pub record Fine (p : Play) : Type 0 where
    pub its_programs : p.past.programs ≡ programs
    pub its_first : p.past.first ≡ first
    pub calls : AllByRecursion Ranged p.past.calls
    pub answers : AreAnswers real (new_node p.past.keys p.past.programs p.past.first) p.past.calls
    pub random : AreRandom p.random
    pub choices : AllByRecursion AreWritten p.choices

  pub called_fine : (p : Play) (c : Call) → Fine p → IsCallInRange c → Fine (called p c)
  called_fine p c h range = record {
    its_programs = h.its_programs;
    its_first = h.its_first;
    calls = all-append Ranged p.past.calls _ h.calls (range, tt);
    answers = answers_more (new_node p.past.keys p.past.programs p.past.first) p.past.calls c h.answers;
    random = h.random;
    choices = h.choices;
  }

  pub without_fine : (n : ℕ) (p : Play) → Fine p → Fine (without n p)
  without_fine n p h = record { its_programs = h.its_programs; its_first = h.its_first; calls = h.calls; answers = h.answers; random = without_bytes n p.random h.random; choices = h.choices }

  fine_option : {A : Type 0} (f : A → Play) (o : Option A) (d : Play) → ((a : A) → o ≡ Some a → Fine (f a)) → Fine d → Fine (option_map_or f o d)
  fine_option f None d h g = g
  fine_option f (Some a) d h g = h a refl

  -- ---- calls in range

  pub act_ranged : (sid : List ℕ) (label : ℕ) (values : _) (random : List (List ℕ)) → AreRandom random → AllByRecursion (λ (w : ℕ × Value). (w.0 < 256) × IsValue w.1) values → IsCallInRange (Act sid label values (next_confounders (length values) random))
  act_ranged sid label values random h a = (let c = confounders (length values) random h in record { each = a; count = c.0; bytes = c.1 })

  -- the cast of a start
  pub start_ranged : (start : ScriptStart) (nonce : List ℕ) (program : Program) → find (is_named start.graph) programs ≡ Some program → IsVersion start.version → 2 ≤ length start.cast → length start.cast ≤ 16 → AllByRecursion (λ n. IsTrue (is_name n)) start.cast → AreBytes 16 nonce
      → IsCast (cast_of_start programs start nonce)
  start_ranged start nonce program found version two sixteen names bytes =
      let is : IsProgram real program = find_all (is_named start.graph) (IsProgram real) programs program are found in
      let graph : AreBytes 32 program.digest = subst (AreBytes 32) (sym is.digest) (real_hash (graph_text_of program.graph)) in
      record {
        version = version;
        fields = record {
          version = refl;
          graph = subst (λ o. AreBytes 32 (option_map_or (λ (p : Program). p.digest) o [])) (sym found) graph;
          nonce = bytes;
          count = (two, sixteen);
          names = names;
        };
      }

  -- ---- a turn

  left_fine : (sid : List ℕ) (p : Play) → Fine p → Fine (abandons sid p)
  left_fine sid p h = called_fine p (Abandon sid) h tt

  or_left_fine : (sid : List ℕ) (p : Play) (a : Answer) → Fine p → Fine (or_abandons sid p a)
  or_left_fine sid p (Sends e to f) h = h
  or_left_fine sid p other h = left_fine sid p h

  used_written : (graph : Name) (node : ℕ) (cs : List Choice) → AllByRecursion AreWritten cs → AllByRecursion AreWritten (used graph node cs)
  used_written graph node [] h = tt
  used_written graph node (c ∷ cs) h = elim (cases_Bool (is_ready graph node c)) [
    | inl e ↦ rw e h
    | inr e ↦ rw e (h.0, used_written graph node cs h.1)
  ]

  chosen_fine : (graph : Name) (node : ℕ) (c : Choice) (p : Play) → Fine p → Fine (chosen graph node c p)
  chosen_fine graph node c p h = record { its_programs = h.its_programs; its_first = h.its_first; calls = h.calls; answers = h.answers; random = without_bytes (length c.values) p.random h.random; choices = used_written graph node p.choices h.choices }

  acts_fine : (sid : List ℕ) (graph : Name) (node : ℕ) (c : Choice) (p : Play) → Fine p → AreWritten c → Fine (acts sid graph node c p)
  acts_fine sid graph node c p h a =
      or_left_fine sid (called (chosen graph node c p) (act_by sid c p.random)) (answer_in p (act_by sid c p.random))
      (called_fine (chosen graph node c p) (act_by sid c p.random) (chosen_fine graph node c p h) (act_ranged sid c.label c.values p.random h.random a))

  plays_fine : (sid : List ℕ) (graph : Name) (node : ℕ) (p : Play) → Fine p → Fine (plays sid graph node p)
  plays_fine sid graph node p h =
      fine_option (λ c. acts sid graph node c p) (find (is_ready graph node) p.choices) (abandons sid p) (λ c e. acts_fine sid graph node c p h (find_all (is_ready graph node) AreWritten p.choices c h.choices e)) (left_fine sid p h)

  turn_fine : (sid : List ℕ) (p : Play) → Fine p → Fine (plays_on sid p)
  turn_fine sid p h =
      fine_option (λ node. option_map_or (λ (x : Program × Session). plays sid x.0.graph.name node p) (live_with (node_of p.past) sid) (abandons sid p)) (turn_of (node_of p.past) sid) p
      (λ node e. fine_option (λ (x : Program × Session). plays sid x.0.graph.name node p) (live_with (node_of p.past) sid) (abandons sid p) (λ x q. plays_fine sid x.0.graph.name node p h) (left_fine sid p h)) h

  with_turn_fine : (p : Play) (c : Call) → Fine p → IsCallInRange c → Fine (with_turn p c)
  with_turn_fine p c h range = fine_option (λ sid. plays_on sid (called p c)) (sid_answered (answer_in p c)) (called p c) (λ sid e. turn_fine sid (called p c) (called_fine p c h range)) (called_fine p c h range)

  -- ---- a play

  start_fine : (p : Play) (s : ScriptStart) → Fine p → IsStart programs s → Fine (starts p s)
  start_fine p s h is =
      with_turn_fine (without 1 p) (Start (cast_of_start p.past.programs s (next_random p.random))) (without_fine 1 p h)
      (subst (λ ps. IsCast (cast_of_start ps s (next_random p.random))) (sym h.its_programs) (start_ranged s (next_random p.random) is.program is.found is.version is.two is.sixteen (recursion_from_All (λ n. IsTrue (is_name n)) s.cast is.names) (next_bytes p.random h.random)))

  starts_fine : (p : Play) (ss : List ScriptStart) → Fine p → AllByRecursion (IsStart programs) ss → Fine (all_starts p ss)
  starts_fine p [] h is = h
  starts_fine p (s ∷ ss) h is = starts_fine (starts p s) ss (start_fine p s h is.0) is.1

  deliveries_fine : (p : Play) (ds : List (List ℕ)) → Fine p → AllByRecursion IsBytes ds → Fine (all_deliveries p ds)
  deliveries_fine p [] h is = h
  deliveries_fine p (d ∷ ds) h is = deliveries_fine (with_turn p (Deliver d)) ds (with_turn_fine p (Deliver d) h is.0) is.1

  written : (c : Choice) → IsChoice programs c → HasValues c → AreWritten c
  written c is values = go c.values (recursion_from_All (λ (w : ℕ × Value). w.0 < length is.program.graph.variables) c.values is.variables) values
    where
      few : length is.program.graph.variables ≤ 32
      few = (find_all (is_named c.graph) (IsProgram real) programs is.program are is.found).is_graph.sizes.1

      go : (ws : _) → AllByRecursion (λ (w : ℕ × Value). w.0 < length is.program.graph.variables) ws → AllByRecursion (λ (w : ℕ × Value). IsValue w.1) ws → AllByRecursion (λ (w : ℕ × Value). (w.0 < 256) × IsValue w.1) ws
      go [] a b = tt
      go (w ∷ ws) a b = (((let l = a.0 in let f = few in omega (arith, l, f)), b.0), go ws a.1 b.1)

  all_written : (cs : List Choice) → AllByRecursion (IsChoice programs) cs → AllByRecursion HasValues cs → AllByRecursion AreWritten cs
  all_written [] a b = tt
  all_written (c ∷ cs) a b = (written c a.0 b.0, all_written cs a.1 b.1)

  pub begins_fine : (keys : Keyring) (choices : List Choice) (random : List (List ℕ)) → AllByRecursion AreWritten choices → AreRandom random → Fine (beginning keys programs first choices random)
  begins_fine keys choices random cs rs = record { its_programs = refl; its_first = refl; calls = tt; answers = tt; random = rs; choices = cs }

  played_fine : (keys : Keyring) (script : Script) (deliveries random : List (List ℕ)) → IsScript programs script → AllByRecursion HasValues script.choices → AllByRecursion IsBytes deliveries → AreRandom random → Fine (played keys programs first script deliveries random)
  played_fine keys script deliveries random is values ds rs =
      deliveries_fine (all_starts (beginning keys programs first script.choices random) script.starts) deliveries
      (starts_fine (beginning keys programs first script.choices random) script.starts (begins_fine keys script.choices random (all_written script.choices (recursion_from_All (IsChoice programs) script.choices is.choices) values) rs) (recursion_from_All (IsStart programs) script.starts is.starts)) ds

  -- ---- the past

  pub honest : (p : Play) → Fine p → IsTrue (pairs_differ first) → IsHonest real p.past
  honest p h differ = record {
    programs = subst (All (IsProgram real)) (sym h.its_programs) (All-from_recursion (IsProgram real) programs are);
    first = subst (λ js. IsTrue (pairs_differ js)) (sym h.its_first) differ;
    calls = All-from_recursion Ranged p.past.calls h.calls;
    answers = h.answers;
  }

-- the first calls of an honest principal are those of one
first_calls : (n : ℕ) (p : Past) → IsHonest real p → IsHonest real (up_to n p)
first_calls n p h = record {
  programs = h.programs;
  first = h.first;
  calls = All-from_recursion Ranged (take n p.calls) (ranged n p.calls (recursion_from_All Ranged p.calls h.calls));
  answers = answered n (new_node p.keys p.programs p.first) p.calls h.answers;
}
  where
    ranged : (n : ℕ) (cs : List AnsweredCall) → AllByRecursion Ranged cs → AllByRecursion Ranged (take n cs)
    ranged zero cs a = tt
    ranged (suc n) [] a = tt
    ranged (suc n) (c ∷ cs) a = (a.0, ranged n cs a.1)

    answered : (n : ℕ) (m : Node) (cs : List AnsweredCall) → AreAnswers real m cs → AreAnswers real m (take n cs)
    answered zero m cs a = tt
    answered (suc n) m [] a = tt
    answered (suc n) m (c ∷ cs) a = (a.0, answered n (node_after m c.call c.answer) cs a.1)

pub plays_are_honest : PlaysAreHonest
plays_are_honest keys programs first script deliveries random n are differ is values ds rs =
    let are_ = recursion_from_All (IsProgram real) programs are in
    let p : Play = played keys programs first script deliveries random in
    first_calls n p.past (honest programs first are_ p (played_fine programs first are_ keys script deliveries random is (recursion_from_All HasValues script.choices values) (recursion_from_All IsBytes deliveries ds) (recursion_from_All (AreBytes 16) random rs)) differ)
