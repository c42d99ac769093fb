-- No pair of session and role is joined twice in the whole life of a principal, its restarts included.
use Rattle.std.specs.Prelude.{◌≡◌, ℕ, ◌+◌, ◌⊎◌, Bool, true, false, if◌then◌else◌, List, [], ◌∷◌, ◌++◌, map, filter, flat_map, length, bytes_eq, refl, Option, Some, None, option_map}
use Rattle.std.specs.Option.{option_map_or}
use Rattle.std.proofs.Common.{sym, ◌∙◌, ap, subst, inl, inr, append_assoc, append-nil}
use Rattle.std.proofs.lemmas.Bool.{cases_Bool}
use Rattle.std.proofs.lemmas.List.Elements.{filter-append}
use Rattle.sg_model.specs.Names.{Name}
use Rattle.sg_protocol.specs.Texts.{Hash}
use Rattle.sg_protocol.specs.Keyring.{Program}
use Rattle.sg_protocol.specs.Calls.{Event, Call, events_of_answer}
use Rattle.sg_protocol.specs.Node.{Node}
use Rattle.sg_protocol.specs.Acting.{answer}
use Rattle.sg_protocol.specs.Notes.{notes}
use Rattle.sg_protocol.specs.NodeAfter.{node_after}
use Rattle.sg_protocol.specs.Past.{AnsweredCall, Past, new_node, node_of, node_after_all, past_after, joins_once, AreAnswers}
use Rattle.sg_protocol.specs.Schedule.{Schedule, Step, StartStep, ActStep, AbandonStep, DeliverStep, CraftStep}
use Rattle.sg_protocol.specs.World.{Outcome, Logged, World, Answered, Crafted, NoFrame, past_of, new_world, call_of}
use Rattle.sg_protocol.specs.Run.{called, called_if, uncalled, world_after, world_after_all, frame_in, events_of_outcome}
use Rattle.sg_protocol.specs.Restarts.{begun_anew, StepOrRestart, Stepped, Restarted, live_of, world_restarted, world_over_restarts, run_with_restarts, events_at, events_of_lives, LivesJoinOnce, NoRestartsNoChange, NoneJoinsTwiceOverRestarts}
use Rattle.sg_protocol.proofs.Progressing.{node_next, past_called_at}
use Rattle.sg_protocol.proofs.Joins.{Owns, owns_after, call_step}
use Rattle.sg_protocol.proofs.Paths.{flat_map-append}
use Rattle.sg_protocol.proofs.Whole.{first_past}
use Rattle.sg_model.proofs.Finding.{find_map}

-- the past of a principal after a restart of another, or of itself
abbrev pub anew_if : Name → Past → Past
anew_if who p = if bytes_eq p.keys.me who then begun_anew p else p

pub past_restarted : (w : World) (who me : Name) → past_of (world_restarted w who) me ≡ option_map (anew_if who) (past_of w me)
past_restarted w who me = find_map (λ p. bytes_eq p.keys.me me) (anew_if who) (λ p. go p (cases_Bool (bytes_eq p.keys.me who))) w.pasts
  where
    go : (p : Past) → (bytes_eq p.keys.me who ≡ true) ⊎ (bytes_eq p.keys.me who ≡ false) → bytes_eq (anew_if who p).keys.me me ≡ bytes_eq p.keys.me me
    go p (inl e) = rw e refl
    go p (inr e) = rw e refl

module _ (sha : Hash) (me : Name) where
  -- the entry is of the principal
  abbrev is_mine : Logged → Bool
  is_mine l = option_map_or (bytes_eq me) l.who false

  events-append : (xs ys : List Logged) → events_at me (xs ++ ys) ≡ events_at me xs ++ events_at me ys
  events-append xs ys = ap (flat_map (λ (l : Logged). events_of_outcome l.outcome)) (filter-append is_mine xs ys) ∙ flat_map-append (λ (l : Logged). events_of_outcome l.outcome) (filter is_mine xs) (filter is_mine ys)

  one_silent : (l : Logged) → events_of_outcome l.outcome ≡ [] → events_at me (l ∷ []) ≡ []
  one_silent l e = elim (cases_Bool (is_mine l)) [ inl h ↦ rw h (ap (λ z. z ++ []) e) | inr h ↦ rw h refl ]

  -- all that the principal joined is what its node has joined
  abbrev Life : List Logged → Option Past → Type 0
  Life log None = events_at me log ≡ []
  Life log (Some p) = Owns (node_of p).joins (node_of p).live × ((es : List Event) → joins_once (node_of p).joins es ≡ true → joins_once [] (events_at me log ++ es) ≡ true)

  life_same : (log log' : List Logged) (o : Option Past) → events_at me log' ≡ events_at me log → Life log o → Life log' o
  life_same log log' None e h = e ∙ h
  life_same log log' (Some p) e h = (h.0, λ es j. subst (λ l. joins_once [] (l ++ es) ≡ true) (sym e) (h.1 es j))

  life_idle : (w : World) (k : ℕ) (who : Option Name) (o : Outcome) (fr : Option (List ℕ)) → events_of_outcome o ≡ [] → Life w.log (past_of w me) → Life (uncalled w k who o fr).log (past_of (uncalled w k who o fr) me)
  life_idle w k who o fr e h = life_same w.log (uncalled w k who o fr).log (past_of w me) (events-append w.log _ ∙ ap (λ l. events_at me w.log ++ l) (one_silent _ e) ∙ append-nil (events_at me w.log)) h

  -- a call of the principal itself
  life_own : (log : List Logged) (p : Past) (c : Call) (l : Logged) → is_mine l ≡ true → events_of_outcome l.outcome ≡ events_of_answer (answer sha (node_of p) c) → Life log (Some p) → Life (log ++ l ∷ []) (Some (past_after sha p c))
  life_own log p c l mine ev h =
      let n : Node = node_of p in
      let m : Node = node_after n c (answer sha n c) in
      let logged : events_at me (log ++ l ∷ []) ≡ events_at me log ++ events_of_answer (answer sha n c) =
      events-append log (l ∷ []) ∙ ap (λ z. events_at me log ++ z) (let q : events_at me (l ∷ []) ≡ events_of_outcome l.outcome ++ [] = rw mine refl in q ∙ append-nil (events_of_outcome l.outcome) ∙ ev) in (
        subst (λ (z : Node). Owns z.joins z.live) (sym (node_next sha p c)) (owns_after n c (answer sha n c) h.0),
        λ es j. subst (λ z. joins_once [] z ≡ true) (sym (ap (λ z. z ++ es) logged ∙ append_assoc (events_at me log) (events_of_answer (answer sha n c)) es))
            (h.1 (events_of_answer (answer sha n c) ++ es) (call_step sha n h.0 es c (subst (λ (z : Node). joins_once z.joins es ≡ true) (node_next sha p c) j))),
      )

  life_called : (w : World) (k : ℕ) (who : Name) (c : Call) (past : Past) → past_of w who ≡ Some past → Life w.log (past_of w me) → Life (called sha w k who c past).log (past_of (called sha w k who c past) me)
  life_called w k who c past q h = elim (past_called_at sha w k who past q c me) [
    | inl r ↦ subst (Life (w.log ++ entry ∷ [])) (sym r.2) (life_own w.log past c entry r.0 refl (subst (Life w.log) r.1 h))
    | inr r ↦ subst (Life (w.log ++ entry ∷ [])) (sym r.1) (life_same w.log (w.log ++ entry ∷ []) (past_of w me) (others r.0) h)
  ]
    where
      entry : Logged
      entry = record { number = k; who = Some who; call = Some c; outcome = Answered (answer sha (node_of past) c); frame = frame_in (answer sha (node_of past) c); notes = notes sha (node_of past) c }

      others : bytes_eq me who ≡ false → events_at me (w.log ++ entry ∷ []) ≡ events_at me w.log
      others e = events-append w.log (entry ∷ []) ∙ ap (λ l. events_at me w.log ++ l) (let z : events_at me (entry ∷ []) ≡ [] = rw e refl in z) ∙ append-nil (events_at me w.log)

  life_past : (w : World) (k : ℕ) (who : Name) (c : Option Call) (o : Option Past) → past_of w who ≡ o → Life w.log (past_of w me) → let w' = option_map_or (called_if sha w k who c) o w in Life w'.log (past_of w' me)
  life_past w k who c None q h = h
  life_past w k who None (Some past) q h = life_idle w k (Some who) NoFrame None refl h
  life_past w k who (Some c) (Some past) q h = life_called w k who c past q h

  life_step : (s : Schedule) (w : World) (k : ℕ) (x : Step) → Life w.log (past_of w me) → Life (world_after sha s w k x).log (past_of (world_after sha s w k x) me)
  life_step s w k (CraftStep c) h = life_idle w k None Crafted _ refl h
  life_step s w k (StartStep who n) h = life_past w k who (call_of sha s w k (StartStep who n)) (past_of w who) refl h
  life_step s w k (ActStep who n label values) h = life_past w k who (call_of sha s w k (ActStep who n label values)) (past_of w who) refl h
  life_step s w k (AbandonStep who n) h = life_past w k who (call_of sha s w k (AbandonStep who n)) (past_of w who) refl h
  life_step s w k (DeliverStep who what) h = life_past w k who (call_of sha s w k (DeliverStep who what)) (past_of w who) refl h

  -- a restart keeps the joins
  life_anew : (who : Name) (log : List Logged) (o : Option Past) → Life log o → Life log (option_map (anew_if who) o)
  life_anew who log None h = h
  life_anew who log (Some p) h = elim (cases_Bool (bytes_eq p.keys.me who)) [ inl b ↦ rw b (refl, h.1) | inr b ↦ rw b h ]

  life_restarted : (w : World) (who : Name) → Life w.log (past_of w me) → Life (world_restarted w who).log (past_of (world_restarted w who) me)
  life_restarted w who h = subst (Life w.log) (sym (past_restarted w who me)) (life_anew who w.log (past_of w me) h)

  life_all : (s : Schedule) (w : World) (k : ℕ) (xs : List StepOrRestart) → Life w.log (past_of w me) → Life (world_over_restarts sha s w k xs).log (past_of (world_over_restarts sha s w k xs) me)
  life_all s w k [] h = h
  life_all s w k (Stepped x ∷ xs) h = life_all s (world_after sha s w k x) (k + 1) xs (life_step s w k x h)
  life_all s w k (Restarted who ∷ xs) h = life_all s (world_restarted w who) (k + length (live_of w who)) xs (life_restarted w who h)

  life_new : (programs : List Program) (s : Schedule) → Life [] (past_of (new_world programs s) me)
  life_new programs s = go (past_of (new_world programs s) me) refl
    where
      go : (o : Option Past) → past_of (new_world programs s) me ≡ o → Life [] o
      go None e = refl
      go (Some p) e = subst (λ z. Life [] (Some z)) (sym (first_past s.keys programs s.honest me p e).0) (refl, λ es j. j)

  ends : (log : List Logged) (o : Option Past) → Life log o → joins_once [] (events_at me log) ≡ true
  ends log None h = ap (joins_once []) h
  ends log (Some p) h = subst (λ z. joins_once [] z ≡ true) (append-nil (events_at me log)) (h.1 [] refl)

pub none_joins_twice_over_restarts : (sha : Hash) → NoneJoinsTwiceOverRestarts sha
none_joins_twice_over_restarts sha programs s xs me = let w = run_with_restarts sha programs s xs in ends sha me w.log (past_of w me) (life_all sha me s (new_world programs s) 1 xs (life_new sha me programs s))

-- ---- no restarts

steps_alone : (sha : Hash) (s : Schedule) (w : World) (k : ℕ) (xs : List Step) → world_over_restarts sha s w k (map Stepped xs) ≡ world_after_all sha s w k xs
steps_alone sha s w k [] = refl
steps_alone sha s w k (x ∷ xs) = steps_alone sha s (world_after sha s w k x) (k + 1) xs

pub no_restarts_no_change : (sha : Hash) → NoRestartsNoChange sha
no_restarts_no_change sha programs s = steps_alone sha s (new_world programs s) 1 s.steps

-- ---- lives, one after another

-- what is joined once after these calls is so with their events before
life_once : (sha : Hash) (n : Node) (cs : List AnsweredCall) (es : List Event) → Owns n.joins n.live → AreAnswers sha n cs → joins_once (node_after_all n cs).joins es ≡ true → joins_once n.joins (flat_map (λ (c : AnsweredCall). events_of_answer c.answer) cs ++ es) ≡ true
life_once sha n [] es h a j = j
life_once sha n (c ∷ cs) es h a j =
    let rest : List Event = flat_map (λ (c : AnsweredCall). events_of_answer c.answer) cs in
    subst (λ z. joins_once n.joins z ≡ true) (sym (append_assoc (events_of_answer c.answer) rest es))
    (subst (λ x. joins_once n.joins (events_of_answer x ++ (rest ++ es)) ≡ true) (sym a.0)
    (call_step sha n h (rest ++ es) c.call
    (subst (λ x. joins_once (node_after n c.call x).joins (rest ++ es) ≡ true) a.0
    (life_once sha (node_after n c.call c.answer) cs es (owns_after n c.call c.answer h) a.1 j))))

pub lives_join_once : (sha : Hash) → LivesJoinOnce sha
lives_join_once sha first [] a = refl
lives_join_once sha first (p ∷ ps) a =
    subst (λ js. joins_once js (events_of_lives (p ∷ ps)) ≡ true) a.0
    (life_once sha (new_node p.keys p.programs p.first) p.calls (events_of_lives ps) refl a.1 (lives_join_once sha (node_of p).joins ps a.2))
