-- What an accepted frame shows is what honest senders last did.
use Rattle.std.specs.Prelude.{◌≡◌, ℕ, ◌+◌, ◌<◌, ◌==◌, Bool, true, false, List, [], ◌∷◌, ◌++◌, map, filter, flat_map, length, bytes_eq, refl, Option, Some, None, option_map}
use Rattle.std.specs.List.{AllByRecursion}
use Rattle.std.proofs.Common.{sym, ◌∙◌, ap, subst, inl, inr, append_assoc}
use Rattle.std.proofs.lemmas.List.{map-append}
use Rattle.sg_model.specs.Last.{has, last, last_of, after_last, up_to_last}
use Rattle.sg_model.specs.Lists.{all_differ, below}
use Rattle.sg_model.specs.Shape.{source, sender}
use Rattle.sg_model.specs.Names.{Name}
use Rattle.sg_model.specs.Values.{Opening}
use Rattle.sg_law.specs.Accept as A
use Rattle.sg_law.specs.Run as R
use Rattle.sg_law.specs.Values as V
use Rattle.sg_law.specs.Values.{State, Binding, Move, Commit, moved, own_part_of, AllMay, Agreed, all_openings, com_of}
use Rattle.sg_law.specs.Values.Move.{Takes}
use Rattle.sg_law.proofs.Cut.{last-option_map, split_end}
use Rattle.sg_law.proofs.Follow.{all_agreed}
use Rattle.sg_law.proofs.Lists.{last-append, eqb_same}
use Rattle.sg_law.proofs.Upto.{upto-more}
use Rattle.sg_protocol.specs.Graph.{Graph, IsGraph, shape}
use Rattle.sg_protocol.specs.Accepted.{Accepted}
use Rattle.sg_protocol.specs.Frame.{Cast, Frame, Item}
use Rattle.sg_protocol.specs.Texts.{Hash, IsHash, commitment, commitment_text_of}
use Rattle.sg_protocol.specs.TextLaws.{OpeningFits}
use Rattle.sg_protocol.specs.Keyring.{Program}
use Rattle.sg_protocol.specs.Session.{Session, principal, items_of, transcript, own_part, commitments, committed}
use Rattle.sg_protocol.specs.Calls.{Call, Deliver, Happened}
use Rattle.sg_protocol.specs.Node.{Node}
use Rattle.sg_protocol.specs.Acting.{answer}
use Rattle.sg_protocol.specs.Verdict.{receipt}
use Rattle.sg_protocol.specs.Notes.{notes, no_notes}
use Rattle.sg_protocol.specs.Past.{Past, node_of}
use Rattle.sg_protocol.specs.Schedule.{Schedule, graph_with, honest_role}
use Rattle.sg_protocol.specs.World.{World, Logged, Answered, past_of, Outcome}
use Rattle.sg_protocol.specs.Run.{called, frame_in, cast_of_session, uncalled, events_of_outcome}
use Rattle.sg_protocol.specs.Premises.{hashed, Premises}
use Rattle.sg_protocol.specs.Receipts.{IsTaken}
use Rattle.sg_protocol.specs.LastSteps.{ShowsLastSteps, HeldBySender, bare, exchanges_of, honest_items, Bare}
use Rattle.sg_protocol.proofs.Bridge.{up_to_last-after}
use Rattle.sg_protocol.proofs.Calls.{NodeOk, Status, TakesFrame}
use Rattle.sg_protocol.proofs.Progressing.{Suffix, may-append, moved-append}
use Rattle.sg_protocol.proofs.Entries.{entry, entries, by, Roles, has-entries, up_to-entries, entries-com}
use Rattle.sg_protocol.proofs.Finding.{one_index}
use Rattle.sg_protocol.proofs.Keys.{all-mid, all-up_to_last, has-mid, last_of-keys, after_last-keys, last_of-map, after_last-map, all-filter, all-last_of, all-after_last}
use Rattle.sg_protocol.proofs.KnownSession.{SessionOfCast}
use Rattle.sg_protocol.proofs.Moves.{step, Matches}
use Rattle.sg_protocol.proofs.Splits.{role_small}
use Rattle.sg_protocol.proofs.Going.{SessionInRun, Progress, Left, progress_called, progress_moves}
use Rattle.sg_protocol.proofs.OneWalk.{FirstCast, begins, first_moves, first_cast, the_program, graph_is}
use Rattle.sg_protocol.proofs.OneWalk as W
use Rattle.sg_protocol.proofs.Agreeing.{MovesAgree, Outs, IsTranscript, after_moves, agree_called, with_all, agree_idle}
use Rattle.sg_protocol.proofs.Senders.{some_event}
use Rattle.std.proofs.lemmas.Bool.{cases_Bool}
use Rattle.sg_model.proofs.Small.{map_same}
use Rattle.sg_model.proofs.Members.{In}
use Rattle.sg_model.proofs.Finding.{found_in}
use Rattle.sg_law.specs.Accept.{honest_part}
use Rattle.sg_protocol.proofs.Happenings.{Happening, IsCourse, IsGiven, Own, run_of}

-- ---- one state of the law, and the items of a frame

module _ (g : Graph) (honest : ℕ → Bool) where
  -- a step's item, whose role is the sender of its label
  abbrev of_step : A.TimedLabel → Bare
  of_step t = record { role = sender (shape g) t.label; label = t.label; time = t.time }

  bare_steps : (is : List Item) → Roles (shape g) is → map bare is ≡ map of_step (map step is)
  bare_steps [] r = refl
  bare_steps (i ∷ is) r = ap (λ k. record { role = k; label = i.label; time = i.time } ∷ map bare is) r.0 ∙ ap (λ l. of_step (step i) ∷ l) (bare_steps is r.1)

  honest_steps : (is : List Item) → Roles (shape g) is → map step (filter (λ (i : Item). honest i.role) is) ≡ honest_part (shape g) honest (V.steps_of (entries is))
  honest_steps [] r = refl
  honest_steps (i ∷ is) r = elim (cases_Bool (honest i.role)) [
    | inl e ↦ rw (e, sym (ap honest r.0) ∙ e) (ap (λ l. step i ∷ l) (honest_steps is r.1))
    | inr e ↦ rw (e, sym (ap honest r.0) ∙ e) (honest_steps is r.1)
  ]

  -- the key of a step, and of its item
  abbrev by_step : A.TimedLabel → ℕ
  by_step t = sender (shape g) t.label

  last_steps : (k : ℕ) (is : List Item) → Roles (shape g) is → map step (last_of (λ (i : Item). i.role) (after_last (λ (i : Item). i.role) k is)) ≡ last_of by_step (after_last by_step k (map step is))
  last_steps k is r =
      ap (map step) (last_of-keys (λ (i : Item). i.role) (λ (i : Item). sender (shape g) i.label) (after_last (λ (i : Item). i.role) k is) (all-after_last (λ (i : Item). i.role ≡ sender (shape g) i.label) (λ (i : Item). i.role) k is r))
      ∙ ap (λ l. map step (last_of (λ (i : Item). sender (shape g) i.label) l)) (after_last-keys (λ (i : Item). i.role) (λ (i : Item). sender (shape g) i.label) k is r)
      ∙ sym (last_of-map step by_step (after_last (λ (i : Item). sender (shape g) i.label) k is))
      ∙ ap (last_of by_step) (sym (after_last-map step by_step k is))

  module _ (st : State) (f : Frame) (roles : Roles (shape g) f.items) (agreed : Agreed (shape g) honest st f.receiver (entries f.items)) where
    -- the items of honest senders are their last ones
    pub shown_items : (done : List Item) → Roles (shape g) done → st.machine.sent ≡ map step done → map bare (filter (λ (i : Item). honest i.role) f.items) ≡ map bare (last_of (λ (i : Item). i.role) (after_last (λ (i : Item). i.role) f.receiver done))
    shown_items done r e =
        let P : Item → Type 0 = λ i. i.role ≡ sender (shape g) i.label in
        bare_steps (filter (λ (i : Item). honest i.role) f.items) (all-filter P (λ (i : Item). honest i.role) f.items roles)
        ∙ ap (map of_step) (honest_steps f.items roles ∙ agreed.shown ∙ ap (λ l. last_of by_step (after_last by_step f.receiver l)) e ∙ sym (last_steps f.receiver done r))
        ∙ sym (bare_steps (last_of (λ (i : Item). i.role) (after_last (λ (i : Item). i.role) f.receiver done)) (all-last_of P (λ (i : Item). i.role) (after_last (λ (i : Item). i.role) f.receiver done) (all-after_last P (λ (i : Item). i.role) f.receiver done r)))

    -- what is held after an item is what its sender held
    pub same_held : (before prefix : List Item) (i : Item) (rest its : List Item) → own_part_of (shape g) st f.receiver ≡ entries before → f.items ≡ prefix ++ i ∷ rest → honest i.role ≡ true → own_part_of (shape g) st i.role ≡ entries its → commitments g (before ++ prefix ++ i ∷ []) ≡ commitments g its
    same_held before prefix i rest its ob e h oi =
        let role : i.role ≡ sender (shape g) i.label = all-mid (λ (i : Item). i.role ≡ sender (shape g) i.label) prefix i rest (subst (Roles (shape g)) e roles) in
        let parts : entries f.items ≡ entries prefix ++ entry i ∷ entries rest = ap entries e ∙ map-append entry prefix (i ∷ rest) in
        let joined : own_part_of (shape g) st f.receiver ++ (entries prefix ++ entry i ∷ []) ≡ entries (before ++ prefix ++ i ∷ []) = ap (λ l. l ++ (entries prefix ++ entry i ∷ [])) ob ∙ ap (λ l. entries before ++ l) (sym (map-append entry prefix (i ∷ []))) ∙ sym (map-append entry before (prefix ++ i ∷ [])) ∙ ap entries (sym (append_assoc before prefix (i ∷ []))) in
        map_same (λ x. committed x (before ++ prefix ++ i ∷ [])) (λ x. committed x its) (below (length g.variables)) (λ x.
        sym (entries-com (before ++ prefix ++ i ∷ []) x) ∙ ap (λ l. com_of l x) (sym joined)
        ∙ agreed.held (entries prefix) (entries rest) (entry i) parts (ap honest (sym role) ∙ h) x
        ∙ ap (λ k. com_of (own_part_of (shape g) st k) x) (sym role) ∙ ap (λ l. com_of l x) oi ∙ entries-com its x)

-- ---- a run

split_some : (f : Item → A.TimedLabel) (o : Option Item) (t : A.TimedLabel) → option_map f o ≡ Some t → (i : Item) × (o ≡ Some i) × (f i ≡ t)
split_some f None t e = absurd (cc)
split_some f (Some i) t e = (i, refl, cc)

steps_entries : (is : List Item) → last (V.steps_of (entries is)) ≡ option_map step (last is)
steps_entries is = last-option_map V.step_of (entries is) ∙ ap (option_map V.step_of) (last-option_map entry is) ∙ go (last is)
  where
    go : (o : Option Item) → option_map V.step_of (option_map entry o) ≡ option_map step o
    go None = refl
    go (Some i) = refl

-- what is known besides of a session's graph and cast
pub record SessionFacts (sha : Hash) (s : Schedule) (sid : List ℕ) (cast : Cast) (g : Graph) (wf : World) : Type 0 where
  pub is_graph : IsGraph g
  pub accepted : Accepted g
  pub differ : all_differ cast.names ≡ true
  pub lengths : length cast.names ≡ length g.roles
  pub binding : (ms : List Move) → AllByRecursion (λ (o : Opening). In (hashed s wf) (commitment_text_of sid o) × OpeningFits o) (all_openings ms) → Binding (λ o. commitment sha sid o) (all_openings ms)

own_entries : (g : Graph) (st : State) (k : ℕ) (is : List Item) → st.transcript k ≡ entries is → Roles (shape g) is → own_part_of (shape g) st k ≡ entries (up_to_last (λ (i : Item). i.role) k is)
own_entries g st k is e r = ap (up_to_last (by (shape g)) k) e ∙ up_to-entries (shape g) k is r

module _ {sha : Hash} {s : Schedule} {sid : List ℕ} {cast : Cast} {g : Graph} {wf : World} {Own : List Program → Type 0} (known : SessionInRun sha s sid cast g wf Own) (facts : SessionFacts sha s sid cast g wf) where
  abbrev commit : Commit
  commit o = commitment sha sid o

  abbrev honest : ℕ → Bool
  honest k = honest_role s cast k

  -- a role's own last step, in the law's terms
  own_last : (xs : List Program) (own : Own xs) (st : State) (k : ℕ) (n : Node) → NodeOk (known.of_cast xs own) s (Left known) st (principal cast k) n → k < length cast.names → (st.machine.at k).own ≡ last (V.steps_of (own_part_of (shape g) st k))
  own_last xs own st k n ok l = go ok.status
    where
      of_session : (x : Session) → Matches g sid cast st (principal cast k) x → x.role ≡ k → (st.machine.at k).own ≡ last (V.steps_of (own_part_of (shape g) st k))
      of_session x m e = subst (λ r. (st.machine.at r).own ≡ last (V.steps_of (own_part_of (shape g) st r))) e
          (m.is_own ∙ sym (steps_entries (own_part x)) ∙ ap (λ l. last (V.steps_of l)) (sym (own_entries g st x.role (transcript x) m.is_transcript m.roles)))

      index_of : (x : Session) → Matches g sid cast st (principal cast k) x → x.role ≡ k
      index_of x m = one_index cast.names x.role k facts.differ m.inside l m.is_who

      go : Status (known.of_cast xs own) s (Left known) st (principal cast k) n → (st.machine.at k).own ≡ last (V.steps_of (own_part_of (shape g) st k))
      go (inl f) = (let u = f.all k refl l in ap (λ (z : R.Local). z.own) u.start ∙ sym (ap (λ l. last (V.steps_of (up_to_last (by (shape g)) k l))) u.none))
      go (inr (inl h)) = of_session h.x h.matches (index_of h.x h.matches)
      go (inr (inr h)) = of_session h.x h.matches (index_of h.x h.matches)

  abbrev pub Shows : World → Type 0
  Shows w = (l : Logged) (who : Name) (bs : List ℕ) (f : Frame) (past : Past) → last w.log ≡ Some l → IsTaken w l who bs f → f.sid ≡ sid → past_of w who ≡ Some past → ShowsLastSteps s w g cast f (up_to_last (λ (i : Item). i.role) f.receiver (flat_map items_of (exchanges_of f.sid f.receiver past.calls)))

  -- an entry without a call takes nothing
  pub shows_idle : (w : World) (k : ℕ) (who : Option Name) (o : Outcome) (fr : Option (List ℕ)) → events_of_outcome o ≡ [] → Shows (uncalled w k who o fr)
  shows_idle w k who o fr ev l who' bs f past e t q pp =
      let one : Some (record { number = k; who = who; call = None; outcome = o; frame = fr; notes = no_notes }) ≡ Some l = sym (last-append w.log _ []) ∙ e in
      let same : record { number = k; who = who; call = None; outcome = o; frame = fr; notes = no_notes } ≡ l = cc in
      absurd (let z : None ≡ Some (Deliver bs) = ap (λ (y : Logged). y.call) same ∙ t.2 in cc)

  module _ (w : World) (k : ℕ) (p : Progress known w) (moves_agree : MovesAgree known w p) (who : Name) (past : Past) (its_past : past_of w who ≡ Some past) (c : Call) (range : IsGiven c) (after : Suffix (k + 1) (called sha w k who c past).log wf.log) (out : Outs known w k p who past its_past c range after) where
    abbrev next : Progress known (called sha w k who c past)
    next = progress_called known w k p who past its_past c range after out

    moves_agree' : MovesAgree known (called sha w k who c past) next
    moves_agree' = agree_called known w k p who past its_past c range after moves_agree out

    abbrev st : State
    st = after_moves known p.moves

    abbrev its : SessionOfCast sha past.programs sid cast g (λ t. In (hashed s wf) t)
    its = known.of_cast past.programs (p.nodes who past its_past).own

    module _ (f : Frame) (t : TakesFrame its s (Left known) who out.moves f) where
      abbrev take_ : Move
      take_ = Takes f.receiver t.node (entries f.items) f.openings

      abbrev st' : State
      st' = moved commit st (Takes f.receiver t.node (entries f.items) f.openings)

      st_is : after_moves known next.moves ≡ st'
      st_is = ap (after_moves known) (progress_moves known w k p who past its_past c range after out) ∙ ap (λ ms. after_moves known (p.moves ++ ms)) t.are ∙ moved-append commit (V.at_first (shape g)) p.moves (take_ ∷ [])

      all_may : AllMay (shape g) honest commit (V.at_first (shape g)) (p.moves ++ take_ ∷ [])
      all_may = may-append (shape g) honest commit (V.at_first (shape g)) p.moves (take_ ∷ []) p.may (subst (AllMay (shape g) honest commit st) t.are out.may)

      agreed : Agreed (shape g) honest st f.receiver (entries f.items)
      agreed = all_agreed (shape g) honest commit p.moves f.receiver t.node (entries f.items) f.openings facts.accepted.sighted (facts.binding p.moves p.used) all_may

      sent_is : st.machine.sent ≡ map step (honest_items sid (called sha w k who c past).log)
      sent_is = ap (λ (z : State). z.machine.sent) (sym st_is) ∙ moves_agree'.sent.0

      -- a role's transcript until the frame
      transcript_before : (r : ℕ) (pk : Past) → past_of (called sha w k who c past) (principal cast r) ≡ Some pk → r < length cast.names → (r == f.receiver) ≡ false → st.transcript r ≡ entries (flat_map items_of (exchanges_of sid r pk.calls))
      transcript_before r pk e l ne = sym (rw ne refl) ∙ ap (λ (z : State). z.transcript r) (sym st_is) ∙ (moves_agree'.transcript (principal cast r) pk e r refl l).0

      own_receiver : (pk : Past) → past_of (called sha w k who c past) who ≡ Some pk → own_part_of (shape g) st f.receiver ≡ entries (up_to_last (λ (i : Item). i.role) f.receiver (flat_map items_of (exchanges_of sid f.receiver pk.calls)))
      own_receiver pk e =
          let transcript_r = moves_agree'.transcript who pk e f.receiver t.is_who t.inside in
          sym (upto-more (by (shape g)) f.receiver (st.transcript f.receiver) (entries f.items) (has-entries (shape g) f.receiver f.items t.roles ∙ t.no_own))
          ∙ ap (up_to_last (by (shape g)) f.receiver) (sym (rw (eqb_same f.receiver) refl))
          ∙ own_entries g st' f.receiver (flat_map items_of (exchanges_of sid f.receiver pk.calls)) (ap (λ (z : State). z.transcript f.receiver) (sym st_is) ∙ transcript_r.0) transcript_r.1

      last_of_own : (r : ℕ) (us : List Item) (t : A.TimedLabel) → (st.machine.at r).own ≡ Some t → (st.machine.at r).own ≡ last (V.steps_of (own_part_of (shape g) st r)) → own_part_of (shape g) st r ≡ entries us → (i : Item) × (last us ≡ Some i) × (step i ≡ t)
      last_of_own r us t e o u = split_some step (last us) t (sym (steps_entries us) ∙ ap (λ l. last (V.steps_of l)) (sym u) ∙ sym o ∙ e)

      -- the sender of an item held the commitments that its receiver holds
      module _ (pr : Past) (pr_is : past_of (called sha w k who c past) who ≡ Some pr) (prefix : List Item) (i : Item) (rest : List Item) (e : f.items ≡ prefix ++ i ∷ rest) (h : honest_role s cast i.role ≡ true) where
        not_receiver : (i.role == f.receiver) ≡ false
        not_receiver = has-mid (λ (i : Item). i.role) f.receiver prefix i rest (subst (λ l. has (λ (i : Item). i.role) f.receiver l ≡ false) e t.no_own)

        role : i.role ≡ sender (shape g) i.label
        role = all-mid (λ (i : Item). i.role ≡ sender (shape g) i.label) prefix i rest (subst (Roles (shape g)) e t.roles)

        inside : i.role < length cast.names
        inside = subst (λ z. i.role < z) (sym facts.lengths) (subst (λ z. z < length g.roles) (sym role) (role_small g facts.is_graph facts.accepted (source (shape g) i.label)))

        -- the sender's past, before the frame and after
        before : (y : Past) × (past_of w (principal cast i.role) ≡ Some y)
        before = moves_agree.pasts (principal cast i.role) h

        its_past_ : (y : Past) × (past_of (called sha w k who c past) (principal cast i.role) ≡ Some y)
        its_past_ = moves_agree'.pasts (principal cast i.role) h

        -- all its items, and those up to its last own one
        abbrev all : List Item
        all = flat_map items_of (exchanges_of sid i.role (its_past_.0).calls)

        abbrev up_to : List Item
        up_to = up_to_last (λ (i : Item). i.role) i.role (flat_map items_of (exchanges_of sid i.role (its_past_.0).calls))

        roles_all : Roles (shape g) all
        roles_all = (moves_agree'.transcript (principal cast i.role) its_past_.0 its_past_.1 i.role refl inside).1

        own_is : own_part_of (shape g) st i.role ≡ entries up_to
        own_is = own_entries g st i.role all (transcript_before i.role its_past_.0 its_past_.1 inside not_receiver) roles_all

        current : (st.machine.at i.role).own ≡ Some (step i)
        current = ap (λ r. (st.machine.at r).own) role ∙ agreed.current (entries prefix) (entries rest) (entry i) (ap entries e ∙ map-append entry prefix (i ∷ rest)) (ap honest (sym role) ∙ h)

        its_last : (st.machine.at i.role).own ≡ last (V.steps_of (own_part_of (shape g) st i.role))
        its_last = own_last (before.0).programs (p.nodes (principal cast i.role) before.0 before.1).own st i.role (node_of before.0) (p.nodes (principal cast i.role) before.0 before.1).ok inside

        found : (j : Item) × (last up_to ≡ Some j) × (step j ≡ step i)
        found = last_of_own i.role up_to (step i) current its_last own_is

        cut : (xs : List Item) × (up_to ≡ xs ++ found.0 ∷ [])
        cut = split_end up_to found.0 found.1

        found_role : (found.0).role ≡ sender (shape g) (found.0).label
        found_role = all-mid (λ (i : Item). i.role ≡ sender (shape g) i.label) cut.0 found.0 [] (subst (Roles (shape g)) cut.1 (all-up_to_last (λ (i : Item). i.role ≡ sender (shape g) i.label) (λ (i : Item). i.role) i.role all roles_all))

        held_by : HeldBySender (called sha w k who c past) g cast sid i (commitments g (up_to_last (λ (i : Item). i.role) f.receiver (flat_map items_of (exchanges_of sid f.receiver pr.calls)) ++ prefix ++ i ∷ []))
        held_by = (
          its_past_.0,
          cut.0,
          found.0,
          after_last (λ (i : Item). i.role) i.role all,
          its_past_.1,
          sym (up_to_last-after (λ (i : Item). i.role) i.role all) ∙ ap (λ l. l ++ after_last (λ (i : Item). i.role) i.role all) cut.1 ∙ append_assoc cut.0 (found.0 ∷ []) (after_last (λ (i : Item). i.role) i.role all),
          ap (λ r. record { role = r; label = (found.0).label; time = (found.0).time }) (found_role ∙ ap (λ (z : A.TimedLabel). sender (shape g) z.label) found.2 ∙ sym role) ∙ ap (λ (z : A.TimedLabel). record { role = i.role; label = z.label; time = z.time }) found.2,
          same_held g honest st f t.roles agreed (up_to_last (λ (i : Item). i.role) f.receiver (flat_map items_of (exchanges_of sid f.receiver pr.calls))) prefix i rest up_to (own_receiver pr pr_is) e h own_is ∙ ap (commitments g) cut.1,
        )

      shows_last : (pr : Past) → past_of (called sha w k who c past) who ≡ Some pr → f.sid ≡ sid → ShowsLastSteps s (called sha w k who c past) g cast f (up_to_last (λ (i : Item). i.role) f.receiver (flat_map items_of (exchanges_of f.sid f.receiver pr.calls)))
      shows_last pr pr_is q = record {
        items = subst (λ z. map bare (filter (λ (i : Item). honest_role s cast i.role) f.items) ≡ map bare (last_of (λ (i : Item). i.role) (after_last (λ (i : Item). i.role) f.receiver (honest_items z (called sha w k who c past).log)))) (sym q)
            (shown_items g honest st f t.roles agreed (honest_items sid (called sha w k who c past).log) moves_agree'.sent.1 sent_is);
        held = λ prefix i rest e h. subst (λ z. HeldBySender (called sha w k who c past) g cast z i (commitments g (up_to_last (λ (i : Item). i.role) f.receiver (flat_map items_of (exchanges_of z f.receiver pr.calls)) ++ prefix ++ i ∷ []))) (sym q) (held_by pr pr_is prefix i rest e h);
      }

    pub shows_called : Shows (called sha w k who c past)
    shows_called l who' bs f pr e t q pr_is =
        let same : Some (entry_ c) ≡ Some l = sym (last-append w.log (entry_ c) []) ∙ e in
        let same' : entry_ c ≡ l = cc in
        let who_is : Some who ≡ Some who' = ap (λ (z : Logged). z.who) same' ∙ t.1 in
        let who_is' : who ≡ who' = cc in
        let call_is : Some c ≡ Some (Deliver bs) = ap (λ (z : Logged). z.call) same' ∙ t.2 in
        let call_is' : c ≡ Deliver bs = cc in
        let ans : Answered (answer sha (node_of past) c) ≡ Answered (Happened (receipt f)) = ap (λ (z : Logged). z.outcome) same' ∙ t.4 in
        let ans' : answer sha (node_of past) c ≡ Happened (receipt f) = cc in
        shows_last f (out.took f record { bs = bs; is_call = call_is'; is_read = t.3; is_answer = ans'; is_sid = q }) pr (ap (past_of (called sha w k who c past)) who_is' ∙ pr_is) q
      where
        entry_ : Call → Logged
        entry_ c = record { number = k; who = Some who; call = Some c; outcome = Answered (answer sha (node_of past) c); frame = frame_in (answer sha (node_of past) c); notes = notes sha (node_of past) c }

-- ---- a run

module _ (sha : Hash) (hash : IsHash sha) (s : Schedule) (ps : List Past) (course : List Happening) (is_course : IsCourse sha s ps course) (sid : List ℕ) (premises : Premises sha s (run_of sha ps course)) (first : FirstCast sha hash s ps course is_course sid) where
  abbrev pub of_run : SessionInRun sha s sid first.cast (first.program).graph (run_of sha ps course) (Own sha s)
  of_run = W.known sha hash s ps course is_course sid premises first

  pub facts_of : SessionFacts sha s sid first.cast (first.program).graph (run_of sha ps course)
  facts_of = record {
    is_graph = (the_program sha hash s ps course is_course sid premises first).is_graph;
    accepted = (the_program sha hash s ps course is_course sid premises first).accepted;
    differ = first.differ;
    lengths = first.lengths;
    binding = W.binding sha hash s ps course is_course sid premises first;
  }

  abbrev pub first_progress : Progress of_run (record { pasts = ps; log = [] })
  first_progress = begins sha hash s ps course is_course sid premises first

  pub agree_first : (p : Progress of_run (record { pasts = ps; log = [] })) → p.moves ≡ [] → MovesAgree of_run (record { pasts = ps; log = [] }) p
  agree_first p e = record {
    transcript = λ who y q r i l. subst (λ ms. IsTranscript sid (first.program).graph (after_moves of_run ms) r y.calls) (sym e) (subst (IsTranscript sid (first.program).graph (V.at_first (shape (first.program).graph)) r) (sym (is_course.calls y (found_in (λ (p : Past). bytes_eq p.keys.me who) ps y q))) (refl, tt));
    sent = (ap (λ ms. (after_moves of_run ms).machine.sent) e, tt);
    pasts = is_course.there;
  }

  shown_in_end : Shows of_run facts_of (run_of sha ps course)
  shown_in_end =
      let r = with_all of_run (λ w p. MovesAgree of_run w p × Shows of_run facts_of w)
      (λ w k p h who o fr e. (agree_idle of_run w k p h.0 who o fr e, shows_idle of_run facts_of w k who o fr e))
      (λ w k p h who past q c r after out. (agree_called of_run w k p who past q c r after h.0 out, shows_called of_run facts_of w k p h.0 who past q c r after out))
      (record { pasts = ps; log = [] }) 1 (first_progress, (agree_first first_progress (first_moves sha hash s ps course is_course sid premises first), λ l who bs f past e. absurd (let n : None ≡ Some l = e in cc))) course is_course.right refl in
      r.1.1

  -- what a frame that was accepted last shows
  pub last_shown : (l : Logged) (who : Name) (bs : List ℕ) (f : Frame) (y : Graph) (past : Past) → last (run_of sha ps course).log ≡ Some l → IsTaken (run_of sha ps course) l who bs f → f.sid ≡ sid → graph_with sha s.graphs first.cast.graph ≡ Some y → past_of (run_of sha ps course) who ≡ Some past
      → ShowsLastSteps s (run_of sha ps course) y first.cast f (up_to_last (λ (i : Item). i.role) f.receiver (flat_map items_of (exchanges_of f.sid f.receiver past.calls)))
  last_shown l who bs f y past e t q gr its =
      let two : Some (first.program).graph ≡ Some y = sym (graph_is sha hash s ps course is_course sid premises first) ∙ gr in
      let same : (first.program).graph ≡ y = cc in
      subst (λ z. ShowsLastSteps s (run_of sha ps course) z first.cast f (up_to_last (λ (i : Item). i.role) f.receiver (flat_map items_of (exchanges_of f.sid f.receiver past.calls)))) same (shown_in_end l who bs f past e t q its)

-- where the acceptance ends the run
pub shows_at_end : (sha : Hash) (hash : IsHash sha) (s : Schedule) (ps : List Past) (course : List Happening) (is_course : IsCourse sha s ps course) (who : Name) (bs : List ℕ) (f : Frame) (l : Logged) (cast : Cast) (g : Graph) (past : Past) → Premises sha s (run_of sha ps course)
    → last (run_of sha ps course).log ≡ Some l → IsTaken (run_of sha ps course) l who bs f → cast_of_session f.sid (run_of sha ps course).log ≡ Some cast → graph_with sha s.graphs cast.graph ≡ Some g → past_of (run_of sha ps course) who ≡ Some past
    → ShowsLastSteps s (run_of sha ps course) g cast f (up_to_last (λ (i : Item). i.role) f.receiver (flat_map items_of (exchanges_of f.sid f.receiver past.calls)))
shows_at_end sha hash s ps course is_course who bs f l cast g past premises e t is gr its =
    let first : FirstCast sha hash s ps course is_course f.sid = first_cast sha hash s ps course is_course f.sid (some_event f.sid (run_of sha ps course).log cast is) in
    let two : Some first.cast ≡ Some cast = sym first.is_cast ∙ is in
    let same : first.cast ≡ cast = cc in
    subst (λ c. ShowsLastSteps s (run_of sha ps course) g c f (up_to_last (λ (i : Item). i.role) f.receiver (flat_map items_of (exchanges_of f.sid f.receiver past.calls)))) same
    (last_shown sha hash s ps course is_course f.sid premises first l who bs f g past e t refl (subst (λ (c : Cast). graph_with sha s.graphs c.graph ≡ Some g) (sym same) gr) its)
