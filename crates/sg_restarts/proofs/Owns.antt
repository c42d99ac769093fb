-- Principals keep their names, and live sessions the sids of their casts.
use Rattle.std.specs.Prelude.{◌≡◌, ℕ, false, List, [], ◌∷◌, map, find, bytes_eq, refl, Option, Some, None}
use Rattle.std.specs.List.{AllByRecursion}
use Rattle.std.specs.Option.{option_map_or}
use Rattle.std.proofs.Common.{sym, ◌∙◌, ap, subst, inl, inr}
use Rattle.std.proofs.lemmas.Bool.{cases_Bool}
use Rattle.sg_model.specs.Last.{last}
use Rattle.sg_model.specs.Names.{Name}
use Rattle.sg_protocol.specs.Texts.{Hash, session_id}
use Rattle.sg_protocol.specs.Keyring.{Program}
use Rattle.sg_protocol.specs.Session.{Session}
use Rattle.sg_protocol.specs.Calls.{Call, Start, Act, Abandon, Deliver}
use Rattle.sg_protocol.specs.Node.{Node}
use Rattle.sg_protocol.specs.Acting.{answer}
use Rattle.sg_protocol.specs.NodeAfter.{node_after}
use Rattle.sg_protocol.specs.Past.{Past, node_of}
use Rattle.sg_protocol.specs.Schedule.{Schedule, Step, StartStep, ActStep, AbandonStep, DeliverStep, CraftStep}
use Rattle.sg_protocol.specs.World.{World, past_of, new_world, call_of}
use Rattle.sg_protocol.specs.Run.{called_if, world_after}
use Rattle.sg_protocol.specs.Restarts.{live_of, world_restarted}
use Rattle.sg_protocol.proofs.Progressing.{next_past, node_next}
use Rattle.sg_protocol.proofs.Nodes.{start_all, abandon_all, act_all, deliver_all}
use Rattle.sg_protocol.proofs.Anew.{anew}
use Rattle.sg_protocol.proofs.Lives.{anew_if}
use Rattle.sg_protocol.proofs.Restarts.{anew_keys}
use Rattle.sg_protocol.proofs.Happenings.{next_keys}
use Rattle.sg_model.proofs.Finding.{find_all}
use Rattle.sg_model.proofs.Small.{if_any}

-- ---- names of pasts

abbrev pub names : List Past → List Name
names ps = map (λ (p : Past). p.keys.me) ps

names_kept : (f : Past → Past) → ((p : Past) → (f p).keys ≡ p.keys) → (ps : List Past) → names (map f ps) ≡ names ps
names_kept f h [] = refl
names_kept f h (p ∷ ps) = ap (λ k. k.me ∷ names (map f ps)) (h p) ∙ ap (λ l. p.keys.me ∷ l) (names_kept f h ps)

-- a principal that has a past among the ones has one among the others
pub found_there : (who : Name) (ps qs : List Past) → names ps ≡ names qs → (p : Past) → find (λ p. bytes_eq p.keys.me who) ps ≡ Some p → (q : Past) × (find (λ p. bytes_eq p.keys.me who) qs ≡ Some q)
found_there who [] qs e p is = absurd (cc)
found_there who (x ∷ ps) [] e p is = absurd (cc)
found_there who (x ∷ ps) (y ∷ qs) e p is =
    let one : x.keys.me ≡ y.keys.me = cc in
    let rest : names ps ≡ names qs = cc in
    elim (cases_Bool (bytes_eq y.keys.me who)) [
      | inl h ↦ (y, rw h refl)
      | inr h ↦ let r = found_there who ps qs rest p (let k : bytes_eq x.keys.me who ≡ false = ap (λ n. bytes_eq n who) one ∙ h in rw k at is) in (r.0, rw h r.1)
    ]

pub names_restarted : (w : World) (who : Name) → names (world_restarted w who).pasts ≡ names w.pasts
names_restarted w who = names_kept (anew_if who) (anew_keys who) w.pasts

module _ (sha : Hash) where
  names_called : (w : World) (k : ℕ) (who : Name) (c : Option Call) (o : Option Past) → names (option_map_or (called_if sha w k who c) o w).pasts ≡ names w.pasts
  names_called w k who c None = refl
  names_called w k who None (Some p) = refl
  names_called w k who (Some c) (Some p) = names_kept (next_past sha who c) (next_keys sha who c) w.pasts

  pub names_after : (s : Schedule) (w : World) (k : ℕ) (x : Step) → names (world_after sha s w k x).pasts ≡ names w.pasts
  names_after s w k (CraftStep c) = refl
  names_after s w k (StartStep who n) = names_called w k who (call_of sha s w k (StartStep who n)) (past_of w who)
  names_after s w k (ActStep who n label values) = names_called w k who (call_of sha s w k (ActStep who n label values)) (past_of w who)
  names_after s w k (AbandonStep who n) = names_called w k who (call_of sha s w k (AbandonStep who n)) (past_of w who)
  names_after s w k (DeliverStep who what) = names_called w k who (call_of sha s w k (DeliverStep who what)) (past_of w who)

  -- ---- live sessions have the sids of their casts

  abbrev pub HasOwnSid : Session → Type 0
  HasOwnSid x = session_id sha x.cast ≡ x.sid

  abbrev pub PastHasOwn : Past → Type 0
  PastHasOwn p = AllByRecursion HasOwnSid (node_of p).live

  own_after : (n : Node) → AllByRecursion HasOwnSid n.live → (c : Call) → AllByRecursion HasOwnSid (node_after n c (answer sha n c)).live
  own_after n h (Start c) = start_all sha n HasOwnSid h c (λ p b. refl)
  own_after n h (Act sid label values confounders) = act_all sha n HasOwnSid h sid label values confounders (λ f a k. if_any (last f.items) (λ i. HasOwnSid a.x) (λ i. k))
  own_after n h (Abandon sid) = abandon_all sha n HasOwnSid h sid
  own_after n h (Deliver bs) = deliver_all sha n HasOwnSid h bs (λ f x rd t k. k) (λ f c rd j t. sym t.sid)

  pub own_map : (f : Past → Past) → ((p : Past) → PastHasOwn p → PastHasOwn (f p)) → (ps : List Past) → AllByRecursion PastHasOwn ps → AllByRecursion PastHasOwn (map f ps)
  own_map f h [] a = tt
  own_map f h (p ∷ ps) a = (h p a.0, own_map f h ps a.1)

  own_next : (who : Name) (c : Call) (p : Past) → PastHasOwn p → PastHasOwn (next_past sha who c p)
  own_next who c p h = elim (cases_Bool (bytes_eq p.keys.me who)) [
    | inl e ↦ rw e (subst (λ (n : Node). AllByRecursion HasOwnSid n.live) (sym (node_next sha p c)) (own_after (node_of p) h c))
    | inr e ↦ rw e h
  ]

  pub own_anew : (who : Name) (p : Past) → PastHasOwn p → PastHasOwn (anew_if who p)
  own_anew who p h = elim (cases_Bool (bytes_eq p.keys.me who)) [
    | inl e ↦ rw e (subst (λ (n : Node). AllByRecursion HasOwnSid n.live) (sym (anew p)) tt)
    | inr e ↦ rw e h
  ]

  own_called : (w : World) (k : ℕ) (who : Name) (c : Option Call) (o : Option Past) → AllByRecursion PastHasOwn w.pasts → AllByRecursion PastHasOwn (option_map_or (called_if sha w k who c) o w).pasts
  own_called w k who c None h = h
  own_called w k who None (Some p) h = h
  own_called w k who (Some c) (Some p) h = own_map (next_past sha who c) (own_next who c) w.pasts h

  pub own_step : (s : Schedule) (w : World) (k : ℕ) (x : Step) → AllByRecursion PastHasOwn w.pasts → AllByRecursion PastHasOwn (world_after sha s w k x).pasts
  own_step s w k (CraftStep c) h = h
  own_step s w k (StartStep who n) h = own_called w k who (call_of sha s w k (StartStep who n)) (past_of w who) h
  own_step s w k (ActStep who n label values) h = own_called w k who (call_of sha s w k (ActStep who n label values)) (past_of w who) h
  own_step s w k (AbandonStep who n) h = own_called w k who (call_of sha s w k (AbandonStep who n)) (past_of w who) h
  own_step s w k (DeliverStep who what) h = own_called w k who (call_of sha s w k (DeliverStep who what)) (past_of w who) h

  pub own_new : (programs : List Program) (s : Schedule) → AllByRecursion PastHasOwn (new_world programs s).pasts
  own_new programs s = go s.honest
    where
      go : (ns : List Name) → AllByRecursion PastHasOwn (new_world programs (record s { honest = ns })).pasts
      go [] = tt
      go (n ∷ ns) = (tt, go ns)

  pub own_live : (w : World) (who : Name) → AllByRecursion PastHasOwn w.pasts → AllByRecursion HasOwnSid (live_of w who)
  own_live w who h = go (past_of w who) refl
    where
      go : (o : Option Past) → past_of w who ≡ o → AllByRecursion HasOwnSid (option_map_or (λ (p : Past). (node_of p).live) o [])
      go None e = tt
      go (Some p) e = find_all (λ (p : Past). bytes_eq p.keys.me who) PastHasOwn w.pasts p h e
