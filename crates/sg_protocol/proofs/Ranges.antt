-- The sessions of any node stay in range.
use Rattle.std.specs.Prelude.{◌≡◌, ℕ, ◌<◌, ◌≤◌, ◌==◌, ◌&&◌, List, [], ◌∷◌, ◌++◌, map, flat_map, length, bytes_eq, refl, Option, Some, None, IfSome}
use Rattle.std.specs.List.{AllByRecursion}
use Rattle.std.proofs.Common.{sym, ◌∙◌, ap, subst, arith}
use Rattle.std.proofs.lemmas.Bool.{eqb-true, and_parts}
use Rattle.std.proofs.lemmas.List.Elements.{All-from_recursion, recursion_from_All}
use Rattle.sg_model.specs.Bytes.{AreBytes}
use Rattle.sg_model.specs.Last.{Map, last, last_or}
use Rattle.sg_model.specs.Lists.{first_some, keys_of}
use Rattle.sg_model.specs.Values.{Value, Opening}
use Rattle.sg_protocol.specs.Graph.{writes}
use Rattle.sg_protocol.specs.Frame.{Cast, Item, Frame, IsItem, IsValue, IsOpening, IsCastOf}
use Rattle.sg_protocol.specs.Spelling.{HasSpelling}
use Rattle.sg_protocol.specs.Texts.{Hash, IsHash, session_id, session_text_of}
use Rattle.sg_protocol.specs.TextLaws.{IsVersion}
use Rattle.sg_protocol.specs.Keyring.{Keyring, Program}
use Rattle.sg_protocol.specs.Session.{Session, Exchange, Took, Gave, items_of, openings_of, transcript, extended, new_session}
use Rattle.sg_protocol.specs.Sending.{own_item, frame_sent}
use Rattle.sg_protocol.specs.Calls.{Event, Call, Start, Act, Abandon, Deliver, Sends}
use Rattle.sg_model.specs.Names.{Name}
use Rattle.sg_model.proofs.Small.{all-append, all_end}
use Rattle.sg_model.proofs.Members.{rec_in}
use Rattle.sg_model.proofs.Finding.{find_passes, find_all}
use Rattle.sg_protocol.specs.Node.{Node, is_for}
use Rattle.sg_protocol.specs.Acting.{openings_for, rows_of_act, answer}
use Rattle.sg_protocol.specs.NodeAfter.{node_after}
use Rattle.sg_protocol.specs.IsSchedule.{IsProgram}
use Rattle.sg_protocol.specs.Bounds.{IsSession, IsShortFrame}
use Rattle.sg_protocol.specs.Ranges.{IsCast, AreValues, IsCallInRange, SessionsStayInRange, NodesStayInRange}
use Rattle.sg_protocol.proofs.Acts as C
use Rattle.sg_protocol.proofs.Bounds.{sent_is_short}
use Rattle.sg_protocol.proofs.Gives.{keys_are}
use Rattle.sg_protocol.proofs.Moves.{writes_below}
use Rattle.sg_protocol.proofs.NoRows.{starter_found}
use Rattle.sg_protocol.proofs.Nodes.{Begun, ActSent, act_sends, start_sends, abandon_sends, deliver_sends, start_all, abandon_all, act_all, deliver_all}
use Rattle.sg_protocol.proofs.Paths.{flat_map-append}
use Rattle.sg_protocol.proofs.ReadBack.{read-SpellsFrame}
use Rattle.sg_protocol.proofs.Sent.{all_transcript}
use Rattle.sg_protocol.proofs.Progressing.{small_values}

-- ---- lists

if_last : {A : Type 0} (P : A → Type 0) (xs : List A) → AllByRecursion P xs → IfSome (last xs) P
if_last P [] a = tt
if_last P (x ∷ xs) a = go P x xs a
  where
    go : {A : Type 0} (P : A → Type 0) (x : A) (xs : List A) → AllByRecursion P (x ∷ xs) → P (last_or x xs)
    go P x [] a = a.0
    go P x (y ∷ ys) a = go P y ys a.1

-- ---- sessions

pub new_in_range : (sid : List ℕ) (c : Cast) (r : ℕ) → AreBytes 32 sid → IsCast c → r < 16 → IsSession (new_session sid c r)
new_in_range sid c r b h l = record { sid = b; version = h.version; cast = h.fields; role = l; items = tt; openings = tt }

pub extended_in_range : (x : Session) (e : Exchange) → IsSession x → AllByRecursion (IsItem x.cast.version) (items_of e) → AllByRecursion IsOpening (openings_of e) → IsSession (extended x e)
extended_in_range x e h a b = record {
  sid = h.sid;
  version = h.version;
  cast = h.cast;
  role = h.role;
  items = subst (AllByRecursion (IsItem x.cast.version)) (sym (flat_map-append items_of x.exchanges (e ∷ []))) (all-append (IsItem x.cast.version) (transcript x) (items_of e ++ []) h.items (all-append (IsItem x.cast.version) (items_of e) [] a tt));
  openings = subst (AllByRecursion IsOpening) (sym (flat_map-append openings_of x.exchanges (e ∷ []))) (all-append IsOpening (flat_map openings_of x.exchanges) (openings_of e ++ []) h.openings (all-append IsOpening (openings_of e) [] b tt));
}

pub taken_in_range : (s : Session) (f : Frame) → IsSession s → HasSpelling f → f.version ≡ s.cast.version → IsSession (extended s (Took f))
taken_in_range s f h sp v = extended_in_range s (Took f) h (subst (λ u. AllByRecursion (IsItem u) f.items) v sp.fields.items) sp.fields.openings

joined_cast : (f : Frame) (c : Cast) → HasSpelling f → f.join ≡ Some c → IsCastOf f.version c
joined_cast f c sp e = subst (λ o. IfSome o (IsCastOf f.version)) e sp.fields.join

pub joined_in_range : (f : Frame) (c : Cast) → HasSpelling f → f.join ≡ Some c → IsSession (new_session f.sid c f.receiver)
joined_in_range f c sp e =
    let co = joined_cast f c sp e in
    record { sid = sp.fields.sid; version = subst IsVersion (sym co.version) sp.fields.version; cast = subst (λ u. IsCastOf u c) (sym co.version) co; role = sp.fields.roles.1; items = tt; openings = tt }

-- ---- openings for values

opened_keys : (vs : Map Value) (cs : List (List ℕ)) → length cs ≡ length vs → map (λ (o : Opening). o.variable) (openings_for vs cs) ≡ keys_of vs
opened_keys [] cs e = refl
opened_keys (v ∷ vs) [] e = absurd (omega (arith, e))
opened_keys (v ∷ vs) (c ∷ cs) e = ap (λ l. v.0 ∷ l) (opened_keys vs cs (omega (arith, e)))

opened_fit : (vs : Map Value) (cs : List (List ℕ)) → AllByRecursion (λ (w : ℕ × Value). (w.0 < 256) × IsValue w.1) vs → AllByRecursion (AreBytes 16) cs → AllByRecursion (λ x. x < 32) (keys_of vs) → AllByRecursion IsOpening (openings_for vs cs)
opened_fit [] cs a b l = tt
opened_fit (v ∷ vs) [] a b l = tt
opened_fit (v ∷ vs) (c ∷ cs) a b l = (record { variable = l.0; confounder = b.0; value = a.0.1 }, opened_fit vs cs a.1 b.1 l.1)

below_weak : (m n : ℕ) (xs : List ℕ) → m ≤ n → AllByRecursion (λ x. x < m) xs → AllByRecursion (λ x. x < n) xs
below_weak m n [] l b = tt
below_weak m n (x ∷ xs) l b = ((let h = b.0 in omega (arith, h, l)), below_weak m n xs l b.1)

-- ---- a step

pub record GivesInRange (sha : Hash) (keys : Keyring) (p : Program) (s : Session) (label : ℕ) (written : List Opening) : Type 0 where
  pub names : map (λ (o : Opening). o.variable) written ≡ writes p.graph label
  pub short : IsShortFrame (frame_sent sha keys p s label written)
  pub openings : AllByRecursion IsOpening written
  pub own : IsItem s.cast.version (own_item sha keys p s label written)

pub gives_in_range : (sha : Hash) → IsHash sha → (keys : Keyring) (p : Program) (s : Session) (label : ℕ) (values : Map Value) (confounders : List (List ℕ)) → IsProgram sha p → IsSession s →
    first_some (rows_of_act p s label values) ≡ None → AreValues values confounders → GivesInRange sha keys p s label (openings_for values confounders)
gives_in_range sha hash keys p s label values confounders ip fx none good =
    let written : List Opening = openings_for values confounders in
    let rs : C.ActRows p.graph s label values = C.act_rows p s label values none in
    let ks : keys_of values ≡ writes p.graph label = keys_are p.graph ip.is_graph label values (small_values values good.each) rs.good in
    let names : map (λ (o : Opening). o.variable) written ≡ writes p.graph label = opened_keys values confounders good.count ∙ ks in
    let opens : AllByRecursion IsOpening written = opened_fit values confounders good.each good.bytes (subst (AllByRecursion (λ x. x < 32)) (sym ks) (below_weak (length p.graph.variables) 32 (writes p.graph label) ip.is_graph.sizes.1 (writes_below p.graph ip.is_graph label))) in
    record {
      names = names;
      short = sent_is_short sha hash p ip keys s fx label written rs.turn rs.edge rs.leaves rs.time names opens;
      openings = opens;
      own = all_end (IsItem s.cast.version) (transcript s) (own_item sha keys p s label written) (all_transcript sha hash p ip keys s fx label written rs.turn rs.edge rs.leaves rs.time names opens);
    }

pub sessions_stay_in_range : (sha : Hash) → IsHash sha → SessionsStayInRange sha
sessions_stay_in_range sha hash = record {
  begins = new_in_range;
  joins = joined_in_range;
  gives = λ keys p s label values confounders ip fx none good.
      let r = gives_in_range sha hash keys p s label values confounders ip fx none good in
      (r.names, r.short, extended_in_range s (Gave (own_item sha keys p s label (openings_for values confounders)) (openings_for values confounders)) fx (r.own, tt) r.openings);
  takes = taken_in_range;
}

-- ---- nodes

module _ (sha : Hash) (hash : IsHash sha) (n : Node) (programs : AllByRecursion (IsProgram sha) n.programs) (live : AllByRecursion IsSession n.live) where
  -- what an act sends, and the session that sends it
  pub act_in_range : (sid0 : List ℕ) (label : ℕ) (values : Map Value) (confs : List (List ℕ)) → AreValues values confs → (f : Frame) (a : ActSent sha n sid0 label values confs f)
      → IsShortFrame f × AllByRecursion IsOpening (openings_for values confs) × IsSession a.x × (f.version ≡ (a.x).cast.version) × (map (λ (o : Opening). o.variable) (openings_for values confs) ≡ writes (a.p).graph label)
  act_in_range sid0 label values confs good f a =
      let ip : IsProgram sha a.p = find_all (λ (p : Program). bytes_eq p.digest (a.x).cast.graph && (p.role == (a.x).role)) (IsProgram sha) n.programs a.p programs a.found_p in
      let fx : IsSession a.x = find_all (λ (z : Session). bytes_eq z.sid sid0) IsSession n.live a.x live a.found in
      let r = gives_in_range sha hash n.keys a.p a.x label values confs ip fx a.rows good in
      (subst IsShortFrame a.its r.short, r.openings, fx, ap (λ (z : Frame). z.version) (sym a.its), r.names)

  started_in_range : (c : Cast) → IsCast c → (p : Program) → Begun sha n c p → IsSession (new_session (session_id sha c) c p.role)
  started_in_range c h p b =
      let ip : IsProgram sha p = rec_in (IsProgram sha) n.programs p programs (starter_found n.programs c.graph p b.found).there in
      new_in_range (session_id sha c) c p.role (hash (session_text_of c)) h (let a = ip.role in let b = ip.is_graph.sizes.0 in omega (arith, a, b))

  pub node_in_range : (c : Call) → IsCallInRange c → AllByRecursion IsSession (node_after n c (answer sha n c)).live
  node_in_range (Start c) h = start_all sha n IsSession live c (started_in_range c h)
  node_in_range (Act sid0 label values confs) h = act_all sha n IsSession live sid0 label values confs (λ f a k.
      let r = act_in_range sid0 label values confs h f a in
      gave a.x k r.1 f.items (subst (λ v. AllByRecursion (IsItem v) f.items) r.3 r.0.spelled.fields.items))
    where
      one : (x : Session) → IsSession x → AllByRecursion IsOpening (openings_for values confs) → (o : Option Item) → IfSome o (IsItem x.cast.version) → IfSome o (λ i. IsSession (extended x (Gave i (openings_for values confs))))
      one x k b None a = tt
      one x k b (Some i) a = extended_in_range x (Gave i (openings_for values confs)) k (a, tt) b

      gave : (x : Session) → IsSession x → AllByRecursion IsOpening (openings_for values confs) → (is : List Item) → AllByRecursion (IsItem x.cast.version) is → IfSome (last is) (λ i. IsSession (extended x (Gave i (openings_for values confs))))
      gave x k b is a = one x k b (last is) (if_last (IsItem x.cast.version) is a)
  node_in_range (Abandon sid0) h = abandon_all sha n IsSession live sid0
  node_in_range (Deliver bs) h = deliver_all sha n IsSession live bs
      (λ f s rd t k. let sp = (read-SpellsFrame bs f h rd).is_frame in
      taken_in_range s f k sp (sym (eqb-true s.cast.version f.version (and_parts (bytes_eq s.sid f.sid && (s.role == f.receiver)) (s.cast.version == f.version) (find_passes (is_for f) n.live s t.found)).1)))
      (λ f c rd e t. let sp = (read-SpellsFrame bs f h rd).is_frame in
      taken_in_range (new_session f.sid c f.receiver) f (joined_in_range f c sp e) sp (sym (joined_cast f c sp e).version))

  pub sent_in_range : (c : Call) → IsCallInRange c → (e : Event) (to : Name) (f : Frame) → answer sha n c ≡ Sends e to f → IsShortFrame f
  sent_in_range (Start c) h e to f a = absurd (start_sends sha n c e to f a)
  sent_in_range (Act sid0 label values confs) h e to f a = (act_in_range sid0 label values confs h f (act_sends sha n sid0 label values confs e to f a)).0
  sent_in_range (Abandon sid0) h e to f a = absurd (abandon_sends sha n sid0 e to f a)
  sent_in_range (Deliver bs) h e to f a = absurd (deliver_sends sha n bs e to f a)

pub nodes_stay_in_range : (sha : Hash) → IsHash sha → NodesStayInRange sha
nodes_stay_in_range sha hash = record {
  live = λ n c programs live h. All-from_recursion IsSession (node_after n c (answer sha n c)).live (node_in_range sha hash n (recursion_from_All (IsProgram sha) n.programs programs) (recursion_from_All IsSession n.live live) c h);
  sent = λ n c e to f programs live h a. sent_in_range sha hash n (recursion_from_All (IsProgram sha) n.programs programs) (recursion_from_All IsSession n.live live) c h e to f a;
}
