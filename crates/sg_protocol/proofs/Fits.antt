-- What a run records are bytes, and what its nodes send has a spelling.
use Rattle.std.specs.Prelude.{filter_map, ◌≡◌, ℕ, zero, suc, ◌<◌, ◌≤◌, ◌==◌, if◌then◌else◌, All, true, List, [], ◌∷◌, ◌++◌, map, length, bytes_eq, refl, Option, Some, None, option_map, unwrap_or, IfSome}
use Rattle.std.specs.List.{cons_option, list_all, AllByRecursion}
use Rattle.std.specs.Option.{option_map_or}
use Rattle.std.proofs.Common.{sym, ◌∙◌, ap, subst, inl, inr, arith}
use Rattle.std.proofs.lemmas.Bool.{cases_Bool, and_parts}
use Rattle.std.proofs.lemmas.List.Elements.{All-head, All-tail, recursion_from_All}
use Rattle.sg_model.specs.Last.{Map}
use Rattle.sg_model.specs.Lists.{value_at, all_differ}
use Rattle.sg_model.specs.Values.{Value, Opening}
use Rattle.sg_model.specs.Names.{Name}
use Rattle.sg_protocol.specs.Graph.{Graph, writes}
use Rattle.sg_protocol.specs.Frame.{Cast, Item, Frame, IsItem, IsTag, IsValue, IsOpening}
use Rattle.sg_protocol.specs.Acting.{openings_for}
use Rattle.sg_protocol.specs.Spelling.{spelling, HasSpelling, u64}
use Rattle.sg_model.specs.Bytes.{AreBytes}
use Rattle.sg_protocol.specs.Texts.{Hash, IsHash, session_id, cut, graph_text_of}
use Rattle.sg_protocol.specs.Keyring.{Program}
use Rattle.sg_protocol.specs.Session.{Session, new_session}
use Rattle.sg_protocol.specs.Calls.{Event, Call, Start, Act, Abandon, Deliver, Answer, Sends}
use Rattle.sg_protocol.specs.Schedule.{Schedule, Step, StartStep, ActStep, AbandonStep, DeliverStep, CraftStep, What, NamedSession, cast_of, sid_at, confounder, graph_with}
use Rattle.sg_protocol.specs.Acting.{answer}
use Rattle.std.specs.Prelude.{Result, Ok, Err, option_and_then}
use Rattle.sg_model.specs.Bytes.{IsBytes}
use Rattle.sg_protocol.specs.Reading.{read}
use Rattle.sg_protocol.specs.Node.{Node}
use Rattle.sg_protocol.specs.NodeAfter.{node_after}
use Rattle.sg_protocol.proofs.ReadBack.{read-SpellsFrame}
use Rattle.std.specs.Prelude.{slice_get, IsSomeAnd, IsTrue, take, replicate, ◌-◌}
use Rattle.std.specs.Result.{result_ok}
use Rattle.sg_protocol.specs.Past.{Past, node_of, new_node, past_after}
use Rattle.sg_protocol.specs.World.{World, Logged, Outcome, Crafted, NoFrame, past_of, new_world, call_of, bytes_of}
use Rattle.sg_protocol.specs.Run.{called, called_if, uncalled, world_after, frame_in}
use Rattle.sg_protocol.specs.Crafted.{crafted}
use Rattle.sg_protocol.specs.World as World'
use Rattle.sg_protocol.specs.Schedule as Schedule'
use Rattle.sg_protocol.specs.Crafted as Crafted'
use Rattle.sg_protocol.specs.IsSchedule.{IsSchedule, IsStep, IsDeclared, AreCompiled, IsProgram}
use Rattle.sg_model.specs.Names.{is_name}
use Rattle.sg_model.proofs.Small.{same_bytes, all-append}
use Rattle.sg_model.proofs.Finding.{find_passes}
use Rattle.sg_protocol.proofs.Happenings.{IsGiven, IsStarted, given_in_range, given_sends}
use Rattle.sg_protocol.proofs.Progressing.{past_called, next_past, node_more}
use Rattle.sg_protocol.proofs.Whole.{first_past}
use Rattle.sg_protocol.proofs.First.{programs_after}
use Rattle.sg_protocol.specs.Bounds.{IsShortFrame}
use Rattle.sg_protocol.proofs.Sent.{FitSession}
use Rattle.sg_protocol.specs.Ranges.{AreValues}
use Rattle.sg_protocol.proofs.Nodes as Nodes'
use Rattle.sg_protocol.proofs.Ranges.{act_in_range}
use Rattle.sg_protocol.proofs.Progressing.{confounder_length}
use Rattle.sg_protocol.proofs.Spelled.{u64_bytes}
use Rattle.sg_protocol.proofs.Spelled.{Bytes_, BytesItem, BytesFrame, to_bytes, from_bytes, bytes-append, bytes-take, bytes-zeros, bytes-flipped, item_has_bytes, has_bytes, spelling_bytes}

pub declared_in : (A : Type 0) (P : A → Type 0) (xs : List A) (n : ℕ) (x : A) → All P xs → slice_get xs n ≡ Some x → P x
declared_in A P [] n x a e = absurd (cc)
declared_in A P (y ∷ ys) zero x a e = (let q : y ≡ x = cc in subst P q (All-head P y ys a))
declared_in A P (y ∷ ys) (suc n) x a e = declared_in A P ys n x (All-tail P y ys a) e

module _ (sha : Hash) (hash : IsHash sha) (programs : List Program) (s : Schedule) (compiled : AreCompiled sha s.graphs programs) (sched : IsSchedule sha s) where
  -- what a run records are bytes, and its live sessions are fit
  pub record Fit (w : World) : Type 0 where
    pub frames : AllByRecursion (λ (l : Logged). IfSome l.frame Bytes_) w.log
    pub nodes : (who : Name) (p : Past) → past_of w who ≡ Some p → ((node_of p).programs ≡ programs) × AllByRecursion FitSession (node_of p).live

  pub fit_new : Fit (new_world programs s)
  fit_new = record { frames = tt; nodes = λ who p e. let r = first_past s.keys programs s.honest who p e in subst (λ (z : Past). ((node_of z).programs ≡ programs) × AllByRecursion FitSession (node_of z).live) (sym r.0) (refl, tt) }

  frames_bytes : (log : List Logged) → AllByRecursion (λ (l : Logged). IfSome l.frame Bytes_) log → AllByRecursion Bytes_ (filter_map (λ (l : Logged). l.frame) log)
  frames_bytes [] a = tt
  frames_bytes (l ∷ ls) a = go l.frame a.0 (frames_bytes ls a.1)
    where
      go : (o : Option (List ℕ)) → IfSome o Bytes_ → AllByRecursion Bytes_ (filter_map (λ (l : Logged). l.frame) ls) → AllByRecursion Bytes_ (cons_option o (filter_map (λ (l : Logged). l.frame) ls))
      go None h r = r
      go (Some bs) h r = (h, r)

  get_frame : (xs : List (List ℕ)) (n : ℕ) → AllByRecursion Bytes_ xs → IfSome (slice_get xs n) Bytes_
  get_frame [] n a = tt
  get_frame (x ∷ xs) zero a = a.0
  get_frame (x ∷ xs) (suc n) a = get_frame xs n a.1

  frame_bytes : (w : World) → AllByRecursion (λ (l : Logged). IfSome l.frame Bytes_) w.log → (n : ℕ) → IfSome (World'.frame_at w n) Bytes_
  frame_bytes w a n = elim (cases_Bool (n == 0)) [ inl e ↦ rw e tt | inr e ↦ rw e (get_frame (filter_map (λ (l : Logged). l.frame) w.log) (n - 1) (frames_bytes w.log a)) ]

  if_map : (f : List ℕ → List ℕ) → ((bs : List ℕ) → Bytes_ bs → Bytes_ (f bs)) → (o : Option (List ℕ)) → IfSome o Bytes_ → IfSome (option_map f o) Bytes_
  if_map f k None h = tt
  if_map f k (Some bs) h = k bs h

  pub fit_bytes : (w : World) → Fit w → (who : Name) (what : What) (bs : List ℕ) → IsStep sha s (DeliverStep who what) → bytes_of w what ≡ Some bs → IsBytes bs
  fit_bytes w fit who what bs good e = to_bytes bs (subst (λ o. IfSome o Bytes_) e (go what good))
    where
      go : (y : What) → IsStep sha s (DeliverStep who y) → IfSome (bytes_of w y) Bytes_
      go (Schedule'.Whole n) gd = frame_bytes w fit.frames n
      go (Schedule'.Flipped n at) gd = if_map (World'.flipped at) (λ bs h. bytes-flipped bs at h) (World'.frame_at w n) (frame_bytes w fit.frames n)
      go (Schedule'.Cut n len) gd = if_map (take len) (λ bs h. bytes-take len bs h) (World'.frame_at w n) (frame_bytes w fit.frames n)
      go (Schedule'.Bytes bs') gd = from_bytes bs' gd

  -- ---- crafted frames

  cut_bytes : (v : ℕ) (t : List ℕ) → Bytes_ t → Bytes_ (cut v t)
  cut_bytes v t h = elim (cases_Bool (v == 2)) [ inl e ↦ rw e (bytes-append (take 16 t) (replicate 16 0) (bytes-take 16 t h) (bytes-zeros 16)) | inr e ↦ rw e h ]

  value_bytes_at : (m : Map (List ℕ)) (r : ℕ) → AllByRecursion (λ (d : ℕ × List ℕ). (d.0 < 256) × Bytes_ d.1) m → IfSome (value_at m r) Bytes_
  value_bytes_at [] r a = tt
  value_bytes_at (d ∷ m) r a = elim (cases_Bool (d.0 == r)) [ inl e ↦ rw e a.0.1 | inr e ↦ rw e (value_bytes_at m r a.1) ]

  unwrap_bytes : (o : Option (List ℕ)) → IfSome o Bytes_ → Bytes_ (unwrap_or o Crafted'.no_tag)
  unwrap_bytes None h = bytes-zeros 32
  unwrap_bytes (Some t) h = h

  read_frame_bytes : (w : World) → AllByRecursion (λ (l : Logged). IfSome l.frame Bytes_) w.log → (n : ℕ) → IfSome (Crafted'.frame_read w n) BytesFrame
  read_frame_bytes w a n = go (World'.frame_at w n) (frame_bytes w a n)
    where
      of_read : (bs : List ℕ) → Bytes_ bs → (r : Result Frame ℕ) → read bs ≡ r → IfSome (result_ok r) BytesFrame
      of_read bs h (Err at) e = tt
      of_read bs h (Ok f) e = has_bytes f (read-SpellsFrame bs f (to_bytes bs h) e).is_frame

      go : (o : Option (List ℕ)) → IfSome o Bytes_ → IfSome (option_and_then (λ bs. result_ok (read bs)) o) BytesFrame
      go None h = tt
      go (Some bs) h = of_read bs h (read bs) refl

  item_tag : (is : List Item) (i r : ℕ) → AllByRecursion BytesItem is → IfSome (option_and_then (λ (i : Item). value_at i.tags r) (slice_get is i)) Bytes_
  item_tag [] i r a = tt
  item_tag (x ∷ is) zero r a = value_bytes_at x.tags r a.0.tags
  item_tag (x ∷ is) (suc i) r a = item_tag is i r a.1

  tag_bytes : (w : World) → AllByRecursion (λ (l : Logged). IfSome l.frame Bytes_) w.log → (text : List ℕ) (src : Schedule'.Source) → Bytes_ (Crafted'.tag_by sha s w text src)
  tag_bytes w a text (Schedule'.Key one two) = from_bytes _ (hash _).1
  tag_bytes w a text (Schedule'.CopyItem n i r) = unwrap_bytes _ (go (Crafted'.frame_read w n) (read_frame_bytes w a n))
    where
      go : (o : Option Frame) → IfSome o BytesFrame → IfSome (option_and_then (λ (f : Frame). option_and_then (λ (i : Item). value_at i.tags r) (if i == 0 then None else slice_get f.items (i - 1))) o) Bytes_
      go None h = tt
      go (Some f) h = elim (cases_Bool (i == 0)) [ inl e ↦ rw e tt | inr e ↦ rw e (item_tag f.items (i - 1) r h.items) ]
  tag_bytes w a text (Schedule'.CopySeal n) = go (Crafted'.frame_read w n) (read_frame_bytes w a n)
    where
      go : (o : Option Frame) → IfSome o BytesFrame → Bytes_ (option_map_or (λ (f : Frame). f.tag) o Crafted'.no_tag)
      go None h = bytes-zeros 32
      go (Some f) h = h.tag
  tag_bytes w a text Schedule'.Zero = bytes-zeros 32

  module _ (w : World) (a : AllByRecursion (λ (l : Logged). IfSome l.frame Bytes_) w.log) (g : Graph) (x : Session) where
    tags_again : (v : ℕ) (F G : ℕ × Schedule'.Source → List ℕ) → ((t : ℕ × Schedule'.Source) → Bytes_ (G t)) → (ts : Map Schedule'.Source) → AllByRecursion (λ (t : ℕ × List ℕ). (t.0 < 16) × IsTag v t.1) (map (λ (t : ℕ × Schedule'.Source). (t.0, F t)) ts) → AllByRecursion (λ (d : ℕ × List ℕ). (d.0 < 256) × Bytes_ d.1) (map (λ (t : ℕ × Schedule'.Source). (t.0, G t)) ts)
    tags_again v F G k [] h = tt
    tags_again v F G k (t ∷ ts) h = (((let l = h.0.0 in omega (arith, l)), k t), tags_again v F G k ts h.1)

    same_len : {A B : Type 0} (F G : A → B) (ts : List A) (n : ℕ) → length (map F ts) ≤ n → length (map G ts) ≤ n
    same_len F G [] n h = h
    same_len F G (t ∷ ts) zero h = absurd (omega arith)
    same_len F G (t ∷ ts) (suc n) h = (let r : length (map G ts) ≤ n = same_len F G ts n (omega arith) in omega (arith, r))

    items_again : (v : ℕ) (w0 : World) (before0 before : List Item) (cs : List Schedule'.CraftItem) → AllByRecursion (IsItem v) (Crafted'.crafted_items sha s w0 g x before0 cs) → AllByRecursion BytesItem (Crafted'.crafted_items sha s w g x before cs)
    items_again v w0 before0 before [] h = tt
    items_again v w0 before0 before (c ∷ cs) h =
        let one : BytesItem (Crafted'.crafted_item sha s w0 g x before0 c) = item_has_bytes v (Crafted'.crafted_item sha s w0 g x before0 c) h.0 in (
          record {
            role = one.role;
            delta_len = one.delta_len;
            delta = one.delta;
            tags_len = (let l : length (Crafted'.crafted_item sha s w g x before c).tags ≤ 14 = same_len _ _ c.tags 14 h.0.roles.0 in omega (arith, l));
            tags = tags_again v _ _ (λ t. cut_bytes x.cast.version _ (tag_bytes w a _ t.1)) c.tags h.0.tags;
          },
          items_again v w0 (before0 ++ Crafted'.crafted_item sha s w0 g x before0 c ∷ []) (before ++ Crafted'.crafted_item sha s w g x before c ∷ []) cs h.1,
        )

    frame_again : (w0 : World) (c : Schedule'.Craft) → HasSpelling (Crafted'.crafted_frame sha s w0 c g x) → BytesFrame (Crafted'.crafted_frame sha s w c g x)
    frame_again w0 c h =
        let b : BytesFrame (Crafted'.crafted_frame sha s w0 c g x) = has_bytes (Crafted'.crafted_frame sha s w0 c g x) h in
        record {
          sid = b.sid;
          roles = b.roles;
          join = b.join;
          items = items_again x.cast.version w0 _ _ c.items h.fields.items;
          count = b.count;
          openings = b.openings;
          tag = cut_bytes x.cast.version _ (tag_bytes w a _ c.seal);
        }

  crafted_bytes : (w : World) → AllByRecursion (λ (l : Logged). IfSome l.frame Bytes_) w.log → (c : Schedule'.Craft) → IsStep sha s (CraftStep c) → IfSome (option_map spelling (crafted sha s w c)) Bytes_
  crafted_bytes w a c h = by_cast (cast_of s c.session) h
    where
      by_graph : (d : Cast) (o : Option Graph) → IsSomeAnd (option_map (λ g. Crafted'.crafted_frame sha s (new_world [] s) c g (new_session (session_id sha d) d c.from)) o) HasSpelling → IfSome (option_map spelling (option_map (λ g. Crafted'.crafted_frame sha s w c g (new_session (session_id sha d) d c.from)) o)) Bytes_
      by_graph d None h = tt
      by_graph d (Some g) h = spelling_bytes (Crafted'.crafted_frame sha s w c g (new_session (session_id sha d) d c.from)) (frame_again w a g (new_session (session_id sha d) d c.from) (new_world [] s) c h)

      by_cast : (o : Option Cast) → IsSomeAnd (option_and_then (λ (d : Cast). option_map (λ g. Crafted'.crafted_frame sha s (new_world [] s) c g (new_session (session_id sha d) d c.from)) (graph_with sha s.graphs d.graph)) o) HasSpelling
          → IfSome (option_map spelling (option_and_then (λ (d : Cast). option_map (λ g. Crafted'.crafted_frame sha s w c g (new_session (session_id sha d) d c.from)) (graph_with sha s.graphs d.graph)) o)) Bytes_
      by_cast None h = tt
      by_cast (Some d) h = by_graph d (graph_with sha s.graphs d.graph) h

  -- ---- what is sent

  abbrev pub ActSent : Node → List ℕ → ℕ → Map Value → List (List ℕ) → Frame → Type 0
  ActSent n sid0 label values confs f = Nodes'.ActSent sha n sid0 label values confs f

  pub act_sends : (n : Node) (sid0 : List ℕ) (label : ℕ) (values : Map Value) (confs : List (List ℕ)) (e : Event) (to : Name) (f : Frame) → answer sha n (Act sid0 label values confs) ≡ Sends e to f → ActSent n sid0 label values confs f
  act_sends n sid0 label values confs e to f a = Nodes'.act_sends sha n sid0 label values confs e to f a

  -- the values of a step, with the confounders of its number
  step_values : (k : ℕ) (vs : Map Value) → AllByRecursion (λ (w : ℕ × Value). (w.0 < 256) × IsValue w.1) vs → AreValues vs (map (λ (v : ℕ × Value). confounder k v.0) vs)
  step_values k vs a = record { each = a; count = count vs; bytes = bytes vs }
    where
      count : (vs : Map Value) → length (map (λ (v : ℕ × Value). confounder k v.0) vs) ≡ length vs
      count [] = refl
      count (v ∷ vs) = (let l = count vs in omega (arith, l))

      bytes : (vs : Map Value) → AllByRecursion (AreBytes 16) (map (λ (v : ℕ × Value). confounder k v.0) vs)
      bytes [] = tt
      bytes (v ∷ vs) = ((confounder_length k v.0, to_bytes (u64 k ++ u64 v.0) (bytes-append (u64 k) (u64 v.0) (u64_bytes k) (u64_bytes v.0))), bytes vs)

  compiled_in : (n : Node) → n.programs ≡ programs → AllByRecursion (IsProgram sha) n.programs
  compiled_in n ps = subst (AllByRecursion (IsProgram sha)) (sym ps) (recursion_from_All (IsProgram sha) programs compiled.each)

  -- what an act of a run sends, and the session that sends it
  pub act_fit : (n : Node) → n.programs ≡ programs → AllByRecursion FitSession n.live → (k : ℕ) (sid0 : List ℕ) (label : ℕ) (values : Map Value) → AllByRecursion (λ (w : ℕ × Value). (w.0 < 256) × IsValue w.1) values → (f : Frame) (a : ActSent n sid0 label values (map (λ (v : ℕ × Value). confounder k v.0) values) f)
      → IsShortFrame f × AllByRecursion IsOpening (openings_for values (map (λ (v : ℕ × Value). confounder k v.0) values)) × FitSession a.x × (f.version ≡ (a.x).cast.version) × (map (λ (o : Opening). o.variable) (openings_for values (map (λ (v : ℕ × Value). confounder k v.0) values)) ≡ writes (a.p).graph label)
  act_fit n ps live k sid0 label values good f a = act_in_range sha hash n (compiled_in n ps) live sid0 label values (map (λ (v : ℕ × Value). confounder k v.0) values) (step_values k values good) f a

  -- a declared session's cast can be read
  cast_given_ : (n : ℕ) (c : Cast) → cast_of s n ≡ Some c → IsStarted c
  cast_given_ n c e = go (slice_get s.sessions n) refl e
    where
      names_rec : (ns : List Name) → list_all is_name ns ≡ true → AllByRecursion (λ n. IsTrue (is_name n)) ns
      names_rec [] h = tt
      names_rec (n ∷ ns) h = let q = and_parts (is_name n) (list_all is_name ns) h in (q.0, names_rec ns q.1)

      of_declared : (d : NamedSession) → IsDeclared sha s.graphs d → IsStarted d.cast
      of_declared d h = record {
        version = h.version;
        graph = subst (AreBytes 32) (sym h.digest) (hash (graph_text_of h.graph));
        nonce = h.nonce;
        names = names_rec d.cast.names (and_parts (all_differ d.cast.names) (list_all is_name d.cast.names) h.names).1;
      }

      go : (o : Option NamedSession) → slice_get s.sessions n ≡ o → option_map (λ (d : NamedSession). d.cast) o ≡ Some c → IsStarted c
      go None q e = absurd (cc)
      go (Some d) q e = (let r : d.cast ≡ c = cc in subst IsStarted r (of_declared d (declared_in NamedSession (IsDeclared sha s.graphs) s.sessions n d sched.sessions q)))

  -- what a step asks is in range
  pub call_given : (w : World) → Fit w → (k : ℕ) (x : Step) → IsStep sha s x → (c : Call) → call_of sha s w k x ≡ Some c → IsGiven c
  call_given w fit k x good c e = go x good c e
    where
      start_ : (o : Option Cast) (n : ℕ) → cast_of s n ≡ o → (c : Call) → option_map Start o ≡ Some c → IsGiven c
      start_ None n q c e = absurd (cc)
      start_ (Some d) n q c e = let r : Start d ≡ c = cc in subst IsGiven r (cast_given_ n d q)

      deliver_ : (who : Name) (what : What) → IsStep sha s (DeliverStep who what) → (o : Option (List ℕ)) → bytes_of w what ≡ o → (c : Call) → option_map Deliver o ≡ Some c → IsGiven c
      deliver_ who what gd None q c e = absurd (cc)
      deliver_ who what gd (Some bs) q c e = let r : Deliver bs ≡ c = cc in subst IsGiven r (fit_bytes w fit who what bs gd q)

      go : (y : Step) → IsStep sha s y → (c : Call) → call_of sha s w k y ≡ Some c → IsGiven c
      go (StartStep who n) gd c e = start_ (cast_of s n) n refl c e
      go (ActStep who n label values) gd c e = let r : Act (sid_at sha s n) label values (map (λ (v : ℕ × Value). confounder k v.0) values) ≡ c = cc in subst IsGiven r (step_values k values gd)
      go (AbandonStep who n) gd c e = let r : Abandon (sid_at sha s n) ≡ c = cc in subst IsGiven r tt
      go (DeliverStep who what) gd c e = deliver_ who what gd (bytes_of w what) refl c e
      go (CraftStep cr) gd c e = absurd (cc)

  pub fit_shorts : (w : World) → Fit w → (k : ℕ) (x : Step) (who : Name) (past : Past) (c : Call) (e : Event) (to : Name) (f : Frame) → IsStep sha s x → past_of w who ≡ Some past → call_of sha s w k x ≡ Some c → answer sha (node_of past) c ≡ Sends e to f → IsShortFrame f
  fit_shorts w fit k x who past c e to f good q call ans = let both = fit.nodes who past q in given_sends sha hash (node_of past) (compiled_in (node_of past) both.0) both.1 c (call_given w fit k x good c call) e to f ans

  pub fit_sends : (w : World) → Fit w → (k : ℕ) (x : Step) (who : Name) (past : Past) (c : Call) (e : Event) (to : Name) (f : Frame) → IsStep sha s x → past_of w who ≡ Some past → call_of sha s w k x ≡ Some c → answer sha (node_of past) c ≡ Sends e to f → HasSpelling f
  fit_sends w fit k x who past c e to f good q call ans = (fit_shorts w fit k x who past c e to f good q call ans).spelled

  -- ---- the nodes after a call

  module _ (w : World) (k : ℕ) (fit : Fit w) where
    call_fit : (x : Step) → IsStep sha s x → (who : Name) (past : Past) → past_of w who ≡ Some past → (c : Call) → call_of sha s w k x ≡ Some c → AllByRecursion FitSession (node_after (node_of past) c (answer sha (node_of past) c)).live
    call_fit x good who past q c e = let at = fit.nodes who past q in given_in_range sha hash (node_of past) (compiled_in (node_of past) at.0) at.1 c (call_given w fit k x good c e)

    idle_fit : (who : Option Name) (o : Outcome) (fr : Option (List ℕ)) → IfSome fr Bytes_ → Fit (uncalled w k who o fr)
    idle_fit who o fr h = record { frames = all-append (λ (l : Logged). IfSome l.frame Bytes_) w.log _ fit.frames (h, tt); nodes = fit.nodes }

    answer_bytes : (a : Answer) → ((e : Event) (to : Name) (f : Frame) → a ≡ Sends e to f → HasSpelling f) → IfSome (frame_in a) Bytes_
    answer_bytes (Sends e to f) h = spelling_bytes f (has_bytes f (h e to f refl))
    answer_bytes other h = tt

    called_fit : (x : Step) → IsStep sha s x → (who : Name) (past : Past) → past_of w who ≡ Some past → (c : Call) → call_of sha s w k x ≡ Some c → Fit (called sha w k who c past)
    called_fit x good who past q c e = record {
      frames = all-append (λ (l : Logged). IfSome l.frame Bytes_) w.log _ fit.frames (answer_bytes (answer sha (node_of past) c) (λ ev to f a. fit_sends w fit k x who past c ev to f good q e a), tt);
      nodes = λ me p' e'. nodes_ me p' (past_of w me) refl (sym (past_called sha w k who c past me) ∙ e');
    }
      where
        nodes_ : (me : Name) (p' : Past) (o : Option Past) → past_of w me ≡ o → option_map (next_past sha who c) o ≡ Some p' → ((node_of p').programs ≡ programs) × AllByRecursion FitSession (node_of p').live
        nodes_ me p' None q' e' = absurd (cc)
        nodes_ me p' (Some y) q' e' =
            let r : next_past sha who c y ≡ p' = cc in
            let is_me : y.keys.me ≡ me = same_bytes y.keys.me me (find_passes (λ (z : Past). bytes_eq z.keys.me me) w.pasts y q') in
            elim (cases_Bool (bytes_eq y.keys.me who)) [
              | inl h ↦
                  let same : me ≡ who = sym is_me ∙ same_bytes y.keys.me who h in
                  let two : Some y ≡ Some past = sym q' ∙ ap (past_of w) same ∙ q in
                  let y_past : y ≡ past = cc in
                  let after_ : past_after sha past c ≡ p' = ap (λ z. past_after sha z c) (sym y_past) ∙ (rw h at r) in
                  let node_is : node_of p' ≡ node_after (node_of past) c (answer sha (node_of past) c) = ap node_of (sym after_) ∙ node_more (new_node past.keys past.programs past.first) past.calls (record { call = c; answer = answer sha (node_of past) c }) in
                  (ap (λ (m : Node). m.programs) node_is ∙ programs_after (node_of past) c (answer sha (node_of past) c) ∙ (fit.nodes who past q).0, subst (λ (m : Node). AllByRecursion FitSession m.live) (sym node_is) (call_fit x good who past q c e))
              | inr h ↦ (let r' : y ≡ p' = rw h at r in subst (λ z. ((node_of z).programs ≡ programs) × AllByRecursion FitSession (node_of z).live) r' (fit.nodes me y q'))
            ]

    past_fit : (x : Step) → IsStep sha s x → (who : Name) (o : Option Past) → past_of w who ≡ o → (c : Option Call) → call_of sha s w k x ≡ c → Fit (option_map_or (called_if sha w k who c) o w)
    past_fit x good who None q c e = fit
    past_fit x good who (Some past) q None e = idle_fit (Some who) NoFrame None tt
    past_fit x good who (Some past) q (Some c) e = called_fit x good who past q c e

  pub fit_next : (w : World) (k : ℕ) (x : Step) → Fit w → IsStep sha s x → Fit (world_after sha s w k x)
  fit_next w k (CraftStep c) fit good = idle_fit w k fit None Crafted (option_map spelling (crafted sha s w c)) (crafted_bytes w fit.frames c good)
  fit_next w k (StartStep who n') fit good = past_fit w k fit (StartStep who n') good who (past_of w who) refl (call_of sha s w k (StartStep who n')) refl
  fit_next w k (ActStep who n' label values) fit good = past_fit w k fit (ActStep who n' label values) good who (past_of w who) refl (call_of sha s w k (ActStep who n' label values)) refl
  fit_next w k (AbandonStep who n') fit good = past_fit w k fit (AbandonStep who n') good who (past_of w who) refl (call_of sha s w k (AbandonStep who n')) refl
  fit_next w k (DeliverStep who what) fit good = past_fit w k fit (DeliverStep who what) good who (past_of w who) refl (call_of sha s w k (DeliverStep who what)) refl
