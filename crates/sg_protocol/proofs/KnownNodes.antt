-- What is known of a principal's node, whatever it is asked.
use Rattle.std.specs.Prelude.{◌≡◌, ℕ, ◌<◌, ◌≤◌, ◌&&◌, if◌then◌else◌, Bool, true, false, not, List, [], ◌∷◌, ◌++◌, filter, length, bytes_eq, refl, Option, Some, None, Result, Ok, Err}
use Rattle.std.specs.List.{AllByRecursion}
use Rattle.std.specs.Option.{option_map_or}
use Rattle.std.proofs.Common.{sym, ◌∙◌, ap, subst, inl, inr, arith, append-nil}
use Rattle.std.proofs.lemmas.Bool.{cases_Bool, and_parts}
use Rattle.std.proofs.lemmas.List.{length-append}
use Rattle.std.proofs.lemmas.List.Elements.{filter-append}
use Rattle.sg_model.specs.Last.{last}
use Rattle.sg_model.specs.Lists.{all_differ, first_some}
use Rattle.sg_model.specs.Names.{Name}
use Rattle.sg_model.proofs.Small.{contradicts, length_filter, same_bytes, if_any}
use Rattle.sg_model.proofs.Members.{In, contains_from_in, in_left, in_right, rec_in}
use Rattle.sg_protocol.specs.Graph.{Graph}
use Rattle.sg_protocol.specs.Frame.{Cast, Frame, Item}
use Rattle.sg_protocol.specs.Reading.{read}
use Rattle.sg_protocol.specs.Texts.{Hash, IsHash, session_text_of}
use Rattle.sg_protocol.specs.TextLaws.{CastFits}
use Rattle.sg_protocol.specs.Keyring.{Keyring, Program}
use Rattle.sg_protocol.specs.Session.{Session, Exchange, Took, Gave, principal, extended, new_session}
use Rattle.sg_protocol.specs.Calls.{Refusal, Event, Started, Call, Start, Act, Abandon, Deliver, Answer, Happened, Sends, Abandoned, events_of_answer, does_join, role_of, sid_of}
use Rattle.sg_protocol.specs.Node.{Node, is_for, has_joined, is_cast}
use Rattle.sg_protocol.specs.NodeAfter.{node_after, joined, goes_on, is_over, replace, still, takes_read}
use Rattle.sg_protocol.specs.Verdict.{rows, decided, receipt, verdict_on}
use Rattle.sg_protocol.specs.Acting.{answer, openings_for}
use Rattle.sg_protocol.specs.Notes.{notes}
use Rattle.sg_protocol.specs.Past.{joins_once}
use Rattle.sg_protocol.specs.Schedule.{Schedule}
use Rattle.sg_protocol.specs.World.{World}
use Rattle.sg_protocol.specs.Premises.{CollisionFree, hashed}
use Rattle.sg_protocol.specs.IsSchedule.{IsProgram}
use Rattle.sg_protocol.specs.Bounds.{IsSession}
use Rattle.sg_protocol.proofs.Finding.{one_index}
use Rattle.sg_protocol.proofs.First.{programs_after, keys_after}
use Rattle.sg_protocol.proofs.Joins.{Owns, call_step, owns_after}
use Rattle.sg_protocol.proofs.Nodes.{start_all, abandon_all, act_all, deliver_all}
use Rattle.sg_protocol.proofs.LiveSessions.{Known, call_known}
use Rattle.sg_protocol.proofs.TextLaws.{cast_fits, one_cast}
use Rattle.sg_protocol.proofs.Happenings.{IsGiven, are_programs, given_in_range}
use Rattle.sg_protocol.proofs.OfSid.{of_sid, still-other}
use Rattle.sg_protocol.proofs.NoRows.{cast_parts}

-- ---- lists

none_pass : {A : Type 0} (q : A → Bool) (xs : List A) → ((x : A) → In xs x → q x ≡ true → ⊥) → filter q xs ≡ []
none_pass q [] h = refl
none_pass q (x ∷ xs) h = elim (cases_Bool (q x)) [
  | inl e ↦ absurd (h x (inl refl) e)
  | inr e ↦ rw e (none_pass q xs (λ y i k. h y (inr i) k))
]

-- a list of which one element is replaced by few has no more of a kind
few_replaced : (q which : Session → Bool) (now : Session → List Session) → ((x : Session) → which x ≡ true → length (filter q (now x)) ≤ length (filter q (x ∷ []))) → (xs : List Session) → length (filter q (replace which now xs)) ≤ length (filter q xs)
few_replaced q which now h [] = omega arith
few_replaced q which now h (x ∷ xs) = elim (cases_Bool (which x)) [
  | inl e ↦
      let a = h x e in
      let b = length-append (filter q (now x)) (filter q xs) in
      let c = length-append (filter q (x ∷ [])) (filter q xs) in
      let d = ap (λ l. length l) (filter-append q (now x) xs) in
      let f = ap (λ l. length l) (filter-append q (x ∷ []) xs) in
      rw e (omega (arith, a, b, c, d, f))
  | inr e ↦ rw e (elim (cases_Bool (q x)) [
    | inl f ↦ rw f (let a = few_replaced q which now h xs in omega (arith, a))
    | inr f ↦ rw f (few_replaced q which now h xs)
  ])
]

-- the pair of a live session was joined
pub owned : (js : List (List ℕ × ℕ)) (xs : List Session) (y : Session) → Owns js xs → In xs y → has_joined js y.sid y.role ≡ true
owned js [] y o i = absurd i
owned js (z ∷ xs) y o (inl e) = ap (λ (s : Session). has_joined js s.sid s.role) e ∙ (and_parts (has_joined js z.sid z.role) _ o).0
owned js (z ∷ xs) y o (inr i) = owned js xs y (and_parts (has_joined js z.sid z.role) _ o).1 i

-- ---- pairs

-- an event that joins is of a pair that was not joined
fresh_pair : (js : List (List ℕ × ℕ)) (a : Answer) (e : Event) → In (events_of_answer a) e → joins_once js (events_of_answer a ++ []) ≡ true → does_join e ≡ true → has_joined js (sid_of e) (role_of e) ≡ false
fresh_pair js a e i h d = go a i h
  where
    not_joined : (b : Bool) → (not b && true) ≡ true → b ≡ false
    not_joined true k = absurd (cc)
    not_joined false k = refl

    one : (v : Event) → e ≡ v → joins_once js (v ∷ []) ≡ true → has_joined js (sid_of e) (role_of e) ≡ false
    one v q k = not_joined (has_joined js (sid_of e) (role_of e)) (let z : joins_once js (e ∷ []) ≡ true = subst (λ z. joins_once js (z ∷ []) ≡ true) (sym q) k in rw d at z)

    go : (a : Answer) → In (events_of_answer a) e → joins_once js (events_of_answer a ++ []) ≡ true → has_joined js (sid_of e) (role_of e) ≡ false
    go (Happened v) (inl q) k = one v q k
    go (Happened v) (inr j) k = absurd j
    go (Sends v to f) (inl q) k = one v q k
    go (Sends v to f) (inr j) k = absurd j
    go other j k = absurd j

-- ---- a node

module _ (sha : Hash) (hash : IsHash sha) (s : Schedule) (wf : World) where
  -- the texts that were hashed in calls
  abbrev pub Hashed : List ℕ → Type 0
  Hashed t = In (hashed s wf) t

  -- the sid is of the cast, whose text was hashed, and the principal has the role
  abbrev pub IsKnown : Name → Session → Type 0
  IsKnown who x = Known sha Hashed who x

  -- the principals differ, and the role is that of one
  abbrev pub IsInside : Session → Type 0
  IsInside x = (x.role < length x.cast.names) × (all_differ x.cast.names ≡ true)

  -- a node of the principal, whose programs are of these graphs. Of one sid it has at most one live session, if no two texts have one digest
  pub record KnownNode (who : Name) (n : Node) : Type 0 where
    pub me : n.keys.me ≡ who
    pub programs : AllByRecursion (λ (q : Program). IsProgram sha q × In s.graphs q.graph) n.programs
    pub owns : Owns n.joins n.live
    pub fits : AllByRecursion IsSession n.live
    pub known : AllByRecursion (IsKnown who) n.live
    pub inside : AllByRecursion IsInside n.live
    pub once : CollisionFree sha (hashed s wf) → (sid : List ℕ) → length (filter (of_sid sid) n.live) ≤ 1

  -- what the test of a cast says
  cast_inside : (keys : Keyring) (g : Graph) (c : Cast) (r : ℕ) → is_cast keys g c r ≡ true → (r < length c.names) × (all_differ c.names ≡ true)
  cast_inside keys g c r h =
      let a = and_parts _ (bytes_eq (principal c r) keys.me) h in
      ((cast_parts keys g c r h).0, (and_parts _ (all_differ c.names) (and_parts _ _ a.0).0).1)

  pub fits_cast : (x : Session) → IsSession x → CastFits x.cast
  fits_cast x f = cast_fits x.cast f.version f.cast

  -- two sessions of one sid are of one cast and role
  same_pair : CollisionFree sha (hashed s wf) → (who : Name) (x y : Session) → IsSession x → IsKnown who x → IsInside x → IsSession y → IsKnown who y → IsInside y → x.sid ≡ y.sid → x.role ≡ y.role
  same_pair free who x y fx kx ix fy ky iy sids =
      let text : session_text_of x.cast ≡ session_text_of y.cast = free (session_text_of x.cast) (session_text_of y.cast) (contains_from_in (hashed s wf) (session_text_of x.cast) kx.is_hashed) (contains_from_in (hashed s wf) (session_text_of y.cast) ky.is_hashed) (kx.id ∙ sids ∙ sym ky.id) in
      let cast : x.cast ≡ y.cast = one_cast x.cast y.cast (fits_cast x fx) (fits_cast y fy) text in
      one_index x.cast.names x.role y.role ix.1 ix.0 (subst (λ (c : Cast). y.role < length c.names) (sym cast) iy.0) (kx.me ∙ sym ky.me ∙ ap (λ (c : Cast). principal c y.role) (sym cast))

  module _ (who : Name) (n : Node) (k : KnownNode who n) (c : Call) (range : IsGiven c) (hs : (t : List ℕ) → In (notes sha n c).hashed t → Hashed t) where
    pub compiled : AllByRecursion (IsProgram sha) n.programs
    compiled = are_programs sha s n.programs k.programs

    pub fresh : (e : Event) → In (events_of_answer (answer sha n c)) e → does_join e ≡ true → has_joined n.joins (sid_of e) (role_of e) ≡ false
    fresh e i d = fresh_pair n.joins (answer sha n c) e i (call_step sha n k.owns [] c refl) d

    -- ---- the node after the call

    fits_after : AllByRecursion IsSession (node_after n c (answer sha n c)).live
    fits_after = given_in_range sha hash n compiled k.fits c range

    known_after : AllByRecursion (IsKnown who) (node_after n c (answer sha n c)).live
    known_after = call_known sha Hashed who n k.me k.known c hs

    inside_after : (d : Call) → AllByRecursion IsInside (node_after n d (answer sha n d)).live
    inside_after (Start d) = start_all sha n IsInside k.inside d (λ p b. cast_inside n.keys p.graph d p.role b.cast)
    inside_after (Act sid label values confs) = act_all sha n IsInside k.inside sid label values confs (λ f b h. if_any (last f.items) (λ i. IsInside (extended b.x (Gave i (openings_for values confs)))) (λ i. h))
    inside_after (Abandon sid) = abandon_all sha n IsInside k.inside sid
    inside_after (Deliver bs) = deliver_all sha n IsInside k.inside bs (λ f x rd b h. h) (λ f d rd j b. cast_inside n.keys (b.p).graph d f.receiver b.cast)

    module _ (free : CollisionFree sha (hashed s wf)) (sid : List ℕ) where
      abbrev Few : Node → Type 0
      Few m = length (filter (of_sid sid) m.live) ≤ 1

      -- a session that goes on is one
      goes_few : (ps : List Program) (x : Session) (e : Exchange) → length (filter (of_sid sid) (still ps (extended x e))) ≤ length (filter (of_sid sid) (x ∷ []))
      goes_few ps x e = elim (cases_Bool (bytes_eq x.sid sid)) [
        | inl h ↦ rw h (one (is_over ps (extended x e)) h)
        | inr h ↦ (let z = ap (λ l. length l) (still-other sid ps (extended x e) h) in rw h (omega (arith, z)))
      ]
        where
          one : (b : Bool) → bytes_eq x.sid sid ≡ true → length (filter (of_sid sid) (if b then [] else extended x e ∷ [])) ≤ 1
          one true h = omega arith
          one false h = rw h (omega arith)

      few_on : (which : Session → Bool) (now : Session → List Session) → ((x : Session) → which x ≡ true → length (filter (of_sid sid) (now x)) ≤ length (filter (of_sid sid) (x ∷ []))) → Few (goes_on n which now)
      few_on which now h = (let b = few_replaced (of_sid sid) which now h n.live in let d = k.once free sid in omega (arith, b, d))

      -- a session that begins is the only one of its sid
      few_joined : (x : Session) → has_joined n.joins x.sid x.role ≡ false → AllByRecursion IsSession (joined n x).live → AllByRecursion (IsKnown who) (joined n x).live → AllByRecursion IsInside (joined n x).live → Few (joined n x)
      few_joined x first fits known inside = by_over (is_over n.programs x) refl
        where
          over : is_over n.programs x ≡ true → still n.programs x ≡ []
          over e = rw e refl

          goes : is_over n.programs x ≡ false → still n.programs x ≡ x ∷ []
          goes e = rw e refl

          alone : is_over n.programs x ≡ false → bytes_eq x.sid sid ≡ true → filter (of_sid sid) n.live ≡ []
          alone e h = none_pass (of_sid sid) n.live (λ y i s.
              let there : In (joined n x).live y = in_left n.live (still n.programs x) y i in
              let here : In (joined n x).live x = in_right n.live (still n.programs x) x (subst (λ l. In l x) (sym (goes e)) (inl refl)) in
              let sids : y.sid ≡ x.sid = same_bytes y.sid sid s ∙ sym (same_bytes x.sid sid h) in
              let roles : y.role ≡ x.role = same_pair free who y x (rec_in IsSession (joined n x).live y fits there) (rec_in (IsKnown who) (joined n x).live y known there) (rec_in IsInside (joined n x).live y inside there) (rec_in IsSession (joined n x).live x fits here) (rec_in (IsKnown who) (joined n x).live x known here) (rec_in IsInside (joined n x).live x inside here) sids in
              contradicts (owned n.joins n.live y k.owns i) (ap (λ z. has_joined n.joins z y.role) sids ∙ ap (has_joined n.joins x.sid) roles ∙ first))

          by_over : (b : Bool) → is_over n.programs x ≡ b → Few (joined n x)
          by_over true e = (let z = k.once free sid in let l = ap (λ l. length (filter (of_sid sid) l)) (ap (λ l. n.live ++ l) (over e) ∙ append-nil n.live) in omega (arith, z, l))
          by_over false e =
              let parts = ap (λ l. length l) (filter-append (of_sid sid) n.live (still n.programs x)) in
              let both = length-append (filter (of_sid sid) n.live) (filter (of_sid sid) (still n.programs x)) in
              elim (cases_Bool (bytes_eq x.sid sid)) [
                | inl h ↦
                    let none = ap (λ l. length l) (alone e h) in
                    let one = ap (λ l. length (filter (of_sid sid) l)) (goes e) in
                    let most : length (filter (of_sid sid) (x ∷ [])) ≤ 1 = length_filter (of_sid sid) (x ∷ []) in
                    omega (arith, parts, both, none, one, most)
                | inr h ↦
                    let none = ap (λ l. length l) (still-other sid n.programs x h) in
                    let z = k.once free sid in
                    omega (arith, parts, both, none, z)
              ]

      few_start : (d : Cast) → c ≡ Start d → (b : Answer) → answer sha n c ≡ b → Few (node_after n (Start d) b)
      few_start d q (Happened (Started sid' r)) h =
          let same : node_after n c (answer sha n c) ≡ joined n (new_session sid' d r) = ap (λ z. node_after n z (answer sha n c)) q ∙ ap (node_after n (Start d)) h in
          few_joined (new_session sid' d r) (fresh (Started sid' r) (subst (λ z. In (events_of_answer z) (Started sid' r)) (sym h) (inl refl)) refl)
          (subst (λ (m : Node). AllByRecursion IsSession m.live) same fits_after) (subst (λ (m : Node). AllByRecursion (IsKnown who) m.live) same known_after) (subst (λ (m : Node). AllByRecursion IsInside m.live) same (inside_after c))
      few_start d q other h = k.once free sid

      few_act : (sid' : List ℕ) (label : ℕ) (values : _) (confs : List (List ℕ)) (b : Answer) → Few (node_after n (Act sid' label values confs) b)
      few_act sid' label values confs (Sends e to f) = few_on (λ x. bytes_eq x.sid sid') _ (λ x h. now x (last f.items))
        where
          now : (x : Session) (o : Option Item) → length (filter (of_sid sid) (option_map_or (λ i. still n.programs (extended x (Gave i (openings_for values confs)))) o (x ∷ []))) ≤ length (filter (of_sid sid) (x ∷ []))
          now x None = omega arith
          now x (Some i) = goes_few n.programs x (Gave i (openings_for values confs))
      few_act sid' label values confs other = k.once free sid

      few_abandon : (sid' : List ℕ) (b : Answer) → Few (node_after n (Abandon sid') b)
      few_abandon sid' Abandoned = few_on (λ x. bytes_eq x.sid sid') (λ x. []) (λ x h. omega arith)
      few_abandon sid' other = k.once free sid

      few_deliver : (bs : List ℕ) → c ≡ Deliver bs → Few (node_after n (Deliver bs) (answer sha n (Deliver bs)))
      few_deliver bs q = by_read (read bs) refl
        where
          by_join : (f : Frame) → read bs ≡ Ok f → answer sha n c ≡ Happened (receipt f) → (o : Option Cast) → f.join ≡ o → Few (takes_read n (read bs))
          by_join f rd h None j = subst Few (sym (ap (takes_read n) rd ∙ ap (λ o. option_map_or (λ d. joined n (extended (new_session f.sid d f.receiver) (Took f))) o (goes_on n (is_for f) (λ x. still n.programs (extended x (Took f))))) j)) (few_on (is_for f) (λ x. still n.programs (extended x (Took f))) (λ x e. goes_few n.programs x (Took f)))
          by_join f rd h (Some d) j =
              let to : takes_read n (read bs) ≡ joined n (extended (new_session f.sid d f.receiver) (Took f)) = ap (takes_read n) rd ∙ ap (λ o. option_map_or (λ d. joined n (extended (new_session f.sid d f.receiver) (Took f))) o (goes_on n (is_for f) (λ x. still n.programs (extended x (Took f))))) j in
              let same : node_after n c (answer sha n c) ≡ joined n (extended (new_session f.sid d f.receiver) (Took f)) = ap (λ z. node_after n z (answer sha n c)) q ∙ ap (node_after n (Deliver bs)) h ∙ to in
              subst Few (sym to) (few_joined (extended (new_session f.sid d f.receiver) (Took f)) (fresh (receipt f) (subst (λ z. In (events_of_answer z) (receipt f)) (sym h) (inl refl)) (ap (λ o. option_map_or (λ (d : Cast). true) o false) j))
              (subst (λ (m : Node). AllByRecursion IsSession m.live) same fits_after) (subst (λ (m : Node). AllByRecursion (IsKnown who) m.live) same known_after) (subst (λ (m : Node). AllByRecursion IsInside m.live) same (inside_after c)))

          by_rows : (f : Frame) → read bs ≡ Ok f → (o : Option Refusal) → first_some (rows sha n f) ≡ o → Few (node_after n (Deliver bs) (decided (receipt f) o))
          by_rows f rd None e = by_join f rd (ap (answer sha n) q ∙ ap (verdict_on sha n) rd ∙ ap (decided (receipt f)) e) f.join refl
          by_rows f rd (Some r) e = k.once free sid

          by_read : (r : Result Frame ℕ) → read bs ≡ r → Few (node_after n (Deliver bs) (verdict_on sha n r))
          by_read (Err at) e = k.once free sid
          by_read (Ok f) e = by_rows f e (first_some (rows sha n f)) refl

      few_after : (d : Call) → c ≡ d → Few (node_after n d (answer sha n d))
      few_after (Start d) q = few_start d q (answer sha n (Start d)) (ap (answer sha n) q)
      few_after (Act sid' label values confs) q = few_act sid' label values confs (answer sha n (Act sid' label values confs))
      few_after (Abandon sid') q = few_abandon sid' (answer sha n (Abandon sid'))
      few_after (Deliver bs) q = few_deliver bs q

    pub node_known : KnownNode who (node_after n c (answer sha n c))
    node_known = record {
      me = ap (λ (z : Keyring). z.me) (keys_after n c (answer sha n c)) ∙ k.me;
      programs = subst (AllByRecursion (λ (q : Program). IsProgram sha q × In s.graphs q.graph)) (sym (programs_after n c (answer sha n c))) k.programs;
      owns = owns_after n c (answer sha n c) k.owns;
      fits = fits_after;
      known = known_after;
      inside = inside_after c;
      once = λ free sid. few_after free sid c refl;
    }
