-- A step of a generated run is a call of a principal: the run stays one of its own nodes and frames, and what was spent stays so.
use Rattle.std.proofs.Common.{◌≡◌, ℕ, zero, suc, ◌-◌, ◌<◌, ◌≤◌, ◌==◌, Bool, true, false, if◌then◌else◌, List, [], ◌∷◌, ◌++◌, length, map, slice_get, bytes_eq, Option, Some, None, option_map, refl, sym, ap, ◌∙◌, subst, arith}
use Rattle.std.specs.Prelude.{Ok}
use Rattle.std.specs.List.{AllByRecursion, cons_option}
use Rattle.std.specs.Option.{option_map_or}
use Rattle.std.proofs.lemmas.List.Elements.{filter_map-append}
use Rattle.sg_model.proofs.Small.{all-append}
use Rattle.sg_model.proofs.Finding.{find_passes}
use Rattle.sg_model.specs.Last.{Map}
use Rattle.sg_model.specs.Values.{Value}
use Rattle.sg_protocol.proofs.Progressing.{next_past, node_more, past_called}
use Rattle.sg_protocol.proofs.Nodes.{abandon_sends, deliver_sends, start_sends}
use Rattle.sg_protocol.proofs.Steps.{frames_are_numbered}
use Rattle.sg_protocol.specs.Acting.{answer}
use Rattle.sg_protocol.specs.Calls.{Event, Call, Start, Act, Abandon, Deliver, Answer, Happened, Sends}
use Rattle.sg_protocol.specs.Frame.{Cast, Frame}
use Rattle.sg_protocol.specs.Graph.{Graph}
use Rattle.sg_protocol.specs.Node.{Node}
use Rattle.sg_protocol.specs.NodeAfter.{node_after}
use Rattle.sg_protocol.specs.Past.{Past, new_node, node_of, past_after}
use Rattle.sg_protocol.specs.Reading.{read}
use Rattle.sg_protocol.specs.Run.{called, called_if, frame_in, world_after}
use Rattle.sg_protocol.specs.Schedule.{Schedule, StartStep, ActStep, AbandonStep, DeliverStep, Whole, cast_of, confounder, sid_at}
use Rattle.sg_protocol.specs.Spelling.{spelling}
use Rattle.sg_protocol.specs.Steps.{frame_number}
use Rattle.sg_protocol.specs.Texts.{Hash, IsHash}
use Rattle.sg_protocol.specs.World.{Logged, World, frame_at, frames, past_of}
use Rattle.sg_sessions.proofs.Own.{in_range, own_after, own_sent}
use Rattle.sg_sessions.proofs.Spent.{frames_are_taken_once}
use Rattle.sg_sessions.specs.Own.{IsOwnCall, IsOwnFrame, IsOwnNode, IsOwnRun, IsSpentBy}
use Rattle.sg_sessions.specs.Setup.{player}
use Rattle.sg_sessions.specs.Spent.{IsSpent}

-- ---- small

if_both : {A : Type 0} (P : A → Type 0) (b : Bool) (x y : A) → P x → P y → P (if b then x else y)
if_both P true x y h k = h
if_both P false x y h k = k

if_true : {A : Type 0} (b : Bool) (x y : A) → b ≡ true → (if b then x else y) ≡ x
if_true true x y e = refl
if_true false x y e = absurd (cc)

get_all : {A : Type 0} (P : A → Type 0) (xs : List A) (n : ℕ) (x : A) → AllByRecursion P xs → slice_get xs n ≡ Some x → P x
get_all P [] n x a e = absurd (cc)
get_all P (y ∷ ys) zero x a e = (let q : y ≡ x = cc in subst P q a.0)
get_all P (y ∷ ys) (suc n) x a e = get_all P ys n x a.1 e

get_more : {A : Type 0} (xs ys : List A) (n : ℕ) (x : A) → slice_get xs n ≡ Some x → slice_get (xs ++ ys) n ≡ Some x
get_more [] ys n x e = absurd (cc)
get_more (z ∷ zs) ys zero x e = e
get_more (z ∷ zs) ys (suc n) x e = get_more zs ys n x e

-- the frame of a number of a list
abbrev frame_in_list : List (List ℕ) → ℕ → Option (List ℕ)
frame_in_list fs n = if n == 0 then None else slice_get fs (n - 1)

number_more : (xs ys : List (List ℕ)) (n : ℕ) (bs : List ℕ) → frame_in_list xs n ≡ Some bs → frame_in_list (xs ++ ys) n ≡ Some bs
number_more xs ys n bs e = by (n == 0) e
  where
    by : (b : Bool) → (if b then None else slice_get xs (n - 1)) ≡ Some bs → (if b then None else slice_get (xs ++ ys) (n - 1)) ≡ Some bs
    by true e = absurd (cc)
    by false e = get_more xs ys (n - 1) bs e

number_all : (P : List ℕ → Type 0) (xs : List (List ℕ)) (n : ℕ) (bs : List ℕ) → AllByRecursion P xs → frame_in_list xs n ≡ Some bs → P bs
number_all P xs n bs a e = by (n == 0) e
  where
    by : (b : Bool) → (if b then None else slice_get xs (n - 1)) ≡ Some bs → P bs
    by true e = absurd (cc)
    by false e = get_all P xs (n - 1) bs a e

-- ---- the run

module _ (sha : Hash) (g : Graph) (w : World) (own : IsOwnRun sha g w) where
  -- a recorded frame is one of its own
  pub own_frame : (n : ℕ) (bs : List ℕ) → frame_at w n ≡ Some bs → IsOwnFrame g bs
  own_frame n bs e = number_all (IsOwnFrame g) (frames w) n bs own.recorded e

  module _ (s : Schedule) (k role : ℕ) (there : role < length g.roles) where
    -- the past of the role's principal
    abbrev pub past_at : Past
    past_at = (own.nodes role there).0

    -- what the principal's steps are
    pub start_is : (n : ℕ) (c : Cast) → cast_of s n ≡ Some c → world_after sha s w k (StartStep (player role) n) ≡ called sha w k (player role) (Start c) past_at
    start_is n c e = ap (λ o. option_map_or (called_if sha w k (player role) (option_map Start o)) (past_of w (player role)) w) e ∙ ap (λ o. option_map_or (called_if sha w k (player role) (Some (Start c))) o w) (own.nodes role there).1

    pub act_is : (n label : ℕ) (values : Map Value) → world_after sha s w k (ActStep (player role) n label values) ≡ called sha w k (player role) (Act (sid_at sha s n) label values (map (λ (v : ℕ × Value). confounder k v.0) values)) past_at
    act_is n label values = ap (λ o. option_map_or (called_if sha w k (player role) (Some (Act (sid_at sha s n) label values (map (λ (v : ℕ × Value). confounder k v.0) values)))) o w) (own.nodes role there).1

    pub abandon_is : (n : ℕ) → world_after sha s w k (AbandonStep (player role) n) ≡ called sha w k (player role) (Abandon (sid_at sha s n)) past_at
    abandon_is n = ap (λ o. option_map_or (called_if sha w k (player role) (Some (Abandon (sid_at sha s n)))) o w) (own.nodes role there).1

    pub deliver_is : (n : ℕ) (bs : List ℕ) → frame_at w n ≡ Some bs → world_after sha s w k (DeliverStep (player role) (Whole n)) ≡ called sha w k (player role) (Deliver bs) past_at
    deliver_is n bs e = ap (λ o. option_map_or (called_if sha w k (player role) (option_map Deliver o)) (past_of w (player role)) w) e ∙ ap (λ o. option_map_or (called_if sha w k (player role) (Some (Deliver bs))) o w) (own.nodes role there).1

module _ (sha : Hash) (hash : IsHash sha) (g : Graph) (few : length g.roles ≤ 16) (w w2 : World) (own : IsOwnRun sha g w) (k role : ℕ) (there : role < length g.roles) (c : Call) (good : IsOwnCall g c)
    (is : w2 ≡ called sha w k (player role) c (own.nodes role there).0) where
  abbrev mine : Past
  mine = (own.nodes role there).0

  abbrev now : World
  now = called sha w k (player role) c mine

  -- the past of a principal after the step
  past_next : (r : ℕ) (h : r < length g.roles) → past_of now (player r) ≡ Some (next_past sha (player role) c (own.nodes r h).0)
  past_next r h = past_called sha w k (player role) c mine (player r) ∙ ap (option_map (next_past sha (player role) c)) (own.nodes r h).1

  node_next : (p : Past) → node_of (past_after sha p c) ≡ node_after (node_of p) c (answer sha (node_of p) c)
  node_next p = node_more (new_node p.keys p.programs p.first) p.calls (record { call = c; answer = answer sha (node_of p) c })

  sends_own : (n : Node) → IsOwnNode sha g role n → (d : Call) → IsOwnCall g d → (e : Event) (to : List ℕ) (f : Frame) → answer sha n d ≡ Sends e to f → IsOwnFrame g (spelling f)
  sends_own n o (Start cast) gd e to f q = absurd (start_sends sha n cast e to f q)
  sends_own n o (Act sid label values confs) gd e to f q = (own_sent sha hash g few role (omega (arith, there, few)) n o sid label values confs gd e to f q).bytes
  sends_own n o (Abandon sid) gd e to f q = absurd (abandon_sends sha n sid e to f q)
  sends_own n o (Deliver bs) gd e to f q = absurd (deliver_sends sha n bs e to f q)

  frames_next : frames now ≡ frames w ++ cons_option (frame_in (answer sha (node_of mine) c)) []
  frames_next = filter_map-append (λ (l : Logged). l.frame) w.log _

  recorded_next : (a : Answer) → answer sha (node_of mine) c ≡ a → AllByRecursion (IsOwnFrame g) (cons_option (frame_in a) [])
  recorded_next (Sends e to f) q = (sends_own (node_of mine) (own.nodes role there).2 c good e to f q, tt)
  recorded_next other q = tt

  own_now : IsOwnRun sha g now
  own_now = record {
    nodes = λ r h. (
      next_past sha (player role) c (own.nodes r h).0,
      past_next r h,
      if_both (λ (p : Past). IsOwnNode sha g r (node_of p)) (bytes_eq (own.nodes r h).0.keys.me (player role)) (past_after sha (own.nodes r h).0 c) (own.nodes r h).0
          (subst (IsOwnNode sha g r) (sym (node_next (own.nodes r h).0)) (own_after sha hash g few r (omega (arith, h, few)) (node_of (own.nodes r h).0) (own.nodes r h).2 c good)) (own.nodes r h).2,
    );
    recorded = subst (AllByRecursion (IsOwnFrame g)) (sym frames_next) (all-append (IsOwnFrame g) (frames w) _ own.recorded (recorded_next (answer sha (node_of mine) c) refl));
  }

  -- the run stays such
  pub next_own : IsOwnRun sha g w2
  next_own = subst (IsOwnRun sha g) (sym is) own_now

  -- what was recorded stays at its number
  pub next_frame : (n : ℕ) (bs : List ℕ) → frame_at w n ≡ Some bs → frame_at w2 n ≡ Some bs
  next_frame n bs e = ap (λ (z : World). frame_at z n) is ∙ ap (λ (fs : List (List ℕ)). frame_in_list fs n) frames_next ∙ number_more (frames w) (cons_option (frame_in (answer sha (node_of mine) c)) []) n bs e

  -- what was spent stays so
  pub next_spent : (r : ℕ) → r < length g.roles → (f : Frame) → IsSpentBy w r f → IsSpentBy w2 r f
  next_spent r h f spent p q =
      let it : Some (next_past sha (player role) c (own.nodes r h).0) ≡ Some p = sym (past_next r h) ∙ ap (λ (z : World). past_of z (player r)) (sym is) ∙ q in
      let same : next_past sha (player role) c (own.nodes r h).0 ≡ p = cc in
      let before : IsSpent (node_of (own.nodes r h).0) f = spent (own.nodes r h).0 (own.nodes r h).1 in
      subst (λ (z : Past). IsSpent (node_of z) f) same (
      if_both (λ (p : Past). IsSpent (node_of p) f) (bytes_eq (own.nodes r h).0.keys.me (player role)) (past_after sha (own.nodes r h).0 c) (own.nodes r h).0
      (subst (λ (n : Node). IsSpent n f) (sym (node_next (own.nodes r h).0)) ((frames_are_taken_once sha hash).stays (node_of (own.nodes r h).0) f c ((own.nodes r h).2).orderly (in_range sha hash g few c good) before)) before)

  -- a frame that was accepted is spent
  pub next_accepted : (bs : List ℕ) (f : Frame) (e : Event) → c ≡ Deliver bs → read bs ≡ Ok f → answer sha (node_of mine) c ≡ Happened e → IsSpentBy w2 role f
  next_accepted bs f e which rd a p q =
      let it : Some (next_past sha (player role) c mine) ≡ Some p = sym (past_next role there) ∙ ap (λ (z : World). past_of z (player role)) (sym is) ∙ q in
      let same : next_past sha (player role) c mine ≡ p = cc in
      let me : bytes_eq mine.keys.me (player role) ≡ true = find_passes (λ (p : Past). bytes_eq p.keys.me (player role)) w.pasts mine (own.nodes role there).1 in
      let after : past_after sha mine c ≡ p = sym (if_true (bytes_eq mine.keys.me (player role)) (past_after sha mine c) mine me) ∙ same in
      let orderly = ((own.nodes role there).2).orderly in
      let a2 : answer sha (node_of mine) (Deliver bs) ≡ Happened e = ap (answer sha (node_of mine)) (sym which) ∙ a in
      let spent : IsSpent (node_after (node_of mine) (Deliver bs) (Happened e)) f = (frames_are_taken_once sha hash).accepted (node_of mine) bs f e orderly rd a2 in
      let spent2 : IsSpent (node_after (node_of mine) c (answer sha (node_of mine) c)) f = subst (λ (z : Call). IsSpent (node_after (node_of mine) z (answer sha (node_of mine) z)) f) (sym which) (subst (λ (z : Answer). IsSpent (node_after (node_of mine) (Deliver bs) z) f) (sym a2) spent) in
      subst (λ (z : Past). IsSpent (node_of z) f) after (subst (λ (n : Node). IsSpent n f) (sym (node_next mine)) spent2)

  -- and one that was spent is not accepted
  pub not_again : (bs : List ℕ) (f : Frame) (e : Event) → c ≡ Deliver bs → read bs ≡ Ok f → answer sha (node_of mine) c ≡ Happened e → IsSpentBy w role f → ⊥
  not_again bs f e which rd a spent =
      (frames_are_taken_once sha hash).refused (node_of mine) bs f e ((own.nodes role there).2).orderly (spent mine (own.nodes role there).1) rd (ap (answer sha (node_of mine)) (sym which) ∙ a)

  -- a frame that was sent is recorded, with the next number
  pub next_recorded : (e : Event) (to : List ℕ) (f : Frame) → answer sha (node_of mine) c ≡ Sends e to f → frame_at w2 (frame_number w.log) ≡ Some (spelling f)
  next_recorded e to f a = ap (λ (z : World). frame_at z (frame_number w.log)) is ∙ frames_are_numbered now w.log _ [] (spelling f) refl (ap frame_in a)
