-- The calls of a generated run keep its nodes, and what its nodes send.
use Rattle.std.proofs.Common.{◌≡◌, ℕ, ◌+◌, ◌<◌, ◌≤◌, ◌==◌, ◌&&◌, Bool, true, false, nat_lt, if◌then◌else◌, List, [], length, get_or, bytes_eq, Option, Some, None, option_map, unwrap_or, refl, sym, ap, ◌∙◌, subst, arith}
use Rattle.std.specs.Prelude.{IfSome, IsSomeAnd, Ok}
use Rattle.std.specs.List.{AllByRecursion}
use Rattle.std.proofs.lemmas.Bool.{and_parts}
use Rattle.std.proofs.lemmas.Bool.Decides.{nat_tests}
use Rattle.sg_model.proofs.Small.{same_bytes}
use Rattle.sg_model.proofs.Finding.{find_passes, find_all}
use Rattle.sg_model.specs.Last.{Map, last, has}
use Rattle.sg_model.specs.Lists.{all_differ}
use Rattle.sg_model.specs.Shape.{receiver}
use Rattle.sg_model.specs.Values.{Value}
use Rattle.sg_protocol.proofs.First.{programs_after}
use Rattle.sg_protocol.proofs.Live.{gives_sound}
use Rattle.sg_protocol.proofs.Nodes.{ActSent, abandon_all, act_all, act_sends, deliver_all, start_all}
use Rattle.sg_protocol.proofs.ReadLaws.{read-spelling}
use Rattle.sg_protocol.proofs.Spelled.{has_bytes, spelling_bytes, to_bytes}
use Rattle.sg_protocol.specs.Acting.{answer, openings_for}
use Rattle.sg_protocol.specs.Calls.{Event, Call, Start, Act, Abandon, Deliver, Answer, Happened, Sends, Abandoned, Started, Received}
use Rattle.sg_protocol.specs.Frame.{Cast, Frame, Item}
use Rattle.sg_protocol.specs.Graph.{Graph, shape}
use Rattle.sg_protocol.specs.IsSchedule.{IsProgram}
use Rattle.sg_protocol.specs.Keyring.{Keyring, Program}
use Rattle.sg_protocol.specs.Live.{IsLive, IsSound}
use Rattle.sg_protocol.specs.Node.{Node, is_cast, is_for, session_with}
use Rattle.sg_protocol.specs.NodeAfter.{goes_on, joined, node_after, still, takes_read}
use Rattle.sg_protocol.specs.Ranges.{AreValues, IsCallInRange}
use Rattle.sg_protocol.specs.Reading.{read}
use Rattle.sg_protocol.specs.Sending.{own_item}
use Rattle.sg_protocol.specs.Session.{Session, Took, Gave, extended, last_time, new_session, principal, time, transcript}
use Rattle.sg_protocol.specs.Spelling.{HasSpelling, spelling}
use Rattle.sg_protocol.specs.Texts.{Hash, IsHash}
use Rattle.std.specs.Option.{option_map_or}
use Rattle.std.specs.Prelude.{Result, Err}
use Rattle.sg_sessions.proofs.Players.{get_or_players, length-players, player_same}
use Rattle.sg_sessions.proofs.Spent.{stays_orderly}
use Rattle.sg_sessions.specs.Own.{IsOwnCall, IsOwnFrame, IsOwnNode, IsOwnSession}
use Rattle.sg_sessions.specs.Setup.{player, players}

-- ---- small

lt_of : (a b : ℕ) → nat_lt a b ≡ true → a < b
lt_of a b h = grind (arith, nat_tests)

if_any : {A : Type 0} (o : Option A) (P : A → Type 0) → ((x : A) → P x) → IfSome o P
if_any None P f = tt
if_any (Some x) P f = f x

-- the keys of a node stay
takes_keys : (n : Node) (f : Frame) (o : Option Cast) → (option_map_or (λ c. joined n (extended (new_session f.sid c f.receiver) (Took f))) o (goes_on n (is_for f) (λ s. still n.programs (extended s (Took f))))).keys ≡ n.keys
takes_keys n f None = refl
takes_keys n f (Some c) = refl

read_keys : (n : Node) (r : Result Frame ℕ) → (takes_read n r).keys ≡ n.keys
read_keys n (Err at) = refl
read_keys n (Ok f) = takes_keys n f f.join

pub keys_after : (n : Node) (c : Call) (a : Answer) → (node_after n c a).keys ≡ n.keys
keys_after n (Start c) (Happened (Started sid r)) = refl
keys_after n (Act sid label values confounders) (Sends e to f) = refl
keys_after n (Abandon sid) Abandoned = refl
keys_after n (Deliver bs) (Happened (Received sid r label time values joins)) = read_keys n (read bs)
keys_after n c other = refl

-- ---- calls

module _ (sha : Hash) (hash : IsHash sha) (g : Graph) (few : length g.roles ≤ 16) where
  pub in_range : (c : Call) → IsOwnCall g c → IsCallInRange c
  in_range (Start c) h = h.0
  in_range (Act sid label values confounders) h = h
  in_range (Abandon sid) h = tt
  in_range (Deliver bytes) h = h.bytes_are

  module _ (role : ℕ) (small : role < 16) (n : Node) (o : IsOwnNode sha g role n) where
    -- in a cast of the declared principals the own role is the principal's
    own_role : (r : ℕ) (h : Graph) (c : Cast) → c.names ≡ players (length g.roles) → is_cast n.keys h c r ≡ true → r ≡ role
    own_role r h c names e =
        let b = and_parts ((length c.names == length h.roles) && all_differ c.names && nat_lt r (length c.names)) (bytes_eq (principal c r) n.keys.me) e in
        let d = and_parts ((length c.names == length h.roles) && all_differ c.names) (nat_lt r (length c.names)) b.0 in
        let many : length c.names ≡ length g.roles = ap (λ (z : List (List ℕ)). length z) names ∙ length-players (length g.roles) in
        let below : r < length c.names = lt_of r (length c.names) d.1 in
        let there : r < length g.roles = omega (arith, many, below) in
        let same : player r ≡ player role = sym (get_or_players (length g.roles) r there) ∙ ap (λ (z : List (List ℕ)). get_or z r []) (sym names) ∙ same_bytes (principal c r) n.keys.me b.1 ∙ o.me in
        player_same r role (omega (arith, there, few)) (omega (arith, small)) same

    live_after : (c : Call) → IsOwnCall g c → AllByRecursion (IsOwnSession g role) (node_after n c (answer sha n c)).live
    live_after (Start c) h = start_all sha n (IsOwnSession g role) o.live c (λ p b. (own_role p.role p.graph c h.1 b.cast, h.1))
    live_after (Act sid label values confs) h = act_all sha n (IsOwnSession g role) o.live sid label values confs (λ f a k. if_any (last f.items) (λ i. IsOwnSession g role (extended a.x (Gave i (openings_for values confs)))) (λ i. k))
    live_after (Abandon sid) h = abandon_all sha n (IsOwnSession g role) o.live sid
    live_after (Deliver bs) h = deliver_all sha n (IsOwnSession g role) o.live bs (λ f s rd t k. k) (λ f c rd e t.
        let names : c.names ≡ players (length g.roles) = subst (λ z. IfSome z (λ (c : Cast). c.names ≡ players (length g.roles))) e (h.names f rd) in
        (own_role f.receiver (t.p).graph c names t.cast, names))

    -- the node stays such
    pub own_after : (c : Call) → IsOwnCall g c → IsOwnNode sha g role (node_after n c (answer sha n c))
    own_after c h = record {
      me = ap (λ (k : Keyring). k.me) (keys_after n c (answer sha n c)) ∙ o.me;
      programs = subst (AllByRecursion (λ (p : Program). p.graph ≡ g)) (sym (programs_after n c (answer sha n c))) o.programs;
      orderly = stays_orderly sha hash n o.orderly c (in_range c h);
      live = live_after c h;
    }

    -- ---- what an act sends

    -- the session that sent, and the frame: of the session and of the label's receiver, one tick after the time of the session, recorded as bytes that are read as it
    pub record IsOwnSent (sid : List ℕ) (label : ℕ) (f : Frame) : Type 0 where
      pub x : Session
      pub found : session_with n.live sid ≡ Some x
      pub sid_is : f.sid ≡ sid
      pub receiver_is : f.receiver ≡ receiver (shape g) label
      pub later : last_time f.items ≡ time x + 1
      pub bytes : IsOwnFrame g (spelling f)
      pub reads : read (spelling f) ≡ Ok f

    join_names : (b : Bool) (c : Cast) → c.names ≡ players (length g.roles) → IfSome (if b then None else Some c) (λ c. c.names ≡ players (length g.roles))
    join_names true c h = tt
    join_names false c h = h

    pub own_sent : (sid : List ℕ) (label : ℕ) (values : Map Value) (confs : List (List ℕ)) → AreValues values confs → (e : Event) (to : List ℕ) (f : Frame) → answer sha n (Act sid label values confs) ≡ Sends e to f → IsOwnSent sid label f
    own_sent sid label values confs good e to f a =
        let s : ActSent sha n sid label values confs f = act_sends sha n sid label values confs e to f a in
        let p : Program = s.p in
        let ip : IsProgram sha p = find_all (λ (p : Program). bytes_eq p.digest (s.x).cast.graph && (p.role == (s.x).role)) (IsProgram sha) n.programs p (o.orderly).programs s.found_p in
        let of : p.graph ≡ g = find_all (λ (p : Program). bytes_eq p.digest (s.x).cast.graph && (p.role == (s.x).role)) (λ (p : Program). p.graph ≡ g) n.programs p o.programs s.found_p in
        let live : IsLive sha n.programs s.x = find_all (λ (z : Session). bytes_eq z.sid sid) (IsLive sha n.programs) n.live s.x (o.orderly).live s.found in
        let own : IsOwnSession g role s.x = find_all (λ (z : Session). bytes_eq z.sid sid) (IsOwnSession g role) n.live s.x o.live s.found in
        let sound : IsSound sha p s.x = subst (λ z. IsSomeAnd z (λ (p : Program). IsSound sha p s.x)) s.found_p live in
        let gs = gives_sound sha hash n.keys p s.x label values confs ip sound s.rows good in
        let its = own_item sha n.keys p s.x label (openings_for values confs) in
        let ends : last f.items ≡ Some its = ap (λ (z : Frame). last z.items) (sym s.its) ∙ gs.own_last in
        let spelled : HasSpelling f = subst HasSpelling s.its (gs.short).spelled in
        let again : read (spelling f) ≡ Ok f = read-spelling f spelled in
        let join : IfSome f.join (λ (c : Cast). c.names ≡ players (length g.roles)) = subst (λ (z : Frame). IfSome z.join (λ (c : Cast). c.names ≡ players (length g.roles))) s.its
        (join_names (has (λ (j : Item). j.role) (receiver (shape p.graph) label) (transcript s.x)) (s.x).cast own.1) in
        record {
          x = s.x;
          found = s.found;
          sid_is = ap (λ (z : Frame). z.sid) (sym s.its) ∙ same_bytes (s.x).sid sid (find_passes (λ (z : Session). bytes_eq z.sid sid) n.live s.x s.found);
          receiver_is = ap (λ (z : Frame). z.receiver) (sym s.its) ∙ ap (λ (z : Graph). receiver (shape z) label) of;
          later = ap (λ (z : Option Item). unwrap_or (option_map (λ (i : Item). i.time) z) 0) ends;
          bytes = record {
            bytes_are = to_bytes (spelling f) (spelling_bytes f (has_bytes f spelled));
            names = λ f2 rd. let same : f ≡ f2 = cc in subst (λ (z : Frame). IfSome z.join (λ (c : Cast). c.names ≡ players (length g.roles))) same join;
          };
          reads = again;
        }
