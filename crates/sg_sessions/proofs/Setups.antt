-- What a generated run declares is a schedule, and its steps can be taken.
use Rattle.std.proofs.Common.{◌≡◌, ℕ, zero, suc, ◌+◌, ◌-◌, ◌<◌, ◌≤◌, inl, List, [], ◌∷◌, ◌++◌, map, flat_map, length, replicate, add-one, append_assoc, append-nil, refl, sym, ap, ◌∙◌, arith}
use Rattle.std.specs.List.{AllByRecursion, list_all}
use Rattle.std.proofs.lemmas.Bool.{and_from}
use Rattle.std.proofs.lemmas.List.{length-map, map-append}
use Rattle.std.proofs.lemmas.List.Elements.{All-from_recursion, Contains-get_or}
use Rattle.std.proofs.lemmas.Grind.{flat_map-append}
use Rattle.sg_model.proofs.Numbers.{length-range_from, range_from-suc}
use Rattle.sg_model.specs.Bytes.{AreBytes}
use Rattle.sg_model.specs.Lists.{all_differ, below, range_from}
use Rattle.sg_model.specs.Names.{is_name}
use Rattle.sg_protocol.proofs.Spelled.{bytes-append, bytes-zeros, to_bytes, u64_bytes}
use Rattle.sg_protocol.specs.Crafted.{nonce_of}
use Rattle.sg_protocol.specs.Graph.{Graph, IsGraph}
use Rattle.sg_protocol.specs.IsSchedule.{IsDeclared, IsSchedule, IsStep}
use Rattle.sg_protocol.specs.Schedule.{PairKey, Schedule}
use Rattle.sg_protocol.specs.Spelling.{u64}
use Rattle.sg_protocol.specs.Texts.{real}
use Rattle.sg_setting.specs.Replay.{without_steps}
use Rattle.sg_sessions.specs.Setup.{key_of, keys_with_later, numbered_session, player, players, setup}
use Rattle.sg_sessions.proofs.Players.{keys_apart, keys_are_keys, length-players, players_differ, players_named}

nonce_has : (n : ℕ) → AreBytes 16 (nonce_of n)
nonce_has n = (refl, to_bytes (nonce_of n) (bytes-append (replicate 8 0) (u64 n) (bytes-zeros 8) (u64_bytes n)))

-- and as many sessions as there are to be
pub length-sessions : (sessions : ℕ) (g : Graph) → length (setup sessions g).sessions ≡ sessions
length-sessions sessions g = length-map (range_from 1 sessions) (numbered_session g) ∙ length-range_from 1 sessions

module _ (g : Graph) (h : IsGraph g) where
  declared : (k n : ℕ) → AllByRecursion (IsDeclared real (g ∷ [])) (map (numbered_session g) (range_from k n))
  declared k zero = tt
  declared k (suc n) = (
    record {
      graph = g;
      is_there = Contains-get_or (g ∷ []) 0 g (omega arith);
      digest = refl;
      count = length-players (length g.roles);
      names = and_from (all_differ (players (length g.roles))) (list_all is_name (players (length g.roles))) (players_differ (length g.roles) (let few = h.sizes.0 in omega arith)) (players_named (length g.roles) (let few = h.sizes.0 in omega arith));
      nonce = nonce_has k;
      version = inl refl;
    },
    declared (suc k) n,
  )

  pub setup_is_schedule : (sessions : ℕ) → IsSchedule real (setup sessions g)
  setup_is_schedule sessions = record {
    are_graphs = All-from_recursion IsGraph (g ∷ []) (h, tt);
    graph_names = refl;
    honest_names = and_from (all_differ (players (length g.roles))) (list_all is_name (players (length g.roles))) (players_differ (length g.roles) (let few = h.sizes.0 in omega arith)) (players_named (length g.roles) (let few = h.sizes.0 in omega arith));
    keys = keys_are_keys (length g.roles) (let few = h.sizes.0 in omega arith);
    pairs = keys_apart (length g.roles) (let few = h.sizes.0 in omega arith);
    sessions = All-from_recursion (IsDeclared real (g ∷ [])) (setup sessions g).sessions (declared 1 sessions);
    steps = All-from_recursion (IsStep real (setup sessions g)) [] tt;
  }

-- ---- steps

-- a session that is declared stands there
pub session_there : (s : Schedule) (sessions n : ℕ) (g : Graph) → without_steps s ≡ setup sessions g → n < sessions → n < length s.sessions
session_there s sessions n g e h =
    let many : length s.sessions ≡ sessions = ap (λ (z : Schedule). length z.sessions) e ∙ length-sessions sessions g in
    omega (arith, many, h)

-- ---- one more of each

range_more : {A : Type 0} (f : ℕ → A) (k n : ℕ) → map f (range_from k (n + 1)) ≡ map f (range_from k n) ++ f (k + n) ∷ []
range_more f k n = ap (λ z. map f (range_from k z)) (add-one n) ∙ ap (map f) (range_from-suc k n) ∙ map-append f (range_from k n) ((k + n) ∷ [])

pub players_more : (n : ℕ) → players (n + 1) ≡ players n ++ player n ∷ []
players_more n = range_more player 0 n ∙ ap (λ z. players n ++ player z ∷ []) (let z : 0 + n ≡ n = omega arith in z)

pub keys_more : (roles n : ℕ) → flat_map (keys_with_later roles) (below (n + 1)) ≡ flat_map (keys_with_later roles) (below n) ++ keys_with_later roles n
keys_more roles n =
    ap (λ z. flat_map (keys_with_later roles) (range_from 0 z)) (add-one n) ∙ ap (flat_map (keys_with_later roles)) (range_from-suc 0 n)
    ∙ flat_map-append (keys_with_later roles) (below n) ((0 + n) ∷ []) ∙ ap (λ z. flat_map (keys_with_later roles) (below n) ++ z) (append-nil (keys_with_later roles (0 + n)))
    ∙ ap (λ z. flat_map (keys_with_later roles) (below n) ++ keys_with_later roles z) (let z : 0 + n ≡ n = omega arith in z)

pub row_more : (i k n : ℕ) (keys now : List PairKey) → k ≤ n → now ≡ keys ++ map (key_of i) (range_from k (n - k)) → now ++ key_of i n ∷ [] ≡ keys ++ map (key_of i) (range_from k (n + 1 - k))
row_more i k n keys now h e =
    let more : n + 1 - k ≡ (n - k) + 1 = omega arith in
    let last : k + (n - k) ≡ n = omega arith in
    ap (λ z. z ++ key_of i n ∷ []) e ∙ append_assoc keys (map (key_of i) (range_from k (n - k))) (key_of i n ∷ [])
    ∙ ap (λ z. keys ++ z) (ap (λ z. map (key_of i) (range_from k (n - k)) ++ key_of i z ∷ []) (sym last) ∙ sym (range_more (key_of i) k (n - k)) ∙ ap (λ z. map (key_of i) (range_from k z)) (sym more))

pub sessions_more : (g : Graph) (n : ℕ) → map (numbered_session g) (range_from 1 (n + 1)) ≡ map (numbered_session g) (range_from 1 n) ++ numbered_session g (n + 1) ∷ []
sessions_more g n = range_more (numbered_session g) 1 n ∙ ap (λ z. map (numbered_session g) (range_from 1 n) ++ numbered_session g z ∷ []) (let z : 1 + n ≡ n + 1 = omega arith in z)
