-- What is held of all that right lines declare, with one item more.
use Rattle.std.proofs.Common.{◌≡◌, ◌≢◌, ℕ, zero, suc, ◌<◌, ◌≤◌, Bool, true, false, not, ◌&&◌, List, [], ◌∷◌, ◌++◌, map, length, get_or, refl, sym, ap, ◌∙◌, subst, arith, inl, inr, append-nil}
use Rattle.std.specs.Prelude.{◌⊎◌, Some, codes, bytes_eq, slice_get, nat_lt, nat_le, AllPairs, ⊤}
use Rattle.std.specs.List.{list_all, list_any, AllByRecursion}
use Rattle.std.proofs.lemmas.Bool.{leb-true, leb-false, and_parts, cases_Bool, or_parts, not-true}
use Rattle.std.proofs.lemmas.List.{length-append, map_push}
use Rattle.std.proofs.lemmas.List.Folds.{list_all-append}
use Rattle.std.proofs.lemmas.List.Quantifiers.{all_pairs_push}
use Rattle.sg_model.specs.Limits.{most_steps}
use Rattle.sg_model.specs.Bytes.{IsBytes, AreBytes}
use Rattle.sg_model.specs.Lists.{has_text, all_differ}
use Rattle.sg_model.specs.Names.{Name, is_name, reserved}
use Rattle.sg_model.specs.Values.{Value}
use Rattle.sg_model.proofs.Small.{all-append, same_bytes, bytes_same, contradicts}
use Rattle.sg_model.proofs.Differ.{all_differ-append, no_text_both}
use Rattle.sg_protocol.specs.Graph.{Graph, Edge, IsGraph}
use Rattle.sg_protocol.specs.Frame.{IsValue, IsCastOf}
use Rattle.sg_protocol.specs.Spelling.{HasSpelling}
use Rattle.sg_protocol.specs.Texts.{real}
use Rattle.sg_protocol.specs.Keyring.{Program}
use Rattle.sg_protocol.specs.Session.{Session as ASession}
use Rattle.sg_protocol.specs.Schedule.{PairKey, Schedule, Craft, Step, StartStep, ActStep, AbandonStep, DeliverStep, CraftStep, Bytes}
use Rattle.sg_protocol.specs.World.{new_world}
use Rattle.sg_protocol.specs.Crafted.{crafted_frame}
use Rattle.sg_protocol.specs.IsSchedule.{IsPairKey}
use Rattle.sg_sched.specs.Pair.{graphs_of, edge}
use Rattle.sg_sched.specs.Format.LineContents.{EdgeLine, HonestLine, KeyLine}
use Rattle.sg_sched.specs.Format.Forms.{is_form}
use Rattle.sg_sched.specs.Format.Items.{Session, GraphItem, EdgeItem, HonestItem, KeyItem, SessionItem, StepItem, SoFar, graphs_declared, graph_names, is_key_of}
use Rattle.sg_sched.specs.Format.Numbered.{values}
use Rattle.sg_sched.specs.Format.Values.{bytes_of}
use Rattle.sg_sched.proofs.FormatApart.{names_append}
use Rattle.sg_sched_text.specs.Plus.{plus}
use Rattle.sg_sched_text.proofs.PairGraph.{HasEnds, AreEdges}
use Rattle.sg_sched_text.proofs.RightLines.{IsRight, in_group}
use Rattle.sg_sched_text.proofs.SessionsDeclared.{Sound, sound}
use Rattle.sg_sched_text.proofs.ValueParts.{key_is}

-- ---- steps

-- a craft whose frame has a spelling in its session, whichever graph has the session's digest
pub record FitsCraft (ss : List Session) (c : Craft) : Type 0 where
  pub session : Session
  pub there : slice_get ss c.session ≡ Some session
  pub spelled : (ps : List Program) (s : Schedule) (h : Graph) → IsGraph h → (x : ASession) → x.cast.version ≡ session.version → x.cast.names ≡ session.names
      → IsCastOf x.cast.version x.cast → AreBytes 32 x.sid → HasSpelling (crafted_frame real s (new_world ps s) c h x)

-- what is held of steps
abbrev pub FitsStep : List Session → Step → Type 0
FitsStep ss (StartStep who n) = n < length ss
FitsStep ss (ActStep who n label values) = (n < length ss) × AllByRecursion (λ (w : ℕ × Value). (w.0 < 256) × IsValue w.1) values
FitsStep ss (AbandonStep who n) = n < length ss
FitsStep ss (DeliverStep who (Bytes bs)) = IsBytes bs
FitsStep ss (CraftStep c) = FitsCraft ss c
FitsStep ss other = ⊤

-- two keys are of different pairs
abbrev pub Apart : PairKey → PairKey → Type 0
Apart j k = ((j.one ≢ k.one) ⊎ (j.two ≢ k.two)) × ((j.one ≢ k.two) ⊎ (j.two ≢ k.one))

-- what is held of honest principals
pub record AreHonest (honest : List Name) : Type 0 where
  pub differ : all_differ honest ≡ true
  pub named : list_all is_name honest ≡ true

-- what is held of keys
pub record AreKeys (keys : List PairKey) : Type 0 where
  pub each : AllByRecursion IsPairKey keys
  pub apart : AllPairs Apart keys

-- what is held of steps, of which there is none before their group has begun
pub record AreSteps (group : ℕ) (ss : List Session) (steps : List Step) : Type 0 where
  pub fit : AllByRecursion (FitsStep ss) steps
  pub few : length steps ≤ most_steps
  pub none_yet : group ≤ 3 → steps ≡ []

-- what is held of all that is declared
pub record Meant (p : SoFar) : Type 0 where
  pub sound : Sound p
  pub blocks : AllByRecursion IsGraph p.blocks
  pub edges : AreEdges p.edges
  pub names : all_differ (graph_names (graphs_declared p)) ≡ true
  pub honest : AreHonest p.honest
  pub keys : AreKeys p.keys
  pub steps : AreSteps p.group p.sessions p.steps

-- ---- lists

no_text : (t : Name) (xs ys : List Name) → has_text t (xs ++ ys) ≡ false → (has_text t xs ≡ false) × (has_text t ys ≡ false)
no_text t [] ys h = (refl, h)
no_text t (x ∷ xs) ys h = let k = or_parts (bytes_eq t x) (has_text t (xs ++ ys)) h in let m = no_text t xs ys k.1 in (rw k.0 m.0, m.1)

turned : (s t : Name) → bytes_eq s t ≡ false → bytes_eq t s ≡ false
turned s t h = elim (cases_Bool (bytes_eq t s)) [ inl e ↦ absurd (contradicts (bytes_same s t (sym (same_bytes t s e))) h) | inr e ↦ e ]

-- a new name in the middle
differ_middle : (xs : List Name) (t : Name) (ys : List Name) → all_differ (xs ++ ys) ≡ true → has_text t (xs ++ ys) ≡ false → all_differ ((xs ++ t ∷ []) ++ ys) ≡ true
differ_middle [] t ys d h = rw h d
differ_middle (x ∷ xs) t ys d h =
    let a = and_parts (not (has_text x (xs ++ ys))) (all_differ (xs ++ ys)) d in
    let k = or_parts (bytes_eq t x) (has_text t (xs ++ ys)) h in
    let rest = differ_middle xs t ys a.1 k.1 in
    let none : has_text x (xs ++ ys) ≡ false = not-true (has_text x (xs ++ ys)) a.0 in
    let parts = no_text x xs ys none in
    let prefix : has_text x (xs ++ t ∷ []) ≡ false = no_text_both x xs (t ∷ []) parts.0 (let e = turned t x k.0 in rw e refl) in
    let whole : has_text x ((xs ++ t ∷ []) ++ ys) ≡ false = no_text_both x (xs ++ t ∷ []) ys prefix parts.1 in
    (λ i. not (whole i) && rest i)

-- ---- one item more

nothing_of : (ss : List Session) (steps : List Step) → steps ≡ [] → AllByRecursion (FitsStep ss) steps
nothing_of ss [] e = tt
nothing_of ss (s ∷ steps) e = absurd (cc)

-- before their group there are none, whatever else is declared
no_steps : {old new : ℕ} {ss ts : List Session} {steps : List Step} → AreSteps old ss steps → old ≤ 3 → AreSteps new ts steps
no_steps {ts = ts} {steps = steps} a early = let none = a.none_yet early in record { fit = nothing_of ts steps none; few = a.few; none_yet = λ h. none }

-- the names of all graphs with an edge more
edge_names : (p : SoFar) (es : List Edge) (e : Edge) → p.edges ≡ es → all_differ (graph_names (graphs_declared p)) ≡ true
    → has_text (codes "pair") (graph_names p.blocks) ≡ false → all_differ (graph_names (p.blocks ++ graphs_of (es ++ e ∷ []))) ≡ true
edge_names p [] e q d h =
    let old : all_differ (graph_names p.blocks) ≡ true = ap all_differ (sym (ap (λ es. graph_names (p.blocks ++ graphs_of es)) q ∙ ap graph_names (append-nil p.blocks))) ∙ d in
    ap all_differ (names_append p.blocks (graphs_of (e ∷ []))) ∙ all_differ-append (graph_names p.blocks) (codes "pair") old h
edge_names p (f ∷ es) e q d h =
    ap all_differ (names_append p.blocks (graphs_of (f ∷ es ++ e ∷ [])))
    ∙ sym (ap all_differ (ap (λ es. graph_names (p.blocks ++ graphs_of es)) q ∙ names_append p.blocks (graphs_of (f ∷ es)))) ∙ d

module _ (p : SoFar) (m : Meant p) where
  pub graph_meant : (g : Graph) → p.group ≤ 0 → Sound (plus p (GraphItem g)) → IsGraph g → has_text g.name (graph_names (graphs_declared p)) ≡ false → Meant (plus p (GraphItem g))
  graph_meant g early sound is fresh =
      let pair = graphs_of p.edges in
      let apart = names_append p.blocks pair in
      record {
        sound = sound;
        blocks = all-append IsGraph p.blocks (g ∷ []) m.blocks (is, tt);
        edges = m.edges;
        names = ap all_differ (names_append (p.blocks ++ g ∷ []) pair ∙ ap (λ ns. ns ++ graph_names pair) (names_append p.blocks (g ∷ [])))
            ∙ differ_middle (graph_names p.blocks) g.name (graph_names pair) (sym (ap all_differ apart) ∙ m.names) (sym (ap (has_text g.name) apart) ∙ fresh);
        honest = m.honest;
        keys = m.keys;
        steps = no_steps m.steps (omega (arith, early));
      }

  pub edge_meant : (label : Name) (from to : ℕ) → is_form (EdgeLine label from to) ≡ true → IsRight p (EdgeLine label from to)
      → Sound (plus p (EdgeItem (edge label from to))) → Meant (plus p (EdgeItem (edge label from to)))
  edge_meant label from to form r sound =
      let e : Edge = edge label from to in
      let f = or_parts (nat_lt 0 p.group) (nat_le 512 (length p.edges)) r.form in
      let o = or_parts (has_text label (map (λ (e : Edge). e.name) p.edges)) (has_text (codes "pair") (graph_names p.blocks)) r.once in
      let early = in_group p 0 f.0 in
      let a = is_name label && not (has_text label reserved) in
      let p4 = and_parts (a && nat_le from 255 && nat_le to 255) _ form in
      let p3 = and_parts (a && nat_le from 255) (nat_le to 255) p4.0 in
      let p2 = and_parts a (nat_le from 255) p3.0 in
      let old = and_parts (list_all (λ n. is_name n && not (has_text n reserved)) (map (λ (e : Edge). e.name) p.edges)) (all_differ (map (λ (e : Edge). e.name) p.edges)) m.edges.labels in
      let pushed = map_push (λ (e : Edge). e.name) p.edges e in
      let plain : list_all (λ n. is_name n && not (has_text n reserved)) (map (λ (e : Edge). e.name) (p.edges ++ e ∷ [])) ≡ true =
      ap (list_all (λ n. is_name n && not (has_text n reserved))) pushed ∙ list_all-append (λ n. is_name n && not (has_text n reserved)) (map (λ (e : Edge). e.name) p.edges) (label ∷ [])
      ∙ (λ i. old.0 i && (p2.0 i && true)) in
      let differ : all_differ (map (λ (e : Edge). e.name) (p.edges ++ e ∷ [])) ≡ true = ap all_differ pushed ∙ all_differ-append (map (λ (e : Edge). e.name) p.edges) label old.1 o.0 in
      let more = length-append p.edges (e ∷ []) in
      let room : length p.edges < 512 = below_of (nat_le 512 (length p.edges)) refl f.1 in
      record {
        sound = sound;
        blocks = m.blocks;
        edges = record {
          labels = (λ i. plain i && differ i);
          ends = all-append HasEnds p.edges (e ∷ []) m.edges.ends (record { source = leb-true from 255 p2.1; target = leb-true to 255 p3.1; writes = refl; reads = refl }, tt);
          few = omega (arith, more, room);
        };
        names = edge_names p p.edges e refl m.names o.1;
        honest = m.honest;
        keys = m.keys;
        steps = no_steps m.steps (omega (arith, early));
      }
    where
      below_of : (b : Bool) → nat_le 512 (length p.edges) ≡ b → b ≡ false → length p.edges < 512
      below_of true e h = absurd (cc)
      below_of false e h = leb-false 512 (length p.edges) e

  pub honest_meant : (who : Name) → is_form (HonestLine who) ≡ true → IsRight p (HonestLine who) → Sound (plus p (HonestItem who)) → Meant (plus p (HonestItem who))
  honest_meant who form r sound =
      let early = in_group p 1 r.form in
      record {
        sound = sound;
        blocks = m.blocks;
        edges = m.edges;
        names = m.names;
        honest = record { differ = all_differ-append p.honest who m.honest.differ r.once; named = list_all-append is_name p.honest (who ∷ []) ∙ (λ i. m.honest.named i && (form i && true)) };
        keys = m.keys;
        steps = no_steps m.steps (omega (arith, early));
      }

  -- no earlier key is of the pair
  others : (one two : Name) (key : List ℕ) (ks : List PairKey) → list_any (is_key_of one two) ks ≡ false
      → (i : ℕ) (d : PairKey) → i < length ks → Apart (get_or ks i d) (record { one = one; two = two; key = key })
  others one two key [] h i d l = absurd (omega arith)
  others one two key (k ∷ ks) h zero d l =
      let a = or_parts (is_key_of one two k) (list_any (is_key_of one two) ks) h in
      let b = or_parts (bytes_eq one k.one && bytes_eq two k.two) (bytes_eq one k.two && bytes_eq two k.one) a.0 in
      (apart one two k.one k.two b.0, swap (apart one two k.two k.one b.1))
    where
      apart : (a b c e : Name) → (bytes_eq a c && bytes_eq b e) ≡ false → (c ≢ a) ⊎ (e ≢ b)
      apart a b c e h = elim (cases_Bool (bytes_eq a c)) [
        | inl q ↦ inr (λ s. contradicts (let x = bytes_same b e (sym s) in λ i. q i && x i) h)
        | inr q ↦ inl (λ s. contradicts (bytes_same a c (sym s)) q)
      ]

      swap : {A B : Type 0} → A ⊎ B → B ⊎ A
      swap (inl x) = inr x
      swap (inr y) = inl y
  others one two key (k ∷ ks) h (suc i) d l = others one two key ks (or_parts (is_key_of one two k) (list_any (is_key_of one two) ks) h).1 i d (omega (arith, l))

  pub key_meant : (one two : Name) (digits : List ℕ) → is_form (KeyLine one two digits) ≡ true → IsRight p (KeyLine one two digits)
      → (k : PairKey) → k ≡ record { one = one; two = two; key = bytes_of digits } → Sound (plus p (KeyItem k)) → Meant (plus p (KeyItem k))
  key_meant one two digits form r k e sound =
      let early = in_group p 2 r.form in
      let a = and_parts (is_name one && is_name two && not (bytes_eq one two)) _ form in
      let b = and_parts (is_name one && is_name two) (not (bytes_eq one two)) a.0 in
      record {
        sound = sound;
        blocks = m.blocks;
        edges = m.edges;
        names = m.names;
        honest = m.honest;
        keys = record {
          each = all-append IsPairKey p.keys (k ∷ []) m.keys.each (subst IsPairKey (sym e) ((λ s. contradicts b.1 (ap not (bytes_same one two s))), key_is digits a.1), tt);
          apart = all_pairs_push Apart p.keys k m.keys.apart (λ i d l. subst (Apart (get_or p.keys i d)) (sym e) (others one two (bytes_of digits) p.keys r.once i d l));
        };
        steps = no_steps m.steps (omega (arith, early));
      }

  pub session_meant : (s : Session) → p.group ≤ 3 → Sound (plus p (SessionItem s)) → Meant (plus p (SessionItem s))
  session_meant s early sound = record { sound = sound; blocks = m.blocks; edges = m.edges; names = m.names; honest = m.honest; keys = m.keys; steps = no_steps m.steps early }

  pub step_meant : (s : Step) → length p.steps < most_steps → FitsStep p.sessions s → Sound (plus p (StepItem s)) → Meant (plus p (StepItem s))
  step_meant s room fits sound = record {
    sound = sound;
    blocks = m.blocks;
    edges = m.edges;
    names = m.names;
    honest = m.honest;
    keys = m.keys;
    steps = record {
      fit = all-append (FitsStep p.sessions) p.steps (s ∷ []) m.steps.fit (fits, tt);
      few = (let l = length-append p.steps (s ∷ []) in omega (arith, l, room));
      none_yet = λ h. absurd (omega (arith, h));
    };
  }
