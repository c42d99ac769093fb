-- Acts, deliveries and crafts of right lines are in their ranges.
use Rattle.std.proofs.Common.{◌≡◌, ℕ, zero, suc, ◌+◌, ◌<◌, ◌≤◌, ◌==◌, true, ◌&&◌, List, [], ◌∷◌, map, length, get_or, refl, sym, ap, ◌∙◌, subst, arith, if◌then◌else◌, inl, inr}
use Rattle.std.specs.Prelude.{Option, Some, None, option_map, option_and_then, position, bytes_eq, slice_get, nat_le, unwrap_or, is_some, filter_map}
use Rattle.std.specs.List.{list_all, AllByRecursion, cons_option}
use Rattle.std.proofs.lemmas.Bool.{leb-true, and_parts, cases_Bool, not-false}
use Rattle.std.proofs.lemmas.List.{length-map}
use Rattle.std.proofs.lemmas.List.Quantifiers.{position-Some}
use Rattle.std.proofs.lemmas.Option.{slice_get-get_or}
use Rattle.sg_model.specs.Last.{Map}
use Rattle.sg_model.specs.Lists.{has_text, value_at, range_from}
use Rattle.sg_model.specs.Names.{Name}
use Rattle.sg_model.specs.Values.{Value}
use Rattle.sg_model.proofs.Small.{all-append}
use Rattle.sg_protocol.specs.Graph.{Graph, Edge, IsGraph}
use Rattle.sg_protocol.specs.Frame.{IsValue}
use Rattle.sg_protocol.specs.TextLaws.{IsVersion}
use Rattle.sg_protocol.specs.Schedule.{DeliverStep}
use Rattle.sg_sched.specs.Pair.{graphs_of}
use Rattle.sg_sched.specs.Format.LineContents.{Assignment, ItemContent, CraftContent, Delivered, TheFrame, TheFlipped, TheCut, TheBytes, MakeLine}
use Rattle.sg_sched.specs.Format.Forms.{is_assignment, is_item, is_craft}
use Rattle.sg_sched.specs.Format.Items.{Session, SoFar, graphs_declared, index, session_names, session_named, graph_for, roles_of, variables_of}
use Rattle.sg_sched.specs.Format.Numbered.{written, values, craft, what_of}
use Rattle.sg_sched.specs.Format.Faults.{rise, rises, variables, tag_roles, is_short, knows_variable, knows_item, knows_source}
use Rattle.sg_sched_text.specs.Crafting.{frame_len}
use Rattle.sg_sched_text.proofs.CraftSpelled.{KnownItem, craft_spelled}
use Rattle.sg_sched_text.proofs.FormParts.{assigned_value, craft_parts}
use Rattle.sg_sched_text.proofs.Graphs.{session_found}
use Rattle.sg_sched_text.proofs.LengthLaws.{short_is}
use Rattle.sg_sched_text.proofs.Indices.{some_index}
use Rattle.sg_sched_text.proofs.PairGraph.{AreEdges, pair_is_graph}
use Rattle.sg_sched_text.proofs.RightLines.{IsRight}
use Rattle.sg_sched_text.proofs.SessionsDeclared.{IsOf}
use Rattle.sg_sched_text.proofs.ValueParts.{value_is, digits_are}
use Rattle.sg_sched_text.proofs.MeantParts.{FitsCraft, FitsStep, Meant}

-- ---- acts

written_fits : (g : Option Graph) (vs : List Assignment) → list_all is_assignment vs ≡ true → AllByRecursion (λ (w : ℕ × Value). IsValue w.1) (map (written g) vs)
written_fits g [] h = tt
written_fits g (v ∷ vs) h = let k = and_parts (is_assignment v) (list_all is_assignment vs) h in (value_is v.value (assigned_value v k.0), written_fits g vs k.1)

found_fits : (ws : Map Value) (x : ℕ) → AllByRecursion (λ (w : ℕ × Value). IsValue w.1) ws → (o : Option Value) → value_at ws x ≡ o
    → (rest : Map Value) → x < 256 → AllByRecursion (λ (w : ℕ × Value). (w.0 < 256) × IsValue w.1) rest
    → AllByRecursion (λ (w : ℕ × Value). (w.0 < 256) × IsValue w.1) (cons_option (option_map (λ v. (x, v)) o) rest)
found_fits ws x a None e rest l b = b
found_fits ws x a (Some v) e rest l b = ((l, at ws a e), b)
  where
    at : (ws : Map Value) → AllByRecursion (λ (w : ℕ × Value). IsValue w.1) ws → value_at ws x ≡ Some v → IsValue v
    at [] a e = absurd (cc)
    at (w ∷ ws) a e = elim (cases_Bool (w.0 == x)) [
      | inl q ↦ (let s : Some w.1 ≡ Some v = sym (ap (λ b. if b then Some w.1 else value_at ws x) q) ∙ e in let t : w.1 ≡ v = cc in subst IsValue t a.0)
      | inr q ↦ at ws a.1 (sym (ap (λ b. if b then Some w.1 else value_at ws x) q) ∙ e)
    ]

range_fits : (ws : Map Value) → AllByRecursion (λ (w : ℕ × Value). IsValue w.1) ws → (k j : ℕ) → k + j ≤ 256
    → AllByRecursion (λ (w : ℕ × Value). (w.0 < 256) × IsValue w.1) (filter_map (λ x. option_map (λ v. (x, v)) (value_at ws x)) (range_from k j))
range_fits ws a k zero l = tt
range_fits ws a k (suc j) l = found_fits ws k a (value_at ws k) refl _ (omega (arith, l)) (range_fits ws a (suc k) j (omega (arith, l)))

pub values_fit : (g : Option Graph) (vs : List Assignment) → list_all is_assignment vs ≡ true → AllByRecursion (λ (w : ℕ × Value). (w.0 < 256) × IsValue w.1) (values g vs)
values_fit g vs h = range_fits (map (written g) vs) (written_fits g vs h) 0 32 (omega arith)

pub delivered_fits : (ss : List Session) (who : Name) (what : Delivered) → FitsStep ss (DeliverStep who (what_of what))
delivered_fits ss who (TheFrame n) = tt
delivered_fits ss who (TheFlipped n i) = tt
delivered_fits ss who (TheCut n i) = tt
delivered_fits ss who (TheBytes digits) = digits_are digits

-- ---- crafts

known_items : (p : SoFar) (g : Option Graph) (is : List ItemContent) → list_all is_item is ≡ true → list_all (knows_item p g) is ≡ true
    → list_all (λ i. rise (variables i.delta) (variables_of g) && rise (tag_roles i.tags) (roles_of g)) is ≡ true → AllByRecursion (KnownItem p g) is
known_items p g [] a b c = tt
known_items p g (i ∷ is) a b c =
    let f = and_parts (is_item i) (list_all is_item is) a in
    let k = and_parts (knows_item p g i) (list_all (knows_item p g) is) b in
    let r = and_parts (rise (variables i.delta) (variables_of g) && rise (tag_roles i.tags) (roles_of g)) _ c in
    (record { form = f.0; known = k.0; rises = r.0 }, known_items p g is f.1 k.1 r.1)

pub graph_in : (gs : List Graph) (i : ℕ) (g : Graph) → AllByRecursion IsGraph gs → slice_get gs i ≡ Some g → IsGraph g
graph_in [] i g a h = absurd (cc)
graph_in (x ∷ gs) zero g a h = let same : x ≡ g = cc in subst IsGraph same a.0
graph_in (x ∷ gs) (suc i) g a h = graph_in gs i g a.1 h

pub session_in : (gs : List Graph) (ss : List Session) (i : ℕ) (s : Session) → AllByRecursion (IsOf gs) ss → slice_get ss i ≡ Some s → IsOf gs s
session_in gs [] i s a h = absurd (cc)
session_in gs (x ∷ ss) zero s a h = let same : x ≡ s = cc in subst (IsOf gs) same a.0
session_in gs (x ∷ ss) (suc i) s a h = session_in gs ss i s a.1 h

pub all_graphs : (p : SoFar) → Meant p → AllByRecursion IsGraph (graphs_declared p)
all_graphs p m = all-append IsGraph p.blocks (graphs_of p.edges) m.blocks (pair p.edges m.edges)
  where
    pair : (es : List Edge) → AreEdges es → AllByRecursion IsGraph (graphs_of es)
    pair [] h = tt
    pair (e ∷ es) h = (pair_is_graph (e ∷ es) h, tt)

-- the session of a name that is there
pub session_at : (p : SoFar) (n : Name) → has_text n (session_names p) ≡ true → (s : Session) × (session_named n p ≡ Some s) × (slice_get p.sessions (index n (session_names p)) ≡ Some s)
session_at p n h = by (position (bytes_eq n) (session_names p)) refl (some_index (bytes_eq n) (session_names p) ∙ h)
  where
    by : (o : Option ℕ) → position (bytes_eq n) (session_names p) ≡ o → is_some (position (bytes_eq n) (session_names p)) ≡ true
        → (s : Session) × (session_named n p ≡ Some s) × (slice_get p.sessions (index n (session_names p)) ≡ Some s)
    by None e s = absurd (let no = ap is_some e in cc)
    by (Some i) e s =
        let w = (position-Some (bytes_eq n) (session_names p) i [] e).0 in
        let l = length-map p.sessions (λ (s : Session). s.name) in
        let within : i < length p.sessions = omega (arith, w, l) in
        let d : Session = record { name = []; graph = 0; nonce = 0; names = []; version = 0 } in
        let x : Session = get_or p.sessions i d in
        let there : slice_get p.sessions i ≡ Some x = slice_get-get_or p.sessions i d within in
        (x, session_found n p ∙ ap (option_and_then (slice_get p.sessions)) e ∙ there, ap (slice_get p.sessions) (ap (λ (o : Option ℕ). unwrap_or o 0) e) ∙ there)

-- what a craft uses is declared, in a graph
record IsKnown (p : SoFar) (c : CraftContent) (g : Option Graph) : Type 0 where
  session : has_text c.session (session_names p) ≡ true
  from : has_text c.from (roles_of g) ≡ true
  to : has_text c.to (roles_of g) ≡ true
  items : list_all (knows_item p g) c.items ≡ true
  openings : list_all (knows_variable g) (variables c.openings) ≡ true

known_craft : (p : SoFar) (c : CraftContent) (g : Option Graph) → (has_text c.session (session_names p) && has_text c.from (roles_of g) && has_text c.to (roles_of g) && list_all (knows_variable g) (variables c.know)
    && list_all (knows_item p g) c.items && list_all (knows_variable g) (variables c.openings) && knows_source p g c.seal) ≡ true → IsKnown p c g
known_craft p c g h =
    let a = has_text c.session (session_names p) in
    let b = has_text c.from (roles_of g) in
    let d = has_text c.to (roles_of g) in
    let e = list_all (knows_variable g) (variables c.know) in
    let i = list_all (knows_item p g) c.items in
    let o = list_all (knows_variable g) (variables c.openings) in
    let h6 = and_parts (a && b && d && e && i && o) (knows_source p g c.seal) h in
    let h5 = and_parts (a && b && d && e && i) o h6.0 in
    let h4 = and_parts (a && b && d && e) i h5.0 in
    let h3 = and_parts (a && b && d) e h4.0 in
    let h2 = and_parts (a && b) d h3.0 in
    let h1 = and_parts a b h2.0 in
    record { session = h1.0; from = h1.1; to = h2.1; items = h4.1; openings = h5.1 }

items_form : (c : CraftContent) → is_craft c ≡ true → list_all is_item c.items ≡ true
items_form c form = (craft_parts c form).items

-- a craft in a graph
in_graph : (p : SoFar) (c : CraftContent) (g : Graph) (s : Session) → IsGraph g → is_craft c ≡ true → IsKnown p c (Some g) → rises (Some g) c ≡ true → frame_len s c ≤ 60000 → IsVersion s.version
    → slice_get p.sessions (index c.session (session_names p)) ≡ Some s → FitsCraft p.sessions (craft p (Some g) c)
in_graph p c g s is form k r short version there =
    let items_rise = list_all (λ i. rise (variables i.delta) (variables_of (Some g)) && rise (tag_roles i.tags) (roles_of (Some g))) c.items in
    let r2 = and_parts (rise (variables c.know) (variables_of (Some g)) && items_rise) (rise (variables c.openings) (variables_of (Some g))) r in
    let r1 = and_parts (rise (variables c.know) (variables_of (Some g))) items_rise r2.0 in
    record {
      session = s;
      there = there;
      spelled = λ ps sch h is_other x v n cast sid.
          craft_spelled p g is ps sch h is_other x (subst IsVersion (sym v) version) cast value_is sid c form k.from k.to
          (known_items p (Some g) c.items (items_form c form) k.items r1.1) k.openings r2.1 s (sym v) (sym n) short;
    }

pub craft_fits : (p : SoFar) (m : Meant p) (c : CraftContent) → is_craft c ≡ true → IsRight p (MakeLine c) → FitsCraft p.sessions (craft p (graph_for c.session p) c)
craft_fits p m c form r =
    let g0 = graph_for c.session p in
    let fine : (rises g0 c && is_short g0 (session_named c.session p) c) ≡ true = not-false (rises g0 c && is_short g0 (session_named c.session p) c) r.form in
    let rs = and_parts (rises g0 c) (is_short g0 (session_named c.session p) c) fine in
    let k = known_craft p c g0 r.known in
    let s = session_at p c.session k.session in
    let o : IsOf (graphs_declared p) s.0 = session_in (graphs_declared p) p.sessions (index c.session (session_names p)) s.0 m.sound.sessions s.2 in
    let g : Graph = o.graph in
    let at : g0 ≡ Some g = ap (option_and_then (λ (s : Session). slice_get (graphs_declared p) s.graph)) s.1 ∙ o.there in
    let is : IsGraph g = graph_in (graphs_declared p) s.0.graph g (all_graphs p m) o.there in
    let few : nat_le (frame_len s.0 c) 60000 ≡ true = short_is g0 s.0 c (session_named c.session p) s.1 ∙ rs.1 in
    subst (λ (g : Option Graph). FitsCraft p.sessions (craft p g c)) (sym at)
    (in_graph p c g s.0 is form (subst (IsKnown p c) at k) (ap (λ g. rises g c) (sym at) ∙ rs.0) (leb-true (frame_len s.0 c) 60000 few) o.version s.2)
