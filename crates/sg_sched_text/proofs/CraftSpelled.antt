-- A craft that is right makes a frame that has a spelling.
use Rattle.std.proofs.Common.{◌≡◌, ◌≢◌, ℕ, zero, suc, ◌+◌, ◌*◌, ◌<◌, ◌≤◌, true, not, ◌&&◌, List, [], ◌∷◌, ◌++◌, map, length, take, get_or, refl, sym, ap, ◌∙◌, subst, arith, if◌then◌else◌}
use Rattle.std.specs.Prelude.{Option, Some, None, option_map, unwrap_or, position, bytes_eq, flat_map, IfSome, IsTrue, nat_le, replicate, is_some}
use Rattle.std.specs.List.{list_all, AllByRecursion}
use Rattle.std.specs.Option.{option_map_or}
use Rattle.std.proofs.lemmas.Bool.{leb-true, and_parts}
use Rattle.std.proofs.lemmas.List.{length-append, length-map}
use Rattle.std.proofs.lemmas.List.Quantifiers.{position-Some}
use Rattle.std.proofs.lemmas.List.Elements.{recursion_from_All}
use Rattle.sg_model.specs.Bytes.{AreBytes}
use Rattle.sg_model.specs.Last.{Map}
use Rattle.sg_model.specs.Lists.{has_text, rises_from, keys_of}
use Rattle.sg_model.specs.Names.{Name, is_name}
use Rattle.sg_model.specs.Shape.{sender}
use Rattle.sg_model.specs.Values.{Opening}
use Rattle.sg_model.proofs.Small.{same_bytes, bytes_refl}
use Rattle.sg_protocol.specs.Graph.{Graph, Node, IsGraph, shape}
use Rattle.sg_protocol.specs.Frame.{Item, Frame, IsItem, IsTag, IsCastOf, IsOpening, IsValue, tag_len}
use Rattle.sg_protocol.specs.Spelling.{spelling, body, u8, u16, u32, u64, item_bytes, map_bytes, opening_bytes, join_bytes, join_code, short_text, magic, IsInRange, HasSpelling}
use Rattle.sg_protocol.specs.TextLaws.{IsVersion}
use Rattle.sg_protocol.specs.Texts.{real, cut, commitment, commitment_text_of}
use Rattle.sg_protocol.specs.Keyring.{Program}
use Rattle.sg_protocol.specs.Session.{Session as ASession}
use Rattle.sg_protocol.specs.Sending.{text_to, text_of}
use Rattle.sg_protocol.specs.Schedule.{Schedule, Source, CraftJoin, CraftItem, confounder}
use Rattle.sg_protocol.specs.World.{new_world}
use Rattle.sg_protocol.specs.Crafted.{committed_to, crafted_item, crafted_items, known_item, crafted_cast, crafted_frame, nonce_of, tag_by}
use Rattle.sg_protocol.proofs.RealHash.{real_hash}
use Rattle.sg_protocol.proofs.Sent.{len_concat, cut_tag}
use Rattle.sg_protocol.proofs.Spelled.{to_bytes, bytes-append, bytes-zeros, u64_bytes}
use Rattle.sg_sched.specs.Format.LineContents.{Committed, TagSource, ItemContent, CraftContent}
use Rattle.sg_sched.specs.Format.Forms.{is_committed, are_committed, is_item, is_join, is_craft, is_source, are_names, is_wide}
use Rattle.sg_sched.specs.Format.Items.{Session, SoFar, index, roles_of, variables_of, labels_of}
use Rattle.sg_sched.specs.Format.Numbered.{opening, source, craft_item, craft}
use Rattle.sg_sched.specs.Format.Faults.{rise, variables, tag_roles, knows_variable, knows_source, knows_item}
use Rattle.sg_sched.specs.Format.Values.{is_value, value_of}
use Rattle.sg_sched_text.specs.Crafting.{lens, opening_len, item_len, join_len, frame_len}
use Rattle.sg_sched_text.proofs.FormParts.{ItemParts, item_parts, committed_value}
use Rattle.sg_sched_text.proofs.LengthLaws.{map_len, four, opening_is, names_are, flat_len}
use Rattle.sg_sched_text.proofs.Indices.{some_index}
use Rattle.sg_sched_text.proofs.Tags.{cut_taken, tag_has}

-- ---- indices

index_at : (n : Name) (ns : List Name) → has_text n ns ≡ true → (index n ns < length ns) × (get_or ns (index n ns) [] ≡ n)
index_at n ns h = by (position (bytes_eq n) ns) refl (some_index (bytes_eq n) ns ∙ h)
  where
    by : (o : Option ℕ) → position (bytes_eq n) ns ≡ o → is_some (position (bytes_eq n) ns) ≡ true → (index n ns < length ns) × (get_or ns (index n ns) [] ≡ n)
    by None e s = absurd (let no = ap is_some e in cc)
    by (Some i) e s =
        let w = position-Some (bytes_eq n) ns i [] e in
        let at : index n ns ≡ i = ap (λ (o : Option ℕ). unwrap_or o 0) e in
        (subst (λ k. k < length ns) (sym at) w.0, ap (λ k. get_or ns k []) at ∙ sym (same_bytes n (get_or ns i []) w.1))

pub index_below : (n : Name) (ns : List Name) (most : ℕ) → length ns ≤ most → has_text n ns ≡ true → index n ns < most
index_below n ns most few h = let w = (index_at n ns h).0 in omega (arith, w, few)

indices_differ : (m n : Name) (ns : List Name) → has_text m ns ≡ true → has_text n ns ≡ true → not (bytes_eq m n) ≡ true → index n ns ≢ index m ns
indices_differ m n ns hm hn other e =
    let same : m ≡ n = sym (index_at m ns hm).1 ∙ ap (λ k. get_or ns k []) (sym e) ∙ (index_at n ns hn).1 in
    let yes : bytes_eq m n ≡ true = ap (bytes_eq m) (sym same) ∙ bytes_refl m in
    absurd (let z = ap not yes in cc)

-- what rises rises, if it is declared
risen : (ns ds : List Name) → rise ns ds ≡ true → list_all (λ n. has_text n ds) ns ≡ true → rises_from 0 (map (λ n. index n ds) ns) ≡ true
risen ns ds r h = sym (ap (λ b. if b then rises_from 0 (map (λ n. index n ds) ns) else true) h) ∙ r

-- ---- openings

keys_are : (g : Option Graph) (sid : List ℕ) (cs : List Committed) → keys_of (committed_to real sid (map (opening g) cs)) ≡ map (λ n. index n (variables_of g)) (variables cs)
keys_are g sid [] = refl
keys_are g sid (c ∷ cs) = ap (λ ks. index c.variable (variables_of g) ∷ ks) (keys_are g sid cs)

names_of : (g : Option Graph) (cs : List Committed) → map (λ (o : Opening). o.variable) (map (opening g) cs) ≡ map (λ n. index n (variables_of g)) (variables cs)
names_of g [] = refl
names_of g (c ∷ cs) = ap (λ ks. index c.variable (variables_of g) ∷ ks) (names_of g cs)

confounder_has : (k x : ℕ) → AreBytes 16 (confounder k x)
confounder_has k x = (refl, to_bytes (confounder k x) (bytes-append (u64 k) (u64 x) (u64_bytes k) (u64_bytes x)))

-- a nonce is sixteen bytes
pub nonce_has : (n : ℕ) → AreBytes 16 (nonce_of n)
nonce_has n = (refl, to_bytes (nonce_of n) (bytes-append (replicate 8 0) (u64 n) (bytes-zeros 8) (u64_bytes n)))

committed_are : (g : Option Graph) (few : length (variables_of g) ≤ 32) (sid : List ℕ) (cs : List Committed) → list_all (knows_variable g) (variables cs) ≡ true
    → AllByRecursion (λ (d : ℕ × List ℕ). (d.0 < 32) × AreBytes 32 d.1) (committed_to real sid (map (opening g) cs))
committed_are g few sid [] h = tt
committed_are g few sid (c ∷ cs) h =
    let k = and_parts (knows_variable g c.variable) (list_all (knows_variable g) (variables cs)) h in
    ((index_below c.variable (variables_of g) 32 few k.0, real_hash _), committed_are g few sid cs k.1)

openings_are : (values : (w : List ℕ) → is_value w ≡ true → IsValue (value_of w)) (g : Option Graph) (few : length (variables_of g) ≤ 32) (cs : List Committed)
    → list_all (knows_variable g) (variables cs) ≡ true → list_all is_committed cs ≡ true → AllByRecursion IsOpening (map (opening g) cs)
openings_are values g few [] h f = tt
openings_are values g few (c ∷ cs) h f =
    let k = and_parts (knows_variable g c.variable) (list_all (knows_variable g) (variables cs)) h in
    let m = and_parts (is_committed c) (list_all is_committed cs) f in
    let confounder = confounder_has c.step (index c.variable (variables_of g)) in
    (record { variable = index_below c.variable (variables_of g) 32 few k.0; confounder = confounder; value = values c.value (committed_value c m.0) }, openings_are values g few cs k.1 m.1)

-- ---- tags

tag_keys : (g : Option Graph) (T : ℕ × Source → List ℕ) (ts : List (Name × TagSource))
    → keys_of (map (λ (t : ℕ × Source). (t.0, T t)) (map (λ (t : Name × TagSource). (index t.0 (roles_of g), source g t.1)) ts)) ≡ map (λ n. index n (roles_of g)) (tag_roles ts)
tag_keys g T [] = refl
tag_keys g T (t ∷ ts) = ap (λ ks. index t.0 (roles_of g) ∷ ks) (tag_keys g T ts)

roles_known : (p : SoFar) (g : Option Graph) (ts : List (Name × TagSource)) → list_all (λ (t : Name × TagSource). has_text t.0 (roles_of g) && knows_source p g t.1) ts ≡ true
    → list_all (λ n. has_text n (roles_of g)) (tag_roles ts) ≡ true
roles_known p g [] h = refl
roles_known p g (t ∷ ts) h =
    let k = and_parts (has_text t.0 (roles_of g) && knows_source p g t.1) _ h in
    let m = and_parts (has_text t.0 (roles_of g)) (knows_source p g t.1) k.0 in
    rw m.0 (roles_known p g ts k.1)

tags_are : (g : Option Graph) (few : length (roles_of g) ≤ 16) (v : ℕ) (T : ℕ × Source → List ℕ) → ((t : ℕ × Source) → IsTag v (T t)) → (ts : List (Name × TagSource))
    → list_all (λ n. has_text n (roles_of g)) (tag_roles ts) ≡ true → AllByRecursion (λ (t : ℕ × List ℕ). (t.0 < 16) × IsTag v t.1) (map (λ (t : ℕ × Source). (t.0, T t)) (map (λ (t : Name × TagSource). (index t.0 (roles_of g), source g t.1)) ts))
tags_are g few v T is [] h = tt
tags_are g few v T is (t ∷ ts) h =
    let k = and_parts (has_text t.0 (roles_of g)) _ h in
    ((index_below t.0 (roles_of g) 16 few k.0, is (index t.0 (roles_of g), source g t.1)), tags_are g few v T is ts k.1)

-- ---- items

sender_below : (g : Graph) → IsGraph g → (label : ℕ) → sender (shape g) label < 16
sender_below g is label = by g.nodes (recursion_from_All (λ (n : Node). n.role < length g.roles) g.nodes is.roles) _
  where
    small : length g.roles ≤ 16
    small = is.sizes.0

    by : (ns : List Node) → AllByRecursion (λ (n : Node). n.role < length g.roles) ns → (k : ℕ) → get_or (map (λ (n : Node). n.role) ns) k 0 < 16
    by [] a k = omega arith
    by (n ∷ ns) a zero = let h = a.0 in let m = small in omega (arith, h, m)
    by (n ∷ ns) a (suc k) = by ns a.1 k

-- what is known of an item
pub record KnownItem (p : SoFar) (g : Option Graph) (i : ItemContent) : Type 0 where
  pub form : is_item i ≡ true
  pub known : knows_item p g i ≡ true
  pub rises : (rise (variables i.delta) (variables_of g) && rise (tag_roles i.tags) (roles_of g)) ≡ true

-- the numbers of an item that is known are in their ranges
module _ (p : SoFar) (g : Graph) (is_graph : IsGraph g) (ps : List Program) (s : Schedule) (h : Graph) (is_other : IsGraph h) (x : ASession) (version : IsVersion x.cast.version) where
  abbrev v : ℕ
  v = x.cast.version

  labels_few : length (labels_of (Some g)) ≤ 512
  labels_few = let a = length-map g.edges (λ e. e.name) in let b = is_graph.sizes.3 in omega (arith, a, b)

  variables_few : length (variables_of (Some g)) ≤ 32
  variables_few = let a = length-map g.variables (λ v. v.name) in let b = is_graph.sizes.1 in omega (arith, a, b)

  tag_of : (text : List ℕ) (t : Source) → IsTag v (cut v (tag_by real s (new_world ps s) text t))
  tag_of text t = cut_tag v version _ (tag_has ps s text t)

  item_fits : (before : List Item) (i : ItemContent) → KnownItem p (Some g) i → IsItem v (crafted_item real s (new_world ps s) h x before (craft_item (Some g) i))
  item_fits before i k =
      let parts : ItemParts i = item_parts i k.form in
      let label_and = and_parts (has_text i.label (labels_of (Some g)) && list_all (knows_variable (Some g)) (variables i.delta)) _ k.known in
      let names = and_parts (has_text i.label (labels_of (Some g))) _ label_and.0 in
      let rise_both = and_parts (rise (variables i.delta) (variables_of (Some g))) (rise (tag_roles i.tags) (roles_of (Some g))) k.rises in
      let roles = roles_known p (Some g) i.tags label_and.1 in
      let times = time_of i k.form in
      let few_delta = length-map {B = ℕ × List ℕ} (map (opening (Some g)) i.delta) (λ (o : Opening). (o.variable, commitment real x.sid o)) in
      let few_delta_2 = length-map i.delta (opening (Some g)) in
      let few = parts.few in
      let few_tags = parts.tags in
      let T : ℕ × Source → List ℕ = λ t. cut v (tag_by real s (new_world ps s) (text_to h x before (bare before i) t.0) t.1) in
      let made : Map Source = map (λ (t : Name × TagSource). (index t.0 (roles_of (Some g)), source (Some g) t.1)) i.tags in
      let few_made = length-map {B = ℕ × Source} i.tags (λ (t : Name × TagSource). (index t.0 (roles_of (Some g)), source (Some g) t.1)) in
      let few_all = length-map {B = ℕ × List ℕ} made (λ (t : ℕ × Source). (t.0, T t)) in
      record {
        role = sender_below h is_other (index i.label (labels_of (Some g)));
        label = index_below i.label (labels_of (Some g)) 512 labels_few names.0;
        time = times;
        variables = (omega (arith, few_delta, few_delta_2, few), ap (rises_from 0) (keys_are (Some g) x.sid i.delta) ∙ risen (variables i.delta) (variables_of (Some g)) rise_both.0 names.1);
        delta = committed_are (Some g) variables_few x.sid i.delta names.1;
        roles = (omega (arith, few_made, few_all, few_tags), ap (rises_from 0) (tag_keys (Some g) T i.tags) ∙ risen (tag_roles i.tags) (roles_of (Some g)) rise_both.1 roles);
        tags = tags_are (Some g) is_graph.sizes.0 v T (λ t. tag_of _ t.1) i.tags roles;
      }
    where
      bare : List Item → ItemContent → Item
      bare before i =
          let label = index i.label (labels_of (Some g)) in
          record { role = sender (shape h) label; label = label; time = i.time; delta = committed_to real x.sid (map (opening (Some g)) i.delta); tags = [] }

      time_of : (i : ItemContent) → is_item i ≡ true → (1 ≤ i.time) × (i.time ≤ 1000000)
      time_of i f =
          let a = (and_parts (is_name i.label && nat_le 1 i.time && nat_le i.time 1000000 && are_committed i.delta && nat_le (length i.tags) 14) _ f).0 in
          let b = (and_parts (is_name i.label && nat_le 1 i.time && nat_le i.time 1000000 && are_committed i.delta) _ a).0 in
          let c = (and_parts (is_name i.label && nat_le 1 i.time && nat_le i.time 1000000) _ b).0 in
          let d = and_parts (is_name i.label && nat_le 1 i.time) (nat_le i.time 1000000) c in
          let e = and_parts (is_name i.label) (nat_le 1 i.time) d.0 in
          (leb-true 1 i.time e.1, leb-true i.time 1000000 d.1)

  items_fit : (before : List Item) (is : List ItemContent) → AllByRecursion (KnownItem p (Some g)) is → AllByRecursion (IsItem v) (crafted_items real s (new_world ps s) h x before (map (craft_item (Some g)) is))
  items_fit before [] a = tt
  items_fit before (i ∷ is) a = (item_fits before i a.0, items_fit (before ++ crafted_item real s (new_world ps s) h x before (craft_item (Some g) i) ∷ []) is a.1)

  -- ---- lengths

  items_many : (before : List Item) (cs : List CraftItem) → length (crafted_items real s (new_world ps s) h x before cs) ≡ length cs
  items_many before [] = refl
  items_many before (c ∷ cs) = let k = items_many (before ++ crafted_item real s (new_world ps s) h x before c ∷ []) cs in omega (arith, k)

  item_long : (before : List Item) (i : ItemContent) → length (item_bytes v (crafted_item real s (new_world ps s) h x before (craft_item (Some g) i))) ≡ item_len v i
  item_long before i =
      let b : Item = crafted_item real s (new_world ps s) h x before (craft_item (Some g) i) in
      let c = len_concat (u8 b.role ∷ u16 b.label ∷ u32 b.time ∷ map_bytes (λ c. c) b.delta ∷ map_bytes (take (tag_len v)) b.tags ∷ []) in
      let os = map (opening (Some g)) i.delta in
      let made : Map Source = map (λ (t : Name × TagSource). (index t.0 (roles_of (Some g)), source (Some g) t.1)) i.tags in
      let d = map_len (λ c. c) (λ (o : Opening). (o.variable, commitment real x.sid o)) 33 os (λ o. let l = (real_hash (commitment_text_of x.sid o)).0 in omega (arith, l)) in
      let e = map_len (take (tag_len v)) (λ (t : ℕ × Source). (t.0, cut v (tag_by real s (new_world ps s) (text_to h x before (record b { tags = [] }) t.0) t.1))) (1 + tag_len v) made
      (λ t. let k = cut_taken v version _ (tag_has ps s (text_to h x before (record b { tags = [] }) t.0) t.1) in omega (arith, k)) in
      let m = length-map i.delta (opening (Some g)) in
      let n = length-map {B = ℕ × Source} i.tags (λ (t : Name × TagSource). (index t.0 (roles_of (Some g)), source (Some g) t.1)) in
      let q : (1 + tag_len v) * length made ≡ (1 + tag_len v) * length i.tags = ap (λ k. (1 + tag_len v) * k) n in
      omega (arith, c, d, e, m, q)

  items_long : (before : List Item) (is : List ItemContent) → length (flat_map (item_bytes v) (crafted_items real s (new_world ps s) h x before (map (craft_item (Some g)) is))) ≡ lens (item_len v) is
  items_long before [] = refl
  items_long before (i ∷ is) =
      let b : Item = crafted_item real s (new_world ps s) h x before (craft_item (Some g) i) in
      let rest = crafted_items real s (new_world ps s) h x (before ++ b ∷ []) (map (craft_item (Some g)) is) in
      let a = length-append (item_bytes v b) (flat_map (item_bytes v) rest) in
      let k = item_long before i in
      let m = items_long (before ++ b ∷ []) is in
      omega (arith, a, k, m)

  -- ---- casts

  names_all : (ns : List Name) → list_all is_name ns ≡ true → AllByRecursion (λ n. IsTrue (is_name n)) ns
  names_all [] h = tt
  names_all (n ∷ ns) h = let k = and_parts (is_name n) (list_all is_name ns) h in (k.0, names_all ns k.1)

  module _ (cast : IsCastOf v x.cast) where
    other_names : (o : Option (List Name)) → option_map_or (λ ns. nat_le 2 (length ns) && nat_le (length ns) 16 && are_names ns) o true ≡ true
        → (2 ≤ length (unwrap_or o x.cast.names)) × (length (unwrap_or o x.cast.names) ≤ 16) × AllByRecursion (λ n. IsTrue (is_name n)) (unwrap_or o x.cast.names)
    other_names None k = (cast.count.0, cast.count.1, cast.names)
    other_names (Some ns) k =
        let a = and_parts (nat_le 2 (length ns) && nat_le (length ns) 16) (are_names ns) k in
        let b = and_parts (nat_le 2 (length ns)) (nat_le (length ns) 16) a.0 in
        (leb-true 2 (length ns) b.0, leb-true (length ns) 16 b.1, names_all ns a.1)

    other_nonce : (o : Option ℕ) → AreBytes 16 (option_map_or nonce_of o x.cast.nonce)
    other_nonce None = cast.nonce
    other_nonce (Some n) = nonce_has n

    join_fits : (o : Option CraftJoin) → option_map_or is_join o true ≡ true → IfSome (option_map (crafted_cast x.cast) o) (IsCastOf v)
    join_fits None k = tt
    join_fits (Some j) k =
        let a = and_parts (option_map_or is_wide j.nonce true) (option_map_or (λ ns. nat_le 2 (length ns) && nat_le (length ns) 16 && are_names ns) j.names true) k in
        let n = other_names j.names a.1 in
        record { version = refl; graph = cast.graph; nonce = other_nonce j.nonce; count = (n.0, n.1); names = n.2 }

    join_long : (o : Option CraftJoin) → length (join_bytes (option_map (crafted_cast x.cast) o)) ≡ join_len x.cast.names o
    join_long None = refl
    join_long (Some j) =
        let ns = unwrap_or j.names x.cast.names in
        let nonce = option_map_or nonce_of j.nonce x.cast.nonce in
        let a = len_concat (x.cast.graph ∷ nonce ∷ u8 (length ns) ∷ flat_map short_text ns ∷ []) in
        let b = names_are ns in
        let c = cast.graph.0 in
        let d = (other_nonce j.nonce).0 in
        omega (arith, a, b, c, d)

    -- ---- the frame

    module _ (values : (w : List ℕ) → is_value w ≡ true → IsValue (value_of w)) (sid : AreBytes 32 x.sid) (c : CraftContent) (form : is_craft c ≡ true)
        (from_known : has_text c.from (roles_of (Some g)) ≡ true) (to_known : has_text c.to (roles_of (Some g)) ≡ true)
        (items_known : AllByRecursion (KnownItem p (Some g)) c.items)
        (openings_known : list_all (knows_variable (Some g)) (variables c.openings) ≡ true) (openings_rise : rise (variables c.openings) (variables_of (Some g)) ≡ true)
        (session : Session) (version_is : session.version ≡ v) (names_is : session.names ≡ x.cast.names) (short : frame_len session c ≤ 60000) where
      abbrev made_frame : Frame
      made_frame = crafted_frame real s (new_world ps s) (craft p (Some g) c) h x

      -- the parts of the form
      record Parts : Type 0 where
        ends : not (bytes_eq c.from c.to) ≡ true
        join : option_map_or is_join c.join true ≡ true
        some : 1 ≤ length c.items
        few : length c.items ≤ 65535
        few_openings : length c.openings ≤ 32
        openings : list_all is_committed c.openings ≡ true

      parts : Parts
      parts =
          let a = are_names (c.session ∷ c.from ∷ c.to ∷ []) in
          let b = not (bytes_eq c.from c.to) in
          let j = option_map_or is_join c.join true in
          let k = list_all is_committed c.know in
          let n = nat_le 1 (length c.items) in
          let m = nat_le (length c.items) 65535 in
          let i = list_all is_item c.items in
          let o = are_committed c.openings in
          let e8 = and_parts (a && b && j && k && n && m && i && o) (is_source c.seal) form in
          let e7 = and_parts (a && b && j && k && n && m && i) o e8.0 in
          let e6 = and_parts (a && b && j && k && n && m) i e7.0 in
          let e5 = and_parts (a && b && j && k && n) m e6.0 in
          let e4 = and_parts (a && b && j && k) n e5.0 in
          let e3 = and_parts (a && b && j) k e4.0 in
          let e2 = and_parts (a && b) j e3.0 in
          let e1 = and_parts a b e2.0 in
          let f = and_parts (nat_le (length c.openings) 32) (list_all is_committed c.openings) e7.1 in
          record { ends = e1.1; join = e2.1; some = leb-true 1 (length c.items) e4.1; few = leb-true (length c.items) 65535 e5.1; few_openings = leb-true (length c.openings) 32 f.0; openings = f.1 }

      frame_in_range : IsInRange made_frame
      frame_in_range =
          let q : Parts = parts in
          let many = items_many (known_item real x.sid (map (opening (Some g)) c.know) ∷ []) (map (craft_item (Some g)) c.items) in
          let same = length-map c.items (craft_item (Some g)) in
          let some = q.some in
          let few = q.few in
          let few_openings = q.few_openings in
          let same_openings = length-map c.openings (opening (Some g)) in
          record {
            version = version;
            sid = sid;
            roles = (
              index_below c.from (roles_of (Some g)) 16 is_graph.sizes.0 from_known,
              index_below c.to (roles_of (Some g)) 16 is_graph.sizes.0 to_known,
              indices_differ c.from c.to (roles_of (Some g)) from_known to_known q.ends,
            );
            join = join_fits c.join q.join;
            count = (omega (arith, many, same, some), omega (arith, many, same, few));
            items = items_fit (known_item real x.sid (map (opening (Some g)) c.know) ∷ []) c.items items_known;
            variables = (omega (arith, same_openings, few_openings), ap (rises_from 0) (names_of (Some g) c.openings) ∙ risen (variables c.openings) (variables_of (Some g)) openings_rise openings_known);
            openings = openings_are values (Some g) variables_few c.openings openings_known q.openings;
            tag = tag_of _ (source (Some g) c.seal);
          }

      frame_long : length (spelling made_frame) ≡ frame_len session c
      frame_long =
          let f : Frame = made_frame in
          let a = len_concat (magic f.version ∷ u8 (join_code f.join) ∷ f.sid ∷ u8 f.sender ∷ u8 f.receiver ∷ join_bytes f.join ∷ u16 (length f.items)
          ∷ flat_map (item_bytes f.version) f.items ∷ u8 (length f.openings) ∷ flat_map opening_bytes f.openings ∷ []) in
          let b = length-append (body f) (take (tag_len f.version) f.tag) in
          let d = four v in
          let e = join_long c.join in
          let i = items_long (known_item real x.sid (map (opening (Some g)) c.know) ∷ []) c.items in
          let o = flat_len (opening (Some g)) opening_bytes opening_len c.openings (opening_is (Some g)) in
          let k = cut_taken v version _ (tag_has ps s (text_of (record f { tag = [] })) (source (Some g) c.seal)) in
          let l = sid.0 in
          let whole : length (spelling f) ≡ 42 + join_len x.cast.names c.join + lens (item_len v) c.items + lens opening_len c.openings + tag_len v = omega (arith, a, b, d, e, i, o, k, l) in
          whole ∙ sym (λ z. 42 + join_len (names_is z) c.join + lens (item_len (version_is z)) c.items + lens opening_len c.openings + tag_len (version_is z))

      -- the frame that the craft makes has a spelling
      pub craft_spelled : HasSpelling made_frame
      craft_spelled = record { fields = frame_in_range; short = (let l = frame_long in let m = short in omega (arith, l, m)) }
