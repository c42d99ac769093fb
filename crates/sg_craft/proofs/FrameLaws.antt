-- Crafted frames have a spelling.
use Rattle.std.proofs.Common.{◌≡◌, ℕ, suc, ◌<◌, ◌≤◌, ◌==◌, List, [], ◌∷◌, ◌++◌, map, flat_map, length, take, Result, Ok, Err, IfOk, Some, option_map, refl, sym, ap, subst, ◌∙◌, inl, inr, arith, length-append, length-take-le}
use Rattle.std.specs.List.{AllByRecursion}
use Rattle.std.proofs.lemmas.Bool.{cases_Bool}
use Rattle.sg_model.specs.Last.{Map}
use Rattle.sg_protocol.specs.Crafted.{crafted, no_tag}
use Rattle.sg_protocol.specs.Frame.{Item, Frame, IsItem, IsTag, tag_len}
use Rattle.sg_protocol.specs.Schedule.{Schedule, Source, Craft, CraftItem}
use Rattle.sg_protocol.specs.Session.{commitments}
use Rattle.sg_protocol.specs.Spelling.{u8, u16, u32, magic, join_code, join_bytes, map_bytes, pair_bytes, item_bytes, opening_bytes, body, spelling, IsInRange, HasSpelling, SpellsFrame}
use Rattle.sg_protocol.specs.Texts.{real}
use Rattle.sg_protocol.specs.World.{World}
use Rattle.sg_protocol.proofs.Sent.{len_concat}
use Rattle.sg_craft.specs.Making.{plain_item, zero_item, tag_made, seal_made}
use Rattle.sg_craft.specs.Means.{Means, AreMeans, CanBeMade, frame_by}
use Rattle.sg_craft.proofs.MeansLaws.{made_by_means}
use Rattle.sg_craft.proofs.ItemLaws.{items_after, item_after, items_count, known_of, role_alike, tag_zero, zeros_in_range}

-- what holds of a value that is there by two facts
pub if_ok : {A E : Type 0} {P Q R : A → Type 0} (r : Result A E) → ((x : A) → P x → Q x → R x) → IfOk r P → IfOk r Q → IfOk r R
if_ok (Ok x) f p q = f x p q
if_ok (Err e) f p q = tt

-- ---- lengths

tag_short : (v : ℕ) → tag_len v ≤ 32
tag_short v = elim (cases_Bool (v == 2)) [ inl e ↦ rw e (omega arith) | inr e ↦ rw e (omega arith) ]

sent_len : (v : ℕ) (t : List ℕ) → IsTag v t → length (take (tag_len v) t) ≡ tag_len v
sent_len v t h = length-take-le (tag_len v) t (let l = h.bytes.0 in let k = tag_short v in omega (arith, l, k))

abbrev zeroed : ℕ × List ℕ → ℕ × List ℕ
zeroed t = (t.0, no_tag)

-- an item with zeros for its tags
abbrev bare : Item → Item
bare i = record i { tags = map zeroed i.tags }

pairs_len : (v : ℕ) (ts : Map (List ℕ)) → AllByRecursion (λ (t : ℕ × List ℕ). (t.0 < 16) × IsTag v t.1) ts → length (flat_map (pair_bytes (take (tag_len v))) ts) ≡ length (flat_map (pair_bytes (take (tag_len v))) (map zeroed ts))
pairs_len v [] h = refl
pairs_len v (t ∷ ts) h =
    let a = length-append (pair_bytes (take (tag_len v)) t) (flat_map (pair_bytes (take (tag_len v))) ts) in
    let b = length-append (pair_bytes (take (tag_len v)) (zeroed t)) (flat_map (pair_bytes (take (tag_len v))) (map zeroed ts)) in
    let x = sent_len v t.1 h.0.1 in
    let y = sent_len v no_tag (tag_zero v) in
    let r = pairs_len v ts h.1 in
    omega (arith, a, b, x, y, r)

item_len : (v : ℕ) (i : Item) → IsItem v i → length (item_bytes v i) ≡ length (item_bytes v (bare i))
item_len v i h =
    let a = len_concat (u8 i.role ∷ u16 i.label ∷ u32 i.time ∷ map_bytes (λ c. c) i.delta ∷ map_bytes (take (tag_len v)) i.tags ∷ []) in
    let b = len_concat (u8 i.role ∷ u16 i.label ∷ u32 i.time ∷ map_bytes (λ c. c) i.delta ∷ map_bytes (take (tag_len v)) (bare i).tags ∷ []) in
    let t = pairs_len v i.tags h.tags in
    omega (arith, a, b, t)

items_len : (v : ℕ) (is : List Item) → AllByRecursion (IsItem v) is → length (flat_map (item_bytes v) is) ≡ length (flat_map (item_bytes v) (map bare is))
items_len v [] h = refl
items_len v (i ∷ is) h =
    let a = length-append (item_bytes v i) (flat_map (item_bytes v) is) in
    let b = length-append (item_bytes v (bare i)) (flat_map (item_bytes v) (map bare is)) in
    let x = item_len v i h.0 in
    let r = items_len v is h.1 in
    omega (arith, a, b, x, r)

zeroed_made : (F : ℕ × Source → List ℕ) (ts : Map Source) → map zeroed (map {B = ℕ × List ℕ} (λ (t : ℕ × Source). (t.0, F t)) ts) ≡ map {B = ℕ × List ℕ} (λ (t : ℕ × Source). (t.0, no_tag)) ts
zeroed_made F [] = refl
zeroed_made F (t ∷ ts) = ap (λ l. zeroed (t.0, no_tag) ∷ l) (zeroed_made F ts)

-- crafted items with zeros for their tags depend on the line alone
bare_items : (m : Means) (before : List Item) (cs : List CraftItem) → map bare (items_after m before cs) ≡ map (zero_item m) cs
bare_items m before [] = refl
bare_items m before (c ∷ cs) =
    let F : ℕ × Source → List ℕ = λ t. (tag_made m c (commitments m.graph (before ++ plain_item m c ∷ [])) t).1 in
    λ j. record (plain_item m c) { tags = zeroed_made F c.tags j } ∷ bare_items m (before ++ item_after m before c ∷ []) cs j

same_len : (m : Means) (v : ℕ) (before : List Item) (cs : List CraftItem) → AllByRecursion (IsItem v) (items_after m before cs) → AllByRecursion (IsItem v) (items_after (record m { frames = [] }) before cs)
    → length (flat_map (item_bytes v) (items_after m before cs)) ≡ length (flat_map (item_bytes v) (items_after (record m { frames = [] }) before cs))
same_len m v before cs h k =
    items_len v (items_after m before cs) h ∙ ap (λ is. length (flat_map (item_bytes v) is)) (bare_items m before cs ∙ sym (bare_items (record m { frames = [] }) before cs)) ∙ sym (items_len v (items_after (record m { frames = [] }) before cs) k)

-- ---- frames

-- the items of a frame that can be made are in range with zeros for their tags
pub zeros_of_frame : (m : Means) (c : Craft) → CanBeMade m c → AllByRecursion (λ (i : CraftItem). IsItem m.cast.version (zero_item m i)) c.items
zeros_of_frame m c h =
    let m0 : Means = record m { frames = [] } in
    zeros_in_range m0 m.cast.version (known_of m c.know) c.items (subst (AllByRecursion (IsItem m.cast.version)) (role_alike m0 c.from (known_of m c.know) c.items) h.fields.items)

-- with zeros for its tag a frame that can be made has a spelling
pub zero_spelled : (m : Means) (c : Craft) → CanBeMade m c → AllByRecursion (IsItem m.cast.version) (items_after m (known_of m c.know) c.items) → HasSpelling (record (frame_by m c) { tag = no_tag })
zero_spelled m c h items =
    let v : ℕ = m.cast.version in
    let m0 : Means = record m { frames = [] } in
    let before : List Item = known_of m c.know in
    let f0 : Frame = frame_by m0 c in
    let f1 : Frame = record (frame_by m c) { tag = no_tag } in
    let is0 : f0.items ≡ items_after m0 before c.items = role_alike m0 c.from before c.items in
    let is1 : f1.items ≡ items_after m before c.items = role_alike m c.from before c.items in
    let count : length f1.items ≡ length f0.items = ap (λ l. length l) is1 ∙ items_count m before c.items ∙ sym (ap (λ l. length l) is0 ∙ items_count m0 before c.items) in
    let len : length (flat_map (item_bytes v) f1.items) ≡ length (flat_map (item_bytes v) f0.items) =
    ap (λ l. length (flat_map (item_bytes v) l)) is1 ∙ same_len m v before c.items items (subst (AllByRecursion (IsItem v)) is0 h.fields.items) ∙ sym (ap (λ l. length (flat_map (item_bytes v) l)) is0) in
    let a = len_concat (magic f0.version ∷ u8 (join_code f0.join) ∷ f0.sid ∷ u8 f0.sender ∷ u8 f0.receiver ∷ join_bytes f0.join ∷ u16 (length f0.items) ∷ flat_map (item_bytes f0.version) f0.items ∷ u8 (length f0.openings) ∷ flat_map opening_bytes f0.openings ∷ []) in
    let b = len_concat (magic f1.version ∷ u8 (join_code f1.join) ∷ f1.sid ∷ u8 f1.sender ∷ u8 f1.receiver ∷ join_bytes f1.join ∷ u16 (length f1.items) ∷ flat_map (item_bytes f1.version) f1.items ∷ u8 (length f1.openings) ∷ flat_map opening_bytes f1.openings ∷ []) in
    let d = length-append (body f0) (take (tag_len f0.version) f0.tag) in
    let e = length-append (body f1) (take (tag_len f1.version) f1.tag) in
    let t = sent_len v f0.tag h.fields.tag in
    let u = sent_len v no_tag (tag_zero v) in
    let k = h.short in
    record {
      fields = record {
        version = h.fields.version;
        sid = h.fields.sid;
        roles = h.fields.roles;
        join = h.fields.join;
        count = ((let q = h.fields.count.0 in omega (arith, q, count)), (let q = h.fields.count.1 in omega (arith, q, count)));
        items = subst (AllByRecursion (IsItem v)) (sym is1) items;
        variables = h.fields.variables;
        openings = h.fields.openings;
        tag = tag_zero v;
      };
      short = omega (arith, a, b, d, e, len, t, u, k);
    }

-- another tag of its version keeps a frame in range
retagged : (f : Frame) (t : List ℕ) → IsInRange f → IsTag f.version t → IsInRange (record f { tag = t })
retagged f t h g = record {
  version = h.version;
  sid = h.sid;
  roles = h.roles;
  join = h.join;
  count = h.count;
  items = h.items;
  variables = h.variables;
  openings = h.openings;
  tag = g;
}

-- and with any tag of its version
pub seal_spelled : (f : Frame) (t : List ℕ) → HasSpelling (record f { tag = no_tag }) → IsTag f.version t → HasSpelling (record f { tag = t })
seal_spelled f t h g =
    let d = length-append (body f) (take (tag_len f.version) no_tag) in
    let e = length-append (body f) (take (tag_len f.version) t) in
    let x = sent_len f.version t g in
    let y = sent_len f.version no_tag (tag_zero f.version) in
    let k = h.short in
    record { fields = retagged (record f { tag = no_tag }) t h.fields g; short = omega (arith, d, e, x, y, k) }

-- ---- the bytes

-- the sealed bytes are the frame's
pub sealed_spells : (m : Means) (c : Craft) (f : Frame) (source : Source) (bs : List ℕ) → f ≡ record (frame_by m c) { tag = no_tag } → source ≡ c.seal → HasSpelling f → bs ≡ body f ++ take (tag_len m.cast.version) (seal_made m f source) → IsTag m.cast.version (seal_made m f source) → SpellsFrame bs (frame_by m c)
sealed_spells m c f source bs value is spelled bytes range =
    let g : Frame = frame_by m c in
    let seal : seal_made m f source ≡ g.tag = λ i. seal_made m (value i) (is i) in
    record {
      is_frame = seal_spelled g g.tag (subst HasSpelling value spelled) (subst (IsTag m.cast.version) seal range);
      spelled = sym (bytes ∙ (λ i. body (value i) ++ take (tag_len m.cast.version) (seal i)));
    }

-- in a run they are the definition's
pub spelled_in_run : (m : Means) (c : Craft) (s : Schedule) (w : World) (bs : List ℕ) → AreMeans m c s w → SpellsFrame bs (frame_by m c) → option_map spelling (crafted real s w c) ≡ Some bs
spelled_in_run m c s w bs a h = ap (option_map spelling) (made_by_means m c s w a) ∙ ap Some h.spelled
