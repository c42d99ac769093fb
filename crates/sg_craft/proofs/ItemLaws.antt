-- Crafted items, and their range.
use Rattle.std.proofs.Common.{◌≡◌, ℕ, zero, suc, ◌+◌, ◌<◌, ◌≤◌, Bool, true, false, List, [], ◌∷◌, ◌++◌, map, length, take, drop, get_or, replicate, ◌==◌, ◌-◌, if◌then◌else◌, lit<, Option, Some, None, drop-cons, refl, sym, ap, subst, ◌∙◌, arith, append_assoc, append-nil}
use Rattle.std.specs.List.{AllByRecursion}
use Rattle.std.proofs.lemmas.List.{take_more}
use Rattle.sg_model.specs.Last.{Map}
use Rattle.sg_model.specs.Lists.{keys_of, rises_from, value_at}
use Rattle.sg_model.specs.Values.{Opening}
use Rattle.sg_model.proofs.Small.{all-append}
use Rattle.sg_protocol.specs.Crafted.{committed_to, crafted_item, crafted_items, known_item, no_tag}
use Rattle.sg_protocol.specs.Frame.{Item, IsItem, IsTag}
use Rattle.sg_protocol.specs.Schedule.{Source, CraftItem}
use Rattle.sg_protocol.specs.Session.{Session, new_session, commitments}
use Rattle.sg_protocol.specs.Texts.{real}
use Rattle.sg_craft.proofs.CommitmentLaws.{over_items}
use Rattle.sg_craft.specs.Making.{with_first_pairs, plain_item, tag_made, item_by, zero_item}
use Rattle.sg_craft.specs.Means.{Means, with_keys, with_frames}

-- the session of the means
abbrev pub session_of : Means → Session
session_of m = new_session m.sid m.cast 0

-- the items that are crafted after some
abbrev pub items_after : Means → List Item → List CraftItem → List Item
items_after m before cs = crafted_items real (with_keys m.keys) (with_frames m.frames) m.graph (session_of m) before cs

-- the item that is crafted after some
abbrev pub item_after : Means → List Item → CraftItem → Item
item_after m before c = crafted_item real (with_keys m.keys) (with_frames m.frames) m.graph (session_of m) before c

-- over the right commitments it is the definition's
pub item_same : (m : Means) (before : List Item) (c : CraftItem) → item_by m (commitments m.graph (before ++ plain_item m c ∷ [])) c ≡ item_after m before c
item_same m before c = refl

-- one item more
pub items_more : (m : Means) (before : List Item) (cs : List CraftItem) (c : CraftItem) → items_after m before (cs ++ c ∷ []) ≡ items_after m before cs ++ item_after m (before ++ items_after m before cs) c ∷ []
items_more m before [] c = ap (λ l. item_after m l c ∷ []) (sym (append-nil before))
items_more m before (d ∷ ds) c =
    let i = item_after m before d in
    ap (λ l. i ∷ l) (items_more m (before ++ i ∷ []) ds c ∙ ap (λ l. items_after m (before ++ i ∷ []) ds ++ item_after m l c ∷ []) (append_assoc before (i ∷ []) (items_after m (before ++ i ∷ []) ds)))

-- ---- range

pub tag_zero : (v : ℕ) → IsTag v no_tag
tag_zero v = record { bytes = (refl, zeros 32); zeros = on (v == 2) }
  where
    zeros : (n : ℕ) → (i : ℕ) → get_or (replicate n 0) i 0 < 256
    zeros zero i = lit< tt
    zeros (suc n) zero = lit< tt
    zeros (suc n) (suc i) = zeros n i

    on : (b : Bool) → drop (if b then 16 else 32) no_tag ≡ replicate (32 - (if b then 16 else 32)) 0
    on true = refl
    on false = refl

-- the tags that a function makes
abbrev made : (ℕ × Source → List ℕ) → Map Source → Map (List ℕ)
made F ts = map {B = ℕ × List ℕ} (λ (t : ℕ × Source). (t.0, F t)) ts

abbrev zero_of : ℕ × Source → List ℕ
zero_of t = no_tag

zero_tags : (v : ℕ) (ts : Map Source) → AllByRecursion (λ (t : ℕ × List ℕ). IsTag v t.1) (made zero_of ts)
zero_tags v [] = tt
zero_tags v (t ∷ ts) = (tag_zero v, zero_tags v ts)

-- other tags for the same roles
other_tags : (v : ℕ) (F G : ℕ × Source → List ℕ) (ts : Map Source) → AllByRecursion (λ (t : ℕ × List ℕ). (t.0 < 16) × IsTag v t.1) (made F ts) → AllByRecursion (λ (t : ℕ × List ℕ). IsTag v t.1) (made G ts) → AllByRecursion (λ (t : ℕ × List ℕ). (t.0 < 16) × IsTag v t.1) (made G ts)
other_tags v F G [] h k = tt
other_tags v F G (t ∷ ts) h k = ((h.0.0, k.0), other_tags v F G ts h.1 k.1)

same_keys : (F G : ℕ × Source → List ℕ) (ts : Map Source) → keys_of (made F ts) ≡ keys_of (made G ts)
same_keys F G [] = refl
same_keys F G (t ∷ ts) = ap (λ l. t.0 ∷ l) (same_keys F G ts)

same_count : (F G : ℕ × Source → List ℕ) (ts : Map Source) → length (made F ts) ≡ length (made G ts)
same_count F G [] = refl
same_count F G (t ∷ ts) = ap suc (same_count F G ts)

-- an item in range is so with other tags in range for the same roles
retagged_in_range : (v : ℕ) (F G : ℕ × Source → List ℕ) (i : Item) (ts : Map Source) → IsItem v (record i { tags = made F ts }) → AllByRecursion (λ (t : ℕ × List ℕ). IsTag v t.1) (made G ts) → IsItem v (record i { tags = made G ts })
retagged_in_range v F G i ts h k = record {
  role = h.role;
  label = h.label;
  time = h.time;
  variables = h.variables;
  delta = h.delta;
  roles = (subst (λ n. n ≤ 14) (same_count F G ts) h.roles.0, subst (λ ks. rises_from 0 ks ≡ true) (same_keys F G ts) h.roles.1);
  tags = other_tags v F G ts h.tags k;
}

-- so it is with the tags that are made, if it is with zeros for its tags
pub made_in_range : (m : Means) (v : ℕ) (current : List (Option (List ℕ))) (c : CraftItem) → IsItem v (zero_item m c) → AllByRecursion (λ (t : ℕ × List ℕ). IsTag v t.1) (map (tag_made m c current) c.tags) → IsItem v (item_by m current c)
made_in_range m v current c h k = retagged_in_range v zero_of (λ t. (tag_made m c current t).1) (plain_item m c) c.tags h k

-- crafted items in range are so with zeros for their tags
pub zeros_in_range : (m : Means) (v : ℕ) (before : List Item) (cs : List CraftItem) → AllByRecursion (IsItem v) (items_after m before cs) → AllByRecursion (λ (c : CraftItem). IsItem v (zero_item m c)) cs
zeros_in_range m v before [] h = tt
zeros_in_range m v before (c ∷ cs) h = (retagged_in_range v (λ t. (tag_made m c (commitments m.graph (before ++ plain_item m c ∷ [])) t).1) zero_of (plain_item m c) c.tags h.0 (zero_tags v c.tags), zeros_in_range m v (before ++ item_after m before c ∷ []) cs h.1)

-- there are as many as are asked for
pub items_count : (m : Means) (before : List Item) (cs : List CraftItem) → length (items_after m before cs) ≡ length cs
items_count m before [] = refl
items_count m before (c ∷ cs) = ap suc (items_count m (before ++ item_after m before c ∷ []) cs)

-- ---- cut tags

-- ---- item after item

abbrev pub known_of : Means → List Opening → List Item
known_of m know = known_item real m.sid know ∷ []

-- how far the items were made, after what is known
pub record Crafting (m : Means) (know : List Opening) (wanted : List CraftItem) (i : ℕ) (items : List Item) (current : List (Option (List ℕ))) : Type 0 where
  pub items_so : items ≡ items_after m (known_of m know) (take i wanted)
  pub current_so : current ≡ commitments m.graph (known_of m know ++ items)
  pub range_so : AllByRecursion (λ (c : CraftItem). IsItem m.cast.version (zero_item m c)) wanted → AllByRecursion (IsItem m.cast.version) items

each_at : (P : CraftItem → Type 0) (cs : List CraftItem) (i : ℕ) (d : CraftItem) → i < length cs → AllByRecursion P cs → P (get_or cs i d)
each_at P [] i d l h = absurd (omega arith)
each_at P (c ∷ cs) zero d l h = h.0
each_at P (c ∷ cs) (suc i) d l h = each_at P cs i d (omega arith) h.1

pub crafting_next : (m : Means) (know : List Opening) (wanted : List CraftItem) (i : ℕ) (items : List Item) (current current' : List (Option (List ℕ))) (d : CraftItem) (made : Item) → Crafting m know wanted i items current → i < length wanted
    → current' ≡ with_first_pairs current (committed_to real m.sid (get_or wanted i d).delta) → made ≡ item_by m current' (get_or wanted i d) → (IsItem m.cast.version (zero_item m (get_or wanted i d)) → IsItem m.cast.version made)
    → Crafting m know wanted (i + 1) (items ++ made ∷ []) current'
crafting_next m know wanted i items current current' d made t l over is range =
    let c : CraftItem = get_or wanted i d in
    let before : List Item = known_of m know ++ items in
    let plain : current' ≡ commitments m.graph (before ++ plain_item m c ∷ []) = over ∙ ap (λ o. with_first_pairs o (committed_to real m.sid c.delta)) t.current_so ∙ over_items m.graph before (plain_item m c) in
    let made_is : made ≡ item_after m before c = is ∙ ap (λ o. item_by m o c) plain ∙ item_same m before c in
    record {
      items_so =
          (λ j. t.items_so j ++ made_is j ∷ [])
          ∙ ap (λ xs. items_after m (known_of m know) (take i wanted) ++ item_after m (known_of m know ++ xs) c ∷ []) t.items_so
          ∙ sym (items_more m (known_of m know) (take i wanted) c)
          ∙ ap (items_after m (known_of m know)) (sym (take_more wanted i d l));
      current_so =
          over ∙ ap (λ o. with_first_pairs o (committed_to real m.sid c.delta)) t.current_so
          ∙ ap (λ (x : Item). with_first_pairs (commitments m.graph before) x.delta) (sym is)
          ∙ over_items m.graph before made
          ∙ ap (commitments m.graph) (append_assoc (known_of m know) items (made ∷ []));
      range_so = λ h. all-append (IsItem m.cast.version) items (made ∷ []) (t.range_so h) (range (each_at (λ (c : CraftItem). IsItem m.cast.version (zero_item m c)) wanted i d l h), tt);
    }

-- whichever role crafts, the items are these
pub role_alike : (m : Means) (r : ℕ) (before : List Item) (cs : List CraftItem) → crafted_items real (with_keys m.keys) (with_frames m.frames) m.graph (new_session m.sid m.cast r) before cs ≡ items_after m before cs
role_alike m r before [] = refl
role_alike m r before (c ∷ cs) = ap (λ l. item_after m before c ∷ l) (role_alike m r (before ++ item_after m before c ∷ []) cs)
