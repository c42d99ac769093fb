-- What each part of a line of a form is.
use Rattle.std.proofs.Common.{◌≡◌, ℕ, ◌≤◌, Bool, true, false, ◌&&◌, List, [], ◌∷◌, length, refl, arith, IsTrue, get_or}
use Rattle.std.specs.Prelude.{◌<◌, nat_le, bytes_eq, not}
use Rattle.std.specs.List.{list_all}
use Rattle.std.specs.Option.{option_map_or}
use Rattle.std.proofs.lemmas.Bool.{leb-true}
use Rattle.std.proofs.lemmas.List.Folds.{list_all_at}
use Rattle.sg_model.specs.Names.{Name, is_name, is_letter, is_name_byte}
use Rattle.sg_sched.specs.Format.LineContents.{Assignment, Committed, ItemContent, CraftContent}
use Rattle.sg_sched.specs.Format.Forms.{is_assignment, is_committed, are_committed, is_source, is_tag, is_item, is_join, is_craft, are_names, is_wide}
use Rattle.sg_sched.specs.Format.Values.{is_value}

left : (p q : Bool) → p && q ≡ true → p ≡ true
left true q h = refl
left false q h = absurd (cc)

right : (p q : Bool) → p && q ≡ true → q ≡ true
right true q h = h
right false q h = absurd (cc)

-- each one of those that all pass
pub each : {A : Type 0} (p : A → Bool) (xs : List A) (i : ℕ) (d : A) → list_all p xs ≡ true → i < length xs → p (get_or xs i d) ≡ true
each p xs i d h lt = by (p (get_or xs i d)) refl
  where
    by : (b : Bool) → p (get_or xs i d) ≡ b → p (get_or xs i d) ≡ true
    by true e = e
    by false e = let no = list_all_at p xs i d lt e in absurd (cc)

pub assigned_value : (v : Assignment) → IsTrue (is_assignment v) → IsTrue (is_value v.value)
assigned_value v h = right (is_name v.variable) (is_value v.value) h

pub committed_value : (c : Committed) → IsTrue (is_committed c) → IsTrue (is_value c.value)
committed_value c h = right (is_name c.variable) (is_value c.value) (left (is_name c.variable && is_value c.value) (is_wide c.step) h)

few_committed : (cs : List Committed) → are_committed cs ≡ true → (length cs ≤ 32) × (list_all is_committed cs ≡ true)
few_committed cs h = (leb-true (length cs) 32 (left (nat_le (length cs) 32) (list_all is_committed cs) h), right (nat_le (length cs) 32) (list_all is_committed cs) h)

-- the lists of an item
pub record ItemParts (i : ItemContent) : Type 0 where
  pub delta : IsTrue (list_all is_committed i.delta)
  pub few : length i.delta ≤ 32
  pub tags : length i.tags ≤ 14

pub item_parts : (i : ItemContent) → IsTrue (is_item i) → ItemParts i
item_parts i h =
    let a = is_name i.label && nat_le 1 i.time && nat_le i.time 1000000 in
    let b = are_committed i.delta in
    let c = nat_le (length i.tags) 14 in
    let d = list_all is_tag i.tags in
    let abc : a && b && c ≡ true = left (a && b && c) d h in
    let e = few_committed i.delta (right a b (left (a && b) c abc)) in
    record { delta = e.1; few = e.0; tags = leb-true (length i.tags) 14 (right (a && b) c abc) }

-- the lists of a craft
pub record CraftParts (c : CraftContent) : Type 0 where
  pub know : IsTrue (list_all is_committed c.know)
  pub items : IsTrue (list_all is_item c.items)
  pub openings : IsTrue (list_all is_committed c.openings)

pub craft_parts : (c : CraftContent) → IsTrue (is_craft c) → CraftParts c
craft_parts c h =
    let a = are_names (c.session ∷ c.from ∷ c.to ∷ []) && not (bytes_eq c.from c.to) && option_map_or is_join c.join true in
    let k = list_all is_committed c.know in
    let n = nat_le 1 (length c.items) in
    let m = nat_le (length c.items) 65535 in
    let i = list_all is_item c.items in
    let o = are_committed c.openings in
    let s = is_source c.seal in
    let all : a && k && n && m && i && o ≡ true = left (a && k && n && m && i && o) s h in
    let upto : a && k && n && m && i ≡ true = left (a && k && n && m && i) o all in
    let four : a && k && n && m ≡ true = left (a && k && n && m) i upto in
    record {
      know = right a k (left (a && k) n (left (a && k && n) m four));
      items = right (a && k && n && m) i upto;
      openings = (few_committed c.openings (right (a && k && n && m && i) o all)).1;
    }

-- a name has at most 32 bytes
pub name_few : (n : Name) → IsTrue (is_name n) → length n ≤ 32
name_few [] h = absurd (cc)
name_few (c ∷ cs) h =
    let few : length cs ≤ 31 = leb-true (length cs) 31 (right (is_letter c && list_all is_name_byte cs) (nat_le (length cs) 31) h) in
    omega (arith, few)
