-- What follows each other in a craft rises exactly if each number is greater than that before it.
use Rattle.std.proofs.Common.{◌≡◌, ℕ, suc, ◌+◌, ◌<◌, ◌≤◌, Bool, true, false, not, ◌&&◌, List, [], ◌∷◌, map, length, drop, get_or, refl, sym, ap, ◌∙◌, if◌then◌else◌}
use Rattle.std.specs.Prelude.{nat_lt, Option, None, position, bytes_eq}
use Rattle.std.specs.Option.{option_map_or}
use Rattle.std.proofs.lemmas.List.{drop_all}
use Rattle.sg_model.proofs.Small.{drop_at}
use Rattle.std.specs.List.{list_all}
use Rattle.sg_model.specs.Names.{Name}
use Rattle.sg_model.specs.Lists.{has_text, rises_from}
use Rattle.sg_sched.specs.Format.Items.{index}
use Rattle.sg_sched.specs.Format.Faults.{rise}
use Rattle.sg_sched_text.specs.Crafting.{rise_on}
use Rattle.sg_sched_text.proofs.Indices.{or_index}

no_more : (r : Bool) → r ≡ r && true
no_more true = refl
no_more false = refl

tests : (a b r s t : Bool) → (if a then (if b then (r && s) && t else true) else true) ≡ (if a && b then r && (s && t) else true)
tests true true true s t = refl
tests true true false s t = refl
tests true false r s t = refl
tests false b r s t = refl

rise_from : (rose : Bool) (least : ℕ) (ns ds : List Name)
    → rise_on rose least ns ds ≡ (if list_all (λ n. has_text n ds) ns then rose && rises_from least (map (λ n. index n ds) ns) else true)
rise_from rose least [] ds = no_more rose
rise_from rose least (n ∷ ns) ds =
    let x = index n ds in
    or_index (λ x. rise_on (rose && not (nat_lt x least)) (suc x) ns ds) true n ds
    ∙ ap (λ b. if has_text n ds then b else true) (rise_from (rose && not (nat_lt x least)) (suc x) ns ds)
    ∙ tests (has_text n ds) (list_all (λ n. has_text n ds) ns) rose (not (nat_lt x least)) (rises_from (suc x) (map (λ n. index n ds) ns))

pub rise_is : (ns ds : List Name) → rise_on true 0 ns ds ≡ rise ns ds
rise_is ns ds = rise_from true 0 ns ds

-- a name of the elements isn't declared
pub undeclared : {X : Type 0} (name_of : X → Name) (xs : List X) (ds : List Name) (i : ℕ) (x : X) (rose : Bool) (least : ℕ) → rise_on true 0 (map name_of xs) ds ≡ rise_on rose least (map name_of (drop i xs)) ds → i < length xs → x ≡ get_or xs i x
    → (t : Name) → name_of x ≡ t → None ≡ position (bytes_eq t) ds → true ≡ rise (map name_of xs) ds
undeclared {X} name_of xs ds i x rose least same within at t is none =
    let ahead = map name_of (drop (i + 1) xs) in
    sym (sym (rise_is (map name_of xs) ds) ∙ same ∙ ap (λ (ys : List X). rise_on rose least (map name_of ys) ds) (drop_at xs i x within at) ∙ ap (λ t. rise_on rose least (t ∷ ahead) ds) is
    ∙ ap (λ (o : Option ℕ). option_map_or (λ x. rise_on (rose && not (nat_lt x least)) (suc x) ahead ds) o true) (sym none))

-- no element is left
pub all_risen : {X : Type 0} (name_of : X → Name) (xs : List X) (ds : List Name) (i : ℕ) (rose : Bool) (least : ℕ) → rise_on true 0 (map name_of xs) ds ≡ rise_on rose least (map name_of (drop i xs)) ds → length xs ≤ i → rose ≡ rise (map name_of xs) ds
all_risen {X} name_of xs ds i rose least same over = sym (sym (rise_is (map name_of xs) ds) ∙ same ∙ ap (λ (ys : List X). rise_on rose least (map name_of ys) ds) (drop_all i xs over))
