-- Pairs of names, compared name by name.
use Rattle.std.proofs.Common.{◌≡◌, Bool, true, false, ◌&&◌, ◌||◌, List, [], ◌∷◌, ◌++◌, map, refl, sym, ap, ◌∙◌, if◌then◌else◌}
use Rattle.std.specs.List.{list_any}
use Rattle.std.proofs.lemmas.List.{map_push}
use Rattle.indexmap.specs.IndexSet.{insert_key}
use Rattle.sg_model.specs.Names.{Name}
use Rattle.sg_protocol.specs.Schedule.{PairKey}
use Rattle.sg_sched.specs.Keys.{is_of, has_key}
use Rattle.sg_sched.specs.declared.keys.Both.{Both}
use Rattle.sg_sched.specs.contracts.keys.BothPartialEq.TheImpl.{eq-value}
use Rattle.sg_base.proofs.SameName.{same_is}

-- the two principals of a key
abbrev pub both_of : PairKey → Both
both_of k = record { one = k.one; two = k.two }

abbrev pub same_both : Both → Both → Bool
same_both a b = eq-value.it a b

pub same_both_is : (one two : Name) (k : PairKey) → same_both (record { one = one; two = two }) (both_of k) ≡ is_of one two k
same_both_is one two k = λ i. same_is one i k.one && same_is two i k.two

-- the set has a pair if a key of the list is of it
pub any_both : (one two : Name) (keys : List PairKey) → list_any (same_both (record { one = one; two = two })) (map both_of keys) ≡ list_any (is_of one two) keys
any_both one two [] = refl
any_both one two (k ∷ ks) = λ i. same_both_is one two k i || any_both one two ks i

or_left : (p q : Bool) → p || q ≡ false → p ≡ false
or_left false q h = refl
or_left true q h = h

-- the pair of a key that is not there goes last
pub both_new : (keys : List PairKey) (k : PairKey) → has_key k.one k.two keys ≡ false → insert_key same_both (map both_of keys) (both_of k) ≡ map both_of (keys ++ k ∷ [])
both_new keys k absent =
    let e : list_any (same_both (both_of k)) (map both_of keys) ≡ false = any_both k.one k.two keys ∙ or_left _ _ absent in
    ap (λ b. if b then map both_of keys else map both_of keys ++ both_of k ∷ []) e ∙ sym (map_push both_of keys k)
