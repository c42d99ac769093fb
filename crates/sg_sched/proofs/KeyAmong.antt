-- A pair of principals has a key, whichever of them stands first in its line.
use Rattle.std.proofs.Common.{◌≡◌, Bool, true, false, ◌&&◌, ◌||◌, List, [], ◌∷◌, bytes_eq, refl, ◌∙◌}
use Rattle.std.specs.List.{list_any}
use Rattle.sg_model.specs.Names.{Name}
use Rattle.sg_protocol.specs.Schedule.{PairKey}
use Rattle.sg_sched.specs.Keys.{is_of, has_key}
use Rattle.sg_sched.specs.Format.Items.{is_key_of}

both_ways : (p q : Bool) → p && q ≡ q && p
both_ways true true = refl
both_ways true false = refl
both_ways false true = refl
both_ways false false = refl

one_more : (a b r s : Bool) → (a || r) || (b || s) ≡ (a || b) || (r || s)
one_more true b r s = refl
one_more false true true s = refl
one_more false true false s = refl
one_more false false r s = refl

pub key_among : (one two : Name) (keys : List PairKey) → has_key one two keys ≡ list_any (is_key_of one two) keys
key_among one two [] = refl
key_among one two (k ∷ ks) =
    one_more (is_of one two k) (is_of two one k) (list_any (is_of one two) ks) (list_any (is_of two one) ks)
    ∙ (λ i. (is_of one two k || both_ways (bytes_eq two k.one) (bytes_eq one k.two) i) || key_among one two ks i)
