-- A wait without a limit gives the first delivery of all.
use Rattle.std.proofs.Common.{◌≡◌, ℕ, false, List, [], ◌∷◌, drop, Option, Some, None, Result, Ok, Err, IfOk, OnOk, IfSome, IfNone, ap, ◌∙◌, refl}
use Rattle.std.specs.Option.{option_map}
use Rattle.sg_base.specs.Memory.{counted}
use Rattle.sg_wait.specs.Memory.{TimedLinkHeld}
use Rattle.sg_wait.specs.Waiting.{Coming, Delivery, Silence, received, deliveries_of}

-- the first delivery is taken off
deliveries_of-received : (cs : List Coming) → deliveries_of (received false cs).1 ≡ drop 1 (deliveries_of cs)
deliveries_of-received [] = refl
deliveries_of-received (Delivery bytes ∷ cs) = refl
deliveries_of-received (Silence ∷ cs) = deliveries_of-received cs

-- what is given is the first delivery
first-received : (cs : List Coming) (bytes : List ℕ) → Some bytes ≡ (received false cs).0 → deliveries_of cs ≡ bytes ∷ drop 1 (deliveries_of cs)
first-received [] bytes h = cc
first-received (Delivery first ∷ cs) bytes h = cc
first-received (Silence ∷ cs) bytes h = first-received cs bytes h

-- if nothing is given, there is no delivery
end-received : (cs : List Coming) → None ≡ (received false cs).0 → deliveries_of cs ≡ []
end-received [] h = refl
end-received (Delivery first ∷ cs) h = cc
end-received (Silence ∷ cs) h = end-received cs h

-- of an answer: what is given is the first delivery
pub first_of : {B E : Type 0} (items : B → List ℕ) (r : Result (Option B) E) (cs : List Coming)
    → IfOk r (λ found. option_map items found ≡ (received false cs).0)
    → IfOk r (λ found. IfSome found (λ b. deliveries_of cs ≡ items b ∷ drop 1 (deliveries_of cs)))
first_of items (Ok (Some b)) cs h = first-received cs (items b) h
first_of items (Ok None) cs h = tt
first_of items (Err e) cs h = tt

-- of an answer: if nothing is given, there is no delivery
pub end_of : {B E : Type 0} (items : B → List ℕ) (r : Result (Option B) E) (cs : List Coming)
    → IfOk r (λ found. option_map items found ≡ (received false cs).0)
    → IfOk r (λ found. IfNone found (deliveries_of cs ≡ []))
end_of items (Ok (Some b)) cs h = tt
end_of items (Ok None) cs h = end-received cs h
end_of items (Err e) cs h = tt

-- of an answer: the first delivery is taken off
pub left_of : {A E : Type 0} (r : Result A E) (old new : TimedLinkHeld)
    → OnOk r (new ≡ record old { coming = (received false old.coming).1; plan = counted old.plan })
    → OnOk r (deliveries_of new.coming ≡ drop 1 (deliveries_of old.coming))
left_of (Ok x) old new h = ap (λ (l : TimedLinkHeld). deliveries_of l.coming) h ∙ deliveries_of-received old.coming
left_of (Err e) old new h = tt
