-- Claims of the shop that hold, and claims that don't.
use Rattle.std.specs.Prelude.{◌≡◌, ℕ, ◌<◌, Bool, true, false, not, ◌&&◌, ◌||◌, List, [], ◌∷◌, length, refl, IsTrue}
use Rattle.std.specs.List.{list_all}
use Rattle.std.specs.Bool.{beq}
use Rattle.std.proofs.Common.{arith, lit<}
use Rattle.std.proofs.lemmas.Bool.{and_parts}
use Rattle.sg_model.specs.Lists.{below, is_in}
use Rattle.sg_model.specs.Shape.{Shape, Walk, source, target}
use Rattle.sg_model.specs.Claims.{Claim, Needs, Bars, HoldsOnWalks, bit_after, bit_after_all, right_bit, IsBroken, Confined}
use Rattle.sg_model.proofs.OneBit.{confined_holds, bits_decide}
use Rattle.sg_protocol.specs.Graph.{shape}
use Rattle.sg_protocol.proofs.Spelled.{range_all}
use Rattle.sg_protocol.proofs.Examples.{shop, order, ask, offer, refuse, pass, retry, buy}

-- ---- a set of nodes with bits, checked edge by edge

-- the nodes at which the bit may be set, and those at which it may not be
abbrev pub within : List ℕ → List ℕ → ℕ → Bool → Bool
within set unset n true = is_in n set
within set unset n false = is_in n unset

-- if the edge may be come to with the bit, it leads on within the set, and the bit is right
abbrev pub edge_fits : Shape → Claim → List ℕ → List ℕ → Bool → ℕ → Bool
edge_fits g c set unset bit e = not (within set unset (source g e) bit) || (within set unset (target g e) (bit_after c bit e) && (not (is_in e c.later) || beq bit (right_bit c.kind)))

-- so it is with each edge and bit, and the start is there without the bit
abbrev pub fits : Shape → Claim → List ℕ → List ℕ → Bool
fits g c set unset = is_in 0 unset && (list_all (edge_fits g c set unset true) (below (length g.edges)) && list_all (edge_fits g c set unset false) (below (length g.edges)))

pub fits_confines : (g : Shape) (c : Claim) (set unset : List ℕ) → fits g c set unset ≡ true → Confined g c
fits_confines g c set unset h = record {
  within = within set unset;
  begins = (and_parts (is_in 0 unset) _ h).0;
  closed = λ e bit l w. (both e bit l w).0;
  right = λ e bit l w i. same bit (right_bit c.kind) (claimed (is_in e c.later) (beq bit (right_bit c.kind)) i (both e bit l w).1);
}
  where
    each : (e : ℕ) (bit : Bool) → e < length g.edges → edge_fits g c set unset bit e ≡ true
    each e true l = range_all (edge_fits g c set unset true) 0 (length g.edges) (and_parts _ _ (and_parts (is_in 0 unset) _ h).1).0 e (omega arith) (omega (arith, l))
    each e false l = range_all (edge_fits g c set unset false) 0 (length g.edges) (and_parts _ _ (and_parts (is_in 0 unset) _ h).1).1 e (omega arith) (omega (arith, l))

    then : (a b : Bool) → (not a || b) ≡ true → a ≡ true → b ≡ true
    then true b q y = q
    then false b q y = absurd (cc)

    claimed : (i b : Bool) → i ≡ true → (not i || b) ≡ true → b ≡ true
    claimed true b y q = q
    claimed false b y q = absurd (cc)

    same : (a b : Bool) → beq a b ≡ true → a ≡ b
    same true true q = refl
    same false false q = refl
    same true false q = absurd (cc)
    same false true q = absurd (cc)

    both : (e : ℕ) (bit : Bool) → e < length g.edges → within set unset (source g e) bit ≡ true → (within set unset (target g e) (bit_after c bit e) ≡ true) × ((not (is_in e c.later) || beq bit (right_bit c.kind)) ≡ true)
    both e bit l w = and_parts _ _ (then (within set unset (source g e) bit) _ (each e bit l) w)

-- ---- claims of the shop that hold

-- whoever accepts was made an offer since the last retry
abbrev accept_needs_offer : Claim
accept_needs_offer = record { kind = Needs; later = buy ∷ []; earlier = offer ∷ []; since = retry ∷ [] }

accepts_have_offers : HoldsOnWalks (shape shop) accept_needs_offer
accepts_have_offers = confined_holds (shape shop) accept_needs_offer (fits_confines (shape shop) accept_needs_offer (3 ∷ 4 ∷ 7 ∷ []) (0 ∷ 1 ∷ 2 ∷ 5 ∷ 6 ∷ []) refl)

-- each offer has an ask of its own
abbrev offers_own_ask : Claim
offers_own_ask = record { kind = Needs; later = offer ∷ []; earlier = ask ∷ []; since = offer ∷ [] }

offers_have_asks : HoldsOnWalks (shape shop) offers_own_ask
offers_have_asks = confined_holds (shape shop) offers_own_ask (fits_confines (shape shop) offers_own_ask (2 ∷ 5 ∷ 6 ∷ []) (0 ∷ 1 ∷ 3 ∷ 4 ∷ 7 ∷ []) refl)

-- once the warehouse refuses nothing is accepted
abbrev refuse_bars_accept : Claim
refuse_bars_accept = record { kind = Bars; later = buy ∷ []; earlier = refuse ∷ []; since = [] }

none_accepts_refused : HoldsOnWalks (shape shop) refuse_bars_accept
none_accepts_refused = confined_holds (shape shop) refuse_bars_accept (fits_confines (shape shop) refuse_bars_accept (5 ∷ 6 ∷ []) (0 ∷ 1 ∷ 2 ∷ 3 ∷ 4 ∷ 7 ∷ []) refl)

-- ---- claims of the shop that don't hold, with the walk that shows it

-- order, ask, offer, pass, retry and ask lead to the node of the next offer
abbrev to_second_offer : List ℕ
to_second_offer = order ∷ ask ∷ offer ∷ pass ∷ retry ∷ ask ∷ []

follows_to_second : Walk (shape shop) 0 to_second_offer
follows_to_second = (lit< tt, refl, (lit< tt, refl, (lit< tt, refl, (lit< tt, refl, (lit< tt, refl, (lit< tt, refl, tt))))))

-- a claim of offers that has the wrong bit there is broken
breaks : (c : Claim) → bit_after_all c false to_second_offer ≡ not (right_bit c.kind) → IsTrue (is_in offer c.later) → IsBroken (shape shop) c
breaks c bit later = record {
  node = 2;
  reached = record { walk = to_second_offer; follows = follows_to_second; ends = refl; has_bit = bit };
  label = offer;
  is_edge = lit< tt;
  leaves = refl;
  is_later = later;
}

-- there is at most one offer
abbrev one_offer : Claim
one_offer = record { kind = Bars; later = offer ∷ []; earlier = offer ∷ []; since = [] }

two_offers : IsBroken (shape shop) one_offer
two_offers = breaks one_offer refl refl

not_one_offer : HoldsOnWalks (shape shop) one_offer → ⊥
not_one_offer h = (bits_decide (shape shop) one_offer).0 h two_offers

-- each offer has an order of its own
abbrev offers_own_order : Claim
offers_own_order = record { kind = Needs; later = offer ∷ []; earlier = order ∷ []; since = offer ∷ [] }

offer_without_order : IsBroken (shape shop) offers_own_order
offer_without_order = breaks offers_own_order refl refl

not_own_order : HoldsOnWalks (shape shop) offers_own_order → ⊥
not_own_order h = (bits_decide (shape shop) offers_own_order).0 h offer_without_order
