-- A turn as the code makes it: two draws, a frame taken out, and its fate.
use Rattle.std.proofs.Common.{◌≡◌, ℕ, zero, suc, ◌+◌, ◌%◌, ◌<◌, List, [], ◌∷◌, length, get_or, slice_get, Option, Some, Ok, Err, Result, refl, sym, ap, ◌∙◌, subst, arith}
use Rattle.std.specs.Prelude.{All, IfErr, OnOk}
use Rattle.sg_protocol.proofs.Fits.{declared_in}
use Rattle.sg_sessions.specs.Draws.{draw}
use Rattle.sg_drive.specs.Faults.{IsStopped}
use Rattle.sg_drive.specs.Generated.{Fate, fate_of, meet, take_out, turn}
use Rattle.sg_drive.specs.Going.{Going, Pending, drawing, without}
use Rattle.sg_drive.specs.Machine.{HasRoom, IsThere, Machine}
use Rattle.sg_drive.specs.declared.fault.GenerateFault.{GenerateFault}

module _ (m m1 m2 m3 : Machine) (index : ℕ) where
  module _ (one : m1 ≡ record m { going = drawing 1 m.going }) (two : m2 ≡ record m1 { going = drawing 1 m1.going }) (three : m3 ≡ record m2 { going = without index m2.going }) where
    -- the run with two draws, and the frame taken out
    abbrev out : Machine
    out = record m { going = without index (drawing 2 m.going) }

    both : m2 ≡ record m { going = drawing 2 m.going }
    both = two ∙ ap (λ (z : Machine). let y : Machine = record z { going = drawing 1 z.going } in y) one
        ∙ ap (λ n. let x : Going = record (m.going) { draws = n } in let y : Machine = record m { going = x } in y) (let z : (m.going.draws + 1) + 1 ≡ m.going.draws + 2 = omega arith in z)

    all_three : m3 ≡ out
    all_three = three ∙ ap (λ (z : Machine). let y : Machine = record z { going = without index z.going } in y) both

    room_here : HasRoom 2 500000000 m → HasRoom 2 500000002 m3
    room_here r = subst (HasRoom 2 500000002) (sym all_three) (record { start = r.start; steps = r.steps; draws = (let d = r.draws in omega (arith, d)); lost = r.lost })

    was_there : (p : Pending) → slice_get m2.going.pending index ≡ Some p → slice_get m.going.pending index ≡ Some p
    was_there p e = ap (λ (z : Machine). slice_get z.going.pending index) (sym both) ∙ e

    there_here : (p : Pending) → All (IsThere m.graph m.sessions) m.going.pending → slice_get m2.going.pending index ≡ Some p → IsThere m3.graph m3.sessions p
    there_here p a e = subst (λ (z : Machine). IsThere z.graph z.sessions p) (sym all_three) (declared_in Pending (IsThere m.graph m.sessions) m.going.pending index p a (was_there p e))

    -- the frame meets its fate
    met : (drawn : ℕ) (p : Pending) (fate : Fate) → index ≡ draw m.seed m.going.draws % length m.going.pending → drawn ≡ draw m1.seed m1.going.draws → slice_get m2.going.pending index ≡ Some p → fate ≡ fate_of p.count (drawn % 16)
        → record m3 { going = meet m3.seed m3.graph p fate m3.going } ≡ record m { going = turn m.seed m.graph m.going }
    met drawn p fate at d e f =
        let next : drawn ≡ draw m.seed (m.going.draws + 1) = d ∙ ap (λ (z : Machine). draw z.seed z.going.draws) one in
        let it : slice_get m.going.pending (draw m.seed m.going.draws % length m.going.pending) ≡ Some p = ap (λ k. slice_get m.going.pending k) (sym at) ∙ was_there p e in
        ap (λ (z : Machine). let y : Machine = record z { going = meet z.seed z.graph p fate z.going } in y) all_three
        ∙ ap (λ (z : Fate). let y : Machine = record m { going = meet m.seed m.graph p z (without index (drawing 2 m.going)) } in y) (f ∙ ap (λ k. fate_of p.count (k % 16)) next)
        ∙ ap (λ k. let y : Machine = record m { going = take_out m.seed m.graph k (Some p) m.going } in y) at
        ∙ ap (λ (o : Option Pending). let y : Machine = record m { going = take_out m.seed m.graph (draw m.seed m.going.draws % length m.going.pending) o m.going } in y) (sym it)

pub room_turned : (m m1 m2 m3 : Machine) (index : ℕ) → HasRoom 2 500000000 m → m1 ≡ record m { going = drawing 1 m.going } → m2 ≡ record m1 { going = drawing 1 m1.going } → m3 ≡ record m2 { going = without index m2.going } → HasRoom 2 500000002 m3
room_turned m m1 m2 m3 index r a b c = room_here m m1 m2 m3 index a b c r

pub frame_there : (m m1 m2 m3 : Machine) (index : ℕ) (p : Pending) → All (IsThere m.graph m.sessions) m.going.pending → m1 ≡ record m { going = drawing 1 m.going } → m2 ≡ record m1 { going = drawing 1 m1.going } → m3 ≡ record m2 { going = without index m2.going }
    → slice_get m2.going.pending index ≡ Some p → IsThere m3.graph m3.sessions p
frame_there m m1 m2 m3 index p a one two three e = there_here m m1 m2 m3 index one two three p a e

pub turn_is : {V E : Type 0} (m m1 m2 m3 : Machine) (index drawn : ℕ) (p : Pending) (fate : Fate) → index ≡ draw m.seed m.going.draws % length m.going.pending → drawn ≡ draw m1.seed m1.going.draws
    → m1 ≡ record m { going = drawing 1 m.going } → m2 ≡ record m1 { going = drawing 1 m1.going } → m3 ≡ record m2 { going = without index m2.going } → slice_get m2.going.pending index ≡ Some p → fate ≡ fate_of p.count (drawn % 16)
    → (m4 : Machine) (r : Result V E) → OnOk r (m4 ≡ record m3 { going = meet m3.seed m3.graph p fate m3.going }) → OnOk r (m4 ≡ record m { going = turn m.seed m.graph m.going })
turn_is m m1 m2 m3 index drawn p fate at d a b c e f m4 (Ok v) h = h ∙ met m m1 m2 m3 index a b c drawn p fate at d e f
turn_is m m1 m2 m3 index drawn p fate at d a b c e f m4 (Err x) h = tt

pub turn_stops : {V : Type 0} (m m1 m2 m3 : Machine) (index drawn : ℕ) (p : Pending) (fate : Fate) → index ≡ draw m.seed m.going.draws % length m.going.pending → drawn ≡ draw m1.seed m1.going.draws
    → m1 ≡ record m { going = drawing 1 m.going } → m2 ≡ record m1 { going = drawing 1 m1.going } → m3 ≡ record m2 { going = without index m2.going } → slice_get m2.going.pending index ≡ Some p → fate ≡ fate_of p.count (drawn % 16)
    → (r : Result V GenerateFault) → IfErr r (IsStopped (meet m3.seed m3.graph p fate m3.going).replay) → IfErr r (IsStopped (turn m.seed m.graph m.going).replay)
turn_stops m m1 m2 m3 index drawn p fate at d a b c e f (Ok v) h = tt
turn_stops m m1 m2 m3 index drawn p fate at d a b c e f (Err x) h = subst (λ (z : Machine). IsStopped z.going.replay x) (met m m1 m2 m3 index a b c drawn p fate at d e f) h

-- the index stays one of the list after the second draw
pub index_there : (m m1 m2 : Machine) (index : ℕ) → m1 ≡ record m { going = drawing 1 m.going } → m2 ≡ record m1 { going = drawing 1 m1.going } → index < length m.going.pending → index < length m2.going.pending
index_there m m1 m2 index one two l = subst (λ (z : Machine). index < length z.going.pending) (sym two) (subst (λ (z : Machine). index < length z.going.pending) (sym one) l)

-- what stands at an index of a list
pub got_at : (xs : List Pending) (i : ℕ) (d : Pending) → i < length xs → slice_get xs i ≡ Some (get_or xs i d)
got_at [] i d l = absurd (omega (arith, l))
got_at (x ∷ xs) zero d l = refl
got_at (x ∷ xs) (suc i) d l = got_at xs i d (omega (arith, l))
