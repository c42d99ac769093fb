-- What a trace, and the table of traces, make of an event.
use Rattle.std.proofs.Common.{◌≡◌, ℕ, zero, suc, map, List, [], ◌∷◌, ◌++◌, refl, sym, ◌∙◌, ap}
use Rattle.std.specs.Prelude.{Some, Result, Ok, Err, OnOk, OnErr, slice_get}
use Rattle.std.proofs.lemmas.List.{map-append}
use Rattle.indexmap.specs.IndexMap.{set_value_at}
use Rattle.sg_certify.specs.Events.{pair_of}
use Rattle.sg_certify.specs.declared.shown.ShownEvent.{ShownEvent}
use Rattle.sg_protocol.specs.Calls.{Event, sid_of}
use Rattle.sg_certify.specs.Adding.{GoesAt, with_shown}
use Rattle.sg_certify.specs.Traces.{Trace}
use Rattle.sg_certify.proofs.Going.{Entry}

-- ---- results

pub on_ok : {A E : Type 0} (P Q : Type 0) (r : Result A E) → (P → Q) → OnOk r P → OnOk r Q
on_ok P Q (Ok x) f h = f h
on_ok P Q (Err e) f h = tt

pub on_err : {A E : Type 0} (P Q : Type 0) (r : Result A E) → (P → Q) → OnErr r P → OnErr r Q
on_err P Q (Ok x) f h = tt
on_err P Q (Err e) f h = f h

-- ---- an event

pub shown_more : (old : List (Event × List ℕ)) (was now : List ShownEvent) (x : ShownEvent) → map pair_of was ≡ old → now ≡ was ++ x ∷ [] → map pair_of now ≡ old ++ pair_of x ∷ []
shown_more old was now x seen more = ap (map pair_of) more ∙ map-append pair_of was (x ∷ []) ∙ ap (λ l. l ++ pair_of x ∷ []) seen

-- ---- the table

-- the value at an index is that of the entry there
pub value_at_index : (es : List Entry) (i : ℕ) (sid : List ℕ) (c v : Trace) → slice_get es i ≡ Some (sid, c) → slice_get (map (λ (e : Entry). e.1) es) i ≡ Some v → v ≡ c
value_at_index [] i sid c v at there = absurd (cc)
value_at_index (x ∷ xs) zero sid c v at there = (let q : x ≡ (sid, c) = cc in let w : x.1 ≡ v = cc in sym w ∙ ap (λ (z : Entry). z.1) q)
value_at_index (x ∷ xs) (suc i) sid c v at there = value_at_index xs i sid c v at there

pub goes_at_index : (e : Event) (walk : List ℕ) (es : List Entry) (i : ℕ) (c old new : Trace) → slice_get es i ≡ Some (sid_of e, c) → slice_get (map (λ (e : Entry). e.1) es) i ≡ Some old → new ≡ with_shown old e walk → GoesAt e walk es (set_value_at es i new) i
goes_at_index e walk es i c old new at there adds = record {
  trace = c;
  is_old = at;
  is_new = ap (set_value_at es i) (adds ∙ ap (λ (z : Trace). with_shown z e walk) (value_at_index es i (sid_of e) c old at there));
}

-- the value at an index put there again
pub same_value : (es : List Entry) (i : ℕ) (old new : Trace) → slice_get (map (λ (e : Entry). e.1) es) i ≡ Some old → new ≡ old → set_value_at es i new ≡ es
same_value es i old new at is = ap (set_value_at es i) is ∙ put_again es i at
  where
    put_again : (es : List Entry) (i : ℕ) → slice_get (map (λ (e : Entry). e.1) es) i ≡ Some old → set_value_at es i old ≡ es
    put_again [] i at = refl
    put_again (x ∷ xs) zero at = (let same : x.1 ≡ old = cc in ap (λ (z : Trace). (x.0, z) ∷ xs) (sym same))
    put_again (x ∷ xs) (suc i) at = ap (λ ys. x ∷ ys) (put_again xs i at)
