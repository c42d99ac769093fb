use Rattle.std.proofs.Common.{◌≡◌, ◌<◌, [], length, Ok, Err, sym, ap, ◌∙◌, arith}
use Rattle.std.proofs.lemmas.List.{length-set, set-set, get_or_default}
use Rattle.sg_stream.specs.Framed.{BeginsBad}
use Rattle.sg_stream.specs.Link.{IsPart, kept_piece}
use Rattle.sg_stream.proofs.Steps.{none_part, others_same, all_parts, frame_taken, bad_closed, no_kept}
use Rattle.sg_stream.proofs.incoming.Incoming.next_left.Goals as goal

pub invariant_of-self : goal.invariant_of-self
invariant_of-self c =
    let kept = no_kept c.self.inside.last c.self.inside.kept.items (rw (← c.self.view_is) at c.requires) in
    (rw length-set c.self.invariant.0, c.self.invariant.1, others_same c.self.inside.readers.items c.self.inside.last c.next.new.self c.self.invariant.2, (λ some. absurd (some kept)))

pub invariant_of-self-in-Ok-None : goal.invariant_of-self-in-Ok-None
invariant_of-self-in-Ok-None c =
    let kept = no_kept c.self.inside.last c.self.inside.kept.items (rw (← c.self.view_is) at c.requires) in
    (rw length-set c.self.invariant.0, c.self.invariant.1, others_same c.self.inside.readers.items c.self.inside.last c.next.new.self c.self.invariant.2, (λ some. absurd (some kept)))

pub invariant_of-self-in-Err-BadLength : goal.invariant_of-self-in-Err-BadLength
invariant_of-self-in-Err-BadLength c =
    let kept = no_kept c.self.inside.last c.self.inside.kept.items (rw (← c.self.view_is) at c.requires) in
    let once = set-set c.self.inside.readers.items c.self.inside.last c.next.new.self c.new.result in
    (rw (once, length-set) c.self.invariant.0, c.self.invariant.1, rw once (others_same c.self.inside.readers.items c.self.inside.last c.new.result c.self.invariant.2), (λ some. absurd (some kept)))

pub invariant_of-self-in-Err-OutOfMemory : goal.invariant_of-self-in-Err-OutOfMemory
invariant_of-self-in-Err-OutOfMemory c =
    let kept = no_kept c.self.inside.last c.self.inside.kept.items (rw (← c.self.view_is) at c.requires) in
    (rw length-set c.self.invariant.0, c.self.invariant.1, others_same c.self.inside.readers.items c.self.inside.last c.next.new.self c.self.invariant.2, (λ some. absurd (some kept)))

pub returns-in-Ok-Some-clause-first : goal.returns-in-Ok-Some-clause-first
returns-in-Ok-Some-clause-first c = λ ps.
    let within : c.self.inside.last < length c.self.inside.readers.items = omega (arith, c.self.invariant.1, c.self.invariant.0) in
    let kept : kept_piece c.self.inside.last c.self.inside.kept.items ≡ [] = rw (← c.self.view_is) at c.requires in
    let here = get_or_default c.self.inside.readers.items c.self.inside.last [] c.index_mut.result.now within ∙ sym c.index_mut.ensures.value in
    let is = rw c.in-Ok-Some.field-0-is at c.in-Ok-Some.ensures.frame in
    let taken = rw c.in-Ok-Some.field-0-is at c.in-Ok-Some.ensures.taken in
    rw (← c.self.view_is, kept, c.in-Ok-Some.field-0-is) (frame_taken c.self.inside.readers.items c.self.inside.last c.in-Ok-Some.frame.items c.next.new.self ps within c.self.invariant.2 is (here ∙ taken))

pub returns-in-Ok-None-clause-idle : goal.returns-in-Ok-None-clause-idle
returns-in-Ok-None-clause-idle c =
    let within : c.self.inside.last < length c.self.inside.readers.items = omega (arith, c.self.invariant.1, c.self.invariant.0) in
    let none = c.next.ensures.none.0 (c.in-Ok-None.is ∙ ap Ok c.in-Ok-None.field-0-is) in
    let is : IsPart c.index_mut.result.now = record { no_message = none.0; no_bad = none.1 } in
    record {
      parts = all_parts c.self.inside.readers.items c.self.inside.last c.next.new.self within c.self.invariant.2 (rw (rw c.in-Ok-None.field-0-is at c.in-Ok-None.ensures.kept) is);
      none_kept = rw (← c.self.view_is) at c.requires;
    }

pub returns-in-Err-BadLength-clause-bad : goal.returns-in-Err-BadLength-clause-bad
returns-in-Err-BadLength-clause-bad c = λ conn is_known ps.
    let within : c.self.inside.last < length c.self.inside.readers.items = omega (arith, c.self.invariant.1, c.self.invariant.0) in
    let kept : kept_piece c.self.inside.last c.self.inside.kept.items ≡ [] = rw (← c.self.view_is) at c.requires in
    let here = get_or_default c.self.inside.readers.items c.self.inside.last [] c.index_mut.result.now within ∙ sym c.index_mut.ensures.value in
    let once = set-set c.self.inside.readers.items c.self.inside.last c.next.new.self c.new.result in
    let same : c.self.inside.last ≡ conn = cc in
    let bad : BeginsBad c.index_mut.result.now c.in-Err-BadLength.field-0-0 = (c.next.ensures.bad c.in-Err-BadLength.field-0-0).0 (c.in-Err-BadLength.is ∙ ap Err c.in-Err-BadLength.field-0-is) in
    rw (← c.self.view_is, kept, ← same, once, c.new.ensures) (bad_closed c.self.inside.readers.items c.self.inside.last c.in-Err-BadLength.field-0-0 ps within c.self.invariant.2 (rw here bad))

pub returns-in-Err-BadLength-clause-idle_bad : goal.returns-in-Err-BadLength-clause-idle_bad
returns-in-Err-BadLength-clause-idle_bad c = λ conn is_known.
    let within : c.self.inside.last < length c.self.inside.readers.items = omega (arith, c.self.invariant.1, c.self.invariant.0) in
    let once = set-set c.self.inside.readers.items c.self.inside.last c.next.new.self c.new.result in
    record {
      parts = rw once (all_parts c.self.inside.readers.items c.self.inside.last c.new.result within c.self.invariant.2 (rw c.new.ensures none_part));
      none_kept = rw (← c.self.view_is) at c.requires;
    }
