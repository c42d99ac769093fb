use Rattle.std.proofs.Common.{arith, sym, ◌∙◌, subst, inl, inr, ⊎_elim, ◌≡◌, ◌⊎◌, ◌≤◌, ℕ, List, length, Contains, eqb→eq, refl, eqb-true, true-eqb, eq-eqb, true≢false, ap}
use Rattle.std.specs.Prelude.{Ok}
use Rattle.std.proofs.lemmas.Bool.{eqb-false}
use Rattle.sg_ledger.specs.Format.{pair_of}
use Rattle.sg_ledger.proofs.SlotBySlot.{slot_read, slot_refused}
use Rattle.sg_ledger.proofs.slots.read_slots.Goals as goal

pub loop-slot-preserved : goal.loop-slot-preserved
loop-slot-preserved c =
    let e = c.in-Ok-true.ensures in
    let good = c.in-Ok-true.field-0-test in
    record {
      within = omega (arith, c.loop-slot.invariant.within, c.loop-slot-test.true);
      so_far = slot_read c.args.file.now c.loop-slot.slot c.loop-slot.joins.keys c.loop-slot.invariant.so_far
          _ c.read_slot.new.joins.keys c.slot_bytes.ensures.slot
          (λ is_open. sym (eqb-true _ _ (e.next good is_open)) ∙ c.len.ensures.len)
          (e.role good) (e.absent good) (e.added good) (λ is_shut. (e.shut is_shut).1);
    }

pub returns-in-Ok-false-clause-bad : goal.returns-in-Ok-false-clause-bad
returns-in-Ok-false-clause-bad c =
    let bad = c.in-Ok-false.ensures.bad (ap Ok c.in-Ok-false.field-0-test) in
    slot_refused c.args.file.now c.loop-slot.slot c.loop-slot.joins.keys c.loop-slot.invariant.so_far
    c.slot_bytes.result.now c.slot_bytes.ensures.slot (omega (arith, c.loop-slot-test.true)) bad.0
    (⊎_elim (λ role. inl role)
    (λ rest. ⊎_elim (λ twice. inr (inl twice))
    (λ behind. inr (inr (λ next. eqb-false _ _ behind (c.len.ensures.len ∙ sym next)))) rest)
    bad.1)
