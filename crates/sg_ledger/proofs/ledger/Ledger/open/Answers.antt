use Rattle.std.proofs.Common.{rules, ◌≡◌, List, ℕ, length, take, sym, ◌∙◌, ap, subst}
use Rattle.sg_ledger.specs.Format.{magic, IsLedger, SlotsRepresent}
use Rattle.sg_ledger.specs.Opening.{Refuses, RefusesSlots}
use Rattle.sg_ledger.proofs.Refusals.{no_refusal, slots_refused}
use Rattle.sg_ledger.proofs.SlotBySlot.{only_joins}
use Rattle.sg_ledger.proofs.ledger.Ledger.open.Goals as goal

pub returns-in-Err-clause-represents : goal.returns-in-Err-clause-represents
returns-in-Err-clause-represents g c = λ joins file is represents. (tt, no_refusal file joins c.in-Err.fault represents (c.in-Err.ensures.refused file is))

pub returns-in-Ok-read_slots-clause-represents : goal.returns-in-Ok-read_slots-clause-represents
returns-in-Ok-read_slots-clause-represents g c = λ joins file is represents.
    let read : SlotsRepresent c.in-Ok.file.items 65536 c.in-Ok-read_slots.joins.keys = subst (λ (f : List ℕ). SlotsRepresent f 65536 c.in-Ok-read_slots.joins.keys) c.deref-2.ensures.value c.in-Ok-read_slots.ensures.joins in
    (only_joins file 65536 c.in-Ok-read_slots.joins.keys joins (subst (λ (f : List ℕ). SlotsRepresent f 65536 c.in-Ok-read_slots.joins.keys) (c.in-Ok.ensures.seen file is) read) represents.slots, tt)

pub returns-clause-refused : goal.returns-clause-refused
returns-clause-refused g c = λ file is.
    let head : take 8 c.in-Ok.file.items ≡ magic = subst (λ (f : List ℕ). take 8 f ≡ magic) c.deref.ensures.value (c.has_head.ensures.0 (let found = c.if-not-has_head.false in search rules)) in
    let ledger : IsLedger c.in-Ok.file.items = (c.in-Ok.ensures.length, head) in
    subst (λ (f : List ℕ). Refuses f c.in-Err-read_slots.fault) (c.in-Ok.ensures.seen file is)
    (slots_refused c.in-Ok.file.items c.in-Err-read_slots.fault ledger
    (subst (λ (f : List ℕ). RefusesSlots f c.in-Err-read_slots.fault) c.deref-2.ensures.value c.in-Err-read_slots.ensures.bad))

pub returns-clause-represents : goal.returns-clause-represents
returns-clause-represents g c = λ joins file is represents. (tt, no_refusal file joins c.in-Err-read_slots.fault represents (returns-clause-refused g c file is))
