-- The bytes of a file decide what a ledger is opened with, or why none is.
use Rattle.std.proofs.Common.{◌≡◌, inl, inr, ℕ, List, Some, Result, Ok, Err, refl, sym, ap, ◌∙◌, subst}
use Rattle.std.specs.Prelude.{unwrap_or}
use Rattle.sg_compile.specs.Laws.{Surely}
use Rattle.sg_ledger.specs.Disk.{IfSeen}
use Rattle.sg_ledger.specs.Format.{Join, IsLedger, IsFirstBadSlot, Represents}
use Rattle.sg_ledger.specs.declared.disk.Disk as Disk
use Rattle.sg_ending.specs.Ending.{Ending, NoLedger, BadSlot, DiskFailed, NoMemory}
use Rattle.sg_principal.specs.Laws.{IsOfBytes, LedgersAreOpenedByBytes, OpensLedger}
use Rattle.sg_principal.specs.Outside.{Disked, disk_of}
use Rattle.sg_principal.proofs.Slots.{joins_or_bad, none_bad, one_bad, one_list}

-- what the bytes of a file say of an opening
abbrev SaysOf : List ℕ → Result (List Join) Ending → Type 0
SaysOf bytes (Ok joins) = Represents bytes joins
SaysOf bytes (Err NoLedger) = ¬ IsLedger bytes
SaysOf bytes (Err (BadSlot slot)) = IsLedger bytes × IsFirstBadSlot bytes slot
SaysOf bytes (Err ending) = ⊥

one : (bytes : List ℕ) (x y : Result (List Join) Ending) → SaysOf bytes x → SaysOf bytes y → x ≡ y
one bytes (Ok a) (Ok b) h k = ap Ok (one_list bytes a b h k)
one bytes (Ok a) (Err NoLedger) h k = absurd (k h.ledger)
one bytes (Ok a) (Err (BadSlot n)) h k = absurd (none_bad bytes a n h k.1)
one bytes (Err NoLedger) (Ok b) h k = absurd (h k.ledger)
one bytes (Err NoLedger) (Err NoLedger) h k = refl
one bytes (Err NoLedger) (Err (BadSlot n)) h k = absurd (h k.0)
one bytes (Err (BadSlot m)) (Ok b) h k = absurd (none_bad bytes b m k h.1)
one bytes (Err (BadSlot m)) (Err NoLedger) h k = absurd (k h.0)
one bytes (Err (BadSlot m)) (Err (BadSlot n)) h k = ap (λ (slot : ℕ). Err (BadSlot slot)) (one_bad bytes m n h.1 k.1)
one bytes (Ok a) (Err _) h k = absurd k
one bytes (Err NoLedger) (Err _) h k = absurd k
one bytes (Err (BadSlot m)) (Err _) h k = absurd k
one bytes (Err _) y h k = absurd h

module _ (disk : Disked) (bytes : List ℕ) (seen : disk.seen ≡ Some bytes) where
  said : (disk' : Disked) (x : Result (List Join) Ending) → OpensLedger disk disk' x → IsOfBytes x → SaysOf bytes x
  said disk' (Ok joins) h is = h bytes seen
  said disk' (Err NoLedger) h is = h.0 bytes seen
  said disk' (Err (BadSlot slot)) h is = h.0 bytes seen
  said disk' (Err DiskFailed) h is = is.0 refl
  said disk' (Err NoMemory) h is = is.1 refl
  said disk' (Err _) h is = h

  if_seen : (P : List ℕ → Type 0) → P bytes → IfSeen disk.seen P
  if_seen P here file is = subst P (ap (λ o. unwrap_or o file) (sym seen ∙ is)) here

  some_opening : Surely ((x : Result (List Join) Ending) × IsOfBytes x × OpensLedger disk disk x)
  some_opening none =
      none (
        Err NoLedger,
        (λ e. cc, λ e. cc),
        (
          if_seen (λ file. ¬ IsLedger file) (λ ledger. joins_or_bad bytes ledger (λ found. elim found [
            | inl joins ↦ none (Ok joins.0, (λ e. cc, λ e. cc), if_seen (λ file. Represents file joins.0) joins.1)
            | inr slot ↦ none (Err (BadSlot slot.0), (λ e. cc, λ e. cc), (if_seen (λ file. IsLedger file × IsFirstBadSlot file slot.0) (ledger, slot.1), refl))
          ])),
          refl,
        ),
      )

pub openings_by_bytes : {D : Type 0} (g : Disk.Ghosts D) → LedgersAreOpenedByBytes g
openings_by_bytes g = record {
  once = λ bytes a a' b b' x y seen_a seen_b h k of_x of_y.
      one bytes x y (said (disk_of g a) bytes seen_a (disk_of g a') x h of_x) (said (disk_of g b) bytes seen_b (disk_of g b') y k of_y);
  always = λ bytes disk seen. some_opening (disk_of g disk) bytes seen;
}
