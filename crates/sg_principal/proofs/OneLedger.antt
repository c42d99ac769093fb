-- The bytes of a file decide whether a ledger is made.
use Rattle.std.proofs.Common.{◌≡◌, ◌≢◌, ℕ, inl, inr, false, List, [], ◌∷◌, Some, codes, refl, sym, ap, ◌∙◌}
use Rattle.sg_ledger.specs.declared.disk.Disk as Disk
use Rattle.sg_ending.specs.Ending.{Ending, Written, LedgerNotEmpty, WriteFailed, DiskFailed, NoMemory}
use Rattle.sg_ending.specs.Laws.{asked, is_of_outside}
use Rattle.sg_ending.specs.Output.{Output, Writes}
use Rattle.sg_principal.specs.Laws.{LedgersAreMadeByBytes, asked_by}
use Rattle.sg_principal.specs.Ledgers.{LacksRoom, Makes}
use Rattle.sg_principal.specs.Outside.{Disked, disk_of}

is_written : (old new : Output) (text : List ℕ) (e : Ending) → Writes old new text e → asked e ≡ Written
is_written old new text Written h = refl
is_written old new text WriteFailed h = refl
is_written old new text _ h = absurd h

has_bytes : (bytes : List ℕ) → bytes ≢ [] → asked_by bytes ≡ LedgerNotEmpty
has_bytes [] h = absurd (h refl)
has_bytes (b ∷ bytes) h = refl

lacks_room : (disk disk' : Disked) (bytes : List ℕ) (e : Ending) → disk.seen ≡ Some bytes → LacksRoom disk disk' e → is_of_outside e ≡ false → e ≢ DiskFailed → asked e ≡ asked_by bytes
lacks_room disk disk' bytes LedgerNotEmpty seen (some, left, same) p d = sym (has_bytes bytes (some bytes seen))
lacks_room disk disk' bytes DiskFailed seen h p d = absurd (d refl)
lacks_room disk disk' bytes NoMemory seen h p d = absurd (cc)
lacks_room disk disk' bytes _ seen h p d = absurd h

by_bytes : (file bytes : List ℕ) (old new : Output) (disk disk' : Disked) (e : Ending) → disk.seen ≡ Some bytes → Makes file old new disk disk' e → is_of_outside e ≡ false → e ≢ DiskFailed → asked e ≡ asked_by bytes
by_bytes file bytes old new disk disk' e seen (bound, inl ((empty, left, same), w)) p d = is_written old new (codes "ledger made\n") e w ∙ sym (ap asked_by (empty bytes seen))
by_bytes file bytes old new disk disk' e seen (bound, inr (same, lacks)) p d = lacks_room disk disk' bytes e seen lacks p d

pub ledgers_by_bytes : {D : Type 0} (g : Disk.Ghosts D) → LedgersAreMadeByBytes g
ledgers_by_bytes {D} g file bytes old new disk disk' e known h p d = by_bytes file bytes old new (disk_of g disk) (disk_of g disk') e known h p d
