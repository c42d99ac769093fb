-- What a function that reads owes the definition of its construct.
use Rattle.std.specs.Prelude.{◌≡◌, ℕ, List, drop, Result, Ok, Err}
use Rattle.sg_base.specs.Reading.{Cursor}
use Rattle.sg_protocol.specs.Reading.{Read, Reader}
use Rattle.sg_frame.specs.declared.fault.DecodeFault.{DecodeFault}
use Rattle.sg_frame.specs.declared.fault.DecodeFault.TheVariants as faults
use Rattle.sg_frame.specs.declared.fault.FrameStop.{FrameStop}
use Rattle.sg_frame.specs.declared.fault.FrameStop.TheVariants.{Malformed, OutOfMemory}

-- the bytes from the offset on
abbrev pub left : Cursor → List ℕ
left p = drop p.at p.bytes

-- reading stopped where the definition says, or memory ran out
abbrev pub StopsWith : {A : Type 0} → FrameStop → Result (Read A) ℕ → Type 0
StopsWith OutOfMemory read = Unit {0}
StopsWith (Malformed at) read = read ≡ Err at

-- what was read is, seen so, what the definition reads, and the offset stands after it
abbrev pub ReadsSeen : {X A : Type 0} → (X → A) → Reader A → Cursor → Cursor → Result X FrameStop → Type 0
ReadsSeen view reader old new (Ok x) = reader old.at (left old) ≡ Ok (record { value = view x; at = new.at; rest = left new })
ReadsSeen view reader old new (Err e) = StopsWith e (reader old.at (left old))

-- what was read is what the definition reads, and the offset stands after it
abbrev pub Reads : {A : Type 0} → Reader A → Cursor → Cursor → Result A FrameStop → Type 0
Reads reader old new result = ReadsSeen (λ x. x) reader old new result

-- what was read is all of the bytes, or reading stopped where the definition says, or memory ran out
abbrev pub Ends : {A : Type 0} → Result A ℕ → Result A FrameStop → Type 0
Ends read (Ok x) = read ≡ Ok x
Ends read (Err OutOfMemory) = Unit {0}
Ends read (Err (Malformed at)) = read ≡ Err at

-- the definition refuses at this offset, or memory ran out
abbrev pub Refuses : {A : Type 0} → Result A ℕ → DecodeFault → Type 0
Refuses read faults.OutOfMemory = Unit {0}
Refuses read (faults.Malformed at) = read ≡ Err at
