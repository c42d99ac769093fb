-- How often calls of connections failed, and of which call it was.
use Rattle.std.specs.Prelude.{ℕ, ◌+◌, ◌-◌, ◌^◌, ◌<◌, ◌≤◌, ◌⊎◌}
use Rattle.sg_base.specs.Outside.{HasRisen}
use Rattle.sg_stream.specs.declared.conns.ConnFaults.{ConnFaults}

-- none of them failed
abbrev pub no_faults : ConnFaults
no_faults = record { opens = 0; takes = 0; connects = 0; gives = 0 }

-- how often one of them failed
abbrev pub total : ConnFaults → ℕ
total f = f.opens + f.takes + f.connects + f.gives

-- it failed to wait at an address, to take a piece, to make a connection or to give bytes, or so many pieces made no message whole, which is the link's own count; or the counts stand together where no rise shows
abbrev pub OneRose : (old new : ConnFaults) → (own own' : ℕ) → Type 0
OneRose old new own own' =
    (old.opens < new.opens) ⊎ (old.takes < new.takes) ⊎ (old.connects < new.connects) ⊎ (old.gives < new.gives) ⊎ (own < own') ⊎ (2 ^ 64 - 1 ≤ total old + own)

-- If the count of a link over connections rose, one of these rose
abbrev pub RisesAreOfOneCall : Type 0
RisesAreOfOneCall = (old new : ConnFaults) (own own' : ℕ) → HasRisen (total old + own) (total new + own') → OneRose old new own own'
