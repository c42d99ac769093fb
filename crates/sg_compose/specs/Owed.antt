-- What a function that expands owes the definition.
use Rattle.std.specs.Prelude.{◌≡◌, Result, Err}
use Rattle.sg_compose.specs.declared.fault.ComposeFault.{ComposeFault}
use Rattle.sg_compose.specs.declared.fault.ComposeFault.TheVariants.{OutOfMemory}

-- the definition has this fault, or memory ran out
abbrev pub Refuses : {A : Type 0} → Result A ComposeFault → ComposeFault → Type 0
Refuses expanded OutOfMemory = Unit {0}
Refuses expanded e = expanded ≡ Err e
