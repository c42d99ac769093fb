-- What is to come on a link, for one who waits with a limit of time.
use Rattle.std.specs.Prelude.{ℕ, Bool, true, false, List, [], ◌∷◌, Option, Some, None}
pub use Rattle.sg_wait.specs.declared.coming.Coming.{Coming}
pub use Rattle.sg_wait.specs.declared.coming.Coming.TheVariants.{Delivery, Silence}

-- what a wait gives, with a limit or without one, and what is to come after it
abbrev pub received : Bool → List Coming → Option (List ℕ) × List Coming
received limited [] = (None, [])
received limited (Delivery bytes ∷ coming) = (Some bytes, coming)
received true (Silence ∷ coming) = (None, coming)
received false (Silence ∷ coming) = received false coming

-- the deliveries among them
abbrev pub deliveries_of : List Coming → List (List ℕ)
deliveries_of [] = []
deliveries_of (Delivery bytes ∷ coming) = bytes ∷ deliveries_of coming
deliveries_of (Silence ∷ coming) = deliveries_of coming
