-- The frame of a step, as a list of one or none.
use Rattle.std.specs.Prelude.{ℕ, List, [], ◌∷◌, Option, Some, None}
use Rattle.sg_base.specs.declared.address.Addr.{Addr}
use Rattle.sg_model.specs.Names.{Name}

-- the frame, with the address of its receiver
abbrev pub frames_made : Option (Addr × (Name × List ℕ)) → List (Addr × List ℕ)
frames_made None = []
frames_made (Some f) = (f.0, f.1.1) ∷ []
