-- Why an assumption of a replay's run doesn't hold.
use Rattle.std.specs.Prelude.{◌≡◌, ℕ, ⊤, List, Some}
use Rattle.sg_protocol.specs.Broken.{first_forged, first_collision}
use Rattle.sg_protocol.specs.Notes.{Note}
use Rattle.sg_protocol.specs.Premises.{Unforged, CollisionFree, hashed}
use Rattle.sg_protocol.specs.Texts.{real}
use Rattle.sg_setting.specs.Replay.{Replay, run_of}
use Rattle.sg_world.specs.declared.premises.ForgedFault.{ForgedFault}
use Rattle.sg_world.specs.declared.premises.ForgedFault.TheVariants as forged
use Rattle.sg_world.specs.declared.premises.CollisionFault.{CollisionFault}
use Rattle.sg_world.specs.declared.premises.CollisionFault.TheVariants as collision

-- it is this note of this step, or memory ran out
abbrev pub IsForgedAs : ℕ × Note → ForgedFault → Type 0
IsForgedAs found (forged.Forged step one two text) = found ≡ (step, record { one = one; two = two; text = text })
IsForgedAs found forged.OutOfMemory = ⊤

-- it is the first note that breaks the first assumption
abbrev pub IsForgedFault : Replay → ForgedFault → Type 0
IsForgedFault r (forged.Forged step one two text) = (first_forged r.schedule (run_of r) ≡ Some (step, record { one = one; two = two; text = text })) × (Unforged r.schedule (run_of r) → ⊥)
IsForgedFault r forged.OutOfMemory = ⊤

-- they are these texts, or memory ran out
abbrev pub IsCollisionAs : List ℕ × List ℕ → CollisionFault → Type 0
IsCollisionAs found (collision.Collision one other) = found ≡ (one, other)
IsCollisionAs found collision.OutOfMemory = ⊤

-- they are the first two texts that break the second assumption
abbrev pub IsCollisionFault : Replay → CollisionFault → Type 0
IsCollisionFault r (collision.Collision one other) = (first_collision real (hashed r.schedule (run_of r)) ≡ Some (one, other)) × (CollisionFree real (hashed r.schedule (run_of r)) → ⊥)
IsCollisionFault r collision.OutOfMemory = ⊤
