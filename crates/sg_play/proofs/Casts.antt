-- A start of a script has a cast.
use Rattle.std.proofs.Common.{◌≡◌, ◌≤◌, List, length, Option, Some, None, IsSome, sym, subst}
use Rattle.sg_model.specs.Names.{Name}
use Rattle.sg_protocol.specs.Keyring.{Program}
use Rattle.sg_protocol.specs.TextLaws.{IsVersion}
use Rattle.sg_script.specs.Script.{Start as ScriptStart, IsStart}

pub none_some : {A : Type 0} (a : A) → None ≡ Some a → ⊥
none_some a e = cc

pub none_is : {A : Type 0} (o : Option A) → o ≡ None → IsSome o → ⊥
none_is None e h = cc
none_is (Some a) e h = cc

-- its version and its names are those of a cast
pub is_cast : (programs : List Program) (s held : ScriptStart) (names : List Name) → IsStart programs s → held ≡ s → names ≡ held.cast → IsVersion held.version × (2 ≤ length names) × (length names ≤ 16)
is_cast programs s held names h is are = (
  subst (λ (x : ScriptStart). IsVersion x.version) (sym is) h.version,
  subst (λ (l : List Name). 2 ≤ length l) (sym are) (subst (λ (x : ScriptStart). 2 ≤ length x.cast) (sym is) h.two),
  subst (λ (l : List Name). length l ≤ 16) (sym are) (subst (λ (x : ScriptStart). length x.cast ≤ 16) (sym is) h.sixteen),
)
