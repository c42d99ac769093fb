-- Programs that are put beside others, and those that clash.
use Rattle.std.proofs.Common.{◌≡◌, ◌↔◌, Bool, true, false, Result, Ok, Err, inl, inr, ap, ◌∙◌}
use Rattle.std.specs.Prelude.{IfErr, IsTrue}
use Rattle.std.proofs.lemmas.Bool.{cases_Bool}
use Rattle.std.proofs.lemmas.Result.{IfErr-at_err}
use Rattle.sg_protocol.specs.Keyring.{Program}
use Rattle.sg_program.specs.declared.programs.AddProgramFault.{AddProgramFault}
use Rattle.sg_program.specs.declared.programs.AddProgramFault.TheVariants.{Twice}

-- what was added clashes with none
pub alone : (r : Result (Unit {0}) (Program × AddProgramFault)) (p : Program) (b : Bool) → ((r ≡ Err (p, Twice)) ↔ IsTrue b) → r ≡ Ok tt → b ≡ false
alone r p b h ok = elim (cases_Bool b) [
  | inl y ↦ (let is : r ≡ Err (p, Twice) = h.1 y in
      let no : ⊥ = cc in
      absurd no)
  | inr n ↦ n
]

-- what came back as there twice clashes
pub clash : (r : Result (Unit {0}) (Program × AddProgramFault)) (p q : Program) (b : Bool) → ((r ≡ Err (p, Twice)) ↔ IsTrue b) → IfErr r (λ e. e.0 ≡ p) → r ≡ Err (q, Twice) → b ≡ true
clash r p q b h back is = h.0 (is ∙ ap (λ (x : Program). Err (x, Twice)) (IfErr-at_err (λ (e : Program × AddProgramFault). e.0 ≡ p) is back))
