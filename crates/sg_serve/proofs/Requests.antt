-- What a request that was read holds.
use Rattle.std.proofs.Common.{◌≡◌, inl, inr, ℕ, Bool, true, false, ◌&&◌, ◌||◌, ◌==◌, List, length, find, Option, Some, None, is_some, Bor, refl, sym, arith}
use Rattle.std.specs.Prelude.{IsTrue, nat_le}
use Rattle.std.specs.List.{list_all}
use Rattle.std.specs.Option.{option_copied}
use Rattle.std.proofs.lemmas.Bool.{cases_Bool}
use Rattle.std.proofs.lemmas.Bool.Decides.{nat_tests}
use Rattle.std.proofs.lemmas.List.Elements.{All-from_recursion}
use Rattle.sg_model.proofs.Small.{all_tests}
use Rattle.sg_model.specs.Limits.{most_roles}
use Rattle.sg_model.specs.Names.{Name, is_name}
use Rattle.sg_program.specs.Together.{is_named}
use Rattle.sg_protocol.specs.Keyring.{Program}
use Rattle.sg_protocol.specs.TextLaws.{IsVersion}
use Rattle.sg_request.specs.Request.{is_cast, is_request, is_session}
use Rattle.sg_request.specs.declared.request.Request.TheVariants as request
use Rattle.sg_sched.specs.Format.Forms.{are_names, is_assignment}
use Rattle.sg_sched.specs.Format.LineContents.{Assignment}
use Rattle.sg_script.specs.Script.{IsStart, Start as ScriptStart}

front : (a b : Bool) → (a && b) ≡ true → a ≡ true
front true b h = refl
front false b h = absurd (let z : false ≡ true = h in cc)

rest : (a b : Bool) → (a && b) ≡ true → b ≡ true
rest true b h = h
rest false b h = absurd (let z : false ≡ true = h in cc)

version_is : (v : ℕ) → (v == 1 || v == 2) ≡ true → IsVersion v
version_is v h = elim (cases_Bool (v == 1)) [
  | inl p ↦ inl (grind (arith, nat_tests, p))
  | inr p ↦ let k = rw p at h in inr (grind (arith, nat_tests, k))
]

-- a start of a graph of these programs is one
pub is_start : (programs : List Program) (start : ScriptStart) (found : Option (Bor Program)) → option_copied found ≡ find (is_named start.graph) programs → is_some found ≡ true → IsTrue (is_request (request.Start start.graph start.version start.cast)) → IsStart programs start
is_start programs start None e some h = absurd (let z : false ≡ true = some in cc)
is_start programs start (Some p) e some h =
    let names = rest (is_name start.graph && (start.version == 1 || start.version == 2)) (is_cast start.cast) h in
    let sizes = front (nat_le 2 (length start.cast) && nat_le (length start.cast) most_roles) (are_names start.cast) names in
    record {
      program = p.now;
      found = sym e;
      version = version_is start.version (rest (is_name start.graph) (start.version == 1 || start.version == 2) (front (is_name start.graph && (start.version == 1 || start.version == 2)) (is_cast start.cast) h));
      two = grind (arith, nat_tests, front (nat_le 2 (length start.cast)) (nat_le (length start.cast) most_roles) sizes);
      sixteen = grind (arith, nat_tests, rest (nat_le 2 (length start.cast)) (nat_le (length start.cast) most_roles) sizes);
      names = All-from_recursion (λ (n : Name). IsTrue (is_name n)) start.cast (all_tests is_name start.cast (rest (nat_le 2 (length start.cast) && nat_le (length start.cast) most_roles) (are_names start.cast) names));
    }

-- the values of an act are a name and a value each
pub are_assigned : (n : ℕ) (label : Name) (given : List Assignment) → IsTrue (is_request (request.Act n label given)) → IsTrue (list_all is_assignment given)
are_assigned n label given h = rest (is_session n && is_name label) (list_all is_assignment given) h
