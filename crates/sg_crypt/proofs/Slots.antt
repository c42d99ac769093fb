-- The sixteen slots of a cast's names.
use Rattle.std.proofs.Common.{◌≡◌, ℕ, ◌<◌, ◌≤◌, List, [], ◌++◌, length, take, drop, replicate, get_or, sym, ◌∙◌, IsTrue, refl}
use Rattle.std.specs.List.{AllByRecursion}
use Rattle.std.proofs.lemmas.List.{drop-replicate, get_or_default}
use Rattle.std.proofs.Math.Seq.{take-append_seam}
use Rattle.sg_model.specs.Names.{Name, is_name}
use Rattle.sg_model.specs.Bytes.{AreBytes}
use Rattle.sg_protocol.specs.TextLaws.{IsVersion}
use Rattle.sg_crypt.specs.Model.{first_of, filled}
use Rattle.sg_crypt.specs.Invariant.{HoldsCast}

-- the first name everywhere, and then the names, are the names filled up
pub filled_up : (names slots : List Name) (x : Name) → x ≡ get_or names 0 x → 0 < length names → slots ≡ names →
    slots ++ drop (length names) (replicate 16 x) ≡ filled names
filled_up names slots x first some put =
    let same : x ≡ first_of names = first ∙ sym (get_or_default names 0 [] x some) in
    rw (put, drop-replicate, same)

-- the fields that `new` makes are a cast's
pub holds_cast : (version : ℕ) (graph nonce : List ℕ) (names slots : List Name) → IsVersion version → AreBytes 32 graph → AreBytes 16 nonce →
    2 ≤ length names → length names ≤ 16 → AllByRecursion (λ n. IsTrue (is_name n)) names → slots ≡ filled names →
    HoldsCast (record { version = version; graph = graph; nonce = nonce; count = length names; names = slots })
holds_cast version graph nonce names slots v g n low high named put =
    let prefix : take (length names) slots ≡ names = rw put (take-append_seam names _) in
    record {
      version = v;
      cast = record {
        version = refl;
        graph = g;
        nonce = n;
        count = rw prefix (low, high);
        names = rw prefix named;
      };
      counted = rw prefix;
      slots = rw prefix put;
    }
