-- A ledger with nothing but zeros behind its head represents no joins.
use Rattle.std.proofs.Common.{◌≡◌, ℕ, ◌+◌, ◌*◌, ◌<◌, ◌≤◌, List, [], ◌∷◌, ◌++◌, length, take, drop, get_or, refl, sym, ◌∙◌, ap, subst, arith, length-drop, get_or-take, get_or-drop, append-nil, drop_of_length-le}
use Rattle.sg_ledger.specs.Disk.{overlaid}
use Rattle.sg_ledger.specs.Format.{slot_of, IsOpen, IsBlank, Represents}

gate_zero : (file : List ℕ) (n : ℕ) → IsBlank file → n < 65536 → get_or (slot_of file n) 0 0 ≡ 0
gate_zero file n blank lt =
    let inside : 34 * n < length (drop 8 file) = omega (arith, length-drop 8 file, blank.0.0, lt) in
    let same : 8 + 34 * n + 0 ≡ 8 + 34 * n = omega arith in
    get_or-take 34 (drop (8 + 34 * n) file) 0 0 (omega arith)
    ∙ get_or-drop (8 + 34 * n) file 0 0 ∙ ap (λ (k : ℕ). get_or file k 0) same
    ∙ sym (get_or-drop 8 file (34 * n) 0) ∙ blank.1 (34 * n) 0 inside

pub blank_represents : (file : List ℕ) → IsBlank file → Represents file []
blank_represents file blank = record {
  ledger = blank.0;
  slots = record {
    fits = omega arith;
    gates = λ n lt. absurd (omega (arith, lt));
    pairs = refl;
    shut = λ n le lt is_open. let zero = gate_zero file n blank lt in absurd (omega (arith, zero, is_open));
    roles = λ k d lt. absurd (omega (arith, lt));
    differ = λ i j d below lt. absurd (omega (arith, lt));
  };
}

-- what is written over an empty file is the file
pub over_nothing : (old bytes : List ℕ) → length old ≡ 0 → overlaid old 0 bytes ≡ bytes
over_nothing old bytes is =
    ap (λ (rest : List ℕ). bytes ++ rest) (drop_of_length-le old (omega (arith, is))) ∙ append-nil bytes
