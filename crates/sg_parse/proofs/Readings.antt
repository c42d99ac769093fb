-- One reading after another.
use Rattle.std.proofs.Common.{◌≡◌, ℕ, true, false, List, Ok, Err, refl, ap, ◌∙◌, if◌then◌else◌}
use Rattle.sg_model.specs.Lists.{has_text, is_in}
use Rattle.sg_protocol.specs.Graph.{Name}
use Rattle.sg_base.specs.Sets.{with_member}
use Rattle.sg_parse.specs.Reading.{Parsed, Parser, on, after, give, fail, name, known_name, index_of, one_more, known, joined}
use Rattle.sg_parse.specs.declared.token.TokenAt.{TokenAt}
use Rattle.sg_parse.specs.declared.fault.ParseFault.TheVariants.{Twice, UnknownName}

-- what follows goes on where the first reading ended
pub onward : {A B : Type 0} (r : Parser A) (k : A → Parser B) (ps : List TokenAt) (o : Parsed A) → r ps ≡ Ok o → after r k ps ≡ k o.value o.rest
onward r k ps o h = ap (λ x. on x k) h

-- a name that is known
pub known_read : (names : List Name) (ps qs : List TokenAt) (n : Name) (at r : ℕ) → name ps ≡ Ok (record { value = (n, at); rest = qs }) → has_text n names ≡ true → index_of n names ≡ r
    → known_name names ps ≡ Ok (record { value = r; rest = qs })
known_read names ps qs n at r h has index =
    onward name (λ (n : Name × ℕ). if has_text n.0 names then give (index_of n.0 names) else fail (UnknownName n.1)) ps (record { value = (n, at); rest = qs }) h ∙ rw (has, index) refl

-- a name that joins a set
pub joins : (width : ℕ) (names : List Name) (set : List ℕ) (ps qs : List TokenAt) (n : Name) (at r : ℕ) → name ps ≡ Ok (record { value = (n, at); rest = qs })
    → has_text n names ≡ true → index_of n names ≡ r → is_in r set ≡ false → one_more width names set ps ≡ Ok (record { value = with_member width set r; rest = qs })
joins width names set ps qs n at r h has index new =
    onward name (λ (n : Name × ℕ). known (joined width names set n)) ps (record { value = (n, at); rest = qs }) h ∙ rw (has, index, new) refl

-- a name that stands in the set already
pub occurs_twice : (width : ℕ) (names : List Name) (set : List ℕ) (ps qs : List TokenAt) (n : Name) (at r : ℕ) → name ps ≡ Ok (record { value = (n, at); rest = qs })
    → has_text n names ≡ true → index_of n names ≡ r → is_in r set ≡ true → one_more width names set ps ≡ Err (Twice at)
occurs_twice width names set ps qs n at r h has index old =
    onward name (λ (n : Name × ℕ). known (joined width names set n)) ps (record { value = (n, at); rest = qs }) h ∙ rw (has, index, old) refl
