-- What bytes say as TOML.
use Rattle.std.proofs.Common.{◌≡◌, ℕ, Bool, true, false, List, Some, None, Result, Ok, Err, is_err, MatchResult, if◌then◌else◌, refl, ap, ◌∙◌, true≢false, sym}
use Rattle.std.specs.Str.{IsUtf8, is_utf8}
use Rattle.std.proofs.lemmas.Str.{IsUtf8-from_is_utf8, is_utf8-from_IsUtf8}
use Rattle.toml.specs.Data.{Members}
use Rattle.toml.specs.Parse.{parse_document}
use Rattle.sg_keys.specs.KeyFile.{document}

-- UTF-8 that is a document
pub document_some : (bs : List ℕ) {table : Members} → IsUtf8 bs → parse_document bs ≡ Some table → document bs ≡ Some table
unfolding document
document_some bs utf8 says = ap (λ b. if b then parse_document bs else None) (is_utf8-from_IsUtf8 bs utf8) ∙ says

by : (bs : List ℕ) (b : Bool) → is_utf8 bs ≡ b → (IsUtf8 bs → parse_document bs ≡ None) → (if b then parse_document bs else None) ≡ None
by bs true e none = none (IsUtf8-from_is_utf8 bs e)
by bs false e none = refl

-- the first fact of an error
pub first_of_err : {A B : Type 0} {P : Type 0} (Q : A → Type 0) (R : B → Type 0) (r : Result A B) → MatchResult r Q (λ e. P × R e) → is_err r ≡ true → P
first_of_err Q R (Ok x) facts is = absurd (true≢false (sym is))
first_of_err Q R (Err e) facts is = facts.0

-- no UTF-8, or no document
pub document_none : (bs : List ℕ) → (IsUtf8 bs → parse_document bs ≡ None) → document bs ≡ None
unfolding document
document_none bs none = by bs (is_utf8 bs) refl none
