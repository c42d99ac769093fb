-- Words that follow others.
use Rattle.std.proofs.Common.{◌≡◌, ℕ, refl, sym, subst, ap, ◌∙◌, List, ◌++◌, length, take, append_assoc}
use Rattle.std.proofs.Math.Seq.{take-append_seam}
use Rattle.std.specs.Fmt.{decimal}
use Rattle.std.specs.Prelude.{[], ◌∷◌, Result, Ok, Err, OnErr, OnOk}
use Rattle.sg_model.proofs.Small.{heads, tails}
use Rattle.sg_protocol.specs.Graph.{Graph}
use Rattle.sg_report.specs.Lines.{by_whom, line_text, reported_text}
use Rattle.sg_report.specs.Reported.{Reported}

-- pieces, one after another
pub pieces : {A E : Type 0} (r : Result A E) (old mid new a b c d e f g : List ℕ) → mid ≡ old ++ (a ++ b) → OnOk r (new ≡ mid ++ (c ++ d ++ e ++ f ++ g)) → OnOk r (new ≡ old ++ (a ++ b ++ c ++ d ++ e ++ f ++ g))
pieces (Ok x) old mid new a b c d e f g first rest = rest ∙ ap (λ t. t ++ (c ++ d ++ e ++ f ++ g)) first ∙ simp append_assoc
pieces (Err x) old mid new a b c d e f g first rest = rest

-- the line of a step, piece by piece
pub line_put : {A E : Type 0} (r : Result A E) (reported : Reported) (session who : List ℕ) (g : Graph) (step : ℕ) (old number space whom line new : List ℕ) → number ≡ old ++ decimal step
    → space ≡ number ++ 32 ∷ [] → whom ≡ space ++ by_whom who reported → line ≡ whom ++ reported_text session g reported → OnOk r (new ≡ line ++ 10 ∷ [])
    → OnOk r (new ≡ old ++ line_text session g step who reported)
line_put (Ok x) reported session who g step old number space whom line new a b c d e =
    e ∙ ap (λ t. t ++ 10 ∷ []) (d ∙ ap (λ t. t ++ reported_text session g reported) (c ∙ ap (λ t. t ++ by_whom who reported) (b ∙ ap (λ t. t ++ 32 ∷ []) a))) ∙ simp append_assoc
line_put (Err x) reported session who g step old number space whom line new a b c d e = e

-- ---- what was written stands first

-- it does if something is appended
begins : (xs ys zs : List ℕ) → ys ≡ xs ++ zs → take (length xs) ys ≡ xs
begins xs ys zs e = subst (λ l. take (length xs) l ≡ xs) (sym e) (take-append_seam xs zs)

-- and if what stands first does so in turn
begins_on : (xs ys zs : List ℕ) → take (length xs) ys ≡ xs → take (length ys) zs ≡ ys → take (length xs) zs ≡ xs
begins_on [] ys zs a b = refl
begins_on (x ∷ xs) [] zs a b = absurd (cc)
begins_on (x ∷ xs) (y ∷ ys) [] a b = absurd (cc)
begins_on (x ∷ xs) (y ∷ ys) (z ∷ zs) a b =
    ap (λ t. t ∷ take (length xs) zs) (heads z y (take (length ys) zs) ys b ∙ heads y x (take (length xs) ys) xs a)
    ∙ ap (λ l. x ∷ l) (begins_on xs ys zs (tails y x (take (length xs) ys) xs a) (tails z y (take (length ys) zs) ys b))

-- a number, a space, a name and a part of what follows
pub line_begins : (number old one two three four : List ℕ) → one ≡ old ++ number → two ≡ one ++ 32 ∷ [] → take (length two) three ≡ two → take (length three) four ≡ three → take (length old) four ≡ old
line_begins number old one two three four a b c d =
    begins_on old three four (begins_on old two three (begins_on old one two (begins old one number a) (begins one two (32 ∷ []) b)) c) d

-- a fact holds on an error
pub on_err : {A E : Type 0} {P : Type 0} (r : Result A E) → P → OnErr r P
on_err (Ok x) p = tt
on_err (Err x) p = p
