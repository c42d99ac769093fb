-- The first text of each digest.
use Rattle.std.specs.Prelude.{◌≡◌, ℕ, if◌then◌else◌, List, [], ◌∷◌, find, Option, Some, None, bytes_eq}
use Rattle.sg_protocol.specs.Broken.{first_collision}
use Rattle.sg_protocol.specs.Texts.{real}

-- the text under a digest
abbrev pub text_under : List ℕ → List (List ℕ × List ℕ) → Option (List ℕ)
text_under h [] = None
text_under h (e ∷ es) = if bytes_eq e.0 h then Some e.1 else text_under h es

-- the text that is there, if it is another one
abbrev pub other_text : Option (List ℕ) → List ℕ → Option (List ℕ)
other_text None t = None
other_text (Some f) t = if bytes_eq f t then None else Some f

-- the text, if its digest is this
abbrev pub text_if : List ℕ → List ℕ → Option (List ℕ)
text_if h t = if bytes_eq (real t) h then Some t else None

-- under each digest is the first of these texts that has it, and no two of them collide
pub record Keeps (texts : List (List ℕ)) (table : List (List ℕ × List ℕ)) : Type 0 where
  pub found : (h : List ℕ) → text_under h table ≡ find (λ a. bytes_eq (real a) h) texts
  pub free : first_collision real texts ≡ None
