-- Lists that are walked from the front: what is done of them and what is left.
use Rattle.std.proofs.Common.{◌≡◌, ℕ, ◌+◌, ◌<◌, List, [], ◌∷◌, ◌++◌, map, length, take, get_or, sym, ◌∙◌, ap, append_assoc, append-nil}
use Rattle.std.proofs.lemmas.List.{take_more, map-append}
use Rattle.sg_protocol.specs.Notes.{Note, Notes}
use Rattle.sg_role.specs.Stepping.{Extends}

-- one element more
pub map_more : {A B : Type 0} (f : A → B) (xs : List A) (i : ℕ) (x : A) → i < length xs → x ≡ get_or xs i x → map f (take (i + 1) xs) ≡ map f (take i xs) ++ f x ∷ []
map_more f xs i x l e = ap (map f) (take_more xs i x l) ∙ map-append f (take i xs) (get_or xs i x ∷ []) ∙ ap (λ y. map f (take i xs) ++ f y ∷ []) (sym e)

-- what is made of one element more, if this was made of those before it
pub made_more : {A B : Type 0} (f : A → B) (xs : List A) (i : ℕ) (x : A) (y : B) (made more : List B) → i < length xs → x ≡ get_or xs i x → y ≡ f x → made ≡ map f (take i xs) → more ≡ made ++ y ∷ [] → more ≡ map f (take (i + 1) xs)
made_more f xs i x y made more l e its before after = after ∙ (λ j. before j ++ its j ∷ []) ∙ sym (map_more f xs i x l e)

-- the same after what was there
pub put_more : {A B : Type 0} (f : A → B) (old : List B) (xs : List A) (i : ℕ) (x : A) → i < length xs → x ≡ get_or xs i x → (old ++ map f (take i xs)) ++ f x ∷ [] ≡ old ++ map f (take (i + 1) xs)
put_more f old xs i x l e = append_assoc old (map f (take i xs)) (f x ∷ []) ∙ ap (λ l. old ++ l) (sym (map_more f xs i x l e))

-- ---- notes

pub extends_made : (a b : Notes) (ms : List Note) → b ≡ record a { made = a.made ++ ms } → Extends a b
extends_made a b ms e = record { made = ms; found = []; hashed = []; more = e ∙ ap (λ l. record a { made = a.made ++ ms; hashed = l }) (sym (append-nil a.hashed)) ∙ ap (λ l. record { made = a.made ++ ms; found = l; hashed = a.hashed ++ [] }) (sym (append-nil a.found)) }

pub extends_hashed : (a b : Notes) (hs : List (List ℕ)) → b ≡ record a { hashed = a.hashed ++ hs } → Extends a b
extends_hashed a b hs e = record { made = []; found = []; hashed = hs; more = e ∙ ap (λ l. record a { made = l; hashed = a.hashed ++ hs }) (sym (append-nil a.made)) ∙ ap (λ l. record { made = a.made ++ []; found = l; hashed = a.hashed ++ hs }) (sym (append-nil a.found)) }

pub extends_same : (a : Notes) → Extends a a
extends_same a = extends_made a a [] (ap (λ l. record a { made = l }) (sym (append-nil a.made)))

pub extends_more : (a b c : Notes) → Extends a b → Extends b c → Extends a c
extends_more a b c e f = record {
  made = e.made ++ f.made;
  found = e.found ++ f.found;
  hashed = e.hashed ++ f.hashed;
  more = f.more
      ∙ ap (λ (n : Notes). record { made = n.made ++ f.made; found = n.found ++ f.found; hashed = n.hashed ++ f.hashed }) e.more
      ∙ (λ i. record { made = append_assoc a.made e.made f.made i; found = append_assoc a.found e.found f.found i; hashed = append_assoc a.hashed e.hashed f.hashed i });
}
