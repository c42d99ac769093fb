-- Variables between brackets, written one by one.
use Rattle.std.proofs.Common.{◌≡◌, ℕ, ◌+◌, nat_lt, Bool, true, false, List, [], ◌∷◌, ◌++◌, map, filter, refl, sym, ◌∙◌, ap, append_assoc, append-nil}
use Rattle.std.specs.List.{flat_map}
use Rattle.std.proofs.lemmas.List.{map-append}
use Rattle.std.proofs.lemmas.Grind.{flat_map-append}
use Rattle.std.proofs.lemmas.Bool.{and_parts}
use Rattle.std.specs.List.{list_all}
use Rattle.sg_model.specs.Lists.{is_in, rises_from}
use Rattle.sg_protocol.specs.Graph.{Graph, AreNumbers}
use Rattle.sg_graph.proofs.Rising.{below_more, below_zero, below_all}
use Rattle.sg_answers.specs.Answers.{bracketed, opened, variable_text}

-- what stands before the next variable
abbrev pub mark_after : List ℕ → ℕ
mark_after [] = 40
mark_after (x ∷ xs) = 44

-- these variables are written, and what stands before the next one is known
pub record Written (g : Graph) (xs : List ℕ) (start now : List ℕ) (mark : ℕ) : Type 0 where
  pub text : now ≡ start ++ opened g xs
  pub next : mark ≡ mark_after xs

-- one variable more
opened_more : (g : Graph) (xs : List ℕ) (x : ℕ) → opened g (xs ++ x ∷ []) ≡ opened g xs ++ mark_after xs ∷ variable_text g x
opened_more g [] x = ap (λ t. 40 ∷ t) (append-nil (variable_text g x))
opened_more g (y ∷ ys) x =
    let comma : List ℕ → List ℕ = λ t. 44 ∷ t in
    let name : ℕ → List ℕ = variable_text g in
    let last : flat_map comma (name x ∷ []) ≡ 44 ∷ name x = append-nil (44 ∷ name x) in
    let rest : flat_map comma (map name (ys ++ x ∷ [])) ≡ flat_map comma (map name ys) ++ 44 ∷ name x =
    ap (flat_map comma) (map-append name ys (x ∷ [])) ∙ flat_map-append comma (map name ys) (name x ∷ []) ∙ ap (λ t. flat_map comma (map name ys) ++ t) last in
    ap (λ t. 40 ∷ (name y ++ t)) rest ∙ sym (append_assoc (40 ∷ name y) (flat_map comma (map name ys)) (44 ∷ name x))

comma_after : (xs : List ℕ) (x : ℕ) → 44 ≡ mark_after (xs ++ x ∷ [])
comma_after [] x = refl
comma_after (y ∷ ys) x = refl

-- nothing is written
pub none_written : (g : Graph) (xs start : List ℕ) → Written g (filter (λ x. nat_lt x 0) xs) start start 40
none_written g xs start = rw (below_zero xs) (record { text = sym (append-nil start); next = refl })

-- a variable is written
pub more_written : (g : Graph) (n : ℕ) (xs : List ℕ) (i : ℕ) (start now next : List ℕ) (mark : ℕ) → AreNumbers n xs → is_in i xs ≡ true
    → Written g (filter (λ x. nat_lt x i) xs) start now mark → next ≡ now ++ mark ∷ variable_text g i → Written g (filter (λ x. nat_lt x (i + 1)) xs) start next 44
more_written g n xs i start now next mark h there before more =
    let rises = (and_parts (rises_from 0 xs) (list_all (λ k. nat_lt k n) xs) h).0 in
    let ys = filter (λ x. nat_lt x i) xs in
    let taken : filter (λ x. nat_lt x (i + 1)) xs ≡ ys ++ i ∷ [] = below_more 0 i xs rises ∙ rw there in
    rw taken (record {
      text = more ∙ ap (λ t. t ++ mark ∷ variable_text g i) before.text ∙ append_assoc start (opened g ys) (mark ∷ variable_text g i)
          ∙ ap (λ k. start ++ (opened g ys ++ k ∷ variable_text g i)) before.next ∙ ap (λ t. start ++ t) (sym (opened_more g ys i));
      next = comma_after ys i;
    })

-- a number that isn't among them
pub same_written : (g : Graph) (n : ℕ) (xs : List ℕ) (i : ℕ) (start now : List ℕ) (mark : ℕ) → AreNumbers n xs → is_in i xs ≡ false
    → Written g (filter (λ x. nat_lt x i) xs) start now mark → Written g (filter (λ x. nat_lt x (i + 1)) xs) start now mark
same_written g n xs i start now mark h away before =
    let rises = (and_parts (rises_from 0 xs) (list_all (λ k. nat_lt k n) xs) h).0 in
    let taken : filter (λ x. nat_lt x (i + 1)) xs ≡ filter (λ x. nat_lt x i) xs = below_more 0 i xs rises ∙ rw (away, append-nil) in
    rw taken before

-- all are written
pub all_written : (g : Graph) (n : ℕ) (xs : List ℕ) (i : ℕ) (start now : List ℕ) (mark : ℕ) → AreNumbers n xs → i ≡ n
    → Written g (filter (λ x. nat_lt x i) xs) start now mark → now ≡ start ++ opened g xs
all_written g n xs i start now mark h end before =
    let within = (and_parts (rises_from 0 xs) (list_all (λ k. nat_lt k n) xs) h).1 in
    before.text ∙ rw (end, below_all n xs within)

-- some variables between brackets
pub bracketed_some : (g : Graph) (xs : List ℕ) (b : Bool) → (xs ≡ [] → b ≡ true) → b ≡ false → bracketed g xs ≡ opened g xs ++ 41 ∷ []
bracketed_some g [] b e f = absurd (clash b (e refl) f)
  where
    clash : (b : Bool) → b ≡ true → b ≡ false → ⊥
    clash b t f = absurd (cc)
bracketed_some g (x ∷ xs) b e f = refl
