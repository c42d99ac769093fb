-- A role has one table of views, and a graph one table of targets.
use Rattle.std.proofs.Common.{◌≡◌, ℕ, suc, zero, ◌<◌, nat_lt, true, List, [], ◌∷◌, length, get_or, refl, sym, ap, ◌∙◌, subst, inl, inr, ◌⊎◌, arith, Contains, true≢false}
use Rattle.std.specs.Ordering.{is_lt}
use Rattle.std.specs.declared.cmp.Ordering.{Ordering}
use Rattle.std.specs.declared.cmp.Ordering.TheVariants.{Less, Equal, Greater}
use Rattle.std.proofs.lemmas.Bool.{cases_Bool, and_parts}
use Rattle.std.proofs.lemmas.Cmp.{tied_itself}
use Rattle.std.proofs.lemmas.List.{ext_get_or}
use Rattle.std.specs.List.{list_all}
use Rattle.sg_model.specs.Lists.{is_in, rises_from}
use Rattle.sg_protocol.specs.Evidence.{View, IsViewTable, are_ordered, are_ordered_after, view_before}
use Rattle.sg_protocol.specs.Graph.{Graph, AreNumbers}
use Rattle.sg_protocol.specs.Targets.{IsTargetTable}
use Rattle.sg_graph.proofs.Sets.{number_below}
use Rattle.sg_parse.proofs.Sets.{rising-same}
use Rattle.sg_vis.specs.Order.{compared}
use Rattle.sg_vis.proofs.Ordered.{compared_total, before-compared}

-- ---- views

less : (a b : View) → view_before a b ≡ true → compared a b ≡ Less
less a b h = by (compared a b) (sym (before-compared a b) ∙ h)
  where
    by : (o : Ordering) → is_lt o ≡ true → o ≡ Less
    by Less h = refl
    by Equal h = absurd (true≢false (sym h))
    by Greater h = absurd (true≢false (sym h))

before_trans : (a b c : View) → view_before a b ≡ true → view_before b c ≡ true → view_before a c ≡ true
before_trans a b c h k = before-compared a c ∙ ap is_lt (compared_total.trans a b c (less a b h) (less b c k))

not_itself : (a : View) → view_before a a ≡ true → ⊥
not_itself a h = let l : compared a a ≡ Less = less a a h in let e : compared a a ≡ Equal = tied_itself compared_total a in absurd (cc)

here_or_later : (x v : View) (xs : List View) → Contains (x ∷ xs) v → (x ≡ v) ⊎ Contains xs v
here_or_later x v xs (zero, l, e) = inl e
here_or_later x v xs (suc k, l, e) = inr (k, omega (arith, l), e)

has_first : (x : View) (xs : List View) → Contains (x ∷ xs) x
has_first x xs = (0, omega arith, refl)

has_later : (x v : View) (xs : List View) → Contains xs v → Contains (x ∷ xs) v
has_later x v xs (k, l, e) = (suc k, omega (arith, l), e)

none_has : (v : View) → Contains [] v → ⊥
none_has v (k, l, e) = absurd (omega (arith, l))

-- a view stands before all that follow it
before_all : (v : View) (xs : List View) → are_ordered_after v xs ≡ true → (w : View) → Contains xs w → view_before v w ≡ true
before_all v [] h w c = absurd (none_has w c)
before_all v (x ∷ xs) h w c =
    let parts = and_parts (view_before v x) (are_ordered_after x xs) h in
    elim (here_or_later x w xs c) [
      | inl e ↦ subst (λ u. view_before v u ≡ true) e parts.0
      | inr d ↦ before_trans v x w parts.0 (before_all x xs parts.1 w d)
    ]

ordered_later : (v : View) (xs : List View) → are_ordered_after v xs ≡ true → are_ordered xs ≡ true
ordered_later v [] h = refl
ordered_later v (x ∷ xs) h = (and_parts (view_before v x) (are_ordered_after x xs) h).1

-- lists in order that have the same views are the same
same_views : (xs ys : List View) → are_ordered xs ≡ true → are_ordered ys ≡ true → ((v : View) → Contains xs v → Contains ys v) → ((v : View) → Contains ys v → Contains xs v) → xs ≡ ys
same_views [] [] o p f b = refl
same_views [] (y ∷ ys) o p f b = absurd (none_has y (b y (has_first y ys)))
same_views (x ∷ xs) [] o p f b = absurd (none_has x (f x (has_first x xs)))
same_views (x ∷ xs) (y ∷ ys) o p f b = λ i. first i ∷ same_views xs ys (ordered_later x xs o) (ordered_later y ys p) into back i
  where
    first : x ≡ y
    first =
        elim (here_or_later y x ys (f x (has_first x xs))) [
          | inl e ↦ sym e
          | inr c ↦ elim (here_or_later x y xs (b y (has_first y ys))) [
            | inl e ↦ e
            | inr d ↦ absurd (not_itself x (before_trans x y x (before_all x xs o y d) (before_all y ys p x c)))
          ]
        ]

    into : (v : View) → Contains xs v → Contains ys v
    into v c =
        elim (here_or_later y v ys (f v (has_later x v xs c))) [
          | inl e ↦ absurd (not_itself v (subst (λ u. view_before u v ≡ true) (first ∙ e) (before_all x xs o v c)))
          | inr d ↦ d
        ]

    back : (v : View) → Contains ys v → Contains xs v
    back v c =
        elim (here_or_later x v xs (b v (has_later y v ys c))) [
          | inl e ↦ absurd (not_itself v (subst (λ u. view_before u v ≡ true) (sym first ∙ e) (before_all y ys p v c)))
          | inr d ↦ d
        ]

-- two tables of one role's views are the same
pub one_view_table : (g : Graph) (r : ℕ) (xs ys : List View) → IsViewTable g r xs → IsViewTable g r ys → xs ≡ ys
one_view_table g r xs ys a b = same_views xs ys a.ordered b.ordered (λ v c. (b.each v).1 ((a.each v).0 c)) (λ v c. (a.each v).1 ((b.each v).0 c))

-- ---- targets

-- two sets of numbers below n that have the same of them are the same
same_numbers : (n : ℕ) (xs ys : List ℕ) → AreNumbers n xs → AreNumbers n ys → ((x : ℕ) → x < n → is_in x xs ≡ true → is_in x ys ≡ true) → ((x : ℕ) → x < n → is_in x ys ≡ true → is_in x xs ≡ true) → xs ≡ ys
same_numbers n xs ys a b f g =
    rising-same 0 xs ys (and_parts (rises_from 0 xs) (list_all (λ k. nat_lt k n) xs) a).0 (and_parts (rises_from 0 ys) (list_all (λ k. nat_lt k n) ys) b).0 both
  where
    both : (x : ℕ) → is_in x xs ≡ is_in x ys
    both x =
        elim (cases_Bool (is_in x xs)) [
          | inl y ↦ y ∙ sym (f x (number_below n x xs a y) y)
          | inr m ↦ elim (cases_Bool (is_in x ys)) [
            | inl z ↦ absurd (true≢false (sym (g x (number_below n x ys b z) z) ∙ m))
            | inr z ↦ m ∙ sym z
          ]
        ]

-- two tables of one graph's targets are the same
pub one_target_table : (g : Graph) (xs ys : List (List ℕ)) → IsTargetTable g xs → IsTargetTable g ys → xs ≡ ys
one_target_table g xs ys a b = ext_get_or [] xs ys (a.size ∙ sym b.size) here
  where
    here : (e : ℕ) → e < length xs → get_or xs e [] ≡ get_or ys e []
    here e l =
        let there : e < length g.edges = omega (arith, l, a.size) in
        same_numbers (length g.roles) (get_or xs e []) (get_or ys e []) (a.rising e) (b.rising e) (λ t m i. (b.each e t there m).1 ((a.each e t there m).0 i)) (λ t m i. (a.each e t there m).1 ((b.each e t there m).0 i))
