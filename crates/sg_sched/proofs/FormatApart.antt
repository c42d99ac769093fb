-- Lines that are wrong declare nothing.
use Rattle.std.specs.Prelude.{◌≡◌, ℕ, Bool, true, false, not, ◌||◌, List, [], ◌∷◌, ◌++◌, bytes_eq, refl, Option, Some, None, Result, Ok, Err}
use Rattle.std.specs.List.{list_all, concat}
use Rattle.std.proofs.Common.{sym, ◌∙◌, ap, subst, append-nil}
use Rattle.sg_model.specs.Lists.{has_text}
use Rattle.sg_model.specs.Names.{Name}
use Rattle.sg_model.proofs.Small.{and_left, and_right, contradicts}
use Rattle.sg_protocol.specs.Graph.{Graph}
use Rattle.sg_parse.specs.Reading.{read}
use Rattle.sg_parse.specs.declared.fault.ParseFault.{ParseFault}
use Rattle.sg_parse.proofs.GivesGraph.{spells-read}
use Rattle.sg_sched.specs.Pair.{graphs_of}
use Rattle.sg_sched.specs.Format.LineContents.{BlockLine}
use Rattle.sg_sched.specs.Format.Forms.{SaysLine, is_skipped}
use Rattle.sg_sched.specs.Format.Items.{Item, blocks, edges, graphs, graph_names}
use Rattle.sg_sched.specs.Format.Numbered.{made}
use Rattle.sg_sched.specs.Format.Kinds.{Kind}
use Rattle.sg_sched.specs.Format.Faults.{fault}
use Rattle.sg_sched.specs.Format.Spells.{Line, closes, IsBlock, Add, Skip, Say, Show, IsWrong, OfNoForm, OfAForm, NotClosed, NoGraph, SameGraph}
use Rattle.sg_sched.proofs.LineLaws.{says_one}
use Rattle.sg_sched.proofs.FormatOnce.{not_skipped, head_same, tail_same, first_closing}
use Rattle.sg_sched.proofs.FormatPieces.{laid, say_or_show, skip_or_show, ok_same}

no_fault : {k : Kind} {o : Option Kind} → o ≡ Some k → o ≡ None → ⊥
no_fault p q = some_none (sym p ∙ q)
  where
    some_none : {k : Kind} → Some k ≡ None → ⊥
    some_none e = cc

-- a name among names is one among more
among : (n : Name) (xs ys : List Name) → has_text n xs ≡ true → has_text n (xs ++ ys) ≡ true
among n [] ys h = absurd (cc)
among n (x ∷ xs) ys h = by (bytes_eq n x) h (among n xs ys)
  where
    by : (b : Bool) → (b || has_text n xs) ≡ true → (has_text n xs ≡ true → has_text n (xs ++ ys) ≡ true) → (b || has_text n (xs ++ ys)) ≡ true
    by true p ih = refl
    by false p ih = ih p

pub names_append : (xs ys : List Graph) → graph_names (xs ++ ys) ≡ graph_names xs ++ graph_names ys
names_append [] ys = refl
names_append (x ∷ xs) ys = ap (λ ns. x.name ∷ ns) (names_append xs ys)

block_among : (before : List Item) (n : Name) → has_text n (graph_names (blocks before)) ≡ true → has_text n (graph_names (graphs before)) ≡ true
block_among before n h = ap (has_text n) (names_append (blocks before) (graphs_of (edges before))) ∙ among n (graph_names (blocks before)) (graph_names (graphs_of (edges before))) h

-- lines of which none closes a block have no closing line
pub never_closed : (i j : List Line) (c : Line) (r : List Line) → list_all (λ l. not (closes l)) i ≡ true → closes c ≡ true → i ≡ j ++ c ∷ r → ⊥
never_closed [] [] c r a p e = cc
never_closed [] (y ∷ ys) c r a p e = cc
never_closed (x ∷ xs) [] c r a p e = contradicts (and_left (not (closes x)) _ a) (ap (λ l. not (closes l)) (head_same e) ∙ ap not p)
never_closed (x ∷ xs) (y ∷ ys) c r a p e = never_closed xs ys c r (and_right (not (closes x)) _ a) p (tail_same e)

-- two blocks at the same position have the same text
pub one_text : (before : List Item) (block block' rest rest' : List Line) (text text' : List ℕ) → (b : IsBlock before block text) (b' : IsBlock before block' text') → block ++ rest ≡ block' ++ rest' → text ≡ text'
one_text before block block' rest rest' text text' b b' e =
    let all : b.opening ∷ (b.inner ++ b.closing ∷ rest) ≡ b'.opening ∷ (b'.inner ++ b'.closing ∷ rest') = sym (laid before block rest text b) ∙ e ∙ laid before block' rest' text' b' in
    let k = first_closing b.inner b'.inner b.closing b'.closing rest rest' b.opened.open_yet b'.opened.open_yet b.closed b'.closed (tail_same all) in
    b.within ∙ ap concat k.inner ∙ sym b'.within

pub ok_err : {g : Graph} {e : ParseFault} {r : Result Graph ParseFault} → r ≡ Ok g → r ≡ Err e → ⊥
ok_err p q = differ (sym p ∙ q)
  where
    differ : {g : Graph} {e : ParseFault} → Ok g ≡ Err e → ⊥
    differ e = cc

-- lines that add items are not wrong
pub add_or_wrong : (before : List Item) (more these rest rest' : List Line) (new : List Item) (kind : Kind) → Add before more new → IsWrong before these rest' kind → more ++ rest ≡ these ++ rest' → ⊥
add_or_wrong before _ _ rest rest' _ kind (Skip {line = l} s) (OfNoForm {line = m} no_skip none) e = contradicts s (ap is_skipped (head_same e) ∙ no_skip)
add_or_wrong before _ _ rest rest' _ kind (Say {line = l} {statement = t} says right makes) (OfNoForm {line = m} no_skip none) e = none t (subst (λ l. SaysLine l t) (head_same e) says)
add_or_wrong before more _ rest rest' _ kind (Show {text = text} b spells fresh) (OfNoForm {line = m} no_skip none) e =
    none BlockLine (subst (λ l. SaysLine l BlockLine) (head_same (sym (laid before more rest text b) ∙ e)) b.opened.opens)
add_or_wrong before _ _ rest rest' _ kind (Skip {line = l} s) (OfAForm {line = m} {statement = t} says wrong) e = not_skipped m t says (subst (λ l. is_skipped l ≡ true) (head_same e) s)
add_or_wrong before _ _ rest rest' _ kind (Say {line = l} {statement = s} says right makes) (OfAForm {line = m} {statement = t} says' wrong) e =
    no_fault wrong (ap (fault before) (sym (says_one m s t (subst (λ l. SaysLine l s) (head_same e) says) says')) ∙ right)
add_or_wrong before more _ rest rest' _ kind (Show {text = text} b spells fresh) (OfAForm {line = m} {statement = t} says' wrong) e =
    no_fault wrong (ap (fault before) (sym (says_one m BlockLine t (subst (λ l. SaysLine l BlockLine) (head_same (sym (laid before more rest text b) ∙ e)) b.opened.opens) says')) ∙ b.opened.in_group)
add_or_wrong before _ _ rest _ _ _ (Skip {line = l} s) (NotClosed {opening = o} {inner = i} op) e = not_skipped o BlockLine op.opens (subst (λ l. is_skipped l ≡ true) (head_same e) s)
add_or_wrong before _ _ rest _ _ _ (Say {line = l} {statement = s} says right makes) (NotClosed {opening = o} {inner = i} op) e =
    none_some (ap (made before) (sym (says_one o s BlockLine (subst (λ l. SaysLine l s) (head_same e) says) op.opens)) ∙ makes)
  where
    none_some : {i : Item} → None ≡ Some i → ⊥
    none_some p = cc
add_or_wrong before more _ rest _ _ _ (Show {text = text} b spells fresh) (NotClosed {opening = o} {inner = i} op) e =
    never_closed i b.inner b.closing rest op.open_yet b.closed (sym (append-nil i) ∙ sym (tail_same (sym (laid before more rest text b) ∙ e)))
add_or_wrong before _ these rest rest' _ _ (Skip {line = l} s) (NoGraph {text = text} b bad) e = skip_or_show before l these rest rest' text s b e
add_or_wrong before _ these rest rest' _ _ (Say {line = l} {statement = s} {item = i} says right makes) (NoGraph {text = text} b bad) e = say_or_show before l s i these rest rest' text says makes b e
add_or_wrong before more these rest rest' _ _ (Show {text = t} {g = g} b spells fresh) (NoGraph {text = t'} b' bad) e =
    ok_err (spells-read t g spells) (ap read (one_text before more these rest rest' t t' b b' e) ∙ bad)
add_or_wrong before _ these rest rest' _ _ (Skip {line = l} s) (SameGraph {text = text} b spells same) e = skip_or_show before l these rest rest' text s b e
add_or_wrong before _ these rest rest' _ _ (Say {line = l} {statement = s} {item = i} says right makes) (SameGraph {text = text} b spells same) e = say_or_show before l s i these rest rest' text says makes b e
add_or_wrong before more these rest rest' _ _ (Show {text = t} {g = g} b spells fresh) (SameGraph {text = t'} {g = g'} b' spells' same) e =
    let graphs_same : g ≡ g' = ok_same g g' (read t) (spells-read t g spells) (ap read (one_text before more these rest rest' t t' b b' e) ∙ spells-read t' g' spells') in
    contradicts (block_among before g'.name same) (ap (λ (h : Graph). has_text h.name (graph_names (graphs before))) (sym graphs_same) ∙ fresh)
