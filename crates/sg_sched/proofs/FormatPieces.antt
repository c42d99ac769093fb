-- Lines declare one list of items at most.
use Rattle.std.specs.Prelude.{◌≡◌, ℕ, true, List, [], ◌∷◌, ◌++◌, refl, Some, None, Result, Ok}
use Rattle.std.specs.List.{concat}
use Rattle.std.proofs.Common.{sym, ◌∙◌, ap, subst, append_assoc}
use Rattle.sg_model.proofs.Small.{some_same}
use Rattle.sg_protocol.specs.Graph.{Graph}
use Rattle.sg_parse.specs.Grammar.{SpellsGraph}
use Rattle.sg_parse.specs.Reading.{read}
use Rattle.sg_parse.specs.declared.fault.ParseFault.{ParseFault}
use Rattle.sg_parse.proofs.GivesGraph.{spells-read}
use Rattle.sg_sched.specs.Format.LineContents.{LineContent, BlockLine}
use Rattle.sg_sched.specs.Format.Forms.{SaysLine, is_skipped}
use Rattle.sg_sched.specs.Format.Items.{Item, GraphItem}
use Rattle.sg_sched.specs.Format.Numbered.{made}
use Rattle.sg_sched.specs.Format.Spells.{Line, IsBlock, Add, Skip, Say, Show}
use Rattle.sg_sched.proofs.LineLaws.{says_one}
use Rattle.sg_sched.proofs.FormatOnce.{not_skipped, head_same, tail_same, first_closing}

-- the same lines that add the same items, and the same rest
pub record SameAdd (these those : List Line) (new new' : List Item) (rest rest' : List Line) : Type 0 where
  pub lines : these ≡ those
  pub items : new ≡ new'
  pub behind : rest ≡ rest'

none_some : {i : Item} → None ≡ Some i → ⊥
none_some e = cc

pub ok_same : (g h : Graph) (r : Result Graph ParseFault) → r ≡ Ok g → r ≡ Ok h → g ≡ h
ok_same g h r p q = ap inside (sym p ∙ q)
  where
    inside : Result Graph ParseFault → Graph
    inside (Ok x) = x
    inside other = g

-- the lines of a block, and the rest
pub laid : (before : List Item) (block rest : List Line) (text : List ℕ) (b : IsBlock before block text) → block ++ rest ≡ b.opening ∷ (b.inner ++ b.closing ∷ rest)
laid before block rest text b = ap (λ ls. ls ++ rest) b.all ∙ ap (λ ls. b.opening ∷ ls) (append_assoc b.inner (b.closing ∷ []) rest)

two_blocks : (before : List Item) (block block' rest rest' : List Line) (text text' : List ℕ) (g g' : Graph) → IsBlock before block text → IsBlock before block' text' → SpellsGraph text g → SpellsGraph text' g'
    → block ++ rest ≡ block' ++ rest' → SameAdd block block' (GraphItem g ∷ []) (GraphItem g' ∷ []) rest rest'
two_blocks before block block' rest rest' text text' g g' b b' s s' e =
    let all : b.opening ∷ (b.inner ++ b.closing ∷ rest) ≡ b'.opening ∷ (b'.inner ++ b'.closing ∷ rest') = sym (laid before block rest text b) ∙ e ∙ laid before block' rest' text' b' in
    let k = first_closing b.inner b'.inner b.closing b'.closing rest rest' b.opened.open_yet b'.opened.open_yet b.closed b'.closed (tail_same all) in
    let texts : text ≡ text' = b.within ∙ ap concat k.inner ∙ sym b'.within in
    let graphs : g ≡ g' = ok_same g g' (read text) (spells-read text g s) (ap read texts ∙ spells-read text' g' s') in
    record {
      lines = b.all ∙ (λ i. head_same all i ∷ (k.inner i ++ k.closing i ∷ [])) ∙ sym b'.all;
      items = ap (λ h. GraphItem h ∷ []) graphs;
      behind = k.rest;
    }

-- a line of a form that isn't `graph {` doesn't open a block
pub say_or_show : (before : List Item) (line : Line) (statement : LineContent) (item : Item) (block rest rest' : List Line) (text : List ℕ) → SaysLine line statement → made before statement ≡ Some item → IsBlock before block text
    → line ∷ rest ≡ block ++ rest' → ⊥
say_or_show before line statement item block rest rest' text says makes b e =
    let opens : line ≡ b.opening = head_same (e ∙ laid before block rest' text b) in
    let same : statement ≡ BlockLine = says_one b.opening statement BlockLine (subst (λ l. SaysLine l statement) opens says) b.opened.opens in
    none_some (ap (made before) (sym same) ∙ makes)

-- a skipped line doesn't open a block
pub skip_or_show : (before : List Item) (line : Line) (block rest rest' : List Line) (text : List ℕ) → is_skipped line ≡ true → IsBlock before block text → line ∷ rest ≡ block ++ rest' → ⊥
skip_or_show before line block rest rest' text skipped b e =
    let opens : line ≡ b.opening = head_same (e ∙ laid before block rest' text b) in
    not_skipped b.opening BlockLine b.opened.opens (subst (λ l. is_skipped l ≡ true) opens skipped)

-- the lines at the front that add items, and these items, are one
pub one_add : (before : List Item) (these those : List Line) (new new' : List Item) (rest rest' : List Line) → Add before these new → Add before those new' → these ++ rest ≡ those ++ rest'
    → SameAdd these those new new' rest rest'
one_add before _ _ _ _ rest rest' (Skip s) (Skip s') e = record { lines = ap (λ l. l ∷ []) (head_same e); items = refl; behind = tail_same e }
one_add before _ _ _ _ rest rest' (Skip {line = l} s) (Say {line = m} {statement = t} says right makes) e = absurd (not_skipped m t says (subst (λ l. is_skipped l ≡ true) (head_same e) s))
one_add before _ _ _ _ rest rest' (Say {line = m} {statement = t} says right makes) (Skip s) e = absurd (not_skipped m t says (subst (λ l. is_skipped l ≡ true) (sym (head_same e)) s))
one_add before _ _ _ _ rest rest' (Say {line = l} {statement = s} {item = i} says right makes) (Say {line = m} {statement = t} {item = j} says' right' makes') e =
    let same : s ≡ t = says_one m s t (subst (λ l. SaysLine l s) (head_same e) says) says' in
    record { lines = ap (λ l. l ∷ []) (head_same e); items = ap (λ i. i ∷ []) (some_same (sym makes ∙ ap (made before) same ∙ makes')); behind = tail_same e }
one_add before _ those _ _ rest rest' (Skip {line = l} s) (Show {text = text} b spells fresh) e = absurd (skip_or_show before l those rest rest' text s b e)
one_add before these _ _ _ rest rest' (Show {text = text} b spells fresh) (Skip {line = l} s) e = absurd (skip_or_show before l these rest' rest text s b (sym e))
one_add before _ those _ _ rest rest' (Say {line = l} {statement = s} {item = i} says right makes) (Show {text = text} b spells fresh) e = absurd (say_or_show before l s i those rest rest' text says makes b e)
one_add before these _ _ _ rest rest' (Show {text = text} b spells fresh) (Say {line = l} {statement = s} {item = i} says right makes) e = absurd (say_or_show before l s i these rest' rest text says makes b (sym e))
one_add before these those _ _ rest rest' (Show {text = t} {g = g} b s fresh) (Show {text = t'} {g = g'} b' s' fresh') e = two_blocks before these those rest rest' t t' g g' b b' s s' e
