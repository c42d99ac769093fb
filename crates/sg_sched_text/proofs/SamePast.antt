-- Two ways to read the same lines come to the same position, if neither goes on.
use Rattle.std.proofs.Common.{◌≡◌, ℕ, true, List, [], ◌∷◌, ◌++◌, refl, sym, ap, ◌∙◌, subst, append_assoc, append-nil}
use Rattle.std.specs.Prelude.{codes}
use Rattle.std.proofs.lemmas.List.Elements.{filter_map-append}
use Rattle.sg_model.specs.Lists.{has_text}
use Rattle.sg_model.specs.Names.{Name}
use Rattle.sg_model.proofs.Small.{contradicts, some_same, right_empty}
use Rattle.sg_model.proofs.Differ.{later_text}
use Rattle.sg_protocol.specs.Graph.{Graph, Edge}
use Rattle.sg_parse.specs.Grammar.{SpellsGraph}
use Rattle.sg_parse.specs.Reading.{read}
use Rattle.sg_parse.proofs.GivesGraph.{spells-read}
use Rattle.sg_sched.specs.Pair.{edge, graphs_of}
use Rattle.sg_sched.specs.Format.LineContents.{BlockLine, EdgeLine}
use Rattle.sg_sched.specs.Format.Forms.{SaysLine, is_skipped}
use Rattle.sg_sched.specs.Format.Items.{Item, EdgeItem, as_edge, blocks, edges, graphs, graph_names}
use Rattle.sg_sched.specs.Format.Numbered.{made}
use Rattle.sg_sched.specs.Format.Kinds.{Kind}
use Rattle.sg_sched.specs.Format.Spells.{Line, IsBlock, Add, Skip, Say, Show, Declare, IsWrong}
use Rattle.sg_sched.proofs.LineLaws.{says_one}
use Rattle.sg_sched.proofs.FormatOnce.{not_skipped, head_same}
use Rattle.sg_sched.proofs.FormatPieces.{laid, one_add, say_or_show, skip_or_show, ok_same}
use Rattle.sg_sched.proofs.FormatOne.{Prefix, Done, More, of_declare}
use Rattle.sg_sched.proofs.FormatApart.{add_or_wrong, one_text, names_append}
use Rattle.sg_sched.proofs.FormatNotBoth.{behind}

-- lines that declare items, from the front
pub prefix : {right : List Line} {items : List Item} → Declare right items → Prefix [] right items
prefix {right = right} {items = items} d = subst (λ ls. Prefix [] ls items) (append-nil right) (of_declare d [] items Done)

-- ---- the same position

-- no way to these items goes on from here
abbrev pub Ends : List Item → List Line → List Item → Type 0
Ends items rest all = (new : List Item) (more later : List Line) → Add items more new → rest ≡ more ++ later → (ls : List Line) → Prefix (items ++ new) ls all → ⊥

-- the same lines, the same items, and the same rest
pub record SamePast (right right' : List Line) (items items' : List Item) (rest rest' : List Line) : Type 0 where
  pub right_same : right ≡ right'
  pub items_same : items ≡ items'
  pub rest_same : rest ≡ rest'

pub same_past : {before items items' : List Item} {right right' : List Line} → Prefix before right items → Prefix before right' items' → (rest rest' : List Line) → Ends items rest items' → Ends items' rest' items
    → right ++ rest ≡ right' ++ rest' → SamePast right right' items items' rest rest'
same_past Done Done rest rest' p q e = record { right_same = refl; items_same = refl; rest_same = e }
same_past Done (More {before = b} {new = n} {more = m} {rest = r} a f) rest rest' p q e = absurd (p n m (r ++ rest') a (e ∙ append_assoc m r rest') r f)
same_past (More {before = b} {new = n} {more = m} {rest = r} a f) Done rest rest' p q e = absurd (q n m (r ++ rest) a (sym e ∙ append_assoc m r rest) r f)
same_past (More {before = b} {new = n} {more = m} {rest = r} a f) (More {new = n'} {all = all'} {more = m'} {rest = r'} a' f') rest rest' p q e =
    let k = one_add b m m' n n' (r ++ rest) (r' ++ rest') a a' (sym (append_assoc m r rest) ∙ e ∙ append_assoc m' r' rest') in
    let s = same_past f (subst (λ x. Prefix (b ++ x) r' all') (sym k.items) f') rest rest' p q k.behind in
    record { right_same = λ i. k.lines i ++ s.right_same i; items_same = s.items_same; rest_same = s.rest_same }

-- a way ends at wrong lines
pub wrong_ends : (items : List Item) (these rest : List Line) (kind : Kind) → IsWrong items these rest kind → (all : List Item) → Ends items (these ++ rest) all
wrong_ends items these rest kind w all new more later a e ls f = add_or_wrong items more these later rest new kind a w (sym e)

-- ---- edges

left_empty : {A : Type 0} (xs ys : List A) → xs ++ ys ≡ [] → xs ≡ []
left_empty [] ys e = refl
left_empty (x ∷ xs) ys e = absurd (cc)

-- an edge stays
edges_stay : {before all : List Item} {ls : List Line} → Prefix before ls all → (edges before ≡ [] → ⊥) → edges all ≡ [] → ⊥
edges_stay Done h e = h e
edges_stay (More {before = b} {new = n} a f) h e = edges_stay f (λ none. h (left_empty (edges b) (edges n) (sym (filter_map-append as_edge b n) ∙ none))) e

-- if no edge is declared, a way ends at an edge line
pub edge_ends : (items : List Item) (line : Line) (rest : List Line) (label : Name) (from to : ℕ) → SaysLine line (EdgeLine label from to) → (all : List Item) → edges all ≡ [] → Ends items (line ∷ rest) all
edge_ends items line rest label from to says all none new _ later (Skip {line = l} s) e ls f = not_skipped line (EdgeLine label from to) says (subst (λ l. is_skipped l ≡ true) (sym (head_same e)) s)
edge_ends items line rest label from to says all none _ _ later (Say {line = l} {statement = t} {item = i} says' right makes) e ls f =
    let same : t ≡ EdgeLine label from to = says_one line t (EdgeLine label from to) (subst (λ l. SaysLine l t) (sym (head_same e)) says') says in
    let item : i ≡ EdgeItem (edge label from to) = some_same (sym makes ∙ ap (made items) same) in
    edges_stay (subst (λ i. Prefix (items ++ i ∷ []) ls all) item f) (λ h. right_empty (edges items) (edge label from to) (sym (filter_map-append as_edge items (EdgeItem (edge label from to) ∷ [])) ∙ h)) none
edge_ends items line rest label from to says all none _ more later (Show {text = text} b spells fresh) e ls f =
    absurd (other (says_one line BlockLine (EdgeLine label from to) (subst (λ l. SaysLine l BlockLine) (sym (head_same (e ∙ laid items more later text b))) b.opened.opens) says))
  where
    other : BlockLine ≡ EdgeLine label from to → ⊥
    other p = cc

-- an edge is declared by an edge line
edge_then : (before all : List Item) (ls more : List Line) (line : Line) (label : Name) (from to : ℕ) → Prefix before ls all → SaysLine line (EdgeLine label from to) → ls ≡ line ∷ more → edges all ≡ [] → ⊥
edge_then before all _ more line label from to Done says e none = never e
  where
    never : {x : Line} {xs : List Line} → [] ≡ x ∷ xs → ⊥
    never p = cc
edge_then before all _ more line label from to (More {new = n} {more = m} {rest = r} a f) says e none = edge_ends before line more label from to says all none n m r a (sym e) r f

-- an edge is declared by lines with an edge line
pub some_edges : (right more : List Line) (line : Line) (items later : List Item) (label : Name) (from to : ℕ) → Declare right items → Declare (right ++ line ∷ more) later → SaysLine line (EdgeLine label from to)
    → edges later ≡ [] → ⊥
some_edges right more line items later label from to d d' says none =
    edge_then items later (line ∷ more) more line label from to (behind d (line ∷ more) later (prefix d')) says refl none

-- ---- the graph `pair`

pair_among : (es : List Edge) → (es ≡ [] → ⊥) → has_text (codes "pair") (graph_names (graphs_of es)) ≡ true
pair_among [] h = absurd (h refl)
pair_among (e ∷ es) h = refl

-- if an edge is declared, so is a graph named `pair`
pub pair_named : (items : List Item) → (edges items ≡ [] → ⊥) → has_text (codes "pair") (graph_names (graphs items)) ≡ true
pair_named items h = ap (has_text (codes "pair")) (names_append (blocks items) (graphs_of (edges items)))
    ∙ later_text (codes "pair") (graph_names (blocks items)) (graph_names (graphs_of (edges items))) (pair_among (edges items) h)

-- if an edge is declared, a way ends at a block of a graph named `pair`
pub pair_ends : (items : List Item) (block rest : List Line) (text : List ℕ) (g : Graph) → (edges items ≡ [] → ⊥) → IsBlock items block text → SpellsGraph text g → g.name ≡ codes "pair" → (all : List Item)
    → Ends items (block ++ rest) all
pair_ends items block rest text g some b spells named all new _ later (Skip {line = l} s) e ls f = skip_or_show items l block later rest text s b (sym e)
pair_ends items block rest text g some b spells named all _ _ later (Say {line = l} {statement = t} {item = i} says right makes) e ls f = say_or_show items l t i block later rest text says makes b (sym e)
pair_ends items block rest text g some b spells named all _ more later (Show {text = text'} {g = g'} b' spells' fresh) e ls f =
    let same : g' ≡ g = ok_same g' g (read text') (spells-read text' g' spells') (ap read (one_text items more block later rest text' text b' b (sym e)) ∙ spells-read text g spells) in
    contradicts (pair_named items some) (ap (λ n. has_text n (graph_names (graphs items))) (sym (ap (λ (x : Graph). x.name) same ∙ named)) ∙ fresh)
