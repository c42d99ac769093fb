-- A text with edge lines and a block of a graph named `pair` spells no schedule.
use Rattle.std.specs.Prelude.{◌≡◌, ℕ, Bool, true, false, ◌||◌, List, [], ◌∷◌, ◌++◌, codes, refl, Option, Some, None}
use Rattle.std.specs.List.{list_any}
use Rattle.std.proofs.Common.{sym, ◌∙◌, ap, subst, append-nil}
use Rattle.std.proofs.lemmas.List.Folds.{list_any-append}
use Rattle.sg_model.specs.Lists.{has_text}
use Rattle.sg_model.specs.Names.{Name}
use Rattle.sg_model.proofs.Differ.{later_text}
use Rattle.sg_model.proofs.Small.{contradicts, or_true}
use Rattle.sg_protocol.specs.Graph.{Graph, Edge}
use Rattle.sg_protocol.specs.Texts.{Hash}
use Rattle.sg_protocol.specs.Schedule.{Schedule}
use Rattle.sg_parse.specs.Grammar.{SpellsGraph}
use Rattle.sg_parse.specs.Reading.{read}
use Rattle.sg_parse.proofs.GivesGraph.{spells-read}
use Rattle.sg_sched.specs.Text.{lines}
use Rattle.sg_sched.specs.Pair.{edge, graphs_of}
use Rattle.sg_sched.specs.Format.LineContents.{EdgeLine}
use Rattle.sg_sched.specs.Format.Forms.{SaysLine, is_skipped}
use Rattle.sg_sched.specs.Format.Items.{Item, GraphItem, EdgeItem, HonestItem, KeyItem, SessionItem, StepItem, blocks, edges, graphs, graph_names}
use Rattle.sg_sched.specs.Format.Numbered.{made}
use Rattle.sg_sched.specs.Format.Spells.{Line, IsBlock, Skip, Say, Show, SpellsSchedule, IsPairAt}
use Rattle.sg_sched.proofs.LineLaws.{says_one}
use Rattle.sg_sched.proofs.FormatOnce.{not_skipped, head_same}
use Rattle.sg_sched.proofs.FormatPieces.{laid, say_or_show, skip_or_show, ok_same}
use Rattle.sg_sched.proofs.FormatOne.{Prefix, Done, More, of_declare}
use Rattle.sg_sched.proofs.FormatApart.{one_text, names_append}
use Rattle.sg_sched.proofs.FormatNotBoth.{behind}

-- an edge is declared
abbrev is_edge : Item → Bool
is_edge (EdgeItem e) = true
is_edge other = false

abbrev some_edge : List Item → Bool
some_edge is = list_any is_edge is

edge_kept : (xs ys : List Item) → some_edge xs ≡ true → some_edge (xs ++ ys) ≡ true
edge_kept xs ys h = list_any-append is_edge xs ys ∙ ap (λ b. b || some_edge ys) h

edge_last : (xs : List Item) (e : Edge) → some_edge (xs ++ EdgeItem e ∷ []) ≡ true
edge_last xs e = list_any-append is_edge xs (EdgeItem e ∷ []) ∙ or_true (some_edge xs)

prefix_edge : {before all : List Item} {ls : List Line} → Prefix before ls all → some_edge before ≡ true → some_edge all ≡ true
prefix_edge Done h = h
prefix_edge (More {before = b} {new = n} a f) h = prefix_edge f (edge_kept b n h)

-- if an edge is declared, the edges make the graph `pair`
pair_of : (is : List Item) → some_edge is ≡ true → has_text (codes "pair") (graph_names (graphs_of (edges is))) ≡ true
pair_of [] h = absurd (cc)
pair_of (EdgeItem e ∷ is) h = refl
pair_of (GraphItem g ∷ is) h = pair_of is h
pair_of (HonestItem n ∷ is) h = pair_of is h
pair_of (KeyItem k ∷ is) h = pair_of is h
pair_of (SessionItem s ∷ is) h = pair_of is h
pair_of (StepItem s ∷ is) h = pair_of is h

pair_named : (is : List Item) → some_edge is ≡ true → has_text (codes "pair") (graph_names (graphs is)) ≡ true
pair_named is h = ap (has_text (codes "pair")) (names_append (blocks is) (graphs_of (edges is)))
    ∙ later_text (codes "pair") (graph_names (blocks is)) (graph_names (graphs_of (edges is))) (pair_of is h)

-- the item of an edge line
edge_then : (before all : List Item) (ls more : List Line) (line : Line) (label : Name) (from to : ℕ) → Prefix before ls all → SaysLine line (EdgeLine label from to) → ls ≡ line ∷ more → some_edge all ≡ true
edge_then before all _ more line label from to Done says e = absurd (never e)
  where
    never : {x : Line} {xs : List Line} → [] ≡ x ∷ xs → ⊥
    never p = cc
edge_then before all _ more line label from to (More {rest = r} (Skip {line = l} s) f) says e = absurd (not_skipped line (EdgeLine label from to) says (subst (λ l. is_skipped l ≡ true) (head_same e) s))
edge_then before all _ more line label from to (More {rest = r} (Show {block = block} {text = text} b spells fresh) f) says e =
    absurd (say_or_show before line (EdgeLine label from to) (EdgeItem (edge label from to)) block more r text says refl b (sym e))
edge_then before all _ more line label from to (More {rest = r} (Say {line = l} {statement = t} {item = i} says' right makes) f) says e =
    let same : t ≡ EdgeLine label from to = says_one line t (EdgeLine label from to) (subst (λ l. SaysLine l t) (head_same e) says') says in
    let item : Some i ≡ Some (EdgeItem (edge label from to)) = sym makes ∙ ap (made before) same in
    prefix_edge f (ap (λ o. some_edge (before ++ inside i o ∷ [])) item ∙ edge_last before (edge label from to))
  where
    inside : Item → Option Item → Item
    inside i None = i
    inside i (Some x) = x

-- no block of a graph named `pair` is right if an edge is declared
no_pair : (before all : List Item) (ls block rest : List Line) (text : List ℕ) (g : Graph) → Prefix before ls all → some_edge before ≡ true → IsBlock before block text → SpellsGraph text g → g.name ≡ codes "pair" → ls ≡ block ++ rest → ⊥
no_pair before all _ block rest text g Done h b spells named e = never (e ∙ laid before block rest text b)
  where
    never : {x : Line} {xs : List Line} → [] ≡ x ∷ xs → ⊥
    never p = cc
no_pair before all _ block rest text g (More {rest = r} (Skip {line = l} s) f) h b spells named e = skip_or_show before l block r rest text s b e
no_pair before all _ block rest text g (More {rest = r} (Say {line = l} {statement = t} {item = i} says right makes) f) h b spells named e = say_or_show before l t i block r rest text says makes b e
no_pair before all _ block rest text g (More {rest = r} (Show {block = block'} {text = text'} {g = g'} b' spells' fresh) f) h b spells named e =
    let same : g' ≡ g = ok_same g' g (read text') (spells-read text' g' spells') (ap read (one_text before block' block r rest text' text b' b e) ∙ spells-read text g spells) in
    contradicts (pair_named before h) (ap (λ n. has_text n (graph_names (graphs before))) (sym (ap (λ (x : Graph). x.name) same ∙ named)) ∙ fresh)

-- bytes that spell a schedule have no block of a graph named `pair` beside edge lines
pub no_pair_at : (sha : Hash) (bytes : List ℕ) (s : Schedule) (n : ℕ) → SpellsSchedule sha bytes s → IsPairAt (lines bytes) n → ⊥
no_pair_at sha bytes s n p w =
    let f = w.first_edge in
    let whole : Prefix [] (lines bytes) p.items = subst (λ ls. Prefix [] ls p.items) (append-nil (lines bytes)) (of_declare p.declared [] p.items Done) in
    let cut : Prefix w.items (w.block ++ w.rest) p.items = behind w.declared (w.block ++ w.rest) p.items (subst (λ ls. Prefix [] ls p.items) w.all whole) in
    let first : Prefix [] w.right w.items = subst (λ ls. Prefix [] ls w.items) (append-nil w.right) (of_declare w.declared [] w.items Done) in
    let further : Prefix f.items (f.edge_line ∷ f.more) w.items = behind f.declared (f.edge_line ∷ f.more) w.items (subst (λ ls. Prefix [] ls w.items) f.all first) in
    let edged : some_edge w.items ≡ true = edge_then f.items w.items (f.edge_line ∷ f.more) f.more f.edge_line f.label f.from f.to further f.is_edge refl in
    no_pair w.items p.items (w.block ++ w.rest) w.block w.rest w.text w.graph cut edged w.is_block w.spelled w.named refl
