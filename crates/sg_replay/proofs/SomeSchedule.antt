-- Bytes spell a schedule, or have a first wrong line.
use Rattle.std.proofs.Common.{◌≡◌, ◌≢◌, ℕ, zero, suc, ◌+◌, ◌≤◌, ◌⊎◌, inl, inr, Bool, true, false, not, ◌||◌, List, [], ◌∷◌, ◌++◌, length, codes, bytes_eq, Some, None, refl, sym, ap, ◌∙◌, subst, arith, append-nil, append_assoc, length-append}
use Rattle.std.specs.List.{concat, list_all}
use Rattle.std.proofs.lemmas.Bool.{cases_Bool}
use Rattle.std.proofs.lemmas.List.{map-append}
use Rattle.std.proofs.lemmas.List.Elements.{filter_map-append}
use Rattle.std.proofs.lemmas.Slice.Eq.{bytes_eq-Decides}
use Rattle.sg_compile.specs.Laws.{Surely}
use Rattle.sg_compile.proofs.Sure.{or_not, so, sure}
use Rattle.sg_model.specs.Lists.{has_text}
use Rattle.sg_model.proofs.Small.{cases_Option, clash}
use Rattle.sg_parse.specs.Grammar.{SpellsGraph}
use Rattle.sg_protocol.specs.Graph.{Edge, Graph as AGraph}
use Rattle.sg_protocol.specs.Schedule.{Schedule}
use Rattle.sg_protocol.specs.Texts.{real}
use Rattle.sg_sched.specs.Pair.{graphs_of}
use Rattle.sg_sched.specs.Text.{lines}
use Rattle.sg_sched.specs.Format.Faults.{fault}
use Rattle.sg_sched.specs.Format.Forms.{SaysLine, is_skipped}
use Rattle.sg_sched.specs.Format.Items.{EdgeItem, GraphItem, HonestItem, Item, KeyItem, SessionItem, SoFar, StepItem, as_edge, blocks, edges, graph_names, graphs, schedule_of, so_far}
use Rattle.sg_sched.specs.Format.Kinds.{Form, Graph, Kind, Twice}
use Rattle.sg_sched.specs.Format.LineContents.{BlockLine, EdgeLine, LineContent}
use Rattle.sg_sched.specs.Format.Numbered.{made, made_after}
use Rattle.sg_sched.specs.Format.Spells.{Add, AtEdge, AtIt, Declare, IsBlock, IsFirstEdge, IsFirstFault, IsWrong, Line, Next, NoGraph, NotClosed, Nothing, OfAForm, OfNoForm, SameGraph, Say, Show, Skip, SpellsSchedule, closes}
use Rattle.sg_ending.proofs.SomeEnding.{graph_or_none}

-- ---- lines that make items

-- a line that makes nothing begins a block
no_item : (past : SoFar) (l : LineContent) → made_after past l ≡ None → l ≡ BlockLine
no_item past BlockLine h = refl
no_item past _ h = absurd (cc)

-- a line that makes an edge is an edge line
edge_made : (past : SoFar) (l : LineContent) (e : Edge) → made_after past l ≡ Some (EdgeItem e) → (label : List ℕ) × (from : ℕ) × (to : ℕ) × (l ≡ EdgeLine label from to)
edge_made past (EdgeLine label from to) e h = (label, from, to, refl)
edge_made past _ e h = absurd (cc)

-- ---- the first edge line

-- these lines have a first edge line
abbrev HasFirstEdge : List Line → Type 0
HasFirstEdge ls = (n : ℕ) × IsFirstEdge ls n

-- with more lines behind them it is still the first
followed : (ls more : List Line) → HasFirstEdge ls → HasFirstEdge (ls ++ more)
followed ls more (n, e) = (
  n,
  record {
    right = e.right;
    edge_line = e.edge_line;
    more = e.more ++ more;
    items = e.items;
    all = ap (λ xs. xs ++ more) e.all ∙ append_assoc e.right (e.edge_line ∷ e.more) more;
    declared = e.declared;
    no_edge = e.no_edge;
    label = e.label;
    from = e.from;
    to = e.to;
    is_edge = e.is_edge;
    number = e.number;
  },
)

no_edge_more : (items new : List Item) → edges items ≡ [] → edges new ≡ [] → edges (items ++ new) ≡ []
no_edge_more items new a b = filter_map-append as_edge items new ∙ (λ i. a i ++ b i)

added_edge : (first more : List Line) (items new : List Item) → Declare first items → edges items ≡ [] → Add items more new → edges (items ++ new) ≢ [] → HasFirstEdge (first ++ more)
added_edge first _ items _ d none (Skip {line} s) some = absurd (some (no_edge_more items [] none refl))
added_edge first _ items _ d none (Show {block} {text} {g} b s n) some = absurd (some (no_edge_more items (GraphItem g ∷ []) none refl))
added_edge first _ items _ d none (Say {line} {statement} {item} says right is) some = by item is some
  where
    by : (item : Item) → made items statement ≡ Some item → edges (items ++ item ∷ []) ≢ [] → HasFirstEdge (first ++ line ∷ [])
    by (EdgeItem e) is some =
        let w = edge_made (so_far items) statement e is in
        let says_edge = subst (SaysLine line) w.3 says in (
          suc (length first),
          record { right = first; edge_line = line; more = []; items = items; all = refl; declared = d; no_edge = none; label = w.0; from = w.1; to = w.2; is_edge = says_edge; number = refl },
        )
    by (GraphItem g) is some = absurd (some (no_edge_more items (GraphItem g ∷ []) none refl))
    by (HonestItem n) is some = absurd (some (no_edge_more items (HonestItem n ∷ []) none refl))
    by (KeyItem k) is some = absurd (some (no_edge_more items (KeyItem k ∷ []) none refl))
    by (SessionItem s) is some = absurd (some (no_edge_more items (SessionItem s ∷ []) none refl))
    by (StepItem s) is some = absurd (some (no_edge_more items (StepItem s ∷ []) none refl))

none_or_some : {A : Type 0} (xs : List A) → (xs ≡ []) ⊎ (xs ≢ [])
none_or_some [] = inl refl
none_or_some (x ∷ xs) = inr (λ e. cc)

first_edge : (ls : List Line) (items : List Item) → Declare ls items → edges items ≢ [] → HasFirstEdge ls
first_edge _ _ Nothing some = absurd (some refl)
first_edge _ _ (Next {first} {more} {items} {new} d add) some =
    elim (none_or_some (edges items)) [
      | inl none ↦ added_edge first more items new d none add some
      | inr there ↦ followed first more (first_edge first items d there)
    ]

-- ---- blocks

-- the lines up to the first that closes a block, and those behind it; or none of them closes one
record IsClosed (ls : List Line) : Type 0 where
  inner : List Line
  closing : Line
  behind : List Line
  all : ls ≡ inner ++ closing ∷ behind
  open_yet : list_all (λ l. not (closes l)) inner ≡ true
  closed : closes closing ≡ true

closed_or_open : (ls : List Line) → IsClosed ls ⊎ (list_all (λ l. not (closes l)) ls ≡ true)
closed_or_open [] = inr refl
closed_or_open (l ∷ ls) =
    elim (cases_Bool (closes l)) [
      | inl y ↦ inl (record { inner = []; closing = l; behind = ls; all = refl; open_yet = refl; closed = y })
      | inr n ↦ elim (closed_or_open ls) [
        | inl c ↦
            inl (record { inner = l ∷ c.inner; closing = c.closing; behind = c.behind; all = ap (λ xs. l ∷ xs) c.all; open_yet = rw n c.open_yet; closed = c.closed })
        | inr o ↦ inr (rw n o)
      ]
    ]

in_second : (name : List ℕ) (xs ys : List (List ℕ)) → has_text name (xs ++ ys) ≡ true → has_text name xs ≡ false → has_text name ys ≡ true
in_second name [] ys h n = h
in_second name (x ∷ xs) ys h n = by (bytes_eq name x) (in_second name xs ys) h n
  where
    by : (b : Bool) → (has_text name (xs ++ ys) ≡ true → has_text name xs ≡ false → has_text name ys ≡ true) → (b || has_text name (xs ++ ys)) ≡ true → (b || has_text name xs) ≡ false → has_text name ys ≡ true
    by true later h n = absurd (let z : true ≡ false = n in cc)
    by false later h n = later h n

of_edges : (name : List ℕ) (es : List Edge) → has_text name (graph_names (graphs_of es)) ≡ true → (es ≢ []) × (name ≡ codes "pair")
of_edges name [] h = absurd (let z : false ≡ true = h in cc)
of_edges name (e ∷ es) h =
    elim (cases_Bool (bytes_eq name (codes "pair"))) [
      | inl y ↦ ((λ q. cc), (bytes_eq-Decides name (codes "pair")).0 y)
      | inr n ↦ absurd (let other : has_text name (graph_names (graphs_of (e ∷ es))) ≡ false = rw n refl in clash (has_text name (graph_names (graphs_of (e ∷ es)))) h other)
    ]

-- a name of the graphs so far that no block has is that of the graph of the edge lines
named_pair : (name : List ℕ) (items : List Item) → has_text name (graph_names (graphs items)) ≡ true → has_text name (graph_names (blocks items)) ≡ false → (edges items ≢ []) × (name ≡ codes "pair")
named_pair name items there other =
    let apart : graph_names (graphs items) ≡ graph_names (blocks items) ++ graph_names (graphs_of (edges items)) = map-append (λ (g : AGraph). g.name) (blocks items) (graphs_of (edges items)) in
    of_edges name (edges items) (in_second name (graph_names (blocks items)) (graph_names (graphs_of (edges items))) (sym (ap (has_text name) apart) ∙ there) other)

-- ---- all lines

module _ (bytes : List ℕ) where
  abbrev SpelledOrWrong : Type 0
  SpelledOrWrong = ((s : Schedule) × SpellsSchedule real bytes s) ⊎ ((n : ℕ) × (kind : Kind) × IsFirstFault bytes n kind)

  module _ (right : List Line) (items : List Item) (declared : Declare right items) where
    -- the last of these lines is wrong
    wrong : (these rest : List Line) (kind : Kind) → lines bytes ≡ right ++ (these ++ rest) → IsWrong items these rest kind → SpelledOrWrong
    wrong these rest kind all is = inr (length right + length these, kind, AtIt (record { right = right; these = these; rest = rest; items = items; all = all; declared = declared; wrong = is; number = refl }))

    -- a block of a graph named `pair` behind edge lines
    pair_wrong : (block rest : List Line) (text : List ℕ) (g : AGraph) → lines bytes ≡ right ++ (block ++ rest) → IsBlock items block text → SpellsGraph text g → edges items ≢ [] → g.name ≡ codes "pair" → SpelledOrWrong
    pair_wrong block rest text g all is spelled some named =
        let (n, e) = first_edge right items declared some in
        inr (n, Twice, AtEdge (record { right = right; block = block; rest = rest; items = items; text = text; all = all; first_edge = e; declared = declared; is_block = is; graph = g; spelled = spelled; named = named }))

  -- the lines so far are right, the next one is looked at, and what follows at most n lines later is known
  module _ (n : ℕ) (go : (rest right : List Line) (items : List Item) → length rest ≤ n → Declare right items → lines bytes ≡ right ++ rest → Surely SpelledOrWrong)
      (line : Line) (rest right : List Line) (items : List Item) (few : length (line ∷ rest) ≤ suc n) (declared : Declare right items) (all : lines bytes ≡ right ++ line ∷ rest) where
    -- the next line is right
    next : (more : List Item) → Add items (line ∷ []) more → Surely SpelledOrWrong
    next more add = go rest (right ++ line ∷ []) (items ++ more) (omega (arith, few)) (Next declared add) (all ∙ sym (append_assoc right (line ∷ []) rest))

    -- a block of a graph
    of_graph : (block behind : List Line) (text : List ℕ) (g : AGraph) → length behind ≤ n → lines bytes ≡ right ++ (block ++ behind) → IsBlock items block text → SpellsGraph text g → Surely SpelledOrWrong
    of_graph block behind text g less whole is spelled =
        elim (cases_Bool (has_text g.name (graph_names (blocks items)))) [
          | inl same ↦ sure (wrong right items declared block behind Twice whole (SameGraph is spelled same))
          | inr other ↦ elim (cases_Bool (has_text g.name (graph_names (graphs items)))) [
            | inl pair ↦ (let named = named_pair g.name items pair other in sure (pair_wrong right items declared block behind text g whole is spelled named.0 named.1))
            | inr new ↦ go behind (right ++ block) (items ++ GraphItem g ∷ []) less (Next declared (Show is spelled new)) (whole ∙ sym (append_assoc right block behind))
          ]
        ]

    -- a line that begins a block
    of_block : SaysLine line BlockLine → fault items BlockLine ≡ None → Surely SpelledOrWrong
    of_block says fits =
        elim (closed_or_open rest) [
          | inr open_yet ↦
              sure (wrong right items declared (line ∷ rest) [] Form (all ∙ ap (λ ls. right ++ ls) (sym (append-nil (line ∷ rest)))) (NotClosed (record { opens = says; in_group = fits; open_yet = open_yet })))
          | inl c ↦
              (let block : List Line = line ∷ c.inner ++ c.closing ∷ [] in
              let is : IsBlock items block (concat c.inner) =
              record { opening = line; inner = c.inner; closing = c.closing; all = refl; opened = record { opens = says; in_group = fits; open_yet = c.open_yet }; closed = c.closed; within = refl } in
              let whole : lines bytes ≡ right ++ (block ++ c.behind) = all ∙ ap (λ ls. right ++ line ∷ ls) (c.all ∙ sym (append_assoc c.inner (c.closing ∷ []) c.behind)) in
              let size : length rest ≡ length c.inner + length (c.closing ∷ c.behind) = ap (λ (ls : List Line). length ls) c.all ∙ length-append c.inner (c.closing ∷ c.behind) in
              elim (graph_or_none (concat c.inner)) [
                | inr f ↦ sure (wrong right items declared block c.behind (Graph f.0) whole (NoGraph is f.1))
                | inl g ↦ of_graph block c.behind (concat c.inner) g.0 (omega (arith, few, size)) whole is g.1
              ])
        ]

    -- a line of a form
    of_form : (statement : LineContent) → SaysLine line statement → Surely SpelledOrWrong
    of_form statement says =
        elim (cases_Option (fault items statement)) [
          | inr kind ↦ sure (wrong right items declared (line ∷ []) rest kind.0 all (OfAForm says kind.1))
          | inl fits ↦ elim (cases_Option (made items statement)) [
            | inr item ↦ next (item.0 ∷ []) (Say says fits item.1)
            | inl none ↦ (let same : statement ≡ BlockLine = no_item (so_far items) statement none in of_block (subst (SaysLine line) same says) (subst (λ l. fault items l ≡ None) same fits))
          ]
        ]

    at_line : Surely SpelledOrWrong
    at_line =
        elim (cases_Bool (is_skipped line)) [
          | inl skipped ↦ next [] (Skip skipped)
          | inr said ↦
              so (or_not ((statement : LineContent) × SaysLine line statement))
              (λ a. elim a [
                | inl s ↦ of_form s.0 s.1
                | inr none ↦ sure (wrong right items declared (line ∷ []) rest Form all (OfNoForm said (λ statement says. none (statement, says))))
              ])
        ]

  -- the lines so far are right; at most n are left
  scan : (n : ℕ) (rest right : List Line) (items : List Item) → length rest ≤ n → Declare right items → lines bytes ≡ right ++ rest → Surely SpelledOrWrong
  scan n [] right items few declared all =
      sure (inl (schedule_of real items, record { items = items; declared = subst (λ ls. Declare ls items) (sym (all ∙ append-nil right)) declared; schedule = refl }))
  scan zero (line ∷ rest) right items few declared all = absurd (omega (arith, few))
  scan (suc n) (line ∷ rest) right items few declared all = at_line n (scan n) line rest right items few declared all

pub schedule_or_wrong : (bytes : List ℕ) → Surely (((s : Schedule) × SpellsSchedule real bytes s) ⊎ ((n : ℕ) × (kind : Kind) × IsFirstFault bytes n kind))
schedule_or_wrong bytes = scan bytes (length (lines bytes)) (lines bytes) [] [] (omega arith) Nothing refl
