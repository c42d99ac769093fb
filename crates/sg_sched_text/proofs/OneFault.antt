-- Bytes have one first fault at most, and none if they spell a schedule.
use Rattle.std.proofs.Common.{◌≡◌, ℕ, suc, ◌+◌, Bool, true, false, ◌||◌, List, [], ◌∷◌, ◌++◌, length, refl, sym, ap, ◌∙◌, subst, append_assoc, append-nil}
use Rattle.std.specs.Prelude.{Option, Some, None, Result, Err, codes, bytes_eq}
use Rattle.std.proofs.lemmas.List.Elements.{filter_map-append}
use Rattle.std.proofs.lemmas.Bool.{or_parts}
use Rattle.sg_model.specs.Lists.{has_text}
use Rattle.sg_model.proofs.Small.{same_bytes, contradicts}
use Rattle.sg_model.proofs.Differ.{no_text_both}
use Rattle.sg_protocol.specs.Graph.{Graph, Edge}
use Rattle.sg_protocol.specs.Schedule.{Schedule}
use Rattle.sg_protocol.specs.Texts.{Hash}
use Rattle.sg_parse.specs.Grammar.{SpellsGraph}
use Rattle.sg_parse.specs.Reading.{read}
use Rattle.sg_parse.specs.declared.fault.ParseFault.{ParseFault}
use Rattle.sg_parse.proofs.GivesGraph.{spells-read}
use Rattle.sg_sched.specs.Text.{lines}
use Rattle.sg_sched.specs.Format.LineContents.{LineContent, BlockLine, EdgeLine, HonestLine, KeyLine, SessionLine, StartLine, ActLine, AbandonLine, DeliverLine, MakeLine}
use Rattle.sg_sched.specs.Format.Forms.{SaysLine}
use Rattle.sg_sched.specs.Format.Items.{Item, GraphItem, EdgeItem, HonestItem, KeyItem, SessionItem, StepItem, as_block, as_edge, blocks, edges, graphs, graph_names, so_far}
use Rattle.sg_sched.specs.Format.Numbered.{made}
use Rattle.sg_sched.specs.Format.Kinds.{Kind, Graph as OfGraph}
use Rattle.sg_sched.specs.Format.Faults.{fault}
use Rattle.sg_sched.specs.Format.Spells.{Line, IsOpened, IsBlock, Skip, Say, Show, Declare, Nothing, Next, SpellsSchedule, IsWrong, OfNoForm, OfAForm, NotClosed, NoGraph, SameGraph, IsWrongAt, IsPairAt, IsFirstFault, AtIt, AtEdge}
use Rattle.sg_sched.proofs.LineLaws.{says_one}
use Rattle.sg_sched.proofs.FormatOnce.{head_same, tail_same, first_closing}
use Rattle.sg_sched.proofs.FormatPieces.{laid, ok_same}
use Rattle.sg_sched.proofs.FormatApart.{one_text, names_append, never_closed, ok_err}
use Rattle.sg_sched.proofs.FormatNotBoth.{not_both}
use Rattle.sg_sched.proofs.FormatPairOnce.{no_pair_at}
use Rattle.sg_sched_text.proofs.RightLines.{right}
use Rattle.sg_sched_text.proofs.SamePast.{prefix, same_past, wrong_ends, edge_ends, some_edges, pair_named, pair_ends}

-- ---- no block of the name `pair` if an edge is declared

no_graph_made : (items : List Item) (statement : LineContent) (g : Graph) → made items statement ≡ Some (GraphItem g) → ⊥
no_graph_made items BlockLine g e = cc
no_graph_made items (EdgeLine label from to) g e = cc
no_graph_made items (HonestLine who) g e = cc
no_graph_made items (KeyLine one two digits) g e = cc
no_graph_made items (SessionLine name graph nonce names version) g e = cc
no_graph_made items (StartLine who session) g e = cc
no_graph_made items (ActLine who session label values) g e = cc
no_graph_made items (AbandonLine who session) g e = cc
no_graph_made items (DeliverLine who what) g e = cc
no_graph_made items (MakeLine c) g e = cc

-- the graphs of blocks have no such name
abbrev NoPair : List Item → Type 0
NoPair items = has_text (codes "pair") (graph_names (blocks items)) ≡ false

edge_right : (items : List Item) (statement : LineContent) (e : Edge) → made items statement ≡ Some (EdgeItem e) → fault items statement ≡ None → NoPair items
edge_right items BlockLine e m f = absurd (cc)
edge_right items (EdgeLine label from to) e m f = (or_parts _ _ (right (so_far items) (EdgeLine label from to) f).once).1
edge_right items (HonestLine who) e m f = absurd (cc)
edge_right items (KeyLine one two digits) e m f = absurd (cc)
edge_right items (SessionLine name graph nonce names version) e m f = absurd (cc)
edge_right items (StartLine who session) e m f = absurd (cc)
edge_right items (ActLine who session label values) e m f = absurd (cc)
edge_right items (AbandonLine who session) e m f = absurd (cc)
edge_right items (DeliverLine who what) e m f = absurd (cc)
edge_right items (MakeLine c) e m f = absurd (cc)

-- an item that is no block and no edge changes neither
module _ (items : List Item) (i : Item) where
  blocks_stay : as_block i ≡ None → blocks (i ∷ []) ≡ [] → NoPair items → NoPair (items ++ i ∷ [])
  blocks_stay other none h = ap (λ gs. has_text (codes "pair") (graph_names gs)) (filter_map-append as_block items (i ∷ []) ∙ ap (λ gs. blocks items ++ gs) none ∙ append-nil (blocks items)) ∙ h

  edges_same : edges (i ∷ []) ≡ [] → edges (items ++ i ∷ []) ≡ edges items
  edges_same none = filter_map-append as_edge items (i ∷ []) ∙ ap (λ es. edges items ++ es) none ∙ append-nil (edges items)

statement_no_pair : (items : List Item) (statement : LineContent) (i : Item) → made items statement ≡ Some i → fault items statement ≡ None → ((edges items ≡ [] → ⊥) → NoPair items) → (edges (items ++ i ∷ []) ≡ [] → ⊥) → NoPair (items ++ i ∷ [])
statement_no_pair items statement (GraphItem g) m f ih some = absurd (no_graph_made items statement g m)
statement_no_pair items statement (EdgeItem e) m f ih some = blocks_stay items (EdgeItem e) refl refl (edge_right items statement e m f)
statement_no_pair items statement (HonestItem who) m f ih some = blocks_stay items (HonestItem who) refl refl (ih (λ none. some (edges_same items (HonestItem who) refl ∙ none)))
statement_no_pair items statement (KeyItem k) m f ih some = blocks_stay items (KeyItem k) refl refl (ih (λ none. some (edges_same items (KeyItem k) refl ∙ none)))
statement_no_pair items statement (SessionItem s) m f ih some = blocks_stay items (SessionItem s) refl refl (ih (λ none. some (edges_same items (SessionItem s) refl ∙ none)))
statement_no_pair items statement (StepItem s) m f ih some = blocks_stay items (StepItem s) refl refl (ih (λ none. some (edges_same items (StepItem s) refl ∙ none)))

shown_no_pair : (items : List Item) (g : Graph) → has_text g.name (graph_names (graphs items)) ≡ false → (edges items ≡ [] → ⊥) → NoPair items → NoPair (items ++ GraphItem g ∷ [])
shown_no_pair items g fresh some h =
    ap (λ gs. has_text (codes "pair") (graph_names gs)) (filter_map-append as_block items (GraphItem g ∷ []))
    ∙ ap (has_text (codes "pair")) (names_append (blocks items) (g ∷ []))
    ∙ no_text_both (codes "pair") (graph_names (blocks items)) (g.name ∷ []) h (by (bytes_eq (codes "pair") g.name) refl)
  where
    by : (b : Bool) → bytes_eq (codes "pair") g.name ≡ b → (b || false) ≡ false
    by false e = refl
    by true e = absurd (contradicts (pair_named items some) (ap (λ n. has_text n (graph_names (graphs items))) (same_bytes (codes "pair") g.name e) ∙ fresh))

no_pair_block : {ls : List Line} {items : List Item} → Declare ls items → (edges items ≡ [] → ⊥) → NoPair items
no_pair_block Nothing some = absurd (some refl)
no_pair_block (Next {items = items} d (Skip s)) some = subst NoPair (sym (append-nil items)) (no_pair_block d (λ none. some (ap edges (append-nil items) ∙ none)))
no_pair_block (Next {items = items} d (Say {statement = statement} {item = i} says f m)) some = statement_no_pair items statement i m f (no_pair_block d) some
no_pair_block (Next {items = items} d (Show {g = g} b spells fresh)) some =
    let same = edges_same items (GraphItem g) refl in
    shown_no_pair items g fresh (λ none. some (same ∙ none)) (no_pair_block d (λ none. some (same ∙ none)))

-- ---- one fault at one position

some_kind : {k j : Kind} → Some k ≡ Some j → k ≡ j
some_kind {k = k} e = ap inside e
  where
    inside : Option Kind → Kind
    inside None = k
    inside (Some x) = x

no_kind : {k : Kind} → Some k ≡ None → ⊥
no_kind e = cc

-- a line with which a block begins is of a form
no_form : (before : List Item) (line opening : Line) (ls ls' : List Line) → ((statement : LineContent) → SaysLine line statement → ⊥) → SaysLine opening BlockLine → line ∷ ls ≡ opening ∷ ls' → ⊥
no_form before line opening ls ls' none opens e = none BlockLine (subst (λ l. SaysLine l BlockLine) (sym (head_same e)) opens)

-- and right by itself
no_fault : (before : List Item) (line opening : Line) (ls ls' : List Line) (statement : LineContent) (k : Kind) → SaysLine line statement → fault before statement ≡ Some k → SaysLine opening BlockLine → fault before BlockLine ≡ None
    → line ∷ ls ≡ opening ∷ ls' → ⊥
no_fault before line opening ls ls' statement k says wrong opens in_group e =
    no_kind (sym wrong ∙ ap (fault before) (says_one opening statement BlockLine (subst (λ l. SaysLine l statement) (head_same e) says) opens) ∙ in_group)

-- a block that isn't closed is none that is
open_or_block : (before : List Item) (opening : Line) (inner block rest : List Line) (text : List ℕ) → IsOpened before opening inner → IsBlock before block text → (opening ∷ inner) ++ [] ≡ block ++ rest → ⊥
open_or_block before opening inner block rest text op b e =
    never_closed inner b.inner b.closing rest op.open_yet b.closed (sym (append-nil inner) ∙ tail_same (e ∙ laid before block rest text b))

-- two blocks at one position have as many lines
same_length : (before : List Item) (block block' rest rest' : List Line) (text text' : List ℕ) → IsBlock before block text → IsBlock before block' text' → block ++ rest ≡ block' ++ rest' → length block ≡ length block'
same_length before block block' rest rest' text text' b b' e =
    let all = tail_same (sym (laid before block rest text b) ∙ e ∙ laid before block' rest' text' b') in
    let k = first_closing b.inner b'.inner b.closing b'.closing rest rest' b.opened.open_yet b'.opened.open_yet b.closed b'.closed all in
    ap (λ ls. length ls) b.all ∙ (λ i. suc (length (k.inner i ++ k.closing i ∷ []))) ∙ sym (ap (λ ls. length ls) b'.all)

err_same : (e f : ParseFault) (r : Result Graph ParseFault) → r ≡ Err e → r ≡ Err f → e ≡ f
err_same e f r p q = ap inside (sym p ∙ q)
  where
    inside : Result Graph ParseFault → ParseFault
    inside (Err x) = x
    inside other = e

-- the same number of lines, and the same kind
pub record SameFault (these these' : List Line) (k j : Kind) : Type 0 where
  pub count : length these ≡ length these'
  pub kind : k ≡ j

module _ (before : List Item) where
  same_wrong : (these these' rest rest' : List Line) (k j : Kind) → IsWrong before these rest k → IsWrong before these' rest' j → these ++ rest ≡ these' ++ rest' → SameFault these these' k j
  same_wrong _ _ rest rest' _ _ (OfNoForm no_skip none) (OfNoForm no_skip' none') e = record { count = refl; kind = refl }
  same_wrong _ _ rest rest' _ j (OfNoForm no_skip none) (OfAForm {line = m} {statement = t} says wrong) e = absurd (none t (subst (λ l. SaysLine l t) (sym (head_same e)) says))
  same_wrong _ _ rest rest' k _ (OfAForm {line = l} {statement = t} says wrong) (OfNoForm no_skip none) e = absurd (none t (subst (λ l. SaysLine l t) (head_same e) says))
  same_wrong _ _ rest rest' k j (OfAForm {line = l} {statement = s} says wrong) (OfAForm {line = m} {statement = t} says' wrong') e =
      record { count = refl; kind = some_kind (sym wrong ∙ ap (fault before) (says_one m s t (subst (λ l. SaysLine l s) (head_same e) says) says') ∙ wrong') }
  same_wrong _ _ rest _ _ _ (OfNoForm {line = l} no_skip none) (NotClosed {opening = o} {inner = i} op) e = absurd (no_form before l o _ _ none op.opens e)
  same_wrong _ _ _ rest' _ _ (NotClosed {opening = o} {inner = i} op) (OfNoForm {line = l} no_skip none) e = absurd (no_form before l o _ _ none op.opens (sym e))
  same_wrong _ these' rest rest' _ _ (OfNoForm {line = l} no_skip none) (NoGraph {text = t} b bad) e = absurd (no_form before l b.opening _ _ none b.opened.opens (e ∙ laid before these' rest' t b))
  same_wrong these _ rest rest' _ _ (NoGraph {text = t} b bad) (OfNoForm {line = l} no_skip none) e = absurd (no_form before l b.opening _ _ none b.opened.opens (sym e ∙ laid before these rest t b))
  same_wrong _ these' rest rest' _ _ (OfNoForm {line = l} no_skip none) (SameGraph {text = t} b spells same) e = absurd (no_form before l b.opening _ _ none b.opened.opens (e ∙ laid before these' rest' t b))
  same_wrong these _ rest rest' _ _ (SameGraph {text = t} b spells same) (OfNoForm {line = l} no_skip none) e = absurd (no_form before l b.opening _ _ none b.opened.opens (sym e ∙ laid before these rest t b))
  same_wrong _ _ rest _ k _ (OfAForm {line = l} {statement = t} says wrong) (NotClosed {opening = o} op) e = absurd (no_fault before l o _ _ t k says wrong op.opens op.in_group e)
  same_wrong _ _ _ rest' _ j (NotClosed {opening = o} op) (OfAForm {line = l} {statement = t} says wrong) e = absurd (no_fault before l o _ _ t j says wrong op.opens op.in_group (sym e))
  same_wrong _ these' rest rest' k _ (OfAForm {line = l} {statement = t} says wrong) (NoGraph {text = x} b bad) e =
      absurd (no_fault before l b.opening _ _ t k says wrong b.opened.opens b.opened.in_group (e ∙ laid before these' rest' x b))
  same_wrong these _ rest rest' _ j (NoGraph {text = x} b bad) (OfAForm {line = l} {statement = t} says wrong) e =
      absurd (no_fault before l b.opening _ _ t j says wrong b.opened.opens b.opened.in_group (sym e ∙ laid before these rest x b))
  same_wrong _ these' rest rest' k _ (OfAForm {line = l} {statement = t} says wrong) (SameGraph {text = x} b spells same) e =
      absurd (no_fault before l b.opening _ _ t k says wrong b.opened.opens b.opened.in_group (e ∙ laid before these' rest' x b))
  same_wrong these _ rest rest' _ j (SameGraph {text = x} b spells same) (OfAForm {line = l} {statement = t} says wrong) e =
      absurd (no_fault before l b.opening _ _ t j says wrong b.opened.opens b.opened.in_group (sym e ∙ laid before these rest x b))
  same_wrong _ _ _ _ _ _ (NotClosed {opening = o} {inner = i} op) (NotClosed {opening = o'} {inner = i'} op') e =
      record { count = ap (λ ls. length ls) (sym (append-nil (o ∷ i)) ∙ e ∙ append-nil (o' ∷ i')); kind = refl }
  same_wrong _ these' _ rest' _ _ (NotClosed {opening = o} {inner = i} op) (NoGraph {text = t} b bad) e = absurd (open_or_block before o i these' rest' t op b e)
  same_wrong these _ rest _ _ _ (NoGraph {text = t} b bad) (NotClosed {opening = o} {inner = i} op) e = absurd (open_or_block before o i these rest t op b (sym e))
  same_wrong _ these' _ rest' _ _ (NotClosed {opening = o} {inner = i} op) (SameGraph {text = t} b spells same) e = absurd (open_or_block before o i these' rest' t op b e)
  same_wrong these _ rest _ _ _ (SameGraph {text = t} b spells same) (NotClosed {opening = o} {inner = i} op) e = absurd (open_or_block before o i these rest t op b (sym e))
  same_wrong these these' rest rest' _ _ (NoGraph {text = t} {e = f} b bad) (NoGraph {text = t'} {e = f'} b' bad') e =
      let texts = one_text before these these' rest rest' t t' b b' e in
      record { count = same_length before these these' rest rest' t t' b b' e; kind = ap (λ f. OfGraph f) (err_same f f' (read t) bad (ap read texts ∙ bad')) }
  same_wrong these these' rest rest' _ _ (NoGraph {text = t} b bad) (SameGraph {text = t'} {g = g} b' spells same) e =
      absurd (ok_err (spells-read t' g spells) (ap read (sym (one_text before these these' rest rest' t t' b b' e)) ∙ bad))
  same_wrong these these' rest rest' _ _ (SameGraph {text = t} {g = g} b spells same) (NoGraph {text = t'} b' bad) e =
      absurd (ok_err (spells-read t g spells) (ap read (one_text before these these' rest rest' t t' b b' e) ∙ bad))
  same_wrong these these' rest rest' _ _ (SameGraph {text = t} b spells same) (SameGraph {text = t'} b' spells' same') e =
      record { count = same_length before these these' rest rest' t t' b b' e; kind = refl }

  -- no line is wrong if a block of a graph named `pair` stands behind edge lines
  wrong_or_pair : (these rest block rest' : List Line) (k : Kind) (text : List ℕ) (g : Graph) → IsWrong before these rest k → IsBlock before block text → SpellsGraph text g → g.name ≡ codes "pair" → NoPair before
      → these ++ rest ≡ block ++ rest' → ⊥
  wrong_or_pair _ rest block rest' _ text g (OfNoForm {line = l} no_skip none) b spells named free e = no_form before l b.opening _ _ none b.opened.opens (e ∙ laid before block rest' text b)
  wrong_or_pair _ rest block rest' k text g (OfAForm {line = l} {statement = t} says wrong) b spells named free e =
      no_fault before l b.opening _ _ t k says wrong b.opened.opens b.opened.in_group (e ∙ laid before block rest' text b)
  wrong_or_pair _ _ block rest' _ text g (NotClosed {opening = o} {inner = i} op) b spells named free e = open_or_block before o i block rest' text op b e
  wrong_or_pair these rest block rest' _ text g (NoGraph {text = t} b' bad) b spells named free e =
      ok_err (spells-read text g spells) (ap read (sym (one_text before these block rest rest' t text b' b e)) ∙ bad)
  wrong_or_pair these rest block rest' _ text g (SameGraph {text = t} {g = g'} b' spells' same) b spells named free e =
      let graphs_same : g' ≡ g = ok_same g' g (read t) (spells-read t g' spells') (ap read (one_text before these block rest rest' t text b' b e) ∙ spells-read text g spells) in
      contradicts same (ap (λ n. has_text n (graph_names (blocks before))) (ap (λ (x : Graph). x.name) graphs_same ∙ named) ∙ free)

-- ---- one first fault

module _ (ls : List Line) where
  two_wrong : (n m : ℕ) (k j : Kind) → IsWrongAt ls n k → IsWrongAt ls m j → (n ≡ m) × (k ≡ j)
  two_wrong n m k j w v =
      let s = same_past (prefix w.declared) (prefix v.declared) (w.these ++ w.rest) (v.these ++ v.rest) (wrong_ends w.items w.these w.rest k w.wrong v.items) (wrong_ends v.items v.these v.rest j v.wrong w.items) (sym w.all ∙ v.all) in
      let f = same_wrong v.items w.these v.these w.rest v.rest k j (subst (λ is. IsWrong is w.these w.rest k) s.items_same w.wrong) v.wrong s.rest_same in
      (w.number ∙ (λ i. length (s.right_same i) + f.count i) ∙ sym v.number, f.kind)

  wrong_and_pair : (n m : ℕ) (k : Kind) → IsWrongAt ls n k → IsPairAt ls m → ⊥
  wrong_and_pair n m k w p =
      let f = p.first_edge in
      let some = some_edges f.right f.more f.edge_line f.items p.items f.label f.from f.to f.declared (subst (λ ls. Declare ls p.items) f.all p.declared) f.is_edge in
      let s = same_past (prefix w.declared) (prefix p.declared) (w.these ++ w.rest) (p.block ++ p.rest) (wrong_ends w.items w.these w.rest k w.wrong p.items)
      (pair_ends p.items p.block p.rest p.text p.graph some p.is_block p.spelled p.named w.items) (sym w.all ∙ p.all) in
      wrong_or_pair p.items w.these w.rest p.block p.rest k p.text p.graph (subst (λ is. IsWrong is w.these w.rest k) s.items_same w.wrong) p.is_block p.spelled p.named
      (no_pair_block p.declared some) s.rest_same

  -- the first edge line, and all behind it
  from_edge : (n : ℕ) (p : IsPairAt ls n) → ls ≡ p.first_edge.right ++ p.first_edge.edge_line ∷ (p.first_edge.more ++ (p.block ++ p.rest))
  from_edge n p = let f = p.first_edge in p.all ∙ ap (λ ls. ls ++ (p.block ++ p.rest)) f.all ∙ append_assoc f.right (f.edge_line ∷ f.more) (p.block ++ p.rest)

  two_pairs : (n m : ℕ) → IsPairAt ls n → IsPairAt ls m → n ≡ m
  two_pairs n m p q =
      let f = p.first_edge in
      let g = q.first_edge in
      let s = same_past (prefix f.declared) (prefix g.declared) (f.edge_line ∷ (f.more ++ (p.block ++ p.rest))) (g.edge_line ∷ (g.more ++ (q.block ++ q.rest)))
      (edge_ends f.items f.edge_line (f.more ++ (p.block ++ p.rest)) f.label f.from f.to f.is_edge g.items g.no_edge)
      (edge_ends g.items g.edge_line (g.more ++ (q.block ++ q.rest)) g.label g.from g.to g.is_edge f.items f.no_edge) (sym (from_edge n p) ∙ from_edge m q) in
      f.number ∙ ap (λ ls. suc (length ls)) s.right_same ∙ sym g.number

-- bytes have one first fault at most
pub one_fault : (bytes : List ℕ) (n m : ℕ) (k j : Kind) → IsFirstFault bytes n k → IsFirstFault bytes m j → (n ≡ m) × (k ≡ j)
one_fault bytes n m k j (AtIt w) (AtIt v) = two_wrong (lines bytes) n m k j w v
one_fault bytes n m k _ (AtIt w) (AtEdge p) = absurd (wrong_and_pair (lines bytes) n m k w p)
one_fault bytes n m _ j (AtEdge p) (AtIt w) = absurd (wrong_and_pair (lines bytes) m n j w p)
one_fault bytes n m _ _ (AtEdge p) (AtEdge q) = (two_pairs (lines bytes) n m p q, refl)

-- and none if they spell a schedule
pub no_schedule : (sha : Hash) (bytes : List ℕ) (n : ℕ) (k : Kind) (s : Schedule) → IsFirstFault bytes n k → SpellsSchedule sha bytes s → ⊥
no_schedule sha bytes n k s (AtIt w) spells = not_both sha bytes s n k spells w
no_schedule sha bytes n _ s (AtEdge p) spells = no_pair_at sha bytes s n spells p
