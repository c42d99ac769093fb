-- How the reader goes on from where it stands, and which fault is the first.
use Rattle.std.proofs.Common.{◌≡◌, ℕ, suc, ◌+◌, ◌==◌, Bool, true, false, ◌||◌, ◌&&◌, List, [], ◌∷◌, ◌++◌, length, refl, sym, ap, ◌∙◌, subst, arith, append_assoc, append-nil, if◌then◌else◌}
use Rattle.std.specs.Prelude.{nat_lt, ◌⊎◌, Some, Ok, Err, codes, bytes_eq}
use Rattle.std.proofs.Common.{inl, inr}
use Rattle.std.specs.List.{list_all}
use Rattle.std.proofs.lemmas.Bool.{eqb-true}
use Rattle.std.proofs.lemmas.List.{length-append}
use Rattle.sg_model.specs.Lists.{has_text}
use Rattle.sg_model.specs.Names.{Name}
use Rattle.sg_protocol.specs.Graph.{Graph as AGraph, Edge}
use Rattle.sg_sched.specs.Text.{lines, content, words}
use Rattle.sg_sched.specs.Pair.{graphs_of}
use Rattle.sg_sched.specs.Format.LineContents.{LineContent, BlockLine, EdgeLine, HonestLine, KeyLine, SessionLine, StartLine, ActLine, AbandonLine, DeliverLine, MakeLine}
use Rattle.sg_sched.specs.Format.Forms.{SaysLine, is_skipped, is_comment}
use Rattle.sg_sched.specs.Format.Items.{Item, GraphItem, EdgeItem, HonestItem, KeyItem, SessionItem, StepItem, SoFar, so_far, edges, graphs, graph_names, graphs_declared}
use Rattle.sg_sched.specs.Format.Kinds.{Kind, Form}
use Rattle.sg_sched.specs.Format.Numbered.{made}
use Rattle.sg_sched.specs.Format.Spells.{Line, Declare, Nothing, Next, Skip, Say, Show, IsBlock, IsFirstEdge, IsFirstFault, AtIt, AtEdge, IsPairAt, IsWrong, OfNoForm, OfAForm, NotClosed, NoGraph, SameGraph}
use Rattle.sg_sched_text.specs.declared.reader.ScheduleReader.{ScheduleReader}
use Rattle.sg_sched.specs.declared.fault.LineFault.{LineFault}
use Rattle.sg_sched.specs.declared.fault.LineFault.TheVariants.{Line as AtLine, OutOfMemory as NoMemory}
use Rattle.sg_sched_text.specs.Adding.{after_line}
use Rattle.sg_sched_text.specs.Block.{IsOpen, IsClosed}
use Rattle.sg_sched_text.specs.Plus.{plus, nothing}
use Rattle.sg_model.proofs.Small.{same_bytes, right_empty}
use Rattle.sg_model.proofs.Differ.{no_text_both}
use Rattle.sg_sched.specs.declared.fault.Kind.TheVariants.{Form as KindForm, Unknown as KindUnknown, Twice as KindTwice, NotHonest as KindNotHonest, Graph as KindGraph, TooManySteps as KindTooManySteps, TooManySessions as KindTooManySessions}
use Rattle.sg_sched_text.specs.declared.stop.Stop.{Stop}
use Rattle.sg_sched_text.specs.declared.stop.Stop.TheVariants.{Wrong, OutOfMemory}
use Rattle.sg_sched_text.specs.TakingLines.{IsRefused, kind_of, fault_at}
use Rattle.sg_sched_text.specs.ReadSoFar.{HasRead, Opens, IsAt, IsShown, IsBad, IsBadAt, IsFault, Refused, Again, AsPair}
use Rattle.sg_sched_text.proofs.Growing.{one_more, TookItem, took, stopped, begun}

-- ---- lists

further : (right these rest ls : List Line) (all : List Line) → all ≡ right ++ ls → ls ≡ these ++ rest → all ≡ (right ++ these) ++ rest
further right these rest ls all a b = a ∙ ap (λ xs. right ++ xs) b ∙ sym (append_assoc right these rest)

-- ---- the first edge line

later_edge : (right more : List Line) (n : ℕ) → IsFirstEdge right n → IsFirstEdge (right ++ more) n
later_edge right more n e = record {
  right = e.right;
  edge_line = e.edge_line;
  more = e.more ++ more;
  items = e.items;
  all = ap (λ ls. ls ++ more) e.all ∙ append_assoc e.right (e.edge_line ∷ e.more) more;
  declared = e.declared;
  no_edge = e.no_edge;
  label = e.label;
  from = e.from;
  to = e.to;
  is_edge = e.is_edge;
  number = e.number;
}

-- what is known of edges
abbrev EdgeOf : List Line → List Item → ℕ → Type 0
EdgeOf right items n = (edges items ≡ []) ⊎ ((edges items ≡ [] → ⊥) × IsFirstEdge right n)

kept_edge : (right more : List Line) (items items' : List Item) (n : ℕ) → edges items' ≡ edges items → EdgeOf right items n → EdgeOf (right ++ more) items' n
kept_edge right more items items' n same (inl none) = inl (same ∙ none)
kept_edge right more items items' n same (inr e) = inr ((λ none. e.0 (sym same ∙ none)), later_edge right more n e.1)

one_edge : (items : List Item) (i : Item) → edges (items ++ i ∷ []) ≡ (plus (so_far items) i).edges
one_edge items i = ap (λ (p : SoFar). p.edges) (one_more items i)

-- the words of an edge line
record SaysEdge (statement : LineContent) : Type 0 where
  label : Name
  from : ℕ
  to : ℕ
  is : statement ≡ EdgeLine label from to

says_edge : (items : List Item) (statement : LineContent) (e : Edge) → made items statement ≡ Some (EdgeItem e) → SaysEdge statement
says_edge items BlockLine e h = absurd (cc)
says_edge items (EdgeLine label from to) e h = record { label = label; from = from; to = to; is = refl }
says_edge items (HonestLine who) e h = absurd (cc)
says_edge items (KeyLine one two digits) e h = absurd (cc)
says_edge items (SessionLine name graph nonce names version) e h = absurd (cc)
says_edge items (StartLine who session) e h = absurd (cc)
says_edge items (ActLine who session label values) e h = absurd (cc)
says_edge items (AbandonLine who session) e h = absurd (cc)
says_edge items (DeliverLine who what) e h = absurd (cc)
says_edge items (MakeLine c) e h = absurd (cc)

module _ (right : List Line) (items : List Item) (line : Line) (statement : LineContent) (says : SaysLine line statement) (d : Declare right items) where
  -- the line is the first edge line, if it is one
  first : (i : Item) → made items statement ≡ Some i → edges items ≡ [] → EdgeOf (right ++ line ∷ []) (items ++ i ∷ []) (suc (length right))
  first (GraphItem g) m none = inl (one_edge items (GraphItem g) ∙ none)
  first (EdgeItem e) m none = inr (
    (λ h. right_empty (edges items) e (sym (one_edge items (EdgeItem e)) ∙ h)),
    (let s = says_edge items statement e m in record {
      right = right;
      edge_line = line;
      more = [];
      items = items;
      all = refl;
      declared = d;
      no_edge = none;
      label = s.label;
      from = s.from;
      to = s.to;
      is_edge = subst (SaysLine line) s.is says;
      number = refl;
    }),
  )
  first (HonestItem who) m none = inl (one_edge items (HonestItem who) ∙ none)
  first (KeyItem k) m none = inl (one_edge items (KeyItem k) ∙ none)
  first (SessionItem s) m none = inl (one_edge items (SessionItem s) ∙ none)
  first (StepItem s) m none = inl (one_edge items (StepItem s) ∙ none)

  -- it is not the first one
  not_first : (i : Item) (n : ℕ) → (edges items ≡ [] → ⊥) → IsFirstEdge right n → EdgeOf (right ++ line ∷ []) (items ++ i ∷ []) n
  not_first (GraphItem g) n some e = inr ((λ h. some (sym (one_edge items (GraphItem g)) ∙ h)), later_edge right (line ∷ []) n e)
  not_first (EdgeItem d) n some e = inr ((λ h. right_empty (edges items) d (sym (one_edge items (EdgeItem d)) ∙ h)), later_edge right (line ∷ []) n e)
  not_first (HonestItem who) n some e = inr ((λ h. some (sym (one_edge items (HonestItem who)) ∙ h)), later_edge right (line ∷ []) n e)
  not_first (KeyItem k) n some e = inr ((λ h. some (sym (one_edge items (KeyItem k)) ∙ h)), later_edge right (line ∷ []) n e)
  not_first (SessionItem s) n some e = inr ((λ h. some (sym (one_edge items (SessionItem s)) ∙ h)), later_edge right (line ∷ []) n e)
  not_first (StepItem s) n some e = inr ((λ h. some (sym (one_edge items (StepItem s)) ∙ h)), later_edge right (line ∷ []) n e)

none_counted : (es : List Edge) → es ≡ [] → (length es == 0) ≡ true
none_counted [] e = refl
none_counted (x ∷ es) e = absurd (cc)

some_counted : (es : List Edge) → (es ≡ [] → ⊥) → (length es == 0) ≡ false
some_counted [] h = absurd (h refl)
some_counted (x ∷ es) h = by (length (x ∷ es) == 0) refl
  where
    by : (b : Bool) → (suc (length es) == 0) ≡ b → (suc (length es) == 0) ≡ false
    by true e = let none : suc (length es) ≡ 0 = eqb-true (suc (length es)) 0 e in absurd (omega (arith, none))
    by false e = e

-- ---- the beginning and the end

pub begins : (bytes : List ℕ) (r : ScheduleReader) → r.past ≡ nothing → r.number ≡ 0 → HasRead bytes r bytes
begins bytes r p n = record {
  right = [];
  items = [];
  all = refl;
  keeps = record { declared = Nothing; past = p; edge = inl refl };
  number = n;
}

-- ---- lines

module _ (bytes rest after : List ℕ) (line : Line) (r : ScheduleReader) (s : HasRead bytes r rest) (e : lines rest ≡ line ∷ lines after) where
  count : suc (length s.right) ≡ length (s.right ++ line ∷ [])
  count = let a = length-append s.right (line ∷ []) in omega (arith, a)

  -- a line that is skipped
  pub skips : (new : ScheduleReader) → is_skipped line ≡ true → new.past ≡ r.past → new.number ≡ r.number + 1 → new.first_edge ≡ r.first_edge → HasRead bytes new after
  skips new skip past number first_edge = record {
    right = s.right ++ line ∷ [];
    items = s.items;
    all = further s.right (line ∷ []) (lines after) (lines rest) (lines bytes) s.all e;
    keeps = record {
      declared = subst (Declare (s.right ++ line ∷ [])) (append-nil s.items) (Next s.keeps.declared (Skip skip));
      past = past ∙ s.keeps.past;
      edge = subst (EdgeOf (s.right ++ line ∷ []) s.items) (sym first_edge) (kept_edge s.right (line ∷ []) s.items s.items r.first_edge refl s.keeps.edge);
    };
    number = let a = count in let b = s.number in omega (arith, a, b, number);
  }

  -- a line of a form that is taken
  pub says : (statement : LineContent) (new : ScheduleReader) → SaysLine line statement → (statement ≡ BlockLine → ⊥) → after_line r.past statement ≡ Ok new.past → new.number ≡ r.number + 1
      → new.first_edge ≡ (if length r.past.edges == 0 then r.number + 1 else r.first_edge) → HasRead bytes new after
  says statement new is other taken number first_edge =
      let t : TookItem s.items statement new.past = took s.items statement new.past other (ap (λ p. after_line p statement) (sym s.keeps.past) ∙ taken) in
      record {
        right = s.right ++ line ∷ [];
        items = s.items ++ t.item ∷ [];
        all = further s.right (line ∷ []) (lines after) (lines rest) (lines bytes) s.all e;
        keeps = record {
          declared = Next s.keeps.declared (Say is t.right t.makes);
          past = t.after;
          edge = by t.item t.makes s.keeps.edge;
        };
        number = let a = count in let b = s.number in omega (arith, a, b, number);
      }
    where
      kept : r.past.edges ≡ edges s.items
      kept = ap (λ (p : SoFar). p.edges) s.keeps.past

      by : (i : Item) → made s.items statement ≡ Some i → EdgeOf s.right s.items r.first_edge → EdgeOf (s.right ++ line ∷ []) (s.items ++ i ∷ []) new.first_edge
      by i m (inl none) =
          let at : r.number + 1 ≡ suc (length s.right) = let b = s.number in omega (arith, b) in
          let same : suc (length s.right) ≡ new.first_edge = sym (first_edge ∙ ap (λ b. if b then r.number + 1 else r.first_edge) (none_counted r.past.edges (kept ∙ none)) ∙ at) in
          subst (EdgeOf (s.right ++ line ∷ []) (s.items ++ i ∷ [])) same (first s.right s.items line statement is s.keeps.declared i m none)
      by i m (inr some) =
          let same : r.first_edge ≡ new.first_edge = sym (first_edge ∙ ap (λ b. if b then r.number + 1 else r.first_edge) (some_counted r.past.edges (λ h. some.0 (sym kept ∙ h)))) in
          subst (EdgeOf (s.right ++ line ∷ []) (s.items ++ i ∷ [])) same (not_first s.right s.items line statement is s.keeps.declared i r.first_edge some.0 some.1)

  -- a line with which a block begins
  pub opens : (new : ScheduleReader) → SaysLine line BlockLine → after_line r.past BlockLine ≡ Ok new.past → new.number ≡ r.number + 1
      → new.first_edge ≡ (if length r.past.edges == 0 then r.number + 1 else r.first_edge) → Opens bytes new after
  opens new is taken number first_edge =
      let b = begun s.items new.past (ap (λ p. after_line p BlockLine) (sym s.keeps.past) ∙ taken) in
      record {
        right = s.right;
        items = s.items;
        opening = line;
        all = s.all ∙ ap (λ ls. s.right ++ ls) e;
        keeps = record { declared = s.keeps.declared; past = b.1; edge = by s.keeps.edge };
        number = let m = s.number in omega (arith, m, number);
        opens = is;
        in_group = b.0;
      }
    where
      by : EdgeOf s.right s.items r.first_edge → EdgeOf s.right s.items new.first_edge
      by (inl none) = inl none
      by (inr some) =
          let kept : r.past.edges ≡ edges s.items = ap (λ (p : SoFar). p.edges) s.keeps.past in
          subst (EdgeOf s.right s.items) (sym (first_edge ∙ ap (λ b. if b then r.number + 1 else r.first_edge) (some_counted r.past.edges (λ h. some.0 (sym kept ∙ h))))) (inr some)

  -- the line is wrong
  wrong_here : (n : ℕ) (kind : Kind) → n ≡ r.number + 1 → IsWrong s.items (line ∷ []) (lines after) kind → IsFirstFault bytes n kind
  wrong_here n kind number wrong = AtIt record {
    right = s.right;
    these = line ∷ [];
    rest = lines after;
    items = s.items;
    all = s.all ∙ ap (λ ls. s.right ++ ls) e;
    declared = s.keeps.declared;
    wrong = wrong;
    number = let b = s.number in omega (arith, b, number);
  }

  -- a line of no form
  pub no_form : (n : ℕ) → n ≡ r.number + 1 → is_skipped line ≡ false → ((statement : LineContent) → SaysLine line statement → ⊥) → IsFirstFault bytes n Form
  no_form n number no_skip none = wrong_here n Form number (OfNoForm no_skip none)

  -- a line of a form that is wrong
  pub wrong : (statement : LineContent) (n : ℕ) (kind : Kind) → n ≡ r.number + 1 → SaysLine line statement → after_line r.past statement ≡ Err kind → IsFirstFault bytes n kind
  wrong statement n kind number is bad = wrong_here n kind number (OfAForm is (stopped s.items statement kind (ap (λ p. after_line p statement) (sym s.keeps.past) ∙ bad)))

  -- a line that isn't taken
  pub not_taken : (statement : LineContent) (fault : LineFault) → SaysLine line statement → IsAt (after_line r.past statement) (r.number + 1) fault → IsFault bytes fault
  not_taken statement (AtLine n kind) is h = wrong statement n (kind_of kind) h.0 is h.1
  not_taken statement NoMemory is h = tt

-- ---- blocks

names_apart : (gs hs : List AGraph) → graph_names (gs ++ hs) ≡ graph_names gs ++ graph_names hs
names_apart [] hs = refl
names_apart (g ∷ gs) hs = ap (λ ns. g.name ∷ ns) (names_apart gs hs)

module _ (bytes after : List ℕ) (r : ScheduleReader) (o : Opens bytes r after) where
  -- no line closes the block
  pub not_closed : (n : ℕ) → n ≡ r.number + length (lines after) → IsOpen (lines after) → IsFirstFault bytes n Form
  not_closed n number open_yet = AtIt record {
    right = o.right;
    these = o.opening ∷ lines after;
    rest = [];
    items = o.items;
    all = o.all ∙ ap (λ ls. o.right ++ ls) (sym (append-nil (o.opening ∷ lines after)));
    declared = o.keeps.declared;
    wrong = NotClosed record { opens = o.opens; in_group = o.in_group; open_yet = open_yet };
    number = let b = o.number in omega (arith, b, number);
  }

  module _ (text rest : List ℕ) (count : ℕ) (c : IsClosed (lines after) text count (lines rest)) where
    abbrev these : List Line
    these = o.opening ∷ c.inner ++ c.closing ∷ []

    is_block : IsBlock o.items these text
    is_block = record {
      opening = o.opening;
      inner = c.inner;
      closing = c.closing;
      all = refl;
      opened = record { opens = o.opens; in_group = o.in_group; open_yet = c.open_yet };
      closed = c.closed;
      within = c.within;
    }

    behind : o.opening ∷ lines after ≡ these ++ lines rest
    behind = ap (λ ls. o.opening ∷ ls) (c.all ∙ sym (append_assoc c.inner (c.closing ∷ []) (lines rest)))

    many : length these ≡ count + 2
    many = let a = length-append c.inner (c.closing ∷ []) in let b = c.number in omega (arith, a, b)

    all_lines : lines bytes ≡ o.right ++ (these ++ lines rest)
    all_lines = o.all ∙ ap (λ ls. o.right ++ ls) behind

    -- the graph is added
    pub shows : (new : ScheduleReader) → IsShown text r.past new.past → new.number ≡ r.number + count + 1 → new.first_edge ≡ r.first_edge → HasRead bytes new rest
    shows new sh number first_edge =
        let g = sh.graph in
        let names : graphs_declared r.past ≡ graphs o.items = ap graphs_declared o.keeps.past in
        record {
          right = o.right ++ these;
          items = o.items ++ GraphItem g ∷ [];
          all = further o.right these (lines rest) (o.opening ∷ lines after) (lines bytes) o.all behind;
          keeps = record {
            declared = Next o.keeps.declared (Show is_block sh.spelled (ap (λ gs. has_text g.name (graph_names gs)) (sym names) ∙ sh.fresh));
            past = sh.added ∙ ap (λ p. plus p (GraphItem g)) o.keeps.past ∙ sym (one_more o.items (GraphItem g));
            edge = subst (EdgeOf (o.right ++ these) (o.items ++ GraphItem g ∷ [])) (sym first_edge)
                (kept_edge o.right these o.items (o.items ++ GraphItem g ∷ []) r.first_edge (one_edge o.items (GraphItem g)) o.keeps.edge);
          };
          number = let a = length-append o.right these in let b = many in let d = o.number in omega (arith, a, b, d, number);
        }

    at_end : (n : ℕ) → n ≡ r.number + count + 1 → n ≡ length o.right + length these
    at_end n number = let b = many in let d = o.number in omega (arith, b, d, number)

    wrong_block : (n : ℕ) (kind : Kind) → n ≡ r.number + count + 1 → IsWrong o.items these (lines rest) kind → IsFirstFault bytes n kind
    wrong_block n kind number wrong = AtIt record {
      right = o.right;
      these = these;
      rest = lines rest;
      items = o.items;
      all = all_lines;
      declared = o.keeps.declared;
      wrong = wrong;
      number = at_end n number;
    }

    -- the block is wrong
    pub bad : (new : ScheduleReader) (n : ℕ) (kind : Kind) → new.past ≡ r.past → new.number ≡ r.number + count + 1 → new.first_edge ≡ r.first_edge → IsBad text new n kind → IsFirstFault bytes n kind
    bad new n _ past number first_edge (Refused refused at) = wrong_block n _ (at ∙ number) (NoGraph is_block refused)
    bad new n _ past number first_edge (Again g spelled there at) = wrong_block n _ (at ∙ number) (SameGraph is_block spelled (ap (λ (p : SoFar). has_text g.name (graph_names p.blocks)) (sym (past ∙ o.keeps.past)) ∙ there))
    bad new n _ past number first_edge (AsPair g spelled named some at) = AtEdge (pair_at o.keeps.edge)
      where
        kept : new.past.edges ≡ edges o.items
        kept = ap (λ (p : SoFar). p.edges) (past ∙ o.keeps.past)

        pair_at : EdgeOf o.right o.items r.first_edge → IsPairAt (lines bytes) n
        pair_at (inl none) = absurd (some (kept ∙ none))
        pair_at (inr e) = record {
          right = o.right;
          block = these;
          rest = lines rest;
          items = o.items;
          text = text;
          all = all_lines;
          first_edge = subst (IsFirstEdge o.right) (sym (at ∙ first_edge)) e.1;
          declared = o.keeps.declared;
          is_block = is_block;
          graph = g;
          spelled = spelled;
          named = named;
        }

-- ---- what shows of a text

-- a text that is refused
pub refused_bad : (text : List ℕ) (r : ScheduleReader) (stop : Stop) → IsRefused text stop → IsBadAt text r (fault_at r.number stop)
refused_bad text r (Wrong (KindGraph e)) h = Refused h refl
refused_bad text r (Wrong KindForm) h = absurd h
refused_bad text r (Wrong KindUnknown) h = absurd h
refused_bad text r (Wrong KindTwice) h = absurd h
refused_bad text r (Wrong KindNotHonest) h = absurd h
refused_bad text r (Wrong KindTooManySteps) h = absurd h
refused_bad text r (Wrong KindTooManySessions) h = absurd h
refused_bad text r OutOfMemory h = tt

-- the name is that of the graph of the edge lines
pub record IsPairName (n : Name) (es : List Edge) : Type 0 where
  pub named : n ≡ codes "pair"
  pub some : es ≡ [] → ⊥

pub pair_named : (n : Name) (es : List Edge) → has_text n (graph_names (graphs_of es)) ≡ true → IsPairName n es
pair_named n [] h = absurd (cc)
pair_named n (e ∷ es) h = by (bytes_eq n (codes "pair")) refl h
  where
    by : (b : Bool) → bytes_eq n (codes "pair") ≡ b → (b || false) ≡ true → IsPairName n (e ∷ es)
    by true q h = record { named = same_bytes n (codes "pair") q; some = λ none. cc }
    by false q h = absurd (cc)

-- a name of no graph
pub fresh_name : (n : Name) (p : SoFar) → has_text n (graph_names p.blocks) ≡ false → has_text n (graph_names (graphs_of p.edges)) ≡ false → has_text n (graph_names (graphs_declared p)) ≡ false
fresh_name n p a b = ap (has_text n) (names_apart p.blocks (graphs_of p.edges)) ∙ no_text_both n (graph_names p.blocks) (graph_names (graphs_of p.edges)) a b

-- ---- what the calls say, put together

-- a line is skipped as its text says
pub skipped_is : (line text : List ℕ) (b : Bool) → text ≡ content line → b ≡ (list_all (λ b. nat_lt b 128) text && (is_comment text || length (words text) == 0)) → is_skipped line ≡ b
skipped_is line text b e h = sym (h ∙ ap (λ (t : List ℕ). list_all (λ b. nat_lt b 128) t && (is_comment t || length (words t) == 0)) e)

-- a block's fault
pub bad_fault : (bytes after : List ℕ) (r : ScheduleReader) (o : Opens bytes r after) (text rest : List ℕ) (many : ℕ) (c : IsClosed (lines after) text many (lines rest)) (counted : ScheduleReader)
    → counted.past ≡ r.past → counted.number ≡ r.number + many + 1 → counted.first_edge ≡ r.first_edge → (fault : LineFault) → IsBadAt text counted fault → IsFault bytes fault
bad_fault bytes after r o text rest n c counted past number first_edge (AtLine at kind) h = bad bytes after r o text rest n c counted at (kind_of kind) past number first_edge h
bad_fault bytes after r o text rest n c counted past number first_edge NoMemory h = tt
