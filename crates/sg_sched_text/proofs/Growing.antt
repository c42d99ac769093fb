-- What is declared after one item more, and what a line of a form that is taken adds.
use Rattle.std.proofs.Common.{◌≡◌, List, [], ◌∷◌, ◌++◌, max, refl, sym, ap, ◌∙◌, append-nil}
use Rattle.std.specs.Prelude.{Option, Some, None, Ok, Err, filter_map}
use Rattle.std.proofs.lemmas.List.Elements.{filter_map-append}
use Rattle.std.proofs.lemmas.List.Sums.{fold_push}
use Rattle.sg_sched.specs.Format.LineContents.{LineContent, BlockLine, EdgeLine, HonestLine, KeyLine, SessionLine, StartLine, ActLine, AbandonLine, DeliverLine, MakeLine}
use Rattle.sg_sched.specs.Format.Items.{Item, GraphItem, EdgeItem, HonestItem, KeyItem, SessionItem, StepItem, SoFar, so_far, last_group, blocks, edges, honest, keys, sessions, steps, group_of, as_block, as_edge, as_honest, as_key, as_session, as_step}
use Rattle.sg_sched.specs.Format.Kinds.{Kind}
use Rattle.sg_sched.specs.Format.Numbered.{made}
use Rattle.sg_sched.specs.Format.Faults.{fault}
use Rattle.sg_sched_text.specs.Plus.{plus}
use Rattle.sg_sched_text.specs.Adding.{added, after_line}

-- ---- one item more

-- the elements, and those behind them, if there are any
abbrev followed : {B : Type 0} → List B → List B → List B
followed xs [] = xs
followed xs (b ∷ bs) = xs ++ b ∷ bs

is_followed : {B : Type 0} (xs ys : List B) → xs ++ ys ≡ followed xs ys
is_followed xs [] = append-nil xs
is_followed xs (b ∷ bs) = refl

picked : {B : Type 0} (pick : Item → Option B) (items : List Item) (i : Item) → filter_map pick (items ++ i ∷ []) ≡ followed (filter_map pick items) (filter_map pick (i ∷ []))
picked pick items i = filter_map-append pick items (i ∷ []) ∙ is_followed (filter_map pick items) (filter_map pick (i ∷ []))

-- of each kind, what there was and what the item is
abbrev grown : List Item → Item → SoFar
grown items i = record {
  group = max (last_group items) (group_of i);
  blocks = followed (blocks items) (blocks (i ∷ []));
  edges = followed (edges items) (edges (i ∷ []));
  honest = followed (honest items) (honest (i ∷ []));
  keys = followed (keys items) (keys (i ∷ []));
  sessions = followed (sessions items) (sessions (i ∷ []));
  steps = followed (steps items) (steps (i ∷ []));
}

so_far_grown : (items : List Item) (i : Item) → so_far (items ++ i ∷ []) ≡ grown items i
so_far_grown items i = λ k. record {
  group = fold_push (λ n i. max n (group_of i)) 0 items i k;
  blocks = picked as_block items i k;
  edges = picked as_edge items i k;
  honest = picked as_honest items i k;
  keys = picked as_key items i k;
  sessions = picked as_session items i k;
  steps = picked as_step items i k;
}

pub one_more : (items : List Item) (i : Item) → so_far (items ++ i ∷ []) ≡ plus (so_far items) i
one_more items (GraphItem g) = so_far_grown items (GraphItem g)
one_more items (EdgeItem e) = so_far_grown items (EdgeItem e)
one_more items (HonestItem who) = so_far_grown items (HonestItem who)
one_more items (KeyItem k) = so_far_grown items (KeyItem k)
one_more items (SessionItem s) = so_far_grown items (SessionItem s)
one_more items (StepItem s) = so_far_grown items (StepItem s)

-- ---- lines that are taken

-- a line of a form is right, and adds an item
pub record TookItem (items : List Item) (statement : LineContent) (new : SoFar) : Type 0 where
  pub item : Item
  pub right : fault items statement ≡ None
  pub makes : made items statement ≡ Some item
  pub after : new ≡ so_far (items ++ item ∷ [])

only_block : (items : List Item) (statement : LineContent) → made items statement ≡ None → statement ≡ BlockLine
only_block items BlockLine h = refl
only_block items (EdgeLine label from to) h = absurd (cc)
only_block items (HonestLine who) h = absurd (cc)
only_block items (KeyLine one two digits) h = absurd (cc)
only_block items (SessionLine name graph nonce names version) h = absurd (cc)
only_block items (StartLine who session) h = absurd (cc)
only_block items (ActLine who session label values) h = absurd (cc)
only_block items (AbandonLine who session) h = absurd (cc)
only_block items (DeliverLine who what) h = absurd (cc)
only_block items (MakeLine c) h = absurd (cc)

pub took : (items : List Item) (statement : LineContent) (new : SoFar) → (statement ≡ BlockLine → ⊥) → after_line (so_far items) statement ≡ Ok new → TookItem items statement new
unfolding after_line
took items statement new other e = by (fault items statement) (made items statement) refl refl e
  where
    by : (f : Option Kind) (m : Option Item) → fault items statement ≡ f → made items statement ≡ m → added (so_far items) f m ≡ Ok new → TookItem items statement new
    by (Some k) m ef em e = absurd (cc)
    by None (Some i) ef em e = let same : plus (so_far items) i ≡ new = cc in record { item = i; right = ef; makes = em; after = sym same ∙ sym (one_more items i) }
    by None None ef em e = absurd (other (only_block items statement em))

pub stopped : (items : List Item) (statement : LineContent) (kind : Kind) → after_line (so_far items) statement ≡ Err kind → fault items statement ≡ Some kind
unfolding after_line
stopped items statement kind e = by (fault items statement) (made items statement) refl e
  where
    by : (f : Option Kind) (m : Option Item) → fault items statement ≡ f → added (so_far items) f m ≡ Err kind → fault items statement ≡ Some kind
    by (Some k) m ef e = let same : k ≡ kind = cc in ef ∙ ap (λ x. Some x) same
    by None (Some i) ef e = absurd (cc)
    by None None ef e = absurd (cc)

-- a block begins in its group
pub begun : (items : List Item) (new : SoFar) → after_line (so_far items) BlockLine ≡ Ok new → (fault items BlockLine ≡ None) × (new ≡ so_far items)
unfolding after_line
begun items new e = by (fault items BlockLine) refl e
  where
    by : (f : Option Kind) → fault items BlockLine ≡ f → added (so_far items) f None ≡ Ok new → (fault items BlockLine ≡ None) × (new ≡ so_far items)
    by (Some k) ef e = absurd (cc)
    by None ef e = let same : so_far items ≡ new = cc in (ef, sym same)
