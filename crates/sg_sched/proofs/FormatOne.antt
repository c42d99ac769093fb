-- Bytes spell one schedule at most.
use Rattle.std.specs.Prelude.{◌≡◌, ℕ, List, [], ◌∷◌, ◌++◌, refl}
use Rattle.std.proofs.Common.{sym, ◌∙◌, ap, subst, append_assoc}
use Rattle.sg_protocol.specs.Texts.{Hash}
use Rattle.sg_protocol.specs.Schedule.{Schedule}
use Rattle.sg_sched.specs.Text.{lines}
use Rattle.sg_sched.specs.Format.Items.{Item, schedule_of}
use Rattle.sg_sched.specs.Format.Spells.{Line, Add, Skip, Say, Show, Declare, Nothing, Next, SpellsSchedule}
use Rattle.sg_sched.proofs.FormatPieces.{one_add, laid}

-- after what is declared before them, the lines make it all of this
pub data Prefix : List Item → List Line → List Item → Type 0 where
  Done : {before : List Item} → Prefix before [] before
  More : {before new all : List Item} {more rest : List Line} → Add before more new → Prefix (before ++ new) rest all → Prefix before (more ++ rest) all

-- lines that add items are not none
pub some_lines : (before new : List Item) (more rest : List Line) → Add before more new → more ++ rest ≡ [] → ⊥
some_lines before _ _ rest (Skip s) e = cc
some_lines before _ _ rest (Say says right makes) e = cc
some_lines before _ more rest (Show {text = text} b spells fresh) e = never (sym (laid before more rest text b) ∙ e)
  where
    never : {x : Line} {xs : List Line} → x ∷ xs ≡ [] → ⊥
    never p = cc

-- what lines declare, and what comes of the lines behind them
pub of_declare : {first : List Line} {items : List Item} → Declare first items → (rest : List Line) (all : List Item) → Prefix items rest all → Prefix [] (first ++ rest) all
of_declare Nothing rest all f = f
of_declare (Next {first = first} {more = more} {items = items} {new = new} d a) rest all f =
    subst (λ ls. Prefix [] ls all) (sym (append_assoc first more rest)) (of_declare d (more ++ rest) all (More a f))

-- the lines make one list of items at most
pub one_prefix : {before : List Item} {ls ls' : List Line} {all all' : List Item} → Prefix before ls all → Prefix before ls' all' → ls ≡ ls' → all ≡ all'
one_prefix Done Done e = refl
one_prefix Done (More {before = b} {new = n} {more = m} {rest = r} a f) e = absurd (some_lines b n m r a (sym e))
one_prefix (More {before = b} {new = n} {more = m} {rest = r} a f) Done e = absurd (some_lines b n m r a e)
one_prefix (More {before = b} {new = n} {all = all} {more = m} {rest = r} a f) (More {new = n'} {all = all'} {more = m'} {rest = r'} a' f') e =
    let k = one_add b m m' n n' r r' a a' e in
    one_prefix f (subst (λ x. Prefix (b ++ x) r' all') (sym k.items) f') k.behind

-- lines declare one list of items at most
pub one_declare : (ls : List Line) (items items' : List Item) → Declare ls items → Declare ls items' → items ≡ items'
one_declare ls items items' d d' = one_prefix (of_declare d [] items Done) (of_declare d' [] items' Done) refl

-- bytes spell one schedule at most
pub one_schedule : (sha : Hash) (bytes : List ℕ) (s t : Schedule) → SpellsSchedule sha bytes s → SpellsSchedule sha bytes t → s ≡ t
one_schedule sha bytes s t p q = sym p.schedule ∙ ap (schedule_of sha) (one_declare (lines bytes) p.items q.items p.declared q.declared) ∙ q.schedule
