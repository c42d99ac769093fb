-- No bytes both spell a schedule and have a wrong line.
use Rattle.std.specs.Prelude.{◌≡◌, ℕ, List, [], ◌∷◌, ◌++◌, refl}
use Rattle.std.proofs.Common.{sym, ◌∙◌, subst, append_assoc, append-nil}
use Rattle.sg_protocol.specs.Texts.{Hash}
use Rattle.sg_protocol.specs.Schedule.{Schedule}
use Rattle.sg_sched.specs.Text.{lines}
use Rattle.sg_sched.specs.Format.Items.{Item}
use Rattle.sg_sched.specs.Format.Kinds.{Kind}
use Rattle.sg_sched.specs.Format.Spells.{Line, Add, Declare, Nothing, Next, SpellsSchedule, IsWrong, OfNoForm, OfAForm, NotClosed, NoGraph, SameGraph, IsWrongAt}
use Rattle.sg_sched.proofs.FormatPieces.{one_add, laid}
use Rattle.sg_sched.proofs.FormatOne.{Prefix, Done, More, some_lines, of_declare}
use Rattle.sg_sched.proofs.FormatApart.{add_or_wrong}

-- what comes behind the lines at the front
peel : {before new all : List Item} {ls more rest : List Line} → Prefix before ls all → Add before more new → ls ≡ more ++ rest → Prefix (before ++ new) rest all
peel {more = more} {rest = rest} (Done {before = b}) a e = absurd (some_lines b _ more rest a (sym e))
peel {new = new} {more = more} {rest = rest} (More {before = b} {new = n} {all = all} {more = m} {rest = r} a' f) a e =
    let k = one_add b m more n new r rest a' a e in
    subst (λ ls. Prefix (b ++ new) ls all) k.behind (subst (λ x. Prefix (b ++ x) r all) k.items f)

-- what comes behind lines that declare items
pub behind : {first : List Line} {items : List Item} → Declare first items → (rest : List Line) (all : List Item) → Prefix [] (first ++ rest) all → Prefix items rest all
behind Nothing rest all f = f
behind (Next {first = first} {more = more} {items = items} {new = new} d a) rest all f =
    peel (behind d (more ++ rest) all (subst (λ ls. Prefix [] ls all) (append_assoc first more rest) f)) a refl

-- wrong lines are not none
wrong_lines : (before : List Item) (these rest rest' : List Line) (kind : Kind) → IsWrong before these rest kind → these ++ rest' ≡ [] → ⊥
wrong_lines before _ rest rest' kind (OfNoForm no_skip none) e = cc
wrong_lines before _ rest rest' kind (OfAForm says wrong) e = cc
wrong_lines before _ rest rest' kind (NotClosed op) e = cc
wrong_lines before these rest rest' kind (NoGraph {text = text} b bad) e = never (sym (laid before these rest' text b) ∙ e)
  where
    never : {x : Line} {xs : List Line} → x ∷ xs ≡ [] → ⊥
    never p = cc
wrong_lines before these rest rest' kind (SameGraph {text = text} b spells same) e = never (sym (laid before these rest' text b) ∙ e)
  where
    never : {x : Line} {xs : List Line} → x ∷ xs ≡ [] → ⊥
    never p = cc

-- nothing comes of wrong lines
prefix_or_wrong : (before all : List Item) (ls these rest : List Line) (kind : Kind) → Prefix before ls all → IsWrong before these rest kind → ls ≡ these ++ rest → ⊥
prefix_or_wrong before all _ these rest kind Done w e = wrong_lines before these rest rest kind w (sym e)
prefix_or_wrong before all _ these rest kind (More {new = n} {more = m} {rest = r} a f) w e = add_or_wrong before m these r rest n kind a w e

-- bytes that spell a schedule have no wrong line
pub not_both : (sha : Hash) (bytes : List ℕ) (s : Schedule) (n : ℕ) (kind : Kind) → SpellsSchedule sha bytes s → IsWrongAt (lines bytes) n kind → ⊥
not_both sha bytes s n kind p w =
    let whole : Prefix [] (lines bytes) p.items = subst (λ ls. Prefix [] ls p.items) (append-nil (lines bytes)) (of_declare p.declared [] p.items Done) in
    let cut : Prefix w.items (w.these ++ w.rest) p.items = behind w.declared (w.these ++ w.rest) p.items (subst (λ ls. Prefix [] ls p.items) w.all whole) in
    prefix_or_wrong w.items p.items (w.these ++ w.rest) w.these w.rest kind cut w.wrong refl
