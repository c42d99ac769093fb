-- A line that was answered, and where a run ended.
use Rattle.std.proofs.Common.{◌≡◌, ◌≤◌, ℕ, Bool, true, false, List, [], ◌∷◌, drop, Option, is_some, Ok, Err, sym, ap, subst}
use Rattle.sg_input.specs.Lines.{Line}
use Rattle.sg_joins.specs.Images.{AllRepresent}
use Rattle.sg_play.specs.Steps.{Step}
use Rattle.sg_serve.specs.declared.fault.ServeFault.{ServeFault}
use Rattle.sg_serve.specs.declared.fault.ServeFault.TheVariants.{InputFailed, WriteFailed, OutOfMemory}
use Rattle.sg_serve.specs.declared.server.Server.{Server}
use Rattle.sg_serve.specs.Lines.{Run, before_quit, with_lines}
use Rattle.sg_serve.specs.Served.{Agrees, EndedAt, Gave, Outside, Served, images_if, joins_of}
use Rattle.sg_serve.specs.Representation.{Answered, AnswerIsOut, HasAnswer, HoldsJoins, Serves, RepresentsServing}
use Rattle.sg_serve.proofs.Answering.{between_all}
use Rattle.sg_serve.proofs.Asking.{holds_all}
use Rattle.sg_serve.proofs.Giving.{agrees, begun, ends_behind}
use Rattle.sg_serve.proofs.Running.{served_at, serves_more}

-- ---- a line

-- its answer was given whole
pub went_on : (start old mid new : Outside) (random : Option (List (List ℕ))) (images : List ℕ → Type 0) (sv : Server) (r : Run) (line : Line) (step : Step) → Gave start old r → mid.written ≡ old.written → mid.sent ≡ old.sent → old.failed ≤ mid.failed
    → HasAnswer sv random mid.coming old.failed mid.failed r line step → (u : Unit {0}) → AnswerIsOut mid new step (Ok u) → Answered start new random images sv r line (Ok true)
went_on start old mid new random images sv r line step gave written sent falls a u given = (a.goes_on, agrees start old mid new random sv r line step gave written sent falls a (Ok u) given given.whole)

-- a prefix of it was written
pub wrote_part : (start old mid new : Outside) (random : Option (List (List ℕ))) (images : List ℕ → Type 0) (sv : Server) (r : Run) (line : Line) (step : Step) → Gave start old r → mid.written ≡ old.written → mid.sent ≡ old.sent → old.failed ≤ mid.failed
    → (a : HasAnswer sv random mid.coming old.failed mid.failed r line step) → (f : ServeFault) → f ≡ WriteFailed → AllRepresent images (joins_of a.reply.0) → AnswerIsOut mid new step (Err f) → Answered start new random images sv r line (Err f)
wrote_part start old mid new random images sv r line step gave written sent falls a f e all given = λ later. subst (λ (x : ServeFault). EndedAt start new random images r (before_quit (line ∷ later)) (Err x)) (sym e)
    (begun start old mid new random sv r line step gave written sent falls a (Err f) given images all later given.prefix)

-- ---- a line of a run

module _ (start old new : Outside) (random0 random : Option (List (List ℕ))) (sv0 sv : Server) (first : Run) (all left : List Line) (line : Line) (h : Serves start old random0 sv0 first all left) (next : left ≡ line ∷ drop 1 left) where
  -- before it
  before : Serves start old random0 sv0 first all (line ∷ drop 1 left)
  before = subst (λ (ls : List Line). Serves start old random0 sv0 first all ls) next h

  -- the run goes on
  pub next_line : (images : List ℕ → Type 0) → ((r : Run) → RepresentsServing sv0 r.serving → Agrees start old random0 r → Answered start new random images sv r line (Ok true)) → Serves start new random sv first all (drop 1 left)
  next_line images f = let x = f (with_lines first before.prefix) before.represents before.agrees in serves_more start old new random0 random sv0 sv first all (drop 1 left) line before x.0 x.1

  -- it ends here
  pub last_line : (images : List ℕ → Type 0) (has : Server) (may_leave : List ℕ → Type 0) → is_some sv.ledger ≡ is_some has.ledger → HoldsJoins sv may_leave
      → ((r : Run) → RepresentsServing sv0 r.serving → Agrees start old random0 r → Answered start new random images sv r line (Ok false)) → Served start new random (images_if (is_some has.ledger) may_leave) first all (Ok tt)
  last_line images has may_leave same holds f =
      let x = f (with_lines first before.prefix) before.represents before.agrees in
      served_at start old new random0 random (images_if (is_some has.ledger) may_leave) sv0 first all (line ∷ drop 1 left) (Ok tt) before (ends_behind line (drop 1 left) x.0, x.2, holds_all sv has may_leave (with_lines first before.prefix).serving same holds x.1)

  -- it fails here
  pub failed_line : (kept has : Bool) (may_leave : List ℕ → Type 0) (f : ServeFault) → kept ≡ has → ((r : Run) → RepresentsServing sv0 r.serving → Agrees start old random0 r → Answered start new random (images_if kept may_leave) sv r line (Err f))
      → Served start new random (images_if has may_leave) first all (Err f)
  failed_line kept has may_leave f same g = subst (λ (b : Bool). Served start new random (images_if b may_leave) first all (Err f)) same
      (served_at start old new random0 random (images_if kept may_leave) sv0 first all (line ∷ drop 1 left) (Err f) before (g (with_lines first before.prefix) before.represents before.agrees (drop 1 left)))

-- ---- no more lines

module _ (start now : Outside) (random : Option (List (List ℕ))) (sv has : Server) (may_leave : List ℕ → Type 0) (first : Run) (all left : List Line) (h : Serves start now random sv first all left) (same : is_some sv.ledger ≡ is_some has.ledger) (holds : HoldsJoins sv may_leave) where
  abbrev images : List ℕ → Type 0
  images = images_if (is_some has.ledger) may_leave

  all_represent : AllRepresent images (joins_of (with_lines first h.prefix).serving)
  all_represent = holds_all sv has may_leave (with_lines first h.prefix).serving same holds h.represents

  -- all were answered
  pub no_line : left ≡ [] → Served start now random images first all (Ok tt)
  no_line e = served_at start now now random random images sv first all left (Ok tt) h (ap before_quit e, h.agrees, all_represent)

  -- the input failed
  pub input_ended : (f : ServeFault) → f ≡ InputFailed → Served start now random images first all (Err f)
  input_ended f e = subst (λ (x : ServeFault). Served start now random images first all (Err x)) (sym e) (served_at start now now random random images sv first all left (Err InputFailed) h (h.agrees.gave, all_represent))

  -- memory ran out
  pub memory_ended : (f : ServeFault) → f ≡ OutOfMemory → Served start now random images first all (Err f)
  memory_ended f e = subst (λ (x : ServeFault). Served start now random images first all (Err x)) (sym e)
      (served_at start now now random random images sv first all left (Err OutOfMemory) h (record { gave = h.agrees.gave; kept = between_all images (with_lines first h.prefix) (before_quit left) all_represent }))
