-- What a play gives the outside, put together from its steps.
use Rattle.std.proofs.Common.{◌≡◌, List, [], ◌∷◌, ◌++◌, take, Option, Some, Err, refl, sym, ap, ◌∙◌, subst, append_assoc}
use Rattle.std.proofs.lemmas.List.{append-nil}
use Rattle.sg_base.specs.Outside.{Appends, AppendsPrefix}
use Rattle.sg_play.specs.declared.fault.PlayFault.{PlayFault}
use Rattle.sg_play.specs.declared.fault.PlayFault.TheVariants.{LinkFailed, WriteFailed, OutOfMemory}
use Rattle.sg_play.specs.Ends.{Outside, Whole, WholePrefix, Begun, Ended}
use Rattle.sg_play.specs.Steps.{Step, lines_of, frames_of}

-- nothing was added
pub appends_none : {A : Type 0} (x : Option (List A)) → Appends x x []
appends_none x before e = e ∙ ap Some (sym (append-nil before))

-- one thing after another
pub appends_more : {A : Type 0} (x y z : Option (List A)) (a b : List A) → Appends x y a → Appends y z b → Appends x z (a ++ b)
appends_more x y z a b f g before e = g (before ++ a) (f before e) ∙ ap Some (append_assoc before a b)

lines_more : (ss : List Step) (s : Step) → lines_of (ss ++ s ∷ []) ≡ lines_of ss ++ s.line
lines_more [] s = append-nil s.line
lines_more (t ∷ ts) s = ap (λ l. t.line ++ l) (lines_more ts s) ∙ sym (append_assoc t.line (lines_of ts) s.line)

pub frames_more : (ss : List Step) (s : Step) → frames_of (ss ++ s ∷ []) ≡ frames_of ss ++ s.frames
frames_more [] s = append-nil s.frames
frames_more (t ∷ ts) s = ap (λ l. t.frames ++ l) (frames_more ts s) ∙ sym (append_assoc t.frames (frames_of ts) s.frames)

-- at the start
pub whole_none : (o : Outside) → Whole o o []
whole_none o = record { lines = appends_none o.written; frames = appends_none o.sent }

-- one step more
pub whole_more : (start old new : Outside) (ss : List Step) (s : Step) → Whole start old ss → Appends old.written new.written s.line → Appends old.sent new.sent s.frames → Whole start new (ss ++ s ∷ [])
whole_more start old new ss s w l f = record {
  lines = subst (Appends start.written new.written) (sym (lines_more ss s)) (appends_more start.written old.written new.written (lines_of ss) s.line w.lines l);
  frames = subst (Appends start.sent new.sent) (sym (frames_more ss s)) (appends_more start.sent old.sent new.sent (frames_of ss) s.frames w.frames f);
}

-- nothing of a further step was given
pub stopped : (start old new : Outside) (ss rest : List Step) → Whole start old ss → new ≡ old → WholePrefix start new (ss ++ rest)
stopped start old new ss rest w e = record { prefix = ss; rest = rest; is = refl; whole = subst (λ o. Whole start o ss) (sym e) w }

-- the frame of a further step was taken, and a prefix of its line was written
pub begun : (start old new : Outside) (ss rest : List Step) (s : Step) → Whole start old ss → AppendsPrefix old.written new.written s.line → Appends old.sent new.sent s.frames → Begun start new (ss ++ s ∷ rest)
begun start old new ss rest s w l f = record {
  prefix = ss;
  step = s;
  rest = rest;
  bytes = l.0;
  is = refl;
  lines = appends_more start.written old.written new.written (lines_of ss) (take l.0 s.line) w.lines l.2;
  frames = appends_more start.sent old.sent new.sent (frames_of ss) s.frames w.frames f;
}

-- the steps go on after the end
pub ended_more : (start now : Outside) (ss rest : List Step) (f : PlayFault) → Ended start now ss (Err f) → Ended start now (ss ++ rest) (Err f)
ended_more start now ss rest LinkFailed h = record { prefix = h.prefix; rest = h.rest ++ rest; is = ap (λ l. l ++ rest) h.is ∙ append_assoc h.prefix h.rest rest; whole = h.whole }
ended_more start now ss rest WriteFailed h = record {
  prefix = h.prefix;
  step = h.step;
  rest = h.rest ++ rest;
  bytes = h.bytes;
  is = ap (λ l. l ++ rest) h.is ∙ append_assoc h.prefix (h.step ∷ h.rest) rest;
  lines = h.lines;
  frames = h.frames;
}
ended_more start now ss rest OutOfMemory h = record { prefix = h.prefix; rest = h.rest ++ rest; is = ap (λ l. l ++ rest) h.is ∙ append_assoc h.prefix h.rest rest; whole = h.whole }
