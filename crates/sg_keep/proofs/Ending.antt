-- How a play over a ledger ends early, and that its end is one of each play that goes on.
use Rattle.std.proofs.Common.{◌≡◌, ℕ, ◌+◌, ◌≤◌, List, [], ◌∷◌, ◌++◌, length, Option, Result, Err, refl, sym, ap, ◌∙◌, subst, append_assoc, arith, inl, inr, ◌⊎◌, ⊎_elim}
use Rattle.std.proofs.lemmas.List.{append-nil, length-append}
use Rattle.sg_base.specs.declared.address.Addr.{Addr}
use Rattle.sg_ledger.specs.Format.{Join, Represents}
use Rattle.sg_protocol.specs.Calls.{Call}
use Rattle.sg_protocol.specs.Past.{AnsweredCall}
use Rattle.sg_play.specs.declared.fault.PlayFault.{PlayFault}
use Rattle.sg_play.specs.declared.fault.PlayFault.TheVariants.{LinkFailed, WriteFailed, OutOfMemory}
use Rattle.sg_play.specs.Ends.{Outside, Whole, WholePrefix, Ended}
use Rattle.sg_play.specs.Played.{Play, answer_in, called, step_in}
use Rattle.sg_play.specs.Steps.{Step, frames_of}
use Rattle.sg_keep.specs.declared.fault.KeepFault.{KeepFault}
use Rattle.sg_keep.specs.declared.fault.KeepFault.TheVariants.{Played, DiskFailed}
use Rattle.sg_keep.specs.declared.keeper.Keeper.{Keeper}
use Rattle.sg_joins.specs.Joins.{joins_made}
use Rattle.sg_joins.specs.Images.{AllRepresent}
use Rattle.sg_keep.specs.KeptRuns.{AreOfJoins, KeepsFirst, HasKept, KeptBegun, KeptPrefix, RepresentsFirst}
use Rattle.sg_keep.specs.Representation.{Progressed}
use Rattle.sg_keep.proofs.Going.{Goes, by_call}
use Rattle.sg_keep.proofs.Owning.{made_by, of_first_steps, of_more, of_step_more}

-- ---- it goes on

kept_on : (p q : Play) (g : Goes p q) (image : List ℕ) (n : ℕ) (frames : List (Addr × List ℕ)) → RepresentsFirst image p.past.first p.past.calls n frames → RepresentsFirst image q.past.first q.past.calls n frames
kept_on p q g image n frames s = record {
  prefix = s.prefix;
  rest = s.rest ++ g.calls;
  is = g.is_calls ∙ ap (λ (l : List AnsweredCall). l ++ g.calls) s.is ∙ append_assoc s.prefix s.rest g.calls;
  enough = s.enough;
  sent = s.sent;
  represents = subst (λ (o : List Join). Represents image (o ++ joins_made s.prefix)) (sym g.first) s.represents;
}

module _ (start now : Outside) (may_leave : List ℕ → Type 0) where
  prefix_on : (p q : Play) → Goes p q → KeptPrefix start now may_leave p → KeptPrefix start now may_leave q
  prefix_on p q g h = record {
    given = record { prefix = h.given.prefix; rest = h.given.rest ++ g.steps; is = g.is_steps ∙ ap (λ (l : List Step). l ++ g.steps) h.given.is ∙ append_assoc h.given.prefix h.given.rest g.steps; whole = h.given.whole };
    kept = λ image left. kept_on p q g image (length h.given.prefix) (frames_of h.given.prefix) (h.kept image left);
  }

  begun_on : (p q : Play) → Goes p q → KeptBegun start now may_leave p → KeptBegun start now may_leave q
  begun_on p q g h = record {
    given = record {
      prefix = h.given.prefix;
      step = h.given.step;
      rest = h.given.rest ++ g.steps;
      bytes = h.given.bytes;
      is = g.is_steps ∙ ap (λ (l : List Step). l ++ g.steps) h.given.is ∙ append_assoc h.given.prefix (h.given.step ∷ h.given.rest) g.steps;
      lines = h.given.lines;
      frames = h.given.frames;
    };
    kept = λ image left. kept_on p q g image (length h.given.prefix + 1) (frames_of h.given.prefix ++ h.given.step.frames) (h.kept image left);
  }

  pub end_on : (p q : Play) (f : KeepFault) → Goes p q → HasKept start now may_leave p (Err f) → HasKept start now may_leave q (Err f)
  end_on p q (Played LinkFailed) g h = prefix_on p q g h
  end_on p q (Played WriteFailed) g h = begun_on p q g h
  end_on p q (Played OutOfMemory) g h = prefix_on p q g h
  end_on p q DiskFailed g h = prefix_on p q g h

-- ---- it begins

-- all joins of the play are kept
all_kept : (p : Play) (may_leave : List ℕ → Type 0) (n : ℕ) (frames : List (Addr × List ℕ)) → n ≤ length p.past.calls → AreOfJoins (joins_made p.past.calls) frames → AllRepresent may_leave (p.past.first ++ joins_made p.past.calls)
    → KeepsFirst may_leave p n frames
all_kept p may_leave n frames l sent all image left = record { prefix = p.past.calls; rest = []; is = sym (append-nil p.past.calls); enough = l; sent = sent; represents = all image left }

few_in_prefix : (ss prefix rest : List Step) → ss ≡ prefix ++ rest → length prefix ≤ length ss
few_in_prefix ss prefix rest e = let a = ap (λ (l : List Step). length l) e ∙ length-append prefix rest in omega (arith, a)

few_with_one : (ss prefix rest : List Step) (s : Step) → ss ≡ prefix ++ s ∷ rest → length prefix + 1 ≤ length ss
few_with_one ss prefix rest s e = let a = ap (λ (l : List Step). length l) e ∙ length-append prefix (s ∷ rest) in omega (arith, a)

module _ (start now : Outside) (may_leave : List ℕ → Type 0) (p : Play) (in_step : length p.steps ≡ length p.past.calls) (sent : AreOfJoins (joins_made p.past.calls) (frames_of p.steps))
    (all : AllRepresent may_leave (p.past.first ++ joins_made p.past.calls)) where
  prefix_of : WholePrefix start now p.steps → KeptPrefix start now may_leave p
  prefix_of w = record {
    given = w;
    kept = all_kept p may_leave (length w.prefix) (frames_of w.prefix) (let a = few_in_prefix p.steps w.prefix w.rest w.is in omega (arith, a, in_step)) (of_first_steps (joins_made p.past.calls) p.steps w.prefix w.rest w.is sent) all;
  }

  -- a play that ended early, if all its joins are kept
  pub played_end : (f : PlayFault) → Ended start now p.steps (Err f) → HasKept start now may_leave p (Err (Played f))
  played_end LinkFailed h = prefix_of h
  played_end WriteFailed h = record {
    given = h;
    kept = all_kept p may_leave (length h.prefix + 1) (frames_of h.prefix ++ h.step.frames) (let a = few_with_one p.steps h.prefix h.rest h.step h.is in omega (arith, a, in_step))
        (of_step_more (joins_made p.past.calls) p.steps h.prefix h.rest h.step h.is sent) all;
  }
  played_end OutOfMemory h = prefix_of h

  -- one that ended between steps
  pub whole_prefix : Whole start now p.steps → WholePrefix start now p.steps
  whole_prefix w = record { prefix = p.steps; rest = []; is = sym (append-nil p.steps); whole = w }

  pub stopped : Whole start now p.steps → KeptPrefix start now may_leave p
  stopped w = prefix_of (whole_prefix w)

-- a fault that leaves whole steps
abbrev pub IsBetween : KeepFault → Type 0
IsBetween f = (f ≡ DiskFailed) ⊎ (f ≡ Played OutOfMemory)

between : (start now : Outside) (may_leave : List ℕ → Type 0) (p : Play) (f : KeepFault) → IsBetween f → KeptPrefix start now may_leave p → HasKept start now may_leave p (Err f)
between start now may_leave p f (inl e) h = subst (λ (z : KeepFault). HasKept start now may_leave p (Err z)) (sym e) h
between start now may_leave p f (inr e) h = subst (λ (z : KeepFault). HasKept start now may_leave p (Err z)) (sym e) h

-- if the join of a call was not kept: the images have it or not, and nothing of the call was written or sent
pub not_kept : (start now : Outside) (may_leave : List ℕ → Type 0) (p : Play) (c : Call) (f : KeepFault) (bare full : List Join) → IsBetween f → length p.steps ≡ length p.past.calls
    → AreOfJoins (joins_made p.past.calls) (frames_of p.steps) → bare ≡ p.past.first ++ joins_made p.past.calls → full ≡ p.past.first ++ joins_made (called p c).past.calls
    → ((image : List ℕ) → may_leave image → Represents image bare ⊎ Represents image full) → Whole start now p.steps → HasKept start now may_leave (called p c) (Err f)
not_kept start now may_leave p c f bare full causes in_step sent old new images w =
    let call : AnsweredCall = record { call = c; answer = answer_in p c } in
    let more : AreOfJoins (joins_made (called p c).past.calls) (frames_of p.steps) = subst (λ (js : List Join). AreOfJoins js (frames_of p.steps)) (sym (made_by p.past.calls (call ∷ []))) (of_more (joins_made p.past.calls) (joins_made (call ∷ [])) (frames_of p.steps) sent) in
    between start now may_leave (called p c) f causes (record {
      given = record { prefix = p.steps; rest = step_in p c ∷ []; is = refl; whole = w };
      kept = λ image left. ⊎_elim
          (λ (s : Represents image bare).
          kept_on p (called p c) (by_call p c) image (length p.steps) (frames_of p.steps) (record { prefix = p.past.calls; rest = []; is = sym (append-nil p.past.calls); enough = omega (arith, in_step); sent = sent; represents = subst (Represents image) old s }))
          (λ (s : Represents image full).
          record {
            prefix = (called p c).past.calls;
            rest = [];
            is = sym (append-nil (called p c).past.calls);
            enough = let a = length-append p.past.calls (call ∷ []) in omega (arith, a, in_step);
            sent = more;
            represents = subst (Represents image) new s;
          })
          (images image left);
    })

-- ---- one after another

module _ (start now : Outside) (may_leave : List ℕ → Type 0) (k : Keeper) (random : Option (List (List ℕ))) where
  -- an early end, as what was answered says it
  pub ended : (p : Play) (r : Result (Unit {0}) KeepFault) (f : KeepFault) → r ≡ Err f → HasKept start now may_leave p (Err f) → Progressed start now may_leave k random p r
  ended p r f e h = subst (λ (z : Result (Unit {0}) KeepFault). Progressed start now may_leave k random p z) (sym e) h

  -- the play that is come to, by another name
  pub to_same : (p q : Play) (r : Result (Unit {0}) KeepFault) → p ≡ q → Progressed start now may_leave k random p r → Progressed start now may_leave k random q r
  to_same p q r e h = subst (λ (z : Play). Progressed start now may_leave k random z r) e h

  -- an early end of a play that goes on
  pub ended_on : (p q : Play) (r : Result (Unit {0}) KeepFault) (f : KeepFault) → r ≡ Err f → Goes p q → Progressed start now may_leave k random p (Err f) → Progressed start now may_leave k random q r
  ended_on p q r f e g h = ended q r f e (end_on start now may_leave p q f g h)
