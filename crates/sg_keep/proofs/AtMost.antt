-- At most one join more than was reported, at each moment of a play.
use Rattle.std.proofs.Common.{◌≡◌, ◌≤◌, ◌+◌, ℕ, List, [], ◌∷◌, ◌++◌, length, take, Option, Some, None, refl, sym, ap, ◌∙◌, subst, append_assoc, arith, ⊎_elim}
use Rattle.std.specs.Option.{option_map_or}
use Rattle.std.proofs.lemmas.List.{append-nil, length-append, take-append-le}
use Rattle.std.proofs.Math.Seq.{take-append_seam}
use Rattle.sg_base.specs.Outside.{Appends}
use Rattle.sg_ledger.specs.Disk.{LeavesOnly}
use Rattle.sg_ledger.specs.Format.{Join, Represents}
use Rattle.sg_ledger.proofs.Moments.{chained, started, weakened}
use Rattle.sg_protocol.specs.Calls.{Call}
use Rattle.sg_protocol.specs.Past.{AnsweredCall}
use Rattle.sg_protocol.specs.Keyring.{Keyring, Program}
use Rattle.sg_script.specs.Script.{Script}
use Rattle.sg_play.specs.Played.{Play, all_deliveries, all_starts, answer_in, beginning, called, played, with_turn}
use Rattle.sg_play.specs.Steps.{Step, lines_of}
use Rattle.sg_play.proofs.Endings.{appends_more, appends_none}
use Rattle.sg_play.proofs.Looping.{taken_part}
use Rattle.sg_joins.specs.Joins.{join_in, joins_made}
use Rattle.sg_joins.specs.Images.{AllRepresent, RepresentsEither}
use Rattle.sg_keep.specs.KeptRuns.{KeptThroughout, LeavesAtMost, RepresentsAtMost}
use Rattle.sg_keep.specs.Representation.{KeptFrom}
use Rattle.sg_keep.proofs.Going.{Goes, after_call, by_deliveries, by_starts, deliveries_on, joined, nothing, with_call}
use Rattle.sg_keep.proofs.Owning.{made_by}

-- ---- how many joins calls made

-- the first calls made no more than more of them
made_fewer : (n m : ℕ) (cs : List AnsweredCall) → n ≤ m → length (joins_made (take n cs)) ≤ length (joins_made (take m cs))
made_fewer n m cs l =
    let r = taken_part n m cs l in
    let e = ap (λ (ds : List AnsweredCall). length (joins_made ds)) r.1 ∙ ap (λ (js : List Join). length js) (made_by (take n cs) r.0) ∙ length-append (joins_made (take n cs)) (joins_made r.0) in
    omega (arith, e)

-- one call makes at most one
one_at_most : (c : AnsweredCall) → length (joins_made (c ∷ [])) ≤ 1
one_at_most c = by (join_in c.answer)
  where
    by : (o : Option Join) → length (option_map_or (λ (j : Join). j ∷ []) o [] ++ []) ≤ 1
    by None = let none : 0 ≤ 1 = omega arith in none
    by (Some j) = let one : 1 ≤ 1 = omega arith in one

made_one_more : (cs : List AnsweredCall) (c : AnsweredCall) → length (joins_made (cs ++ c ∷ [])) ≤ length (joins_made cs) + 1
made_one_more cs c =
    let a = ap (λ (js : List Join). length js) (made_by cs (c ∷ [])) ∙ length-append (joins_made cs) (joins_made (c ∷ [])) in
    let b = one_at_most c in
    omega (arith, a, b)

-- ---- a play that goes on

-- the first calls stay the same
first_calls : (p q : Play) (g : Goes p q) (n : ℕ) → n ≤ length p.past.calls → take n q.past.calls ≡ take n p.past.calls
first_calls p q g n l = ap (take n) g.is_calls ∙ take-append-le n p.past.calls g.calls l

all_calls : (p q : Play) (g : Goes p q) → take (length p.past.calls) q.past.calls ≡ p.past.calls
all_calls p q g = ap (take (length p.past.calls)) g.is_calls ∙ take-append_seam p.past.calls g.calls

-- and so do the first steps
first_steps : (p q : Play) (g : Goes p q) (n : ℕ) → n ≤ length p.steps → take n q.steps ≡ take n p.steps
first_steps p q g n l = ap (take n) g.is_steps ∙ take-append-le n p.steps g.steps l

all_steps : (p q : Play) (g : Goes p q) → take (length p.steps) q.steps ≡ p.steps
all_steps p q g = ap (take (length p.steps)) g.is_steps ∙ take-append_seam p.steps g.steps

pub no_fewer_steps : (p q : Play) (g : Goes p q) → length p.steps ≤ length q.steps
no_fewer_steps p q g = let a = ap (λ (ss : List Step). length ss) g.is_steps ∙ length-append p.steps g.steps in omega (arith, a)

pub no_fewer_calls : (p q : Play) (g : Goes p q) → length p.past.calls ≤ length q.past.calls
no_fewer_calls p q g = let a = ap (λ (cs : List AnsweredCall). length cs) g.is_calls ∙ length-append p.past.calls g.calls in omega (arith, a)

-- at most one join more than the first n calls made is at most one more than m calls made
at_most_on : (p q : Play) (g : Goes p q) (n m : ℕ) → n ≤ length p.past.calls → n ≤ m → (image : List ℕ) → RepresentsAtMost p.past.first p.past.calls n image → RepresentsAtMost q.past.first q.past.calls m image
at_most_on p q g n m few le image h = record {
  prefix = h.prefix;
  rest = h.rest ++ g.calls;
  is = g.is_calls ∙ ap (λ (cs : List AnsweredCall). cs ++ g.calls) h.is ∙ append_assoc h.prefix h.rest g.calls;
  most = let a = made_fewer n m q.past.calls le in let b = ap (λ (cs : List AnsweredCall). length (joins_made cs)) (first_calls p q g n few) in let c = h.most in omega (arith, a, b, c);
  represents = subst (λ (js : List Join). Represents image (js ++ joins_made h.prefix)) (sym g.first) h.represents;
}

-- the images have the join of a call or not
module _ (p : Play) (c : Call) (before after : List Join) (old : before ≡ p.past.first ++ joins_made p.past.calls) (new : after ≡ (called p c).past.first ++ joins_made (called p c).past.calls) where
  by_one_call : (image : List ℕ) → RepresentsEither before after image → RepresentsAtMost (with_turn p c).past.first (with_turn p c).past.calls (length p.past.calls) image
  by_one_call image h =
      let g = with_call p c in
      let turn = (after_call p c).0 in
      let made = ap (λ (cs : List AnsweredCall). length (joins_made cs)) (all_calls p (with_turn p c) g) in
      ⊎_elim
      (λ (s : Represents image before).
      record {
        prefix = p.past.calls;
        rest = g.calls;
        is = g.is_calls;
        most = omega (arith, made);
        represents = subst (λ (js : List Join). Represents image (js ++ joins_made p.past.calls)) (sym g.first) (subst (Represents image) old s);
      })
      (λ (s : Represents image after).
      record {
        prefix = (called p c).past.calls;
        rest = turn.calls;
        is = turn.is_calls;
        most = let a : length (joins_made (called p c).past.calls) ≤ length (joins_made p.past.calls) + 1 = made_one_more p.past.calls (record { call = c; answer = answer_in p c }) in omega (arith, a, made);
        represents = subst (λ (js : List Join). Represents image (js ++ joins_made (called p c).past.calls)) (sym turn.first) (subst (Represents image) new s);
      })
      h

-- ---- over calls of a disk

module _ {D : Type 0} (moment : D → ℕ) (left_since : D → ℕ → List ℕ → Type 0) where
  -- during a call
  pub call_at_most : (old new : D) (p : Play) (c : Call) (before after : List Join) → before ≡ p.past.first ++ joins_made p.past.calls → after ≡ (called p c).past.first ++ joins_made (called p c).past.calls
      → LeavesOnly moment left_since old new (RepresentsEither before after) → LeavesAtMost moment left_since old new (with_turn p c) (length p.past.calls)
  call_at_most old new p c before after is_before is_after h =
      weakened moment left_since old new (RepresentsEither before after) (RepresentsAtMost (with_turn p c).past.first (with_turn p c).past.calls (length p.past.calls)) h (by_one_call p c before after is_before is_after)

  -- a disk that was not asked, in a play that went on
  pub not_asked_at_most : (disk : D) (may_leave : List ℕ → Type 0) → ((image : List ℕ) → left_since disk (moment disk) image → may_leave image) → (p q : Play) (g : Goes p q) → AllRepresent may_leave (p.past.first ++ joins_made p.past.calls)
      → LeavesAtMost moment left_since disk disk q (length p.past.calls)
  not_asked_at_most disk may_leave only_now p q g all =
      started moment left_since disk (RepresentsAtMost q.past.first q.past.calls (length p.past.calls))
      (λ image left.
      at_most_on p q g (length p.past.calls) (length p.past.calls) (omega arith) (omega arith) image
      (record { prefix = p.past.calls; rest = []; is = sym (append-nil p.past.calls); most = let e = ap (λ (cs : List AnsweredCall). length (joins_made cs)) (all_calls p p (nothing p)) in omega (arith, e); represents = all image (only_now image left) }))

  -- in a play that goes on
  pub leaves_on : (old new : D) (p q : Play) (g : Goes p q) (n m : ℕ) → n ≤ length p.past.calls → n ≤ m → LeavesAtMost moment left_since old new p n → LeavesAtMost moment left_since old new q m
  leaves_on old new p q g n m few le h =
      weakened moment left_since old new (RepresentsAtMost p.past.first p.past.calls n) (RepresentsAtMost q.past.first q.past.calls m) h (at_most_on p q g n m few le)

  -- one part after another
  pub leaves_then : (old mid new : D) (p q : Play) (g : Goes p q) (n m : ℕ) → n ≤ length p.past.calls → n ≤ m → LeavesAtMost moment left_since old mid p n → LeavesAtMost moment left_since mid new q m → LeavesAtMost moment left_since old new q m
  leaves_then old mid new p q g n m few le first second =
      chained moment left_since old mid new (RepresentsAtMost p.past.first p.past.calls n) (RepresentsAtMost q.past.first q.past.calls m) (RepresentsAtMost q.past.first q.past.calls m) first second (at_most_on p q g n m few le) (λ image s. s)

  -- a call or a start more
  pub leaves_next : (old mid new : D) (q n z : Play) → n ≡ z → Goes q n → LeavesAtMost moment left_since old mid q (length q.past.calls) → LeavesAtMost moment left_since mid new n (length q.past.calls)
      → LeavesAtMost moment left_since old new z (length z.past.calls)
  leaves_next old mid new q n z is g first second =
      let few = no_fewer_calls q n g in
      let before = length q.past.calls in
      let after = length n.past.calls in
      subst (λ (x : Play). LeavesAtMost moment left_since old new x (length x.past.calls)) is
      (leaves_then old mid new q n g before after (omega arith) few first (leaves_on mid new n n (nothing n) before after few few second))

  -- ---- what was written

  -- a play came to one, and more was written
  pub kept_by : (old new : D) (start mid now : Option (List ℕ)) (p q r : Play) → Goes p q → Goes q r → length q.steps ≡ length q.past.calls → Appends start mid (lines_of q.steps) → ((rest : List ℕ) × Appends mid now rest)
      → LeavesAtMost moment left_since old new r (length q.past.calls) → KeptFrom moment left_since old new start now p r
  kept_by old new start mid now p q r f g in_step whole more images = (
    record {
      count = length q.steps;
      within = no_fewer_steps q r g;
      rest = more.0;
      written = subst (λ (ss : List Step). Appends start now (lines_of ss ++ more.0)) (sym (all_steps q r g)) (appends_more start mid now (lines_of q.steps) more.0 whole more.1);
      any_moment = subst (λ (n : ℕ). LeavesAtMost moment left_since old new r n) (sym in_step) images;
    },
    no_fewer_steps p q f,
  )

  -- so if a call or a start more ended early
  pub kept_early : (old mid new : D) (start middle now : Option (List ℕ)) (p q n z r : Play) → n ≡ z → Goes p q → Goes q n → Goes z r → Goes q r → length q.steps ≡ length q.past.calls → Appends start middle (lines_of q.steps)
      → ((rest : List ℕ) × Appends middle now rest) → LeavesAtMost moment left_since old mid q (length q.past.calls) → LeavesAtMost moment left_since mid new n (length q.past.calls) → KeptFrom moment left_since old new start now p r
  kept_early old mid new start middle now p q n z r is f g on h in_step whole more first second =
      let before = length q.past.calls in
      kept_by old new start middle now p q r f h in_step whole more
      (leaves_on old new n r (subst (λ (x : Play). Goes x r) (sym is) on) before before (no_fewer_calls q n g) (omega arith) (leaves_then old mid new q n g before before (omega arith) (omega arith) first second))

  -- and nothing more
  pub kept_at : (old new : D) (start now : Option (List ℕ)) (p q r : Play) → Goes p q → Goes q r → length q.steps ≡ length q.past.calls → Appends start now (lines_of q.steps) → LeavesAtMost moment left_since old new q (length q.past.calls)
      → KeptFrom moment left_since old new start now p r
  kept_at old new start now p q r f g in_step whole images =
      kept_by old new start now now p q r f g in_step whole ([], appends_none now) (leaves_on old new q r g (length q.past.calls) (length q.past.calls) (omega arith) (omega arith) images)

  -- the first of some deliveries were taken
  pub kept_taking : (old new : D) (start now : Option (List ℕ)) (p : Play) (ds : List (List ℕ)) (k m : ℕ) → k ≤ m → length (all_deliveries p (take k ds)).steps ≡ length (all_deliveries p (take k ds)).past.calls → Appends start now (lines_of (all_deliveries p (take k ds)).steps)
      → LeavesAtMost moment left_since old new (all_deliveries p (take k ds)) (length (all_deliveries p (take k ds)).past.calls) → KeptFrom moment left_since old new start now p (all_deliveries p (take m ds))
  kept_taking old new start now p ds k m l in_step whole images = kept_at old new start now p (all_deliveries p (take k ds)) (all_deliveries p (take m ds)) (by_deliveries p (take k ds)) (deliveries_on p k m ds l) in_step whole images

  -- it goes on after an early end
  pub throughout_on : (old new : D) (start now : Option (List ℕ)) (p q : Play) → Goes p q → length p.steps ≡ length p.past.calls → KeptThroughout moment left_since old new start now p → KeptThroughout moment left_since old new start now q
  throughout_on old new start now p q g in_step k = record {
    count = k.count;
    within = let a = k.within in let b = no_fewer_steps p q g in omega (arith, a, b);
    rest = k.rest;
    written = subst (λ (ss : List Step). Appends start now (lines_of ss ++ k.rest)) (sym (first_steps p q g k.count k.within)) k.written;
    any_moment = leaves_on old new p q g k.count k.count (let a = k.within in omega (arith, a, in_step)) (omega arith) k.any_moment;
  }

  -- a later part is kept too
  pub throughout_then : (old mid new : D) (start middle now : Option (List ℕ)) (p q : Play) → Goes p q → length p.steps ≡ length p.past.calls → KeptThroughout moment left_since old mid start middle p → KeptFrom moment left_since mid new start now p q
      → KeptThroughout moment left_since old new start now q
  throughout_then old mid new start middle now p q g in_step k later = record {
    count = later.0.count;
    within = later.0.within;
    rest = later.0.rest;
    written = later.0.written;
    any_moment =
        let a = k.within in
        let b = later.1 in
        leaves_then old mid new p q g k.count later.0.count (omega (arith, a, in_step)) (omega (arith, a, b)) k.any_moment later.0.any_moment;
  }

  -- nothing was begun
  pub not_begun_throughout : (disk : D) (may_leave : List ℕ → Type 0) → ((image : List ℕ) → left_since disk (moment disk) image → may_leave image) → (written : Option (List ℕ))
      → (keys : Keyring) (programs : List Program) (first : List Join) (script : Script) (deliveries random : List (List ℕ)) → AllRepresent may_leave first
      → KeptThroughout moment left_since disk disk written written (played keys programs first script deliveries random)
  not_begun_throughout disk may_leave only_now written keys programs first script deliveries random all =
      let begun = beginning keys programs first script.choices random in
      let begins = all_starts begun script.starts in
      let whole = all_deliveries begins deliveries in
      let goes = joined begun begins whole (by_starts begun script.starts) (by_deliveries begins deliveries) in
      (kept_by disk disk written written written begun begun whole (nothing begun) goes refl (appends_none written) ([], appends_none written)
      (not_asked_at_most disk may_leave only_now begun whole goes (subst (AllRepresent may_leave) (sym (append-nil first)) all))).0
