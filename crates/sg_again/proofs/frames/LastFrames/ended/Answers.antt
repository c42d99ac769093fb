use Rattle.std.proofs.Common.{◌≡◌, ◌∙◌, sym, ap, subst, ◌++◌, ◌∷◌, [], ℕ, List, true, false, bytes_eq, nat_lt, arith, length}
use Rattle.std.specs.Map.{lookup}
use Rattle.std.proofs.lemmas.Bool.Decides.{nat_tests}
use Rattle.sg_again.specs.LastFrames.{LastFrames, ended, most_over}
use Rattle.sg_again.proofs.Kept.{kept, live_at, ended_not, ended_few, ended_many, has_first}
use Rattle.sg_again.proofs.frames.LastFrames.ended.Goals as goal

pub returns-then-not-is_live-clause-ok : goal.returns-then-not-is_live-clause-ok
returns-then-not-is_live-clause-ok c =
    subst (λ (l : LastFrames). l ≡ ended l c.args.sid.now) c.self.view_is
    (ended_not c.self.inside.frames.entries c.self.inside.over.items c.args.sid.now (sym c.is_live.ensures ∙ c.if-not-is_live.true))

pub returns-then-len-gt-MOST_OVER-clause-ok : goal.returns-then-len-gt-MOST_OVER-clause-ok
returns-then-len-gt-MOST_OVER-clause-ok c =
    let sid = c.args.sid.now in
    let over = c.self.inside.over.items in
    let at = live_at (lookup (bytes_eq sid) c.self.inside.frames.entries) (sym c.is_live.ensures ∙ c.if-not-is_live.false) in
    let first = has_first over sid in
    let left = c.let_first_go.ensures first.0 first.1 (c.in_ok-push_back.ensures.items ∙ first.2) in
    let len : c.len.result ≡ length (over ++ sid ∷ []) = c.len.ensures ∙ c.push_back.new.self.ok.0 ∙ ap length c.in_ok-push_back.ensures.items in
    let many : nat_lt most_over (length (over ++ sid ∷ [])) ≡ true = subst (λ (n : ℕ). nat_lt most_over n ≡ true) len (grind (arith, nat_tests, c.if-len-gt-MOST_OVER.true)) in
    ap (λ (os : List (List ℕ)). kept c.let_first_go.new.frames.entries os) left.0
    ∙ ended_many c.self.inside.frames.entries c.end_at.new.frames.entries over sid at.0 at.1 at.2 (c.end_at.ensures at.0 at.1) c.let_first_go.new.frames.entries first.0 first.1 first.2 left.1 many
    ∙ ap (λ (l : LastFrames). ended l sid) c.self.view_is

pub returns-else-len-gt-MOST_OVER-clause-ok : goal.returns-else-len-gt-MOST_OVER-clause-ok
returns-else-len-gt-MOST_OVER-clause-ok c =
    let sid = c.args.sid.now in
    let over = c.self.inside.over.items in
    let at = live_at (lookup (bytes_eq sid) c.self.inside.frames.entries) (sym c.is_live.ensures ∙ c.if-not-is_live.false) in
    let len : c.len.result ≡ length (over ++ sid ∷ []) = c.len.ensures ∙ c.push_back.new.self.ok.0 ∙ ap length c.in_ok-push_back.ensures.items in
    let few : nat_lt most_over (length (over ++ sid ∷ [])) ≡ false = subst (λ (n : ℕ). nat_lt most_over n ≡ false) len (grind (arith, nat_tests, c.if-len-gt-MOST_OVER.false)) in
    ap (λ (os : List (List ℕ)). kept c.end_at.new.frames.entries os) c.in_ok-push_back.ensures.items
    ∙ ended_few c.self.inside.frames.entries c.end_at.new.frames.entries over sid at.0 at.1 at.2 (c.end_at.ensures at.0 at.1) few
    ∙ ap (λ (l : LastFrames). ended l sid) c.self.view_is
