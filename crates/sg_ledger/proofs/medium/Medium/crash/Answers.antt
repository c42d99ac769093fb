use Rattle.std.proofs.Common.{inr, sym, ◌∙◌, subst, List, ℕ}
use Rattle.sg_ledger.specs.Memory.{Leaves, picked}
use Rattle.sg_ledger.specs.Invariant.{state_of}
use Rattle.sg_ledger.proofs.Replay.{picked_leaves}
use Rattle.sg_ledger.proofs.medium.Medium.crash.Goals as goal

pub returns-clause-image : goal.returns-clause-image
returns-clause-image c =
    let state = state_of c.self.inside in
    let is = c.put_within.ensures.items ∙ c.deref-2.ensures.value ∙ c.tear_all.ensures.image
    ∙ (λ i. picked (c.self.invariant.synced i) ((c.deref.ensures.value ∙ c.self.invariant.tears) i) c.args.picks.now) in
    rw (← c.self.view_is) (inr (subst (Leaves state.synced state.tears) (sym is) (picked_leaves state.synced state.tears c.args.picks.now)))
