use Rattle.std.proofs.Common.{◌≡◌, ◌<◌, ◌∙◌, ap, sym, length, arith, Some, slice_get}
use Rattle.std.proofs.lemmas.Option.{slice_get_read}
use Rattle.sg_sched_text.proofs.SessionLaws.{count, at_index}
use Rattle.sg_sched_text.proofs.sessions.Sessions.at.Goals as goal

pub unreachable-requires : goal.unreachable-requires
unreachable-requires c =
    let e : length c.args.self.now ≡ length c.self.inside.names = ap length (sym c.self.view_is) ∙ count c.self.inside.names c.self.inside.likes.keys c.self.invariant.0 in
    let within : c.args.index < length c.self.inside.likes.keys = omega (arith, e, c.self.invariant.0, c.requires) in
    let some = c.in-None.ensures.found.1 within in
    absurd (cc)

pub returns : goal.returns
returns c =
    let e : length c.args.self.now ≡ length c.self.inside.names = ap length (sym c.self.view_is) ∙ count c.self.inside.names c.self.inside.likes.keys c.self.invariant.0 in
    let n = c.index-as_slice-index.result in
    let name : slice_get c.as_slice.result.now c.args.index ≡ Some n =
    slice_get_read c.as_slice.result.now (length c.self.inside.names) c.args.index n (ap length (sym c.as_slice.ensures)) (omega (arith, e, c.requires)) c.index-as_slice-index.is in
    rw (← c.self.view_is) (at_index c.self.inside.names c.self.inside.likes.keys c.args.index n c.in-Some.like.now
    (ap (λ ns. slice_get ns c.args.index) (sym c.as_slice.ensures) ∙ name) (sym c.in-Some.ensures.key))
