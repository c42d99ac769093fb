use Rattle.std.proofs.Common.{◌≡◌, ◌&&◌, nat_lt, Bool, true, false, List, length, Option, Some, None, option_copied, refl, sym, ◌∙◌, ap, subst}
use Rattle.sg_protocol.specs.Frame.{Cast, Frame}
use Rattle.sg_protocol.specs.Graph.{Graph}
use Rattle.sg_protocol.specs.Keyring.{Keyring, Program}
use Rattle.sg_protocol.specs.Node.{program_for, is_cast}
use Rattle.sg_protocol.specs.NodeStates.{NodeState, RepresentsNode}
use Rattle.sg_protocol.specs.Notes.{no_notes}
use Rattle.sg_receipt.specs.declared.refusal.DeliveryRefusal.TheVariants as deliveries
use Rattle.sg_node.specs.Invariant.{node_state}
use Rattle.sg_node.specs.Joining.{JoinsBy}
use Rattle.sg_node.proofs.Acts.{with_none}
use Rattle.sg_node.proofs.Entering.{no_program_for, wrong_cast, unknown_peer, may_take}
use Rattle.sg_node.proofs.Receipts.{in_err}
use Rattle.sg_node.proofs.Takings.{refused_at_once}
use Rattle.sg_node.proofs.node.Node.join.Goals as goal

-- what was found for the frame that was read
its_program : (ps : List Program) (cast : Cast) (o : Option Program) {z f : Frame} → z ≡ f → program_for ps cast.graph z.receiver ≡ o → program_for ps cast.graph f.receiver ≡ o
its_program ps cast o = subst (λ (z : Frame). program_for ps cast.graph z.receiver ≡ o)

its_cast : (keys : Keyring) (g : Graph) (cast : Cast) (b : Bool) {z f : Frame} → z ≡ f → (is_cast keys g cast z.receiver && nat_lt z.sender (length cast.names)) ≡ b → (is_cast keys g cast f.receiver && nat_lt f.sender (length cast.names)) ≡ b
its_cast keys g cast b = subst (λ (z : Frame). (is_cast keys g cast z.receiver && nat_lt z.sender (length cast.names)) ≡ b)

pub returns-in_default-clause-takes : goal.returns-in_default-clause-takes
returns-in_default-clause-takes c =
    let f = c.args.read.now.frame in
    let none = its_program c.self.inside.programs.now c.args.cast None c.frame-frame.ensures.frame (sym c.program_of.ensures ∙ ap option_copied c.in_default.is) in
    refused_at_once deliveries.UnknownGraph no_notes c.self.view_is (λ g. refl) (with_none c.args.notes.now) (no_program_for (node_state c.self.inside) f c.args.cast c.requires.joins none)

pub returns-then-not-fits-clause-takes : goal.returns-then-not-fits-clause-takes
returns-then-not-fits-clause-takes c =
    let f = c.args.read.now.frame in
    let found = its_program c.self.inside.programs.now c.args.cast (Some c.in-Some.program.now) c.frame-frame.ensures.frame (sym c.in-Some.ensures) in
    let wrong = its_cast c.self.inside.keys c.in-Some.program.now.graph c.args.cast false c.frame-frame.ensures.frame (sym c.if-not-fits.ensures) in
    refused_at_once deliveries.BadCast no_notes c.self.view_is (λ g. refl) (with_none c.args.notes.now) (wrong_cast (node_state c.self.inside) f c.args.cast c.requires.joins c.in-Some.program.now found wrong)

pub returns-in-Some-covers-clause-takes : goal.returns-in-Some-covers-clause-takes
returns-in-Some-covers-clause-takes c =
    let f = c.args.read.now.frame in
    let found = its_program c.self.inside.programs.now c.args.cast (Some c.in-Some.program.now) c.frame-frame.ensures.frame (sym c.in-Some.ensures) in
    let right = its_cast c.self.inside.keys c.in-Some.program.now.graph c.args.cast true c.frame-frame.ensures.frame (sym c.if-not-fits.ensures) in
    refused_at_once (deliveries.UnknownPeer c.in-Some-covers.name) no_notes c.self.view_is (λ g. refl) (with_none c.args.notes.now)
    (unknown_peer (node_state c.self.inside) f c.args.cast c.requires.joins c.in-Some.program.now found right c.in-Some-covers.name (sym c.covers.ensures ∙ c.in-Some-covers.is))

pub join_known-requires : goal.join_known-requires
join_known-requires c = record {
  by = subst (λ (z : NodeState). JoinsBy z c.args.read.now.frame c.args.cast c.in-Some.program.now) c.self.view_is (record {
    joins = c.requires.joins;
    program = its_program c.self.inside.programs.now c.args.cast (Some c.in-Some.program.now) c.frame-frame.ensures.frame (sym c.in-Some.ensures);
    cast = its_cast c.self.inside.keys c.in-Some.program.now.graph c.args.cast true c.frame-frame.ensures.frame (sym c.if-not-fits.ensures);
    covered = sym c.covers.ensures ∙ c.in_default-covers.is;
  });
}

pub returns-clause-early : goal.returns-clause-early
returns-clause-early c =
    let f = c.args.read.now.frame in
    let found = its_program c.self.inside.programs.now c.args.cast (Some c.in-Some.program.now) c.frame-frame.ensures.frame (sym c.in-Some.ensures) in
    let right = its_cast c.self.inside.keys c.in-Some.program.now.graph c.args.cast true c.frame-frame.ensures.frame (sym c.if-not-fits.ensures) in
    λ m st. in_err _ c.join_known.result (may_take (node_state c.self.inside) f c.args.cast c.requires.joins c.in-Some.program.now found right (sym c.covers.ensures ∙ c.in_default-covers.is) m (subst (λ (z : NodeState). RepresentsNode z m) (sym c.self.view_is) st))
