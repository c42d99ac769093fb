use Rattle.sg_compile.proofs.Adding.{each_more, pairs_more, stopped_first}
use Rattle.sg_compile.proofs.Apart.{apart_more, no_clash}
use Rattle.sg_compile.specs.All.{IsGraphFault, pairs_of}
use Rattle.std.proofs.Common.{sym, subst}
use Rattle.sg_compile.proofs.all.add_roles.Goals as goal

pub returns-in-Err-clause-refused : goal.returns-in-Err-clause-refused
returns-in-Err-clause-refused c =
    subst (IsGraphFault c.args.programs.now c.args.index c.args.graph.now) (sym c.fault_at.ensures)
    (stopped_first c.args.programs.now c.args.index c.args.graph.now c.in-Err.fault c.requires.two c.requires.each c.in-Err.ensures.refused)

pub push-requires : goal.push-requires
push-requires c = no_clash c.args.graph.now c.loop-number.number c.in-Ok.program c.loop-number.programs c.in-Ok.ensures.compiled c.loop-number.invariant.each c.loop-number.invariant.apart

pub loop-number-preserved : goal.loop-number-preserved
loop-number-preserved c =
    record {
      each = each_more c.loop-number.programs c.push.new.self c.in-Ok.program c.args.graph.now c.loop-number.number c.in-Ok-push.ensures.added c.loop-number.invariant.each c.in-Ok.ensures.compiled;
      apart = apart_more c.args.graph.now c.loop-number.number c.in-Ok.program c.loop-number.programs c.push.new.self c.in-Ok-push.ensures.added c.in-Ok.ensures.compiled c.loop-number.invariant.apart;
      added = pairs_more c.loop-number.programs c.push.new.self c.in-Ok.program (pairs_of c.args.programs.now) c.args.graph.now c.loop-number.number c.in-Ok-push.ensures.added
          c.loop-number.invariant.added c.in-Ok.ensures.compiled;
    }
