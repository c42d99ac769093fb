use Rattle.std.proofs.Common.{Result, sym, subst, arith}
use Rattle.std.specs.Result.{OnOk}
use Rattle.sg_vis.specs.Order.{HoldsTable}
use Rattle.sg_views.specs.declared.fault.ViewFault.{ViewFault}
use Rattle.sg_views.proofs.Tables.{holds-insert}
use Rattle.sg_views.proofs.finding.put_row.Goals as goal
use Rattle.sg_views.proofs.finding.put_row.Goals.{in-Ok, in-Err}

pub returns-clause-table : goal.returns-clause-table
returns-clause-table c =
    elim c.match-insert.branch [
      | in-Ok w ↦
          subst (λ (r : Result (Unit {0}) ViewFault). OnOk r (HoldsTable c.insert.new.self.items)) (sym w.result-is)
          (subst HoldsTable (sym w.in-Ok.ensures.items)
          (holds-insert c.args.rows.now.items c.args.index c.args.row c.requires.table (λ e. c.if-len-eq-MOST_VIEWS.false (omega (arith, e, c.len.ensures, c.args.rows.now.ok))) c.requires.index))
      | in-Err w ↦ subst (λ (r : Result (Unit {0}) ViewFault). OnOk r (HoldsTable c.insert.new.self.items)) (sym w.result-is) tt
    ]
