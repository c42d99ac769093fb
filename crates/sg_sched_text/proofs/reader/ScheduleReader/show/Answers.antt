use Rattle.std.proofs.Common.{◌≡◌, ◌∙◌, ap, sym, subst, true, false, refl}
use Rattle.sg_model.specs.Lists.{has_text}
use Rattle.sg_protocol.specs.Graph.{Graph as AGraph}
use Rattle.sg_sched.specs.Pair.{graphs_of}
use Rattle.sg_sched.specs.Format.Items.{graph_names}
use Rattle.sg_sched_text.specs.ReadSoFar.{IsBadAt, Again, AsPair}
use Rattle.sg_sched_text.specs.TakingLines.{fault_at}
use Rattle.sg_sched_text.specs.declared.reader.ScheduleReader.{ScheduleReader}
use Rattle.sg_sched_text.proofs.ReadSoFarLaws.{refused_bad, pair_named, fresh_name}
use Rattle.sg_sched_text.proofs.reader.ScheduleReader.show.Goals as goal

pub returns-in-Err : goal.returns-in-Err
returns-in-Err c =
    let number : fault_at c.args.self.now.number c.in-Err.stop ≡ c.fault_at.result =
    sym (c.fault_at.ensures ∙ ap (λ (r : ScheduleReader). fault_at r.number c.in-Err.stop) c.self.view_is) in
    record {
      shown = tt;
      number = tt;
      edge = tt;
      bad = subst (IsBadAt c.args.text.now c.args.self.now) number (refused_bad c.args.text.now c.args.self.now c.in-Err.stop c.in-Err.ensures);
    }

pub returns-then-has_block : goal.returns-then-has_block
returns-then-has_block c =
    let g : AGraph = c.in-Ok.graph in
    let there : has_text g.name (graph_names c.args.self.now.past.blocks) ≡ true = ap (λ n. has_text n (graph_names c.args.self.now.past.blocks)) (sym c.name-name.ensures.name) ∙ sym c.if-has_block.ensures in
    record {
      shown = tt;
      number = tt;
      edge = tt;
      bad = subst (IsBadAt c.args.text.now c.args.self.now) (sym c.fault_at-then-has_block.ensures) (Again g c.in-Ok.ensures there refl);
    }

pub returns-then-is_pair : goal.returns-then-is_pair
returns-then-is_pair c =
    let g : AGraph = c.in-Ok.graph in
    let there : has_text g.name (graph_names (graphs_of c.args.self.now.past.edges)) ≡ true =
    ap (λ n. has_text n (graph_names (graphs_of c.args.self.now.past.edges))) (sym c.name-name.ensures.name) ∙ sym c.if-is_pair.ensures in
    let pair = pair_named g.name c.args.self.now.past.edges there in
    record {
      shown = tt;
      number = tt;
      edge = tt;
      bad = subst (IsBadAt c.args.text.now c.args.self.now) (sym c.fault_at-then-is_pair.ensures) (AsPair g c.in-Ok.ensures pair.named pair.some refl);
    }

pub returns-in-Ok-add_block : goal.returns-in-Ok-add_block
returns-in-Ok-add_block c =
    let g : AGraph = c.in-Ok.graph in
    let p = c.args.self.now.past in
    let apart : has_text g.name (graph_names p.blocks) ≡ false = ap (λ n. has_text n (graph_names p.blocks)) (sym c.name-name.ensures.name) ∙ sym c.if-has_block.ensures in
    let other : has_text g.name (graph_names (graphs_of p.edges)) ≡ false = ap (λ n. has_text n (graph_names (graphs_of p.edges))) (sym c.name-name.ensures.name) ∙ sym c.if-is_pair.ensures in
    record {
      shown = record { graph = g; spelled = c.in-Ok.ensures; fresh = fresh_name g.name p apart other; added = c.in-Ok-add_block.ensures };
      number = refl;
      edge = refl;
      bad = tt;
    }
