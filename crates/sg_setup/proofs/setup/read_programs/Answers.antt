use Rattle.std.proofs.Common.{[], sym, subst, refl, ◌∙◌, Bor, List, ℕ}
use Rattle.sg_ending.specs.Model.{ending_held}
use Rattle.sg_setup.specs.Setup.{HoldPrograms, NoPrograms}
use Rattle.sg_setup.proofs.InOrder.{all_held, one_more, stops}
use Rattle.sg_setup.proofs.setup.read_programs.Goals as goal

pub files-init : goal.files-init
files-init g c = record {
  hold = subst (HoldPrograms (g.F.Files.held c.args.files.now) []) (sym c.new-programs.ensures) NoPrograms;
  kept = refl;
  no_fault = refl;
}

pub returns-in-Err-clause-ends : goal.returns-in-Err-clause-ends
returns-in-Err-clause-ends g c =
    let i = c.files.invariant in
    stops (λ (s : Bor (List ℕ)). s.now) (g.F.Files.held c.args.files.now) (g.F.Files.held c.files.files) (g.F.Files.faults c.args.files.now) (g.F.Files.faults c.files.files) (g.F.Files.faults c.add_program.new.files)
    c.args.names.now c.files.file-index _ c.files.programs (ending_held c.in-Err.ending) c.files-test.true i.kept i.no_fault i.hold c.in-Err.ensures.ends

pub files-preserved : goal.files-preserved
files-preserved g c =
    let i = c.files.invariant in
    record {
      hold = one_more (λ (s : Bor (List ℕ)). s.now) (g.F.Files.held c.args.files.now) (g.F.Files.held c.files.files) c.args.names.now c.files.file-index _ c.files.programs c.add_program.new.programs
          c.files-test.true i.kept i.hold c.in-Ok.ensures.added;
      kept = c.add_program.ensures.kept ∙ i.kept;
      no_fault = c.in-Ok.ensures.no_fault ∙ i.no_fault;
    }

pub returns-clause-hold : goal.returns-clause-hold
returns-clause-hold g c =
    all_held (λ (s : Bor (List ℕ)). s.now) (g.F.Files.held c.args.files.now) c.args.names.now c.files.file-index c.files.programs c.files-test.false c.files.invariant.hold
