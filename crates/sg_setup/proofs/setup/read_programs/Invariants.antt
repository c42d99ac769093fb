use Rattle.std.proofs.Common.{◌≡◌, map, take}
use Rattle.sg_setup.specs.Setup.{HoldPrograms}
use Rattle.sg_setup.proofs.setup.read_programs.Given as goal

abbrev pub invariant-files : goal.invariant-files
invariant-files g l = record {
  hold : HoldPrograms (g.F.Files.held l.initial.files) (map (λ p. p.now) (take l.file-index l.names)) l.programs;
  kept : g.F.Files.held l.files ≡ g.F.Files.held l.initial.files;
  no_fault : g.F.Files.faults l.files ≡ g.F.Files.faults l.initial.files;
}
