-- How a program is kept.
use Rattle.sg_protocol.specs.Keyring as Protocol
use Rattle.sg_vis.specs.Table.{views_of}
use Rattle.sg_program.specs.declared.program.Program.TheInside.{Inside}

-- the program that is kept
abbrev pub program_of : Inside → Protocol.Program
program_of p = record { graph = p.graph; role = p.role; digest = p.digest; views = views_of p.views; targets = p.targets }
