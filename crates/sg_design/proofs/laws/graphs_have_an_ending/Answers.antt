-- The law that an ending applies.
use Rattle.sg_design.proofs.SomeClaims.{claims_always}
use Rattle.sg_design.proofs.SomeCompose.{compose_always}
use Rattle.sg_design.proofs.SomeEnding.{check_always, compile_always, suggest_always}
use Rattle.sg_design.proofs.laws.graphs_have_an_ending.Goals as goal

pub returns : goal.returns
returns c = record { check = check_always; compile = compile_always; compose = compose_always; suggest = suggest_always; claims = claims_always }
