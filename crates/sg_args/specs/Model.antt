-- What the program holds, as the values of the definitions.
use Rattle.std.specs.Prelude.{map, option_map}
use Rattle.sg_args.specs.Command as Asked
use Rattle.sg_args.specs.declared.command.Command.{Command}
use Rattle.sg_args.specs.declared.command.Principal.{Principal}
use Rattle.sg_args.specs.declared.command.Command.TheVariants.{Check, Compile, Run, Replay, Drive, Ledger, Keep, Stream, Audit, Compose, Suggest, Claims, Serve}

-- the command that is held
abbrev pub command_held : Command → Asked.Command
command_held (Check file) = Asked.Check file.now
command_held (Compile file role) = Asked.Compile file.now role.now
command_held (Run keys script deliveries programs) = Asked.Run keys.now script.now deliveries (map (λ s. s.now) programs.now)
command_held (Replay file) = Asked.Replay file.now
command_held (Drive seed sessions file) = Asked.Drive seed sessions file.now
command_held (Ledger file) = Asked.Ledger file.now
command_held (Keep file keys script deliveries programs) = Asked.Keep file.now keys.now script.now deliveries (map (λ s. s.now) programs.now)
command_held (Stream keys script deliveries programs) = Asked.Stream keys.now script.now deliveries (map (λ s. s.now) programs.now)
command_held (Audit file) = Asked.Audit file.now
command_held (Compose file) = Asked.Compose file.now
command_held (Suggest file) = Asked.Suggest file.now
command_held (Claims graph claims) = Asked.Claims graph.now claims.now
command_held (Serve over_tcp ledger keys programs) = Asked.Serve over_tcp (option_map (λ s. s.now) ledger) keys.now (map (λ s. s.now) programs.now)

-- what one principal that is held runs with
abbrev pub principal_held : Principal → Asked.Principal
principal_held p = record { keys = p.keys.now; script = p.script.now; deliveries = p.deliveries; programs = map (λ s. s.now) p.programs.now }
