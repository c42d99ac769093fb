use Rattle.std.proofs.Common.{◌≡◌, drop, map}
use Rattle.std.specs.Prelude.{string_bytes}
use Rattle.sg_base.specs.Outside.{file_at}
use Rattle.sg_base.proofs.memory.files.find_bytes.Given as goal

abbrev pub invariant-loop-file : goal.invariant-loop-file
invariant-loop-file l =
    file_at (map (λ f. (string_bytes f.0, f.1.items)) l.files) l.name ≡ file_at (map (λ f. (string_bytes f.0, f.1.items)) (drop l.file-index l.files)) l.name
