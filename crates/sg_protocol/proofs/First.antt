-- A node keeps its programs, its keys and its joins.
use Rattle.std.specs.Prelude.{◌≡◌, ℕ, refl, Option, Some, None, List, [], ◌∷◌, ◌++◌, length, ◌≤◌}
use Rattle.std.specs.Option.{option_map_or}
use Rattle.sg_protocol.specs.Frame.{Cast, Frame}
use Rattle.sg_protocol.specs.Session.{Took, time, extended, new_session}
use Rattle.sg_protocol.specs.Calls.{Started, Received, Call, Start, Act, Abandon, Deliver, Answer, Happened, Sends, Abandoned}
use Rattle.std.specs.Prelude.{Result, Ok, Err}
use Rattle.sg_protocol.specs.Reading.{read}
use Rattle.sg_protocol.specs.Node.{Node, is_for}
use Rattle.sg_protocol.specs.NodeAfter.{node_after, joined, goes_on, still, takes_read}
use Rattle.std.proofs.Common.{arith}
use Rattle.sg_model.proofs.Small.{length-more}

abbrev Keeps : Node → Node → Type 0
Keeps n m = (m.programs ≡ n.programs) × (m.keys ≡ n.keys) × (length n.joins ≤ length m.joins)

more : (n : Node) (j : List ℕ × ℕ) → length n.joins ≤ length (n.joins ++ j ∷ [])
more n j = let l = length-more n.joins j in omega (arith, l)

takes_keeps : (n : Node) (f : Frame) (o : Option Cast) → Keeps n (option_map_or (λ c. joined n (extended (new_session f.sid c f.receiver) (Took f))) o (goes_on n (is_for f) (λ z. still n.programs (extended z (Took f)))))
takes_keeps n f None = (refl, refl, omega arith)
takes_keeps n f (Some c) = (refl, refl, more n (f.sid, f.receiver))

read_keeps : (n : Node) (r : Result Frame ℕ) → Keeps n (takes_read n r)
read_keeps n (Err at) = (refl, refl, omega arith)
read_keeps n (Ok f) = takes_keeps n f f.join

keeps : (n : Node) (c : Call) (a : Answer) → Keeps n (node_after n c a)
keeps n (Start c) (Happened (Started sid r)) = (refl, refl, more n (sid, r))
keeps n (Act sid label values confounders) (Sends e to f) = (refl, refl, omega arith)
keeps n (Abandon sid) Abandoned = (refl, refl, omega arith)
keeps n (Deliver bs) (Happened (Received sid r label time values joins)) = read_keeps n (read bs)
keeps n c other = (refl, refl, omega arith)

pub programs_after : (n : Node) (c : Call) (a : Answer) → (node_after n c a).programs ≡ n.programs
programs_after n c a = (keeps n c a).0

pub keys_after : (n : Node) (c : Call) (a : Answer) → (node_after n c a).keys ≡ n.keys
keys_after n c a = (keeps n c a).1

pub joins_grow : (n : Node) (c : Call) (a : Answer) → length n.joins ≤ length (node_after n c a).joins
joins_grow n c a = (keeps n c a).2
