-- What principals that run have done is what honest principals do.
use Rattle.std.specs.Prelude.{ℕ, Bool, List, All, IsTrue, take}
use Rattle.std.specs.List.{AllByRecursion}
use Rattle.sg_apart.specs.Laws.{IsHonest}
use Rattle.sg_input.specs.Lines.{Line}
use Rattle.sg_ledger.specs.Format.{Join}
use Rattle.sg_model.specs.Bytes.{AreBytes, IsBytes}
use Rattle.sg_model.specs.Values.{Value}
use Rattle.sg_play.specs.Played.{played}
use Rattle.sg_protocol.specs.Frame.{IsValue}
use Rattle.sg_protocol.specs.IsSchedule.{IsProgram}
use Rattle.sg_protocol.specs.Keyring.{Keyring, Program}
use Rattle.sg_protocol.specs.Past.{Past, pairs_differ}
use Rattle.sg_protocol.specs.Texts.{real}
use Rattle.sg_script.specs.Script.{Choice, IsScript, Script}
use Rattle.sg_serve.specs.Lines.{with_lines}
use Rattle.sg_serve.specs.Served.{opening}
use Rattle.sg_wait.specs.Waiting.{deliveries_of}
use Rattle.sg_wait.specs.declared.coming.Coming.{Coming}

-- what a choice writes are values
abbrev pub HasValues : Choice → Type 0
HasValues c = AllByRecursion (λ (w : ℕ × Value). IsValue w.1) c.values

-- the past up to its call n
abbrev pub up_to : ℕ → Past → Past
up_to n p = record p { calls = take n p.calls }

-- As far as a script was played, the past is that of an honest principal: if its programs are programs, the joins that it began with differ, the script is one, deliveries are bytes, and there are sixteen random bytes each
abbrev pub PlaysAreHonest : Type 0
PlaysAreHonest = (keys : Keyring) (programs : List Program) (first : List Join) (script : Script) (deliveries random : List (List ℕ)) (n : ℕ) → All (IsProgram real) programs → IsTrue (pairs_differ first) →
    IsScript programs script → All HasValues script.choices → All IsBytes deliveries → All (AreBytes 16) random → IsHonest real (up_to n (played keys programs first script deliveries random).past)

-- So is the past of a run of lines that were served, whatever they are and whatever the link does
abbrev pub RunsAreHonest : Type 0
RunsAreHonest = (keys : Keyring) (programs : List Program) (first : List Join) (coming : List Coming) (random : List (List ℕ)) (lines : List (Line × Bool)) → All (IsProgram real) programs → IsTrue (pairs_differ first) →
    All IsBytes (deliveries_of coming) → All (AreBytes 16) random → IsHonest real (with_lines (opening keys programs first coming random) lines).serving.play.past
