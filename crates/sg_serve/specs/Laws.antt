-- What holds of each run, in the subject's terms.
use Rattle.std.specs.Prelude.{◌≡◌, ℕ, Bool, List, Some}
use Rattle.sg_input.specs.Lines.{Line, Whole}
use Rattle.sg_ledger.specs.Format.{Join}
use Rattle.sg_protocol.specs.Keyring.{Keyring, Program}
use Rattle.sg_protocol.specs.Past.{AreAnswers, new_node}
use Rattle.sg_protocol.specs.Texts.{real}
use Rattle.sg_request.specs.Request.{request_of}
use Rattle.sg_request.specs.declared.request.Request.TheVariants.{Again}
use Rattle.sg_wait.specs.declared.coming.Coming.{Coming}
use Rattle.sg_serve.specs.Lines.{Run, with_line, with_lines}
use Rattle.sg_serve.specs.Served.{opening}

-- the node of a run has these keys and programs and joined these pairs before, and its calls were answered as such a node answers them
pub record IsOfNode (keys : Keyring) (programs : List Program) (first : List Join) (r : Run) : Type 0 where
  pub is_keys : (r.serving).play.past.keys ≡ keys
  pub is_programs : (r.serving).play.past.programs ≡ programs
  pub is_first : (r.serving).play.past.first ≡ first
  pub answers : AreAnswers real (new_node keys programs first) (r.serving).play.past.calls

-- So it is in each run, whatever the lines are and whatever the link does
abbrev pub RunsAreOfNodes : Type 0
RunsAreOfNodes = (keys : Keyring) (programs : List Program) (first : List Join) (coming : List Coming) (random : List (List ℕ)) (lines : List (Line × Bool)) → IsOfNode keys programs first (with_lines (opening keys programs first coming random) lines)

-- A frame that is sent again makes no call, takes no random bytes, and changes nothing of the state
abbrev pub AgainChangesNothing : Type 0
AgainChangesNothing = (took : Bool) (r : Run) (bytes : List ℕ) (n : ℕ) → request_of bytes ≡ Some (Again n) → (with_line took r (Whole bytes)).serving ≡ r.serving
