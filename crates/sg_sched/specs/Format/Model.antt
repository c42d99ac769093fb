-- What the program holds, as the values of the definitions.
use Rattle.std.specs.Prelude.{Option, option_map}
use Rattle.sg_sched.specs.declared.line.Line.{Line}
use Rattle.sg_sched.specs.declared.line.Line.TheVariants.{Block, Edge, Honest, Key, Session, Start, Act, Abandon, Deliver, Craft}
use Rattle.sg_sched.specs.declared.line.Delivered.{Delivered}
use Rattle.sg_sched.specs.declared.line.Delivered.TheVariants.{Frame, Flipped, Cut, Bytes}
use Rattle.sg_sched.specs.Format.LineContents as Format
use Rattle.sg_sched.specs.Format.LineContents.{LineContent, BlockLine, EdgeLine, HonestLine, KeyLine, SessionLine, StartLine, ActLine, AbandonLine, DeliverLine, MakeLine, TheFrame, TheFlipped, TheCut, TheBytes}
use Rattle.sg_sched.specs.Format.Reading.{WordsLeft}

-- what is delivered
abbrev pub delivered : Delivered → Format.Delivered
delivered (Frame number) = TheFrame number
delivered (Flipped number at) = TheFlipped number at
delivered (Cut number len) = TheCut number len
delivered (Bytes digits) = TheBytes digits.now

-- what a line that is held says
abbrev pub statement : Line → LineContent
statement Block = BlockLine
statement (Edge label from to) = EdgeLine label from to
statement (Honest who) = HonestLine who
statement (Key one two digits) = KeyLine one two digits.now
statement (Session name graph nonce names version) = SessionLine name graph nonce names version
statement (Start who session) = StartLine who session
statement (Act who session label values) = ActLine who session label values
statement (Abandon who session) = AbandonLine who session
statement (Deliver who what) = DeliverLine who (delivered what)
statement (Craft c) = MakeLine c

-- what was taken, and the words that are left
abbrev pub taken : {A : Type 0} → Option A → WordsLeft → Option (A × WordsLeft)
taken o ws = option_map (λ x. (x, ws)) o
