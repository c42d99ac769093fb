-- Lines of a form that are wrong after what the lines before them declare, each with its kind.
use Rattle.std.specs.Prelude.{◌≡◌, ℕ, List, [], ◌∷◌, ◌++◌, map, replicate, length, codes, refl, Some, None}
use Rattle.sg_model.specs.Lists.{below}
use Rattle.sg_protocol.specs.Schedule.{StartStep}
use Rattle.sg_sched.specs.Pair.{edge, node}
use Rattle.sg_sched.specs.Format.LineContents.{LineContent, BlockLine, EdgeLine, HonestLine, KeyLine, SessionLine, StartLine, ActLine, AbandonLine, DeliverLine, MakeLine, TheFrame, FromKey, FromItem, FromZero, Committed, TagSource}
use Rattle.sg_sched.specs.Format.Items.{Item, GraphItem, EdgeItem, HonestItem, StepItem}
use Rattle.sg_sched.specs.Format.Kinds.{Kind, Form, Unknown, Twice, NotHonest, TooManySteps, TooManySessions}
use Rattle.sg_sched.specs.Format.Faults.{fault, blank_frame}
use Rattle.sg_protocol.specs.Spelling.{spelling}
use Rattle.sg_sched.specs.Format.Spells.{IsWrong, OfAForm}
use Rattle.sg_sched.proofs.FormatHeads.{on_literals, sixty_four, given, committed, line_item, crafted, joins, session_item, key_item, pair_items, head_p, alice_carl}

-- the line is wrong after these items, whatever comes behind it
abbrev WrongLine : List Item → List ℕ → Kind → Type 0
WrongLine before line kind = IsWrong before (line ∷ []) [] kind

-- a block of a graph of no other name than `pair`
abbrev blocked : List Item
blocked = GraphItem (record { name = codes "pair"; roles = codes "a" ∷ codes "b" ∷ []; variables = []; nodes = map node (below 2); edges = edge (codes "L") 0 1 ∷ [] }) ∷ []

-- ---- groups

late_edge : WrongLine (HonestItem (codes "a") ∷ []) (codes "edge Request 0 1\n") Form
unfolding on_literals
late_edge = OfAForm {statement = EdgeLine (codes "Request") 0 1} (record { spelled = refl; form = refl }) refl

late_block : WrongLine (HonestItem (codes "a") ∷ []) (codes "graph {\n") Form
late_block = OfAForm {statement = BlockLine} (record { spelled = refl; form = refl }) refl

late_honest : WrongLine (head_p []) (codes "honest a\n") Form
late_honest = OfAForm {statement = HonestLine (codes "a")} (record { spelled = refl; form = refl }) refl

late_session : WrongLine (head_p (codes "a" ∷ []) ++ StepItem (StartStep (codes "a") 0) ∷ []) (codes "session s2 nothing 1 a,b\n") Form
unfolding on_literals
late_session = OfAForm {statement = SessionLine (codes "s2") (codes "nothing") 1 (codes "a" ∷ codes "b" ∷ []) 1} (record { spelled = refl; form = refl }) refl

-- ---- edges

edge_twice : WrongLine pair_items (codes "edge Reply 0 3\n") Twice
unfolding on_literals
edge_twice = OfAForm {statement = EdgeLine (codes "Reply") 0 3} (record { spelled = refl; form = refl }) refl

pair_twice : WrongLine blocked (codes "edge Request 0 1\n") Twice
unfolding on_literals
pair_twice = OfAForm {statement = EdgeLine (codes "Request") 0 1} (record { spelled = refl; form = refl }) refl

-- one edge too many has no form, and is no repetition
edge_513 : WrongLine (replicate 512 (EdgeItem (edge (codes "L") 0 1))) (codes "edge L 0 1\n") Form
unfolding on_literals
edge_513 = OfAForm {statement = EdgeLine (codes "L") 0 1} (record { spelled = refl; form = refl }) refl

-- ---- declarations

honest_twice : WrongLine (HonestItem (codes "a") ∷ []) (codes "honest a\n") Twice
honest_twice = OfAForm {statement = HonestLine (codes "a")} (record { spelled = refl; form = refl }) refl

-- the same pair, the other way round
key_twice : WrongLine (key_item (codes "a") (codes "b") 17 ∷ []) (codes "key b a " ++ sixty_four 49) Twice
unfolding on_literals
key_twice = OfAForm {statement = KeyLine (codes "b") (codes "a") (sixty_four 49)} (record { spelled = refl; form = refl }) refl

name_twice : WrongLine (head_p []) (codes "session s1 pair 2 a,b\n") Twice
unfolding on_literals
name_twice = OfAForm {statement = SessionLine (codes "s1") (codes "pair") 2 (codes "a" ∷ codes "b" ∷ []) 1} (record { spelled = refl; form = refl }) refl

session_unknown : WrongLine pair_items (codes "session s1 shop 1 a,b\n") Unknown
unfolding on_literals
session_unknown = OfAForm {statement = SessionLine (codes "s1") (codes "shop") 1 (codes "a" ∷ codes "b" ∷ []) 1} (record { spelled = refl; form = refl }) refl

-- the number of names waits for the graph
names_wait : WrongLine pair_items (codes "session s1 shop 1 a,b,c\n") Unknown
unfolding on_literals
names_wait = OfAForm {statement = SessionLine (codes "s1") (codes "shop") 1 (codes "a" ∷ codes "b" ∷ codes "c" ∷ []) 1} (record { spelled = refl; form = refl }) refl

names_wrong : WrongLine (head_p []) (codes "session s1 pair 1 a,b,c\n") Form
unfolding on_literals
names_wrong = OfAForm {statement = SessionLine (codes "s1") (codes "pair") 1 (codes "a" ∷ codes "b" ∷ codes "c" ∷ []) 1} (record { spelled = refl; form = refl }) refl

-- the graph, nonce and cast of another session
cast_twice : WrongLine (head_p []) (codes "session s2 pair 1 a,b\n") Twice
unfolding on_literals
cast_twice = OfAForm {statement = SessionLine (codes "s2") (codes "pair") 1 (codes "a" ∷ codes "b" ∷ []) 1} (record { spelled = refl; form = refl }) refl

session_100001 : WrongLine (pair_items ++ replicate 100000 (session_item (codes "s1") 1 (codes "a" ∷ codes "b" ∷ []))) (codes "session s2 shop 1 a,b\n") TooManySessions
unfolding on_literals
session_100001 = OfAForm {statement = SessionLine (codes "s2") (codes "shop") 1 (codes "a" ∷ codes "b" ∷ []) 1} (record { spelled = refl; form = refl }) refl

-- ---- steps

start_unknown : WrongLine (head_p []) (codes "start a s2\n") Unknown
start_unknown = OfAForm {statement = StartLine (codes "a") (codes "s2")} (record { spelled = refl; form = refl }) refl

start_not_honest : WrongLine (head_p (codes "b" ∷ [])) (codes "start a s1\n") NotHonest
start_not_honest = OfAForm {statement = StartLine (codes "a") (codes "s1")} (record { spelled = refl; form = refl }) refl

deliver_not_honest : WrongLine (head_p (codes "b" ∷ [])) (codes "deliver a f1\n") NotHonest
unfolding on_literals
deliver_not_honest = OfAForm {statement = DeliverLine (codes "a") (TheFrame 1)} (record { spelled = refl; form = refl }) refl

label_unknown : WrongLine (head_p (codes "a" ∷ [])) (codes "act a s1 Again\n") Unknown
label_unknown = OfAForm {statement = ActLine (codes "a") (codes "s1") (codes "Again") []} (record { spelled = refl; form = refl }) refl

variable_unknown : WrongLine alice_carl (codes "act alice s1 Order r=5 r=5\n") Unknown
unfolding on_literals
variable_unknown = OfAForm {statement = ActLine (codes "alice") (codes "s1") (codes "Order") (given (codes "r") (codes "5") ∷ given (codes "r") (codes "5") ∷ [])} (record { spelled = refl; form = refl }) refl

-- twice comes before not honest
variable_twice : WrongLine alice_carl (codes "act bob s1 Order q=5 q=6\n") Twice
unfolding on_literals
variable_twice = OfAForm {statement = ActLine (codes "bob") (codes "s1") (codes "Order") (given (codes "q") (codes "5") ∷ given (codes "q") (codes "6") ∷ [])} (record { spelled = refl; form = refl }) refl

step_200001 : WrongLine (replicate 200000 (StepItem (StartStep (codes "a") 0))) (codes "abandon a s1\n") TooManySteps
step_200001 = OfAForm {statement = AbandonLine (codes "a") (codes "s1")} (record { spelled = refl; form = refl }) refl

-- ---- crafts

-- a frame of one item from p to c that doesn't join
abbrev one_item : List Committed → List ℕ → List Committed → List (List ℕ × TagSource) → List Committed → TagSource → LineContent
one_item know label delta tags openings seal = MakeLine (crafted (codes "p") (codes "c") None know (line_item label 1 delta tags ∷ []) openings seal)

-- q and price, in this order of their numbers, and the other way round
falling : List Committed
falling = committed (codes "price") (codes "1") 1 ∷ committed (codes "q") (codes "1") 1 ∷ []

know_falls : WrongLine alice_carl (codes "craft s1 from p to c know price=1#1 q=1#1 item Pass 1 seal zero\n") Form
unfolding on_literals falling
know_falls = OfAForm {statement = one_item falling (codes "Pass") [] [] [] FromZero} (record { spelled = refl; form = refl }) refl

-- the order of the tags is tested, though the label and the key aren't declared
tags_fall : WrongLine alice_carl (codes "craft s1 from p to c item Go 1 tag w zero tag c zero seal key x y\n") Form
unfolding on_literals
tags_fall = OfAForm {statement = one_item [] (codes "Go") [] ((codes "w", FromZero) ∷ (codes "c", FromZero) ∷ []) [] (FromKey (codes "x") (codes "y"))} (record { spelled = refl; form = refl }) refl

-- the order of a list waits for all its names
order_waits : WrongLine alice_carl (codes "craft s1 from p to c item Pass 1 price=1#1 q=1#1 r=1#1 seal zero\n") Unknown
unfolding on_literals falling
order_waits = OfAForm {statement = one_item [] (codes "Pass") (falling ++ committed (codes "r") (codes "1") 1 ∷ []) [] [] FromZero} (record { spelled = refl; form = refl }) refl

-- no key of two principals
pair_unknown : WrongLine alice_carl (codes "craft s1 from p to c item Pass 1 seal key alice dan\n") Unknown
unfolding on_literals
pair_unknown = OfAForm {statement = one_item [] (codes "Pass") [] [] [] (FromKey (codes "alice") (codes "dan"))} (record { spelled = refl; form = refl }) refl

role_unknown : WrongLine alice_carl (codes "craft s1 from p to c item Pass 1 tag c copy f1 1 z seal zero\n") Unknown
unfolding on_literals
role_unknown = OfAForm {statement = one_item [] (codes "Pass") [] ((codes "c", FromItem 1 1 (codes "z")) ∷ []) [] FromZero} (record { spelled = refl; form = refl }) refl

-- ---- the length of a crafted frame

-- a craft of n items without commitments
abbrev long : ℕ → LineContent
long n = MakeLine (crafted (codes "p") (codes "c") None [] (replicate n (line_item (codes "Pass") 1 [] [])) [] FromZero)

-- 4 + 1 + 32 + 1 + 1 + 2 + 6658 * 9 + 1 + 32 bytes are 59,996
length_fits : fault alice_carl (long 6658) ≡ None
length_fits = refl

too_long : fault alice_carl (long 6659) ≡ Some Form
too_long = refl

-- the length waits for the session
length_waits : fault [] (long 6659) ≡ Some Unknown
length_waits = refl

-- a joining frame of the words of an example has 4 + 1 + 32 + 1 + 1 + 32 + 16 + 1 + 4 + 2 + 9 + 1 + 32 bytes
joins_short : length (spelling (blank_frame None (record { name = codes "s1"; graph = 0; nonce = 1; names = codes "a" ∷ codes "b" ∷ []; version = 1 })
    (crafted (codes "a") (codes "b") joins [] (line_item (codes "Request") 1 [] [] ∷ []) [] (FromKey (codes "a") (codes "b"))))) ≡ 136
joins_short = refl
