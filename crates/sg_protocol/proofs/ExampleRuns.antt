-- Whole runs, with a quick hash in the place of SHA-256, and the walks that explain them.
use Rattle.std.specs.Prelude.{◌≡◌, ℕ, ◌==◌, if◌then◌else◌, Bool, true, false, not, nat_eq, List, [], ◌∷◌, map, codes, refl, Some, None, Option, pos}
use Rattle.std.specs.Str.{is_utf8, chars}
use Rattle.std.specs.Char.{encode_utf8}
use Rattle.std.proofs.Common.{lit<}
use Rattle.sg_model.specs.Values.{Value, TextValue, IntValue, Opening}
use Rattle.sg_protocol.specs.Calls.{Received, Answer, Happened, Sends, Abandoned, NotDelivered, BadEvidence, BadOpening, BadTime, NotActed, Send, BadValues}
use Rattle.sg_protocol.specs.Walk.{OnePath, StoredStep, are_hidden}
use Rattle.sg_protocol.specs.Schedule.{Schedule, Step, StartStep, ActStep, DeliverStep, CraftStep, Whole, Key, CopyItem, Zero, confounder, sid_at}
use Rattle.sg_protocol.specs.World.{World, Outcome, Answered, Crafted, NoFrame}
use Rattle.sg_protocol.specs.Run.{run, events_of}
use Rattle.sg_protocol.specs.Premises.{hashed}
use Rattle.sg_protocol.specs.Explaining.{filled, walk_after_event, walk_after_steps}
use Rattle.sg_protocol.proofs.Examples.{shop, pair, order, ask, offer, refuse, pass, deny, retry, programs, alice, bob, carl, shop_schedule, pair_schedule, outcomes, toy, first_told, forged, colliding}

-- a word for the outcome of a step
abbrev word_of_answer : Answer → List ℕ
word_of_answer (Happened e) = codes "done"
word_of_answer (Sends e to f) = codes "sent"
word_of_answer Abandoned = codes "left"
word_of_answer (NotDelivered (BadTime i got least)) = codes "bad time"
word_of_answer (NotDelivered (BadEvidence i)) = codes "bad evidence"
word_of_answer (NotDelivered (BadOpening x)) = codes "bad opening"
word_of_answer (NotActed (Send (BadValues x))) = codes "bad values"
word_of_answer other = codes "refused"

abbrev word : Outcome → List ℕ
word (Answered a) = word_of_answer a
word Crafted = codes "crafted"
word NoFrame = codes "no frame"

abbrev words : Schedule → List (List ℕ)
words s = map word (outcomes toy s (programs toy shop 12))

abbrev tea : Value
tea = TextValue (codes "tea")

abbrev gin : Value
gin = TextValue (codes "gin")

abbrev forty : Value
forty = IntValue (pos 40)

-- the opening of x with the confounder of step k
abbrev opening : ℕ → Value → ℕ → Opening
opening x v k = record { variable = x; confounder = confounder k x; value = v }

abbrev deliver : List ℕ → ℕ → Step
deliver who n = DeliverStep who (Whole n)

-- ---- all honest: an order, an offer, a retry and a refusal

abbrev honest_run : Schedule
honest_run = shop_schedule toy (alice ∷ bob ∷ carl ∷ []) (
    StartStep alice 0 ∷ ActStep alice 0 order ((0, tea) ∷ []) ∷ deliver bob 1 ∷ ActStep bob 0 ask [] ∷ deliver carl 2
    ∷ ActStep carl 0 offer ((1, forty) ∷ []) ∷ deliver bob 3 ∷ ActStep bob 0 pass [] ∷ deliver alice 4
    ∷ ActStep alice 0 retry ((0, gin) ∷ []) ∷ deliver bob 5 ∷ ActStep bob 0 ask [] ∷ deliver carl 6
    ∷ ActStep carl 0 refuse [] ∷ deliver bob 7 ∷ ActStep bob 0 deny [] ∷ deliver alice 8 ∷ [])

abbrev world : World
world = run toy (programs toy shop 12) honest_run

honest_answers : map word (map (λ l. l.outcome) world.log)
    ≡ codes "done" ∷ codes "sent" ∷ codes "done" ∷ codes "sent" ∷ codes "done" ∷ codes "sent" ∷ codes "done" ∷ codes "sent" ∷ codes "done"
    ∷ codes "sent" ∷ codes "done" ∷ codes "sent" ∷ codes "done" ∷ codes "sent" ∷ codes "done" ∷ codes "sent" ∷ codes "done" ∷ []
unfolding is_utf8 chars encode_utf8
honest_answers = refl

honest_premises : (forged honest_run world ≡ []) × (colliding toy (hashed honest_run world) ≡ [])
unfolding is_utf8 chars encode_utf8
honest_premises = (refl, refl)

abbrev step : ℕ → List (ℕ × Option Value) → StoredStep
step label writes = record { label = label; writes = writes }

honest_path : OnePath shop (λ r. true) (events_of (sid_at toy honest_run 0) world.log)
    (step order ((0, Some tea) ∷ []) ∷ step ask [] ∷ step offer ((1, Some forty) ∷ []) ∷ step pass [] ∷ step retry ((0, Some gin) ∷ []) ∷ step ask [] ∷ step refuse [] ∷ step deny [] ∷ [])
unfolding is_utf8 chars encode_utf8
honest_path = record {
  taken = true;
  walk = record {
    walk = (lit< tt, refl, (lit< tt, refl, (lit< tt, refl, (lit< tt, refl, (lit< tt, refl, (lit< tt, refl, (lit< tt, refl, (lit< tt, refl, tt))))))));
    values = ((refl, refl), ((refl, refl), ((refl, refl), ((refl, refl), ((refl, refl), ((refl, refl), ((refl, refl), ((refl, refl), tt))))))));
  };
  ends_honest = refl;
  explained = refl;
  may_come = λ e. cc;
  hidden = refl;
}

-- ---- the shop is compromised

-- it invents an offer of the warehouse, without its tag
abbrev invents : Step
invents = CraftStep (record {
  session = 0;
  from = 1;
  to = 0;
  join = None;
  know = [];
  items = record { label = offer; time = 3; delta = opening 1 forty 99 ∷ []; tags = (0, Zero) ∷ [] } ∷ record { label = pass; time = 4; delta = []; tags = [] } ∷ [];
  openings = opening 1 forty 99 ∷ [];
  seal = Key alice bob;
})

-- it passes on the customer's order with its tag, with one value committed and one opened
abbrev passes_on : Value → Value → Step
passes_on v w = CraftStep (record {
  session = 0;
  from = 1;
  to = 2;
  join = Some (record { nonce = None; names = None });
  know = [];
  items = record { label = order; time = 1; delta = opening 0 v 2 ∷ []; tags = (2, CopyItem 1 1 2) ∷ [] } ∷ record { label = ask; time = 2; delta = []; tags = [] } ∷ [];
  openings = opening 0 w 2 ∷ [];
  seal = Key bob carl;
})

-- it passes on the offer of the warehouse with its tag, at a time
abbrev passes_offer : ℕ → Step
passes_offer time = CraftStep (record {
  session = 0;
  from = 1;
  to = 0;
  join = None;
  know = [];
  items = record { label = offer; time = 3; delta = opening 1 forty 5 ∷ []; tags = (0, CopyItem 3 1 0) ∷ [] } ∷ record { label = pass; time = time; delta = []; tags = [] } ∷ [];
  openings = opening 1 forty 5 ∷ [];
  seal = Key alice bob;
})

abbrev ordered : List Step → Schedule
ordered steps = shop_schedule toy (alice ∷ carl ∷ []) (StartStep alice 0 ∷ ActStep alice 0 order ((0, tea) ∷ []) ∷ steps)

invented : words (ordered (invents ∷ deliver alice 2 ∷ [])) ≡ codes "done" ∷ codes "sent" ∷ codes "crafted" ∷ codes "bad evidence" ∷ []
invented = refl

changed : words (ordered (passes_on gin gin ∷ deliver carl 2 ∷ [])) ≡ codes "done" ∷ codes "sent" ∷ codes "crafted" ∷ codes "bad evidence" ∷ []
unfolding is_utf8 chars encode_utf8
changed = refl

opened_otherwise : words (ordered (passes_on tea gin ∷ deliver carl 2 ∷ [])) ≡ codes "done" ∷ codes "sent" ∷ codes "crafted" ∷ codes "bad opening" ∷ []
unfolding is_utf8 chars encode_utf8
opened_otherwise = refl

-- what is right is accepted once, and an old offer after a retry is not
old_offer : words (ordered (passes_on tea tea ∷ deliver carl 2 ∷ ActStep carl 0 offer ((1, forty) ∷ []) ∷ passes_offer 4 ∷ deliver alice 4 ∷ ActStep alice 0 retry ((0, tea) ∷ []) ∷ passes_offer 7 ∷ deliver alice 6 ∷ []))
    ≡ codes "done" ∷ codes "sent" ∷ codes "crafted" ∷ codes "done" ∷ codes "sent" ∷ codes "crafted" ∷ codes "done" ∷ codes "sent" ∷ codes "crafted" ∷ codes "bad time" ∷ []
unfolding is_utf8 chars encode_utf8
old_offer = refl

-- a frame that a compromised principal could not have made breaks the assumption at the step that accepts it
abbrev false_request : Schedule
false_request = pair_schedule toy (codes "a" ∷ codes "b" ∷ []) (CraftStep (first_told 0 (Key (codes "a") (codes "b"))) ∷ deliver (codes "b") 1 ∷ [])

false_step : forged false_request (run toy (programs toy pair 6) false_request) ≡ 2 ∷ []
false_step = refl

-- ---- hidden values

-- the warehouse alone is honest
abbrev warehouse : ℕ → Bool
warehouse r = nat_eq r 2

abbrev order_of : Option Value → List StoredStep
order_of v = step order ((0, v) ∷ []) ∷ step ask [] ∷ []

-- an order whose value it received is shown, and before it has it hidden
received : are_hidden shop warehouse true (order_of None) ≡ false
received = refl

to_come : are_hidden shop warehouse false (order_of None) ≡ true
to_come = refl

-- a value that an honest role wrote is never hidden
written : are_hidden shop (λ r. not (nat_eq r 1)) true (order_of None) ≡ false
written = refl

-- ---- the walk that is made event by event

-- the warehouse receives the order on a walk whose customer and shop nobody saw, and so learns the value that was hidden
learnt : walk_after_event shop warehouse [] (Received [] 2 ask 2 ((0, tea) ∷ []) true) (order ∷ ask ∷ []) ≡ order_of (Some tea)
learnt = refl

-- only the last write of a variable is filled in
last_filled : filled ((0, tea) ∷ []) (step order ((0, None) ∷ []) ∷ step retry ((0, None) ∷ []) ∷ []) ≡ step order ((0, None) ∷ []) ∷ step retry ((0, Some tea) ∷ []) ∷ []
last_filled = refl

-- of a walk that shows a role what it received, only the steps after its own last one and after the last honest one are added
added : walk_after_event shop (λ r. nat_eq r 0) (step order ((0, Some tea) ∷ []) ∷ []) (Received [] 0 pass 5 ((1, forty) ∷ []) false) (order ∷ ask ∷ offer ∷ pass ∷ [])
    ≡ step order ((0, Some tea) ∷ []) ∷ step ask [] ∷ step offer ((1, Some forty) ∷ []) ∷ step pass [] ∷ []
added = refl

-- the shop is compromised and passes on what is right
abbrev passed_run : Schedule
passed_run = ordered (passes_on tea tea ∷ deliver carl 2 ∷ ActStep carl 0 offer ((1, forty) ∷ []) ∷ passes_offer 4 ∷ deliver alice 4 ∷ [])

-- the walks that show what steps 4 and 7 took
abbrev beside : ℕ → List ℕ
beside k = if k == 4 then (order ∷ ask ∷ []) else (order ∷ ask ∷ offer ∷ pass ∷ [])

walk_made : walk_after_steps shop (λ r. not (nat_eq r 1)) (sid_at toy passed_run 0) [] (map (λ l. (l, beside l.number)) (run toy (programs toy shop 12) passed_run).log)
    ≡ step order ((0, Some tea) ∷ []) ∷ step ask [] ∷ step offer ((1, Some forty) ∷ []) ∷ step pass [] ∷ []
unfolding is_utf8 chars encode_utf8
walk_made = refl
