-- Right craft lines, and what each adds.
use Rattle.std.specs.Prelude.{ℕ, List, [], ◌∷◌, codes, refl, Option, Some, None, pos}
use Rattle.sg_model.specs.Values.{Opening, IntValue, TextValue}
use Rattle.sg_protocol.specs.Schedule.{confounder, Source, Key, CopyItem, CopySeal, Zero, CraftItem, CraftJoin, CraftStep}
use Rattle.sg_sched.specs.Format.LineContents.{Word, TagSource, FromKey, FromItem, FromSeal, FromZero, MakeLine}
use Rattle.sg_sched.specs.Format.Items.{Item, StepItem}
use Rattle.sg_sched.specs.Format.Spells.{Add}
use Rattle.sg_sched.proofs.FormatHeads.{on_literals, said, committed, line_item, crafted, joins, head_p, head_r, alice_carl}

-- an opening of x in step k
abbrev price_opening : ℕ → ℕ → Opening
price_opening n k = record { variable = 1; confounder = confounder k 1; value = IntValue (pos n) }

-- an opening of q in step k
abbrev q_opening : List ℕ → ℕ → Opening
q_opening t k = record { variable = 0; confounder = confounder k 0; value = TextValue t }

-- an opening of a variable 0 with a number
abbrev x_opening : ℕ → ℕ → Opening
x_opening n k = record { variable = 0; confounder = confounder k 0; value = IntValue (pos n) }

-- an item of a step
abbrev step_item : ℕ → ℕ → List Opening → List (ℕ × Source) → CraftItem
step_item label time delta tags = record { label = label; time = time; delta = delta; tags = tags }

-- the step of a craft in the session at index 0
abbrev step : (from to : ℕ) → Option CraftJoin → (know : List Opening) → List CraftItem → (openings : List Opening) → Source → List Item
step from to join know items openings seal = StepItem (CraftStep (record { session = 0; from = from; to = to; join = join; know = know; items = items; openings = openings; seal = seal })) ∷ []

-- a tag of zeros, and one step that is overtaken
forged : Add alice_carl (codes "craft s1 from p to c item Offer 3 price=1#99 tag c zero item Pass 4 open price=1#99 seal key alice bob\n" ∷ [])
    (step 1 0 None [] (step_item 2 3 (price_opening 1 99 ∷ []) ((0, Zero) ∷ []) ∷ step_item 4 4 [] [] ∷ []) (price_opening 1 99 ∷ []) (Key (codes "alice") (codes "bob")))
unfolding on_literals
forged =
    let price = committed (codes "price") (codes "1") 99 in
    said (MakeLine (crafted (codes "p") (codes "c") None [] (line_item (codes "Offer") 3 (price ∷ []) ((codes "c", FromZero) ∷ []) ∷ line_item (codes "Pass") 4 [] [] ∷ []) (price ∷ []) (FromKey (codes "alice") (codes "bob"))))
    refl refl refl refl

-- it joins with a tag out of a recorded frame
copied : Add alice_carl (codes "craft s1 from p to w join item Order 1 q=\"tea\"#2 tag w copy f1 1 w item Ask 2 open q=\"tea\"#2 seal key bob carl" ∷ [])
    (step 1 2 joins [] (step_item 0 1 (q_opening (codes "tea") 2 ∷ []) ((2, CopyItem 1 1 2) ∷ []) ∷ step_item 1 2 [] [] ∷ []) (q_opening (codes "tea") 2 ∷ []) (Key (codes "bob") (codes "carl")))
unfolding on_literals
copied =
    let q = committed (codes "q") (codes "\"tea\"") 2 in
    said (MakeLine (crafted (codes "p") (codes "w") joins [] (line_item (codes "Order") 1 (q ∷ []) ((codes "w", FromItem 1 1 (codes "w")) ∷ []) ∷ line_item (codes "Ask") 2 [] [] ∷ []) (q ∷ []) (FromKey (codes "bob") (codes "carl"))))
    refl refl refl refl

-- two tags of one item, in rising order of their roles
two_tags : Add (head_r (codes "ann" ∷ codes "bea" ∷ [])) (codes "craft s1 from c to a join item Put 1 x=5#1 tag d zero tag b key bea cat open x=5#1 seal key ann cat\n" ∷ [])
    (step 0 1 joins [] (step_item 0 1 (x_opening 5 1 ∷ []) ((2, Zero) ∷ (3, Key (codes "bea") (codes "cat")) ∷ []) ∷ []) (x_opening 5 1 ∷ []) (Key (codes "ann") (codes "cat")))
unfolding on_literals
two_tags =
    let x = committed (codes "x") (codes "5") 1 in
    let tags : List (Word × TagSource) = (codes "d", FromZero) ∷ (codes "b", FromKey (codes "bea") (codes "cat")) ∷ [] in
    said (MakeLine (crafted (codes "c") (codes "a") joins [] (line_item (codes "Put") 1 (x ∷ []) tags ∷ []) (x ∷ []) (FromKey (codes "ann") (codes "cat")))) refl refl refl refl

-- three items, of which two have a tag
three_items : Add (head_r (codes "ann" ∷ codes "bea" ∷ [])) (codes "craft s1 from d to b join item Put 1 x=6#1 tag b key bea cat item Hand 2 tag b copy f2 2 b item Show 3 open x=6#1 seal key bea dan\n" ∷ [])
    (step 2 3 joins [] (step_item 0 1 (x_opening 6 1 ∷ []) ((3, Key (codes "bea") (codes "cat")) ∷ []) ∷ step_item 1 2 [] ((3, CopyItem 2 2 3) ∷ []) ∷ step_item 2 3 [] [] ∷ []) (x_opening 6 1 ∷ []) (Key (codes "bea") (codes "dan")))
unfolding on_literals
three_items =
    let x = committed (codes "x") (codes "6") 1 in
    let put = line_item (codes "Put") 1 (x ∷ []) ((codes "b", FromKey (codes "bea") (codes "cat")) ∷ []) in
    let hand = line_item (codes "Hand") 2 [] ((codes "b", FromItem 2 2 (codes "b")) ∷ []) in
    said (MakeLine (crafted (codes "d") (codes "b") joins [] (put ∷ hand ∷ line_item (codes "Show") 3 [] [] ∷ []) (x ∷ []) (FromKey (codes "bea") (codes "dan")))) refl refl refl refl

-- the greatest time
last_time : Add (head_p (codes "b" ∷ [])) (codes "craft s1 from a to b join item Request 1000000 seal key a b\n" ∷ []) (step 0 1 joins [] (step_item 0 1000000 [] [] ∷ []) [] (Key (codes "a") (codes "b")))
unfolding on_literals
last_time = said (MakeLine (crafted (codes "a") (codes "b") joins [] (line_item (codes "Request") 1000000 [] [] ∷ []) [] (FromKey (codes "a") (codes "b")))) refl refl refl refl

-- another nonce, and other names of which two are equal
abbrev other_join : Option CraftJoin
other_join = Some (record { nonce = Some 2; names = Some (codes "b" ∷ codes "b" ∷ []) })

other_cast : Add (head_p (codes "b" ∷ [])) (codes "craft s1 from a to b join nonce 2 cast b,b item Request 1 seal key a b\n" ∷ []) (step 0 1 other_join [] (step_item 0 1 [] [] ∷ []) [] (Key (codes "a") (codes "b")))
unfolding on_literals
other_cast = said (MakeLine (crafted (codes "a") (codes "b") other_join [] (line_item (codes "Request") 1 [] [] ∷ []) [] (FromKey (codes "a") (codes "b")))) refl refl refl refl

-- what is known, a value of another type than its variable, item 0, and the tag of a recorded frame
known_first : Add alice_carl (codes "craft s1 from p to c know q=7#1 item Pass 4 tag w copy f3 0 w seal copy f2 seal\n" ∷ [])
    (step 1 0 None (x_opening 7 1 ∷ []) (step_item 4 4 [] ((2, CopyItem 3 0 2) ∷ []) ∷ []) [] (CopySeal 2))
unfolding on_literals
known_first = said (MakeLine (crafted (codes "p") (codes "c") None (committed (codes "q") (codes "7") 1 ∷ []) (line_item (codes "Pass") 4 [] ((codes "w", FromItem 3 0 (codes "w")) ∷ []) ∷ []) [] (FromSeal 2))) refl refl refl refl
