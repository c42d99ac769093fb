-- How long the frame of a craft is.
use Rattle.std.proofs.Common.{◌≡◌, ℕ, ◌+◌, ◌*◌, ◌==◌, true, List, [], ◌∷◌, map, length, take, refl, sym, ap, ◌∙◌, arith, inl, inr}
use Rattle.std.specs.Prelude.{Option, Some, None, option_map, unwrap_or, flat_map, nat_le}
use Rattle.std.proofs.lemmas.Bool.{cases_Bool}
use Rattle.std.proofs.lemmas.List.{length-append}
use Rattle.sg_model.specs.Names.{Name}
use Rattle.sg_model.specs.Values.{Opening}
use Rattle.sg_protocol.specs.Graph.{Graph}
use Rattle.sg_protocol.specs.Frame.{Item, Frame, tag_len}
use Rattle.sg_protocol.specs.Spelling.{spelling, body, u8, u16, u32, short_text, sized, value_bytes, kind_code, item_bytes, map_bytes, pair_bytes, opening_bytes, join_bytes, join_code, magic}
use Rattle.sg_protocol.specs.Schedule.{CraftJoin}
use Rattle.sg_protocol.proofs.Sent.{len_concat}
use Rattle.sg_sched.specs.Format.LineContents.{Committed, TagSource, ItemContent, CraftContent}
use Rattle.sg_sched.specs.Format.Items.{Session}
use Rattle.sg_sched.specs.Format.Numbered.{opening}
use Rattle.sg_sched.specs.Format.Faults.{zeros, blank_cast, blank_item, blank_frame, is_short}
use Rattle.sg_sched_text.specs.Crafting.{lens, opening_len, item_len, name_len, join_len, frame_len}

-- what is made of each, one after the other
pub flat_len : {A B : Type 0} (k : A → B) (f : B → List ℕ) (n : A → ℕ) (xs : List A) → ((x : A) → length (f (k x)) ≡ n x) → length (flat_map f (map k xs)) ≡ lens n xs
flat_len k f n [] h = refl
flat_len k f n (x ∷ xs) h = let a = length-append (f (k x)) (flat_map f (map k xs)) in let b = flat_len k f n xs h in let c = h x in omega (arith, a, b, c)

-- the same length for each
pub flat_same : {A B : Type 0} (k : A → B) (f : B → List ℕ) (n : ℕ) (xs : List A) → ((x : A) → length (f (k x)) ≡ n) → length (flat_map f (map k xs)) ≡ n * length xs
flat_same k f n [] h = omega arith
flat_same k f n (x ∷ xs) h = let a = length-append (f (k x)) (flat_map f (map k xs)) in let b = flat_same k f n xs h in let c = h x in omega (arith, a, b, c)

pub tag_taken : (v : ℕ) → length (take (tag_len v) (zeros 32)) ≡ tag_len v
tag_taken v = elim (cases_Bool (v == 2)) [ inl e ↦ rw e refl | inr e ↦ rw e refl ]

pub map_len : {A : Type 0} (spelled : List ℕ → List ℕ) (k : A → ℕ × List ℕ) (n : ℕ) (xs : List A) → ((x : A) → length (pair_bytes spelled (k x)) ≡ n) → length (map_bytes spelled (map k xs)) ≡ 1 + n * length xs
map_len spelled k n xs h =
    let a = length-append (u8 (length (map k xs))) (flat_map (pair_bytes spelled) (map k xs)) in
    let b = flat_same k (pair_bytes spelled) n xs h in
    omega (arith, a, b)

item_is : (v : ℕ) (i : ItemContent) → length (item_bytes v (blank_item i)) ≡ item_len v i
item_is v i =
    let b : Item = blank_item i in
    let c = len_concat (u8 b.role ∷ u16 b.label ∷ u32 b.time ∷ map_bytes (λ c. c) b.delta ∷ map_bytes (take (tag_len v)) b.tags ∷ []) in
    let d = map_len (λ c. c) (λ (c : Committed). (0, zeros 32)) 33 i.delta (λ c. refl) in
    let e = map_len (take (tag_len v)) (λ (t : Name × TagSource). (0, zeros 32)) (1 + tag_len v) i.tags (λ t. let k = tag_taken v in omega (arith, k)) in
    omega (arith, c, d, e)

pub opening_is : (g : Option Graph) (c : Committed) → length (opening_bytes (opening g c)) ≡ opening_len c
opening_is g c =
    let o : Opening = opening g c in
    let d = len_concat (u8 o.variable ∷ o.confounder ∷ u8 (kind_code o.value) ∷ sized o.value ∷ []) in
    let a = length-append (u32 (length (value_bytes o.value))) (value_bytes o.value) in
    omega (arith, d, a)

pub names_are : (ns : List Name) → length (flat_map short_text ns) ≡ lens name_len ns
names_are [] = refl
names_are (n ∷ ns) = let a = length-append (short_text n) (flat_map short_text ns) in let b = names_are ns in omega (arith, a, b)

join_is : (s : Session) (join : Option CraftJoin) → length (join_bytes (option_map (blank_cast s) join)) ≡ join_len s.names join
join_is s None = refl
join_is s (Some j) =
    let ns = unwrap_or j.names s.names in
    let a = len_concat (zeros 32 ∷ zeros 16 ∷ u8 (length ns) ∷ flat_map short_text ns ∷ []) in
    let b = names_are ns in
    omega (arith, a, b)

pub four : (v : ℕ) → length (magic v) ≡ 4
four v = elim (cases_Bool (v == 2)) [ inl e ↦ rw e refl | inr e ↦ rw e refl ]

pub frame_is : (g : Option Graph) (s : Session) (c : CraftContent) → length (spelling (blank_frame g s c)) ≡ frame_len s c
frame_is g s c =
    let f : Frame = blank_frame g s c in
    let a = len_concat (magic f.version ∷ u8 (join_code f.join) ∷ f.sid ∷ u8 f.sender ∷ u8 f.receiver ∷ join_bytes f.join ∷ u16 (length f.items) ∷ flat_map (item_bytes f.version) f.items ∷ u8 (length f.openings) ∷ flat_map opening_bytes f.openings ∷ []) in
    let b = length-append (body f) (take (tag_len f.version) f.tag) in
    let d = four s.version in
    let e = join_is s c.join in
    let h = flat_len blank_item (item_bytes s.version) (item_len s.version) c.items (item_is s.version) in
    let i = flat_len (opening g) opening_bytes opening_len c.openings (opening_is g) in
    let k = tag_taken s.version in
    omega (arith, a, b, d, e, h, i, k)

-- the frame is short if the session is declared
pub short_is : (g : Option Graph) (s : Session) (c : CraftContent) (o : Option Session) → o ≡ Some s → nat_le (frame_len s c) 60000 ≡ is_short g o c
short_is g s c o e = ap (λ n. nat_le n 60000) (sym (frame_is g s c)) ∙ ap (λ o. is_short g o c) (sym e)

pub short_none : (g : Option Graph) (c : CraftContent) (o : Option Session) → o ≡ None → true ≡ is_short g o c
short_none g c o e = ap (λ o. is_short g o c) (sym e)
