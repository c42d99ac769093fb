-- What a craft adds is what its tests say.
use Rattle.std.proofs.Common.{◌≡◌, ℕ, Bool, true, false, not, ◌&&◌, List, [], ◌∷◌, map, length, refl, sym, ap, ◌∙◌, if◌then◌else◌}
use Rattle.std.specs.Prelude.{Option, Some, None, Ok, Err, option_map, option_and_then, nat_le}
use Rattle.std.specs.List.{list_all}
use Rattle.std.specs.Option.{option_map_or}
use Rattle.std.proofs.lemmas.List.Folds.{list_all-map}
use Rattle.sg_model.specs.Limits.{most_steps}
use Rattle.sg_model.specs.Names.{Name}
use Rattle.sg_model.specs.Lists.{has_text, first_some}
use Rattle.sg_model.specs.Values.{Opening}
use Rattle.sg_protocol.specs.Graph.{Graph}
use Rattle.sg_protocol.specs.Schedule.{Source, CopyItem, CraftItem, Step, CraftStep}
use Rattle.sg_sched.specs.Format.LineContents.{Committed, TagSource, FromKey, FromItem, FromSeal, FromZero, ItemContent, CraftContent, MakeLine}
use Rattle.sg_sched.specs.Format.Items.{SoFar, StepItem, Item, session_names, session_named, index, graph_for, roles_of, labels_of, variables_of}
use Rattle.sg_sched.specs.Format.Numbered.{opening, source, craft_item, craft}
use Rattle.sg_sched.specs.Format.Kinds.{Kind, Form, TooManySteps, Unknown, Twice, NotHonest}
use Rattle.sg_sched.specs.Format.Faults.{where', knows_variable, knows_source, knows_item, variables, rises, is_short}
use Rattle.sg_sched_text.specs.Plus.{plus}
use Rattle.sg_sched_text.specs.Adding.{added, after_line, add_step}
use Rattle.sg_sched_text.specs.Numbers.{all_made}
use Rattle.sg_sched_text.specs.Crafting.{opening_of, known_opening, known_role, known_source, tag_of, known_tag, known_item, item_of, Lists, lists_of, known_lists, ends_of, known_ends, craft_of, craft_step}
use Rattle.sg_sched_text.proofs.Indices.{known_index, then_index}
use Rattle.sg_sched_text.proofs.ValueLaws.{all_is}

module _ (past : SoFar) (g : Option Graph) where
  opening_is : (c : Committed) → known_opening g c ≡ (if knows_variable g c.variable then Some (opening g c) else None)
  opening_is c = known_index (opening_of c) c.variable (variables_of g)

  openings_are : (cs : List Committed) → all_made (known_opening g) cs ≡ (if list_all (knows_variable g) (variables cs) then Some (map (opening g) cs) else None)
  openings_are cs =
      all_is (known_opening g) (λ c. knows_variable g c.variable) (opening g) opening_is cs
      ∙ ap (λ b. if b then Some (map (opening g) cs) else None) (sym (list_all-map (knows_variable g) (λ c. c.variable) cs))

  source_is : (f : TagSource) → known_source past g f ≡ (if knows_source past g f then Some (source g f) else None)
  source_is (FromKey one two) = refl
  source_is (FromItem frame item role) = known_index (CopyItem frame item) role (roles_of g)
  source_is (FromSeal frame) = refl
  source_is FromZero = refl

  tag_tests : (a b : Bool) (r : ℕ) (s : Source) → (if a then option_map (tag_of r) (if b then Some s else None) else None) ≡ (if a && b then Some (tag_of r s) else None)
  tag_tests true true r s = refl
  tag_tests true false r s = refl
  tag_tests false b r s = refl

  tag_is : (t : Name × TagSource) → known_tag past g t ≡ (if has_text t.0 (roles_of g) && knows_source past g t.1 then Some (tag_of (index t.0 (roles_of g)) (source g t.1)) else None)
  tag_is t =
      then_index (λ r. option_map (tag_of r) (known_source past g t.1)) t.0 (roles_of g)
      ∙ ap (λ o. if has_text t.0 (roles_of g) then option_map (tag_of (index t.0 (roles_of g))) o else None) (source_is t.1)
      ∙ tag_tests (has_text t.0 (roles_of g)) (knows_source past g t.1) (index t.0 (roles_of g)) (source g t.1)

  tags_are : (ts : List (Name × TagSource)) → all_made (known_tag past g) ts
      ≡ (if list_all (λ (t : Name × TagSource). has_text t.0 (roles_of g) && knows_source past g t.1) ts then Some (map (λ (t : Name × TagSource). (index t.0 (roles_of g), source g t.1)) ts) else None)
  tags_are ts = all_is (known_tag past g) (λ (t : Name × TagSource). has_text t.0 (roles_of g) && knows_source past g t.1) (λ (t : Name × TagSource). (index t.0 (roles_of g), source g t.1)) tag_is ts

  three : {A B C : Type 0} (a b c : Bool) (x : A) (y : B) (make : A → B → C)
      → (if a then option_and_then (λ x. option_map (make x) (if c then Some y else None)) (if b then Some x else None) else None) ≡ (if a && b && c then Some (make x y) else None)
  three true true true x y make = refl
  three true true false x y make = refl
  three true false c x y make = refl
  three false b c x y make = refl

  item_is : (i : ItemContent) → known_item past g i ≡ (if knows_item past g i then Some (craft_item g i) else None)
  item_is i =
      let l = index i.label (labels_of g) in
      then_index (λ l. option_and_then (λ ds. option_map (item_of i l ds) (all_made (known_tag past g) i.tags)) (all_made (known_opening g) i.delta)) i.label (labels_of g)
      ∙ (λ k. if has_text i.label (labels_of g) then option_and_then (λ ds. option_map (item_of i l ds) (tags_are i.tags k)) (openings_are i.delta k) else None)
      ∙ three (has_text i.label (labels_of g)) (list_all (knows_variable g) (variables i.delta)) (list_all (λ (t : Name × TagSource). has_text t.0 (roles_of g) && knows_source past g t.1) i.tags)
      (map (opening g) i.delta) (map (λ (t : Name × TagSource). (index t.0 (roles_of g), source g t.1)) i.tags) (item_of i l)

  items_are : (is : List ItemContent) → all_made (known_item past g) is ≡ (if list_all (knows_item past g) is then Some (map (craft_item g) is) else None)
  items_are is = all_is (known_item past g) (knows_item past g) (craft_item g) item_is is

  lists_tests : (a b c : Bool) (ks os : List Opening) (is : List CraftItem)
      → option_and_then (λ ks. option_and_then (λ is. option_map (lists_of ks is) (if c then Some os else None)) (if b then Some is else None)) (if a then Some ks else None)
      ≡ (if a && b && c then Some (lists_of ks is os) else None)
  lists_tests true true true ks os is = refl
  lists_tests true true false ks os is = refl
  lists_tests true false c ks os is = refl
  lists_tests false b c ks os is = refl

  lists_are : (c : CraftContent) → known_lists past g c
      ≡ (if list_all (knows_variable g) (variables c.know) && list_all (knows_item past g) c.items && list_all (knows_variable g) (variables c.openings)
      then Some (lists_of (map (opening g) c.know) (map (craft_item g) c.items) (map (opening g) c.openings)) else None)
  lists_are c =
      (λ k. option_and_then (λ ks. option_and_then (λ is. option_map (lists_of ks is) (openings_are c.openings k)) (items_are c.items k)) (openings_are c.know k))
      ∙ lists_tests (list_all (knows_variable g) (variables c.know)) (list_all (knows_item past g) c.items) (list_all (knows_variable g) (variables c.openings))
      (map (opening g) c.know) (map (opening g) c.openings) (map (craft_item g) c.items)

  ends_tests : (a b c : Bool) (s f t : ℕ) → (if a then (if b then (if c then Some (ends_of s f t) else None) else None) else None) ≡ (if a && b && c then Some (ends_of s f t) else None)
  ends_tests true true true s f t = refl
  ends_tests true true false s f t = refl
  ends_tests true false c s f t = refl
  ends_tests false b c s f t = refl

  ends_are : (c : CraftContent) → known_ends past g c
      ≡ (if has_text c.session (session_names past) && has_text c.from (roles_of g) && has_text c.to (roles_of g)
      then Some (ends_of (index c.session (session_names past)) (index c.from (roles_of g)) (index c.to (roles_of g))) else None)
  ends_are c =
      let s = index c.session (session_names past) in
      let f = index c.from (roles_of g) in
      let t = index c.to (roles_of g) in
      then_index (λ s. option_and_then (λ f. option_map (ends_of s f) (known_role g c.to)) (known_role g c.from)) c.session (session_names past)
      ∙ ap (λ o. if has_text c.session (session_names past) then o else None)
      (then_index (λ f. option_map (ends_of s f) (known_role g c.to)) c.from (roles_of g)
      ∙ ap (λ o. if has_text c.from (roles_of g) then o else None) (known_index (ends_of s f) c.to (roles_of g)))
      ∙ ends_tests (has_text c.session (session_names past)) (has_text c.from (roles_of g)) (has_text c.to (roles_of g)) s f t

  whole_tests : (a b c d e h k : Bool) (ends : ℕ × (ℕ × ℕ)) (lists : Lists) (seal : Source) (make : ℕ × (ℕ × ℕ) → Lists → Source → Step)
      → option_and_then (λ ends. option_and_then (λ lists. option_map (make ends lists) (if k then Some seal else None)) (if d && e && h then Some lists else None)) (if a && b && c then Some ends else None)
      ≡ (if a && b && c && d && e && h && k then Some (make ends lists seal) else None)
  whole_tests true true true true true true true ends lists seal make = refl
  whole_tests true true true true true true false ends lists seal make = refl
  whole_tests true true true true true false k ends lists seal make = refl
  whole_tests true true true true false h k ends lists seal make = refl
  whole_tests true true true false e h k ends lists seal make = refl
  whole_tests true true false d e h k ends lists seal make = refl
  whole_tests true false c d e h k ends lists seal make = refl
  whole_tests false b c d e h k ends lists seal make = refl

  pub craft_is : (c : CraftContent) → craft_step past g c
      ≡ (if has_text c.session (session_names past) && has_text c.from (roles_of g) && has_text c.to (roles_of g) && list_all (knows_variable g) (variables c.know)
      && list_all (knows_item past g) c.items && list_all (knows_variable g) (variables c.openings) && knows_source past g c.seal
      then Some (CraftStep (craft past g c)) else None)
  craft_is c =
      (λ i. option_and_then (λ ends. option_and_then (λ lists. option_map (craft_of c ends lists) (source_is c.seal i)) (lists_are c i)) (ends_are c i))
      ∙ whole_tests (has_text c.session (session_names past)) (has_text c.from (roles_of g)) (has_text c.to (roles_of g)) (list_all (knows_variable g) (variables c.know))
      (list_all (knows_item past g) c.items) (list_all (knows_variable g) (variables c.openings)) (knows_source past g c.seal)
      (ends_of (index c.session (session_names past)) (index c.from (roles_of g)) (index c.to (roles_of g)))
      (lists_of (map (opening g) c.know) (map (craft_item g) c.items) (map (opening g) c.openings)) (source g c.seal) (craft_of c)

-- ---- what is taken

wrong_tests : (past : SoFar) (fine : Bool) (rest : List (Option Kind)) (item : Option Item) → fine ≡ false → added past (first_some (where' (not fine) Form ∷ rest)) item ≡ Err Form
wrong_tests past false rest item h = refl
wrong_tests past true rest item h = absurd (cc)

craft_tests : (past : SoFar) (fine full known : Bool) (made : Step) → fine ≡ true
    → added past (first_some (where' (not fine) Form ∷ (if full then Some TooManySteps else None) ∷ where' (not known) Unknown ∷ where' false Twice ∷ where' (not true) NotHonest ∷ [])) (Some (StepItem made))
    ≡ (if full then Err TooManySteps else option_map_or (λ s. if false then Err Twice else if true then Ok (plus past (StepItem s)) else Err NotHonest) (if known then Some made else None) (Err Unknown))
craft_tests past false full known made h = absurd (cc)
craft_tests past true true known made h = refl
craft_tests past true false false made h = refl
craft_tests past true false true made h = refl

module _ (past : SoFar) (c : CraftContent) where
  -- what rises rises, and the frame isn't too long
  abbrev pub is_fine : Bool
  is_fine = rises (graph_for c.session past) c && is_short (graph_for c.session past) (session_named c.session past) c

  pub craft_wrong : is_fine ≡ false → after_line past (MakeLine c) ≡ Err Form
  unfolding after_line
  craft_wrong h = wrong_tests past is_fine _ _ h

  pub craft_added : is_fine ≡ true → add_step past false true (craft_step past (graph_for c.session past) c) ≡ after_line past (MakeLine c)
  unfolding after_line add_step
  craft_added h =
      let g = graph_for c.session past in
      let known = has_text c.session (session_names past) && has_text c.from (roles_of g) && has_text c.to (roles_of g) && list_all (knows_variable g) (variables c.know)
      && list_all (knows_item past g) c.items && list_all (knows_variable g) (variables c.openings) && knows_source past g c.seal in
      ap (add_step past false true) (craft_is past g c)
      ∙ sym (craft_tests past is_fine (nat_le most_steps (length past.steps)) known (CraftStep (craft past g c)) h)

-- ---- part by part

module _ (past : SoFar) (g : Option Graph) (k : CraftContent) where
  pub no_ends : None ≡ known_ends past g k → None ≡ craft_step past g k
  no_ends e = ap (λ (o : Option (ℕ × (ℕ × ℕ))). option_and_then (λ ends. option_and_then (λ lists. option_map (craft_of k ends lists) (known_source past g k.seal)) (known_lists past g k)) o) e

  pub no_lists : (ends : ℕ × (ℕ × ℕ)) → Some ends ≡ known_ends past g k → None ≡ known_lists past g k → None ≡ craft_step past g k
  no_lists ends a b =
      ap (λ (o : Option Lists). option_and_then (λ lists. option_map (craft_of k ends lists) (known_source past g k.seal)) o) b
      ∙ ap (λ (o : Option (ℕ × (ℕ × ℕ))). option_and_then (λ ends. option_and_then (λ lists. option_map (craft_of k ends lists) (known_source past g k.seal)) (known_lists past g k)) o) a

  no_source : (ends : ℕ × (ℕ × ℕ)) (o : Option Lists) → None ≡ option_and_then (λ (lists : Lists). option_map (craft_of k ends lists) None) o
  no_source ends None = refl
  no_source ends (Some lists) = refl

  pub no_seal : (ends : ℕ × (ℕ × ℕ)) → Some ends ≡ known_ends past g k → None ≡ known_source past g k.seal → None ≡ craft_step past g k
  no_seal ends a c =
      no_source ends (known_lists past g k)
      ∙ ap (λ (o : Option Source). option_and_then (λ lists. option_map (craft_of k ends lists) o) (known_lists past g k)) c
      ∙ ap (λ (o : Option (ℕ × (ℕ × ℕ))). option_and_then (λ ends. option_and_then (λ lists. option_map (craft_of k ends lists) (known_source past g k.seal)) (known_lists past g k)) o) a

  pub all_known : (ends : ℕ × (ℕ × ℕ)) (lists : Lists) (seal : Source) → Some ends ≡ known_ends past g k → Some lists ≡ known_lists past g k → Some seal ≡ known_source past g k.seal
      → Some (craft_of k ends lists seal) ≡ craft_step past g k
  all_known ends lists seal a b c =
      ap (λ (o : Option Source). option_map (craft_of k ends lists) o) c
      ∙ ap (λ (o : Option Lists). option_and_then (λ lists. option_map (craft_of k ends lists) (known_source past g k.seal)) o) b
      ∙ ap (λ (o : Option (ℕ × (ℕ × ℕ))). option_and_then (λ ends. option_and_then (λ lists. option_map (craft_of k ends lists) (known_source past g k.seal)) (known_lists past g k)) o) a
