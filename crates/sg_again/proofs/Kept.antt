-- What is kept, by the entries of the table.
use Rattle.std.proofs.Common.{◌≡◌, ℕ, Bool, true, false, not, sym, ap, ◌∙◌, refl, List, [], ◌∷◌, ◌++◌, if◌then◌else◌, Option, Some, None, bytes_eq, nat_lt}
use Rattle.std.specs.Prelude.{length, drop}
use Rattle.std.specs.Cmp.{eq_by_cmp_equiv}
use Rattle.std.specs.Cmp.Lexicographic.{slice_cmp}
use Rattle.std.specs.FinMap.{find, from_entries, get, insert, remove, get-from_entries, get-insert, get-remove, same_map, nat_cmp-IsAntisymmetric, slice_cmp-IsAntisymmetric}
use Rattle.std.specs.Map.{lookup}
use Rattle.std.specs.Option.{option_map_or}
use Rattle.std.specs.Ordering.{nat_cmp}
use Rattle.std.proofs.lemmas.Cmp.{nat_list_cmp_total}
use Rattle.std.proofs.lemmas.Map.Text.{is_eq-slice_cmp}
use Rattle.sg_again.specs.LastFrames.{SentFrame, KeptFrame, Frames, LastFrames, most_over, sent, ended, ends, within_limit, without_first}

abbrev pub Entries : Type 0
Entries = List (List ℕ × KeptFrame)

abbrev pub frames_in : Entries → Frames
frames_in es = from_entries es

-- what is kept in a table with this queue
abbrev pub kept : Entries → List (List ℕ) → LastFrames
kept es over = record { frames = frames_in es; over = over }

-- ---- what a map has

pub get_put : (m : Frames) (k : List ℕ) (v : KeptFrame) (q : List ℕ) → get (insert m k v) q ≡ (if bytes_eq q k then Some v else get m q)
get_put m k v q = get-insert nat_list_cmp_total m k v q ∙ ap (λ (b : Bool). if b then Some v else get m q) (is_eq-slice_cmp q k)

pub get_less : (m : Frames) (k q : List ℕ) → get (remove m k) q ≡ (if bytes_eq q k then None else get m q)
get_less m k q = get-remove nat_list_cmp_total m k q ∙ ap (λ (b : Bool). if b then None else get m q) (is_eq-slice_cmp q k)

either_way : (q k : List ℕ) → bytes_eq q k ≡ bytes_eq k q
either_way q k = sym (is_eq-slice_cmp q k) ∙ (eq_by_cmp_equiv nat_list_cmp_total).symm q k ∙ is_eq-slice_cmp k q

-- ---- what a table has

found : (q : List ℕ) (es : Entries) → find (slice_cmp nat_cmp) q es ≡ lookup (bytes_eq q) es
found q [] = refl
found q (e ∷ es) = rw (is_eq-slice_cmp q e.0, found q es) refl

pub got : (es : Entries) (q : List ℕ) → get (frames_in es) q ≡ lookup (bytes_eq q) es
got es q = get-from_entries nat_list_cmp_total es q ∙ found q es

same_frames : (m n : Frames) → ((q : List ℕ) → get m q ≡ get n q) → m ≡ n
same_frames m n h = same_map nat_list_cmp_total (slice_cmp-IsAntisymmetric nat_cmp-IsAntisymmetric) m n h

put_is : (es fs : Entries) (sid : List ℕ) (k : KeptFrame) → ((q : List ℕ) → lookup (bytes_eq q) fs ≡ (if bytes_eq sid q then Some k else lookup (bytes_eq q) es)) → frames_in fs ≡ insert (frames_in es) sid k
put_is es fs sid k h = same_frames _ _ (λ q. got fs q ∙ h q
    ∙ ap (λ (b : Bool). if b then Some k else lookup (bytes_eq q) es) (either_way sid q)
    ∙ ap (λ (o : Option KeptFrame). if bytes_eq q sid then Some k else o) (sym (got es q))
    ∙ sym (get_put (frames_in es) sid k q))

less_is : (es fs : Entries) (sid : List ℕ) → ((q : List ℕ) → lookup (bytes_eq q) fs ≡ (if bytes_eq sid q then None else lookup (bytes_eq q) es)) → frames_in fs ≡ remove (frames_in es) sid
less_is es fs sid h = same_frames _ _ (λ q. got fs q ∙ h q
    ∙ ap (λ (b : Bool). if b then None else lookup (bytes_eq q) es) (either_way sid q)
    ∙ ap (λ (o : Option KeptFrame). if bytes_eq q sid then None else o) (sym (got es q))
    ∙ sym (get_less (frames_in es) sid q))

-- ---- a frame is sent

pub sent_is : (es fs : Entries) (over : List (List ℕ)) (sid : List ℕ) (f : SentFrame) (k : KeptFrame) (b : Bool) → b ≡ option_map_or (λ (x : KeptFrame). not x.live) (lookup (bytes_eq sid) es) false → k ≡ record { frame = f; live = not b }
    → ((q : List ℕ) → lookup (bytes_eq q) fs ≡ (if bytes_eq sid q then Some k else lookup (bytes_eq q) es)) → kept fs over ≡ sent (kept es over) sid f
sent_is es fs over sid f k b is_b is_k h =
    let is_over : b ≡ option_map_or (λ (x : KeptFrame). not x.live) (get (frames_in es) sid) false = is_b ∙ ap (λ (o : Option KeptFrame). option_map_or (λ (x : KeptFrame). not x.live) o false) (sym (got es sid)) in
    ap (λ (m : Frames). record { frames = m; over = over })
    (put_is es fs sid k h ∙ ap (λ (x : KeptFrame). insert (frames_in es) sid x) (is_k ∙ ap (λ (c : Bool). record { frame = f; live = not c }) is_over))

-- ---- a session ends

-- it is live
pub live_at : (o : Option KeptFrame) → option_map_or (λ (x : KeptFrame). x.live) o false ≡ true → (k : KeptFrame) × (o ≡ Some k) × (k.live ≡ true)
live_at None h = absurd (let n : false ≡ true = h in cc)
live_at (Some k) h = (k, refl, h)

pub ended_not : (es : Entries) (over : List (List ℕ)) (sid : List ℕ) → option_map_or (λ (x : KeptFrame). x.live) (lookup (bytes_eq sid) es) false ≡ false → kept es over ≡ ended (kept es over) sid
ended_not es over sid h = by (get (frames_in es) sid) (ap (λ (o : Option KeptFrame). option_map_or (λ (x : KeptFrame). x.live) o false) (got es sid) ∙ h)
  where
    by : (o : Option KeptFrame) → option_map_or (λ (x : KeptFrame). x.live) o false ≡ false → kept es over ≡ option_map_or (λ (x : KeptFrame). if x.live then ends (kept es over) sid x.frame else kept es over) o (kept es over)
    by None h = refl
    by (Some k) h = rw h refl

ended_live : (es : Entries) (over : List (List ℕ)) (sid : List ℕ) (k : KeptFrame) → lookup (bytes_eq sid) es ≡ Some k → k.live ≡ true → ended (kept es over) sid ≡ ends (kept es over) sid k.frame
ended_live es over sid k is live =
    ap (λ (o : Option KeptFrame). option_map_or (λ (x : KeptFrame). if x.live then ends (kept es over) sid x.frame else kept es over) o (kept es over)) (got es sid ∙ is)
    ∙ ap (λ (b : Bool). if b then ends (kept es over) sid k.frame else kept es over) live

few_stay : (l : LastFrames) → nat_lt most_over (length l.over) ≡ false → within_limit l ≡ l
few_stay l h = ap (λ (b : Bool). if b then record { frames = without_first l.over l.frames; over = drop 1 l.over } else l) h

first_leaves : (l : LastFrames) → nat_lt most_over (length l.over) ≡ true → within_limit l ≡ record { frames = without_first l.over l.frames; over = drop 1 l.over }
first_leaves l h = ap (λ (b : Bool). if b then record { frames = without_first l.over l.frames; over = drop 1 l.over } else l) h

module _ (es fs : Entries) (over : List (List ℕ)) (sid : List ℕ) (k : KeptFrame) (is : lookup (bytes_eq sid) es ≡ Some k) (live : k.live ≡ true) (put : (q : List ℕ) → lookup (bytes_eq q) fs ≡ (if bytes_eq sid q then Some (record { frame = k.frame; live = false }) else lookup (bytes_eq q) es)) where
  with_one : kept fs (over ++ sid ∷ []) ≡ record { frames = insert (frames_in es) sid (record { frame = k.frame; live = false }); over = over ++ sid ∷ [] }
  with_one = ap (λ (m : Frames). record { frames = m; over = over ++ sid ∷ [] }) (put_is es fs sid (record { frame = k.frame; live = false }) put)

  is_ended : within_limit (kept fs (over ++ sid ∷ [])) ≡ ended (kept es over) sid
  is_ended = ap within_limit with_one ∙ sym (ended_live es over sid k is live)

  pub ended_few : nat_lt most_over (length (over ++ sid ∷ [])) ≡ false → kept fs (over ++ sid ∷ []) ≡ ended (kept es over) sid
  ended_few few = sym (few_stay (kept fs (over ++ sid ∷ [])) few) ∙ is_ended

  pub ended_many : (gs : Entries) (first : List ℕ) (rest : List (List ℕ)) → over ++ sid ∷ [] ≡ first ∷ rest → ((q : List ℕ) → lookup (bytes_eq q) gs ≡ (if bytes_eq first q then None else lookup (bytes_eq q) fs)) → nat_lt most_over (length (over ++ sid ∷ [])) ≡ true → kept gs rest ≡ ended (kept es over) sid
  ended_many gs first rest e less many =
      ap (λ (m : Frames). record { frames = m; over = rest }) (less_is fs gs first less)
      ∙ ap (λ (os : List (List ℕ)). record { frames = without_first os (frames_in fs); over = drop 1 os }) (sym e)
      ∙ sym (first_leaves (kept fs (over ++ sid ∷ [])) many)
      ∙ is_ended

-- a list with one more has a first
pub has_first : (xs : List (List ℕ)) (x : List ℕ) → (y : List ℕ) × (ys : List (List ℕ)) × (xs ++ x ∷ [] ≡ y ∷ ys)
has_first [] x = (x, [], refl)
has_first (y ∷ ys) x = (y, ys ++ x ∷ [], refl)
