-- What the images of a disk represent at each moment of a play.
use Rattle.std.proofs.Common.{◌≡◌, ℕ, List, [], ◌∷◌, ◌++◌, Option, Some, None, Result, Ok, Err, OnOk, ⊎_elim, refl, sym, ap, ◌∙◌, subst, append_assoc}
use Rattle.std.proofs.lemmas.List.{append-nil}
use Rattle.sg_ledger.specs.Disk.{LeavesOnly}
use Rattle.sg_ledger.specs.Format.{Join, OpenLedger, Represents}
use Rattle.sg_ledger.proofs.Moments.{chained, started, weakened}
use Rattle.sg_keep.specs.declared.keeper.Keeper.{Keeper}
use Rattle.sg_joins.specs.Images.{AllRepresent, RepresentsEither}
use Rattle.sg_joins.specs.Joins.{with_join}
use Rattle.sg_keep.specs.KeptRuns.{RepresentsMore}
use Rattle.sg_keep.specs.Representation.{HasMore, HoldsJoins}

-- ---- joins, and then others

pub more_none : (joins : List Join) → HasMore joins joins
more_none joins = ([], sym (append-nil joins))

pub more_with : (joins : List Join) (join : Option Join) → HasMore joins (with_join joins join)
more_with joins None = more_none joins
more_with joins (Some j) = (j ∷ [], refl)

pub more_then : (a b c : List Join) → HasMore a b → HasMore b c → HasMore a c
more_then a b c f g = (f.0 ++ g.0, g.1 ∙ ap (λ (l : List Join). l ++ g.0) f.1 ∙ append_assoc a f.0 g.0)

-- a file that represents more joins represents the first of them, and then others
pub represents_all : (joins : List Join) (image : List ℕ) → Represents image joins → RepresentsMore joins image
represents_all joins image h = ([], subst (Represents image) (sym (append-nil joins)) h)

pub represents_more : (a b : List Join) → HasMore a b → (image : List ℕ) → RepresentsMore b image → RepresentsMore a image
represents_more a b f image h = (f.0 ++ h.0, subst (Represents image) (ap (λ (l : List Join). l ++ h.0) f.1 ∙ append_assoc a f.0 h.0) h.1)

represents_either : (a b : List Join) → HasMore a b → (image : List ℕ) → RepresentsEither a b image → RepresentsMore a image
represents_either a b f image h = ⊎_elim (λ s. represents_all a image s) (λ s. represents_more a b f image (represents_all b image s)) h

-- ---- of a keeper

-- each image represents the ledger's joins
pub all_held : (k : Keeper) (may_leave : List ℕ → Type 0) → HoldsJoins k may_leave → AllRepresent may_leave k.ledger.joins
all_held k may_leave h = subst (λ (l : OpenLedger). AllRepresent may_leave l.joins) (sym h.ledger) h.images

-- ---- over calls of a disk

module _ {D : Type 0} (moment : D → ℕ) (left_since : D → ℕ → List ℕ → Type 0) where
  -- what a crash may leave of a disk that was not asked
  module _ (disk : D) (may_leave : List ℕ → Type 0) (only_now : (image : List ℕ) → left_since disk (moment disk) image → may_leave image) (joins : List Join) (all : AllRepresent may_leave joins) where
    pub not_asked : LeavesOnly moment left_since disk disk (RepresentsMore joins)
    not_asked = started moment left_since disk (RepresentsMore joins) (λ image left. represents_all joins image (all image (only_now image left)))

  -- the joins after a call are more
  pub either_more : (old new : D) (before after : List Join) → HasMore before after → LeavesOnly moment left_since old new (RepresentsEither before after) → LeavesOnly moment left_since old new (RepresentsMore before)
  either_more old new before after f h = weakened moment left_since old new (RepresentsEither before after) (RepresentsMore before) h (represents_either before after f)

  -- one part of a play after another
  pub more_on : (old mid new : D) (before now : List Join) → HasMore before now → LeavesOnly moment left_since old mid (RepresentsMore before) → LeavesOnly moment left_since mid new (RepresentsMore now)
      → LeavesOnly moment left_since old new (RepresentsMore before)
  more_on old mid new before now f g h = chained moment left_since old mid new (RepresentsMore before) (RepresentsMore now) (RepresentsMore before) g h (λ image s. s) (represents_more before now f)
