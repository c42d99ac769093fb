-- Counts of faults, over calls one after another.
use Rattle.std.proofs.Common.{◌≡◌, ◌≢◌, ◌≤◌, ℕ, Result, Ok, Err, refl, ◌∙◌, subst, arith}
use Rattle.sg_base.specs.declared.outside.Link as Link
use Rattle.sg_base.specs.declared.outside.Sink as Sink
use Rattle.sg_base.specs.Outside.{HasRisen}
use Rattle.sg_play.specs.declared.fault.PlayFault.{PlayFault}
use Rattle.sg_play.specs.declared.fault.PlayFault.TheVariants.{LinkFailed, OutOfMemory}
use Rattle.sg_play.specs.Around.{KeepsLink}
use Rattle.sg_play.specs.Faults.{Counts, CountsFault, CountsFaultAlone, CountsFaults}
use Rattle.sg_play.proofs.Rising.{risen_last}

-- ---- answers

module _ {A F : Type 0} where
  -- what went on did not fail
  pub no_fault : {fault : F} (a : A) → Ok a ≢ Err fault
  no_fault a e = cc

  -- what failed by one fault did not fail by another
  pub other_fault : {r : Result A F} {f fault : F} → r ≡ Err f → f ≢ fault → r ≢ Err fault
  other_fault {r} {f} {fault} is n e = n (cc)

-- ---- one count

module _ {A F : Type 0} {fault : F} {r : Result A F} where
  -- it didn't fall, and the call answers something else
  pub counts_fell : {old new : ℕ} → old ≤ new → r ≢ Err fault → CountsFault fault old new r
  counts_fell l n = record { falls = l; rises = λ e. absurd (n e) }

  -- it rose, whatever the call answers
  pub counts_rose : {old new : ℕ} → old ≤ new → HasRisen old new → CountsFault fault old new r
  counts_rose l h = record { falls = l; rises = λ e. h }

  -- it didn't fall before the last part of a call
  pub counts_then : {old mid new : ℕ} → old ≤ mid → CountsFault fault mid new r → CountsFault fault old new r
  counts_then {old} {mid} {new} l h = record {
    falls = let a : mid ≤ new = h.falls in omega (arith, l, a);
    rises = λ e. risen_last old mid new l h.falls (h.rises e);
  }

  -- it is as before, and the call answers something else
  pub alone_same : {old new : ℕ} → new ≡ old → r ≢ Err fault → CountsFaultAlone fault old new r
  alone_same {old} {new} s n = record { falls = omega (arith, s); rises = λ e. absurd (n e); same = λ e. s }

  -- it rose, and the call answers so
  pub alone_rose : {old new : ℕ} → old ≤ new → HasRisen old new → r ≡ Err fault → CountsFaultAlone fault old new r
  alone_rose l h is = record { falls = l; rises = λ e. h; same = λ n. absurd (n is) }

  -- it is as before up to the last part of a call
  pub alone_then : {old mid new : ℕ} → mid ≡ old → CountsFaultAlone fault mid new r → CountsFaultAlone fault old new r
  alone_then {old} {mid} {new} s h = subst (λ (c : ℕ). CountsFaultAlone fault c new r) s h

module _ {A B F G : Type 0} {f : F} {g : G} {r : Result A F} {s : Result B G} where
  -- the call answers by another type, and says its fault only if this answer does
  pub counts_as : {old new : ℕ} → (s ≡ Err g → r ≡ Err f) → CountsFault f old new r → CountsFault g old new s
  counts_as i h = record { falls = h.falls; rises = λ e. h.rises (i e) }

  -- and if this answer does
  pub alone_as : {old new : ℕ} → (s ≡ Err g → r ≡ Err f) → (r ≡ Err f → s ≡ Err g) → CountsFaultAlone f old new r → CountsFaultAlone g old new s
  alone_as i o h = record { falls = h.falls; rises = λ e. h.rises (i e); same = λ n. h.same (λ e. n (o e)) }

-- ---- those of a play

-- nothing was counted
pub none_counted : {A : Type 0} (c : Counts) (a : A) → CountsFaults c c (Ok a)
none_counted c a = record { link = counts_fell (omega arith) (no_fault a); out = alone_same refl (no_fault a) }

-- memory ran out
pub memory_counted : {A : Type 0} {c : Counts} {f : PlayFault} {r : Result A PlayFault} → r ≡ Err f → f ≡ OutOfMemory → CountsFaults c c r
memory_counted {f = f} is m = record {
  link = counts_fell (omega arith) (other_fault is (λ e. absurd (cc)));
  out = alone_same refl (other_fault is (λ e. absurd (cc)));
}

-- a fault is passed on
pub passed_on : {A B : Type 0} {old new : Counts} {f : PlayFault} {r : Result B PlayFault} → r ≡ Err f → CountsFaults {A = A} old new (Err f)
    → CountsFaults old new r
passed_on {A} {B} {old} {new} {f} {r} is h = record {
  link = counts_as (λ e. cc) h.link;
  out = alone_as (λ e. cc) (λ e. cc) h.out;
}

-- a call that went on, and then another
pub counted_then : {A B : Type 0} {old mid new : Counts} {a : A} {r : Result B PlayFault} → CountsFaults old mid (Ok a) → CountsFaults mid new r
    → CountsFaults old new r
counted_then {a = a} h k = record { link = counts_then (h.link).falls k.link; out = alone_then ((h.out).same (no_fault a)) k.out }

-- the link was asked, and then another call was made
pub asked_then : {A : Type 0} {link link' out : ℕ} {new : Counts} {r : Result A PlayFault}
    → link ≤ link' → CountsFaults (record { link = link'; out = out }) new r → CountsFaults (record { link = link; out = out }) new r
asked_then l h = record { link = counts_then l h.link; out = h.out }

-- the link failed
pub link_counted : {A : Type 0} {link link' out : ℕ} → link ≤ link' → HasRisen link link'
    → CountsFaults {A = A} (record { link = link; out = out }) (record { link = link'; out = out }) (Err LinkFailed)
link_counted l h = record { link = counts_rose l h; out = alone_same refl (other_fault refl (λ e. absurd (cc))) }

-- ---- with what is kept of the link

module _ {L O : Type 0} {link : Link.Ghosts L} {out : Sink.Ghosts O} where
  -- nothing was asked of it
  pub none_kept : {A : Type 0} {l : L} {o : O} (a : A) → KeepsLink link out l l o o (Ok a)
  none_kept a = record { bound = refl; deliveries = refl; faults = none_counted _ a }

  -- memory ran out
  pub memory_kept : {A : Type 0} {l : L} {o : O} {f : PlayFault} {r : Result A PlayFault} → r ≡ Err f → f ≡ OutOfMemory → KeepsLink link out l l o o r
  memory_kept is m = record { bound = refl; deliveries = refl; faults = memory_counted is m }

  module _ {A B : Type 0} {l m : L} {o p : O} where
    -- a fault is passed on
    pub kept_passed : {f : PlayFault} {r : Result B PlayFault} → r ≡ Err f → KeepsLink {A = A} link out l m o p (Err f) → KeepsLink link out l m o p r
    kept_passed is h = record { bound = h.bound; deliveries = h.deliveries; faults = passed_on is h.faults }

    -- a call that went on, and then another
    pub kept_then : {n : L} {q : O} {a : A} {r : Result B PlayFault} → KeepsLink link out l m o p (Ok a) → KeepsLink link out m n p q r → KeepsLink link out l n o q r
    kept_then h k = record { bound = k.bound ∙ h.bound; deliveries = k.deliveries ∙ h.deliveries; faults = counted_then h.faults k.faults }

    -- and nothing then
    pub kept_on : {a : A} (b : B) → KeepsLink link out l m o p (Ok a) → KeepsLink link out l m o p (Ok b)
    kept_on b h = kept_then h (none_kept b)
