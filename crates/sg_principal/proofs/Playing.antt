-- Runs that play nothing, and plays over a link that was opened.
use Rattle.std.proofs.Common.{◌≡◌, ◌⊎◌, inl, inr, ℕ, ◌≤◌, List, [], Option, Some, Result, Err, refl, sym, ap, ◌∙◌, subst, arith}
use Rattle.std.proofs.lemmas.List.{append-nil}
use Rattle.std.proofs.lemmas.Result.{on_ok_weaker}
use Rattle.sg_base.specs.Outside.{HasRisen, Appends}
use Rattle.sg_base.specs.declared.address.Addr.{Addr}
use Rattle.sg_play.specs.Ends.{Outside as KnownOutside, WholePrefix, Ended}
use Rattle.sg_play.specs.Steps.{Step}
use Rattle.sg_play.specs.declared.fault.PlayFault.{PlayFault}
use Rattle.sg_play.specs.declared.fault.PlayFault.TheVariants as Play
use Rattle.sg_play.proofs.Counting.{alone_same, counts_rose, counts_then, memory_counted}
use Rattle.sg_protocol.specs.Keyring.{Keyring}
use Rattle.sg_ending.specs.Ending.{Ending, LinkFailed}
use Rattle.sg_ending.specs.Output.{Output}
use Rattle.sg_setup.specs.Setup.{Setup, waits_at}
use Rattle.sg_principal.specs.Outside.{Linked, Stage}
use Rattle.sg_principal.specs.Runs.{EndsPlaying, LacksLink, TakesAtMost, WaitsAt, counts, steps_played}

-- nothing was added
appends_none : {A : Type 0} (x y : Option (List A)) → y ≡ x → Appends x y []
appends_none x y same before h = same ∙ h ∙ ap Some (sym (append-nil before))

-- none of the steps was taken
pub none_taken : (old new : KnownOutside) (steps : List Step) → new.written ≡ old.written → new.sent ≡ old.sent → WholePrefix old new steps
none_taken old new steps w s = record {
  prefix = [];
  rest = steps;
  is = refl;
  whole = record { lines = appends_none old.written new.written w; frames = appends_none old.sent new.sent s };
}

-- no delivery was taken
pub none_left : (most : ℕ) (old new : Option (List (List ℕ))) → new ≡ old → TakesAtMost most old new
none_left most old new same deliveries h = (0, omega arith, same ∙ h)

-- nothing was played, since memory ran out before
pub not_begun : (s : Setup) (most : ℕ) (old : Stage) → EndsPlaying s most old old (Err Play.OutOfMemory)
not_begun s most old = record {
  plays = λ ds ws d w. none_taken (record { written = (old.out).bytes; sent = (old.link).sent }) (record { written = (old.out).bytes; sent = (old.link).sent }) (steps_played s most ds ws) refl refl;
  left = tt;
  at_most = none_left most (old.link).deliveries (old.link).deliveries refl;
  faults = memory_counted {c = counts old} refl refl;
}

module _ (out : Output) (random : Option (List (List ℕ))) (link link1 : Linked) (kept : link1.deliveries ≡ link.deliveries) (kept_sent : link1.sent ≡ link.sent) where
  -- before the link was opened, and when it was
  abbrev pub before : Stage
  before = record { out = out; link = link; random = random }

  abbrev pub opened_link : Stage
  opened_link = record { out = out; link = link1; random = random }

  -- the link was not opened
  pub unopened : link1.bound ≡ link.bound → HasRisen link.faults link1.faults → LacksLink before opened_link
  unopened kept_bound risen = record {
    risen = risen;
    untouched = λ i. record { out = out; link = record { bound = kept_bound i; deliveries = kept i; sent = kept_sent i; faults = link1.faults }; random = random };
  }

  module _ (s : Setup) (most : ℕ) (falls : link.faults ≤ link1.faults) where
    -- a play from when the link was opened ended as one from before
    pub after_link : (new : Stage) (r : Result (Unit {0}) PlayFault) → EndsPlaying s most opened_link new r → EndsPlaying s most before new r
    after_link new r h = record {
      plays = λ ds ws d w. subst
          (λ (x : Option (List (Addr × List ℕ))). Ended (record { written = out.bytes; sent = x }) (record { written = (new.out).bytes; sent = (new.link).sent }) (steps_played s most ds ws) r) kept_sent
          (h.plays ds ws (kept ∙ d) w);
      left = on_ok_weaker r (λ t ds d. t ds (kept ∙ d)) h.left;
      at_most = λ ds d. h.at_most ds (kept ∙ d);
      faults = record { link = counts_then falls (h.faults).link; out = (h.faults).out };
    }

    -- nothing was played, since the link was not opened
    pub without_link : HasRisen link.faults link1.faults → EndsPlaying s most before opened_link (Err Play.LinkFailed)
    without_link risen = record {
      plays = λ ds ws d w. none_taken (record { written = out.bytes; sent = link.sent }) (record { written = out.bytes; sent = link1.sent }) (steps_played s most ds ws) refl kept_sent;
      left = tt;
      at_most = none_left most link.deliveries link1.deliveries kept;
      faults = record { link = counts_rose falls risen; out = alone_same refl (λ e. absurd cc) };
    }

-- the address at which the keys wait is theirs
pub at_address : (a : Addr) (keys : Keyring) → a.ip ≡ keys.ip → a.port ≡ keys.port → a ≡ waits_at keys
at_address a keys ip port = λ i. record { ip = ip i; port = port i }

-- where a play leaves the link that ends so
pub waits : {P : Type 0} (keys : Keyring) (old new : Stage) (e : Ending) → (P → e ≡ LinkFailed) → ((new.link).bound ≡ Some (waits_at keys)) ⊎ (P × LacksLink old new) → WaitsAt keys old new e
waits keys old new e h (inl bound) = inl bound
waits keys old new e h (inr lacks) = inr (h lacks.0, lacks.1)
