-- What a command leaves untouched.
use Rattle.std.proofs.Common.{◌≡◌, true, false, Option, Some, None, refl}
use Rattle.sg_args.specs.Command.{Command, Check, Compile, Run, Replay, Drive, Ledger, Keep, Stream, Audit, Compose, Suggest, Claims, Serve}
use Rattle.sg_top.specs.Outside.{Objects}
use Rattle.sg_top.specs.Top.{untouched_by}

module _ {F O L R D S P I : Type 0} (old : Objects F O L R D S P I) where
  -- if nothing is other than before, it is so whatever is asked for
  pub untouched : (c : Option Command) → old ≡ untouched_by c old old
  untouched None = refl
  untouched (Some (Check file)) = refl
  untouched (Some (Compile file role)) = refl
  untouched (Some (Run keys script most programs)) = refl
  untouched (Some (Replay file)) = refl
  untouched (Some (Drive seed sessions file)) = refl
  untouched (Some (Ledger file)) = refl
  untouched (Some (Keep file keys script most programs)) = refl
  untouched (Some (Stream keys script most programs)) = refl
  untouched (Some (Audit file)) = refl
  untouched (Some (Compose file)) = refl
  untouched (Some (Suggest file)) = refl
  untouched (Some (Claims graph claims)) = refl
  untouched (Some (Serve false None keys programs)) = refl
  untouched (Some (Serve false (Some file) keys programs)) = refl
  untouched (Some (Serve true None keys programs)) = refl
  untouched (Some (Serve true (Some file) keys programs)) = refl
