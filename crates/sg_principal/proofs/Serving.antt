-- Runs for an application, from before a ledger and a link were opened.
use Rattle.std.proofs.Common.{◌≡◌, ℕ, ◌≤◌, Bool, List, Option, Some, Result, Err, inl, inr, ◌∙◌, subst}
use Rattle.sg_base.specs.Outside.{HasRisen}
use Rattle.sg_base.specs.declared.address.Addr.{Addr}
use Rattle.sg_ledger.specs.Format.{Join}
use Rattle.sg_serve.specs.Faults.{CountsFaults}
use Rattle.sg_serve.specs.declared.fault.ServeFault.{ServeFault}
use Rattle.sg_serve.specs.declared.fault.ServeFault.TheVariants as ServeFaults
use Rattle.sg_ending.specs.Ending.{Ending}
use Rattle.sg_ending.specs.Output.{Output}
use Rattle.sg_setup.specs.Setup.{Principal}
use Rattle.sg_principal.specs.Ledgers.{IsLeft}
use Rattle.sg_principal.specs.Outside.{Application, Disked, Entered, Waited}
use Rattle.sg_principal.specs.Serves.{EndsServing, IsOpened, LacksLink, ServesOver, counts}

-- memory that ran out is no other fault
abbrev out_of_memory : Result (Unit {0}) ServeFault
out_of_memory = Err ServeFaults.OutOfMemory

pub no_write_failed : out_of_memory ≡ Err ServeFaults.WriteFailed → ⊥
no_write_failed e = absurd cc

pub no_disk_failed : out_of_memory ≡ Err ServeFaults.DiskFailed → ⊥
no_disk_failed e = absurd cc

pub no_input_failed : out_of_memory ≡ Err ServeFaults.InputFailed → ⊥
no_input_failed e = absurd cc

module _ (link link1 : Waited) (kept : link1.coming ≡ link.coming) (kept_sent : link1.sent ≡ link.sent) where
  -- the link was opened
  pub opened : (at : Addr) → link1.bound ≡ Some at → link.faults ≤ link1.faults → IsOpened at link link1
  opened at bound falls = record {
    untouched = λ i. record { bound = bound i; coming = kept i; sent = kept_sent i; faults = link1.faults };
    falls = falls;
  }

  -- it was not
  pub unopened : (out : Output) (random : Option (List (List ℕ))) (input : Entered) → link1.bound ≡ link.bound → HasRisen link.faults link1.faults
      → LacksLink (record { out = out; link = link; random = random; input = input }) (record { out = out; link = link1; random = random; input = input })
  unopened out random input kept_bound risen = record {
    risen = risen;
    untouched = λ i. record { out = out; link = record { bound = kept_bound i; coming = kept i; sent = kept_sent i; faults = link1.faults }; random = random; input = input };
  }

module _ (kept : Bool) (opened : List Join) (p : Principal) (old new : Application) (disk disk1 disk2 : Disked) (same : disk1.faults ≡ disk.faults) where
  -- what was served from when the ledger was opened was served from before
  ends_later : (o : Application) (r : Result (Unit {0}) ServeFault) → EndsServing kept opened p o new disk1 disk2 r → EndsServing kept opened p o new disk disk2 r
  ends_later o r h = record {
    bound = h.bound;
    answers = h.answers;
    faults = subst (λ (n : ℕ). CountsFaults (record { link = (o.link).faults; out = (o.out).faults; disk = n }) (counts new disk2) r) same h.faults;
    input_falls = h.input_falls;
    input_failed = h.input_failed;
  }

  -- so of what came of a principal
  pub over_later : (e : Ending) → IsLeft disk disk1 → ServesOver kept opened p old new disk1 disk2 e → ServesOver kept opened p old new disk disk2 e
  over_later e left (inl x) = inl (x.0, (x.1.0 ∙ left.0, λ image h. left.1 image (x.1.1 image h)), x.2 ∙ same, x.3)
  over_later e left (inr x) = inr (x.0, x.1, x.2, ends_later (record old { link = x.0 }) x.1 x.3, x.4)
