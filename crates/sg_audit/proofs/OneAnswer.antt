-- Bytes spell the logs of one run at most, or have one first fault: what is spelled is read, and what is read is one.
use Rattle.std.proofs.Common.{◌≡◌, Result, Ok, Err, sym, ap, ◌∙◌}
use Rattle.sg_audit.specs.Laws.{FaultsAreOne, LogsAreOne, WrongIsNoLogs}
use Rattle.sg_audit.specs.Read.{read}
use Rattle.sg_audit.specs.Sessions.{Logs}
use Rattle.sg_audit.specs.Spells.{Fault, reported_as}
use Rattle.sg_audit.proofs.Spelled.{spelled_read, fault_found}

one_ok : (r : Result Logs Fault) (l m : Logs) → r ≡ Ok l → r ≡ Ok m → l ≡ m
one_ok r l m a b = cc

one_err : (r : Result Logs Fault) (e f : Fault) → r ≡ Err e → r ≡ Err f → e ≡ f
one_err r e f a b = cc

never_both : (r : Result Logs Fault) (l : Logs) (f : Fault) → r ≡ Ok l → r ≡ Err f → ⊥
never_both r l f a b = absurd (cc)

pub logs_one : LogsAreOne
logs_one bytes l m s t = one_ok (read bytes) l m (spelled_read bytes l s) (spelled_read bytes m t)

pub fault_one : FaultsAreOne
fault_one bytes e f a b = a.reported ∙ ap reported_as (one_err (read bytes) a.fault b.fault (fault_found bytes a.fault a.first) (fault_found bytes b.fault b.first)) ∙ sym b.reported

pub no_logs : WrongIsNoLogs
no_logs bytes e l a s = never_both (read bytes) l a.fault (spelled_read bytes l s) (fault_found bytes a.fault a.first)
