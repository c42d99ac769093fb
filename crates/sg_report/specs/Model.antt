-- The forgery that the program holds, as that of the definitions.
use Rattle.sg_report.specs.Report.{Forgery}
use Rattle.sg_report.specs.declared.premises.Forgery.{Forgery as HeldForgery}

-- the forgery that is held
abbrev pub forgery_of : HeldForgery → Forgery
forgery_of f = record { step = f.step; one = f.one; two = f.two }
