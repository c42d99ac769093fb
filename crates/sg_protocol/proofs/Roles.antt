-- In a schedule's run all events of a session are of one cast, and so a principal has one role in it.
use Rattle.std.proofs.Common.{subst}
use Rattle.sg_model.specs.Names.{Name}
use Rattle.sg_protocol.specs.Texts.{Hash, IsHash}
use Rattle.sg_protocol.specs.Calls.{Event}
use Rattle.sg_protocol.specs.Schedule.{Schedule}
use Rattle.sg_protocol.specs.World.{Logged, World, new_world}
use Rattle.sg_protocol.specs.Run.{run}
use Rattle.sg_protocol.specs.Premises.{CollisionFree, hashed}
use Rattle.sg_protocol.specs.Headline.{HadEvent, IsOfCast, SessionsHaveOneCast, NoneTakesTwoRoles}
use Rattle.sg_protocol.proofs.Courses.{course, is_course, same_run}
use Rattle.sg_protocol.proofs.OneCasts.{event_of_cast, one_role}

abbrev AreOfCast : Hash → Schedule → World → Type 0
AreOfCast sha s w = CollisionFree sha (hashed s w) → (l : Logged) (who : Name) (e : Event) → HadEvent w l who e → IsOfCast sha s w l who e

pub sessions_have_one_cast : (sha : Hash) → IsHash sha → SessionsHaveOneCast sha
sessions_have_one_cast sha hash programs s compiled sched = subst (AreOfCast sha s) (same_run sha hash programs s compiled sched)
    (event_of_cast sha hash s (new_world programs s).pasts (course sha hash programs s compiled sched) (is_course sha hash programs s compiled sched))

pub none_takes_two_roles : (sha : Hash) → IsHash sha → NoneTakesTwoRoles sha
none_takes_two_roles sha hash programs s compiled sched free = one_role sha s (run sha programs s) (sessions_have_one_cast sha hash programs s compiled sched free)
