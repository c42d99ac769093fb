use Rattle.std.proofs.Common.{◌≡◌, ◌≤◌, List, ℕ, length, take, drop, sym, ◌∙◌, ap, subst, arith}
use Rattle.std.proofs.lemmas.List.{take_all}
use Rattle.sg_ledger.proofs.Moments.{started, goes_on}
use Rattle.sg_ledger.proofs.ledger.read_file.Goals as goal

-- all of a file
whole : (file : List ℕ) (count : ℕ) → count ≡ length file → take count file ≡ file
whole file count is = take_all count file (omega (arith, is))

pub returns-in-Ok-read-clause-seen : goal.returns-in-Ok-read-clause-seen
returns-in-Ok-read-clause-seen g c = λ file is.
    let size = c.in-Ok-size.ensures.length file (c.sync.ensures.kept ∙ is) in
    let bytes = c.in-Ok-read.ensures.bytes file (c.size.ensures.kept ∙ c.sync.ensures.kept ∙ is) in
    bytes ∙ whole file _ (sym c.if-size-eq-FILE.true ∙ size)

pub returns-in-Ok-read-clause-images : goal.returns-in-Ok-read-clause-images
returns-in-Ok-read-clause-images g c = λ image left.
    let then_left = c.size.ensures.images image (c.read.ensures.images image left) in
    let seen = c.in-Ok.ensures.durable image then_left in
    sym {A = List ℕ} (returns-in-Ok-read-clause-seen g c image (sym c.sync.ensures.kept ∙ seen))

pub returns-in-Ok-read-clause-any_moment : goal.returns-in-Ok-read-clause-any_moment
returns-in-Ok-read-clause-any_moment g c =
    let P = g.D.Disk.may_leave c.args.disk.now in
    let at_start = started g.D.Disk.moment g.D.Disk.left_since c.args.disk.now P (g.met.D.Disk.only_now c.args.disk.now) in
    let synced = goes_on g.D.Disk.moment g.D.Disk.left_since c.args.disk.now c.args.disk.now c.sync.new.self P _ at_start c.sync.ensures.time c.sync.ensures.images in
    let sized = goes_on g.D.Disk.moment g.D.Disk.left_since c.args.disk.now c.sync.new.self c.size.new.self P _ synced c.size.ensures.time
    (λ image left. c.sync.ensures.images image (c.size.ensures.images image left)) in
    goes_on g.D.Disk.moment g.D.Disk.left_since c.args.disk.now c.size.new.self c.read.new.self P _ sized c.read.ensures.time
    (λ image left. c.sync.ensures.images image (c.size.ensures.images image (c.read.ensures.images image left)))
