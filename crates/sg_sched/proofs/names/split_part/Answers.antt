use Rattle.std.proofs.Common.{◌≡◌, ◌==◌, ◌∙◌, ap, [], ◌∷◌, arith}
use Rattle.std.specs.List.{slice_split}
use Rattle.std.proofs.lemmas.List.{nil_from_length}
use Rattle.sg_sched.proofs.TextLaws.{parts_first, parts_after, parts_behind}
use Rattle.sg_sched.proofs.names.split_part.Goals as goal

pub returns-in-empty-clause-parts : goal.returns-in-empty-clause-parts
returns-in-empty-clause-parts c =
    let first : slice_split (λ b. b == 44) c.args.text.now ≡ c.split_at.result.0.now ∷ parts_after 44 c.split_at.result.1.now =
    rw (c.split_at.ensures.front, c.split_at.ensures.back, c.index_of-at.ensures.first) (parts_first 44 c.args.text.now) in
    let none : c.split_at.result.1.now ≡ [] = nil_from_length _ (omega arith) in
    first ∙ ap (λ bs. c.split_at.result.0.now ∷ parts_after 44 bs) none

pub returns-in-len1-up-clause-parts : goal.returns-in-len1-up-clause-parts
returns-in-len1-up-clause-parts c =
    let first : slice_split (λ b. b == 44) c.args.text.now ≡ c.split_at.result.0.now ∷ parts_after 44 c.split_at.result.1.now =
    rw (c.split_at.ensures.front, c.split_at.ensures.back, c.index_of-at.ensures.first) (parts_first 44 c.args.text.now) in
    first ∙ ap (λ ps. c.split_at.result.0.now ∷ ps) (parts_behind 44 c.split_at.result.1.now c.in-len1-up.len_at_least)
