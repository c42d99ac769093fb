use Rattle.std.proofs.Common.{◌≡◌, ℕ, suc, ◌<◌, ◌∙◌, ap, sym, subst, List, [], ◌++◌, length, take, drop, get_or, flat_map, arith, append_assoc, append-nil}
use Rattle.sg_protocol.specs.Broken.{first_collision}
use Rattle.sg_protocol.specs.Notes.{Notes}
use Rattle.sg_protocol.specs.Texts.{real}
use Rattle.sg_certify.specs.Collisions.{Keeps}
use Rattle.sg_certify.proofs.CollisionLaws.{keeps_none, hashed_more, hashed_split}
use Rattle.sg_certify.proofs.collision.find_collision.Goals as goal

pub returns-in-Some : goal.returns-in-Some
returns-in-Some c =
    let h = c.in_ok-collision.ensures [] (rw c.new-firsts.ensures keeps_none) in
    let r = rw c.in-Some.is at h in
    sym (r (flat_map (λ (n : Notes). n.hashed) c.args.notes.now))

pub loop-step-init : goal.loop-step-init
loop-step-init c =
    let h = c.in_ok-collision.ensures [] (rw c.new-firsts.ensures keeps_none) in
    let r = rw c.in_default.is at h in
    rw append-nil r

pub returns-in-Some-2 : goal.returns-in-Some-2
returns-in-Some-2 c =
    let i : ℕ = c.loop-step.step-index in
    let lt : i < length c.args.notes.now = omega arith in
    let d : Notes = c.step-item.result in
    let before : List (List ℕ) = c.args.texts.now ++ flat_map (λ (n : Notes). n.hashed) (take i c.args.notes.now) in
    let h = c.in_ok-collision-2.ensures before c.loop-step.invariant in
    let r = rw c.in-Some-2.is at h in
    let q : c.hashed.result.now ≡ (get_or c.args.notes.now i d).hashed = c.hashed.ensures ∙ ap (λ (n : Notes). n.hashed) c.step-item.is in
    sym (r (flat_map (λ (n : Notes). n.hashed) (drop (suc i) c.args.notes.now)))
    ∙ ap (first_collision real) (ap (λ x. (before ++ x) ++ flat_map (λ (n : Notes). n.hashed) (drop (suc i) c.args.notes.now)) q
    ∙ ap (λ x. x ++ flat_map (λ (n : Notes). n.hashed) (drop (suc i) c.args.notes.now)) (append_assoc c.args.texts.now (flat_map (λ (n : Notes). n.hashed) (take i c.args.notes.now)) (get_or c.args.notes.now i d).hashed)
    ∙ append_assoc c.args.texts.now (flat_map (λ (n : Notes). n.hashed) (take i c.args.notes.now) ++ (get_or c.args.notes.now i d).hashed) (flat_map (λ (n : Notes). n.hashed) (drop (suc i) c.args.notes.now))
    ∙ ap (λ x. c.args.texts.now ++ x) (sym (hashed_split c.args.notes.now i d lt)))

pub loop-step-preserved : goal.loop-step-preserved
loop-step-preserved c =
    let i : ℕ = c.loop-step.step-index in
    let lt : i < length c.args.notes.now = omega arith in
    let d : Notes = c.step-item.result in
    let before : List (List ℕ) = c.args.texts.now ++ flat_map (λ (n : Notes). n.hashed) (take i c.args.notes.now) in
    let h = c.in_ok-collision-2.ensures before c.loop-step.invariant in
    let r = rw c.in_default-2.is at h in
    let q : c.hashed.result.now ≡ (get_or c.args.notes.now i d).hashed = c.hashed.ensures ∙ ap (λ (n : Notes). n.hashed) c.step-item.is in
    subst (λ l. Keeps l c.add_all-in-loop-step.new.firsts)
    (ap (λ x. before ++ x) q ∙ append_assoc c.args.texts.now (flat_map (λ (n : Notes). n.hashed) (take i c.args.notes.now)) (get_or c.args.notes.now i d).hashed ∙ ap (λ x. c.args.texts.now ++ x) (sym (hashed_more c.args.notes.now i d lt)))
    r
