use Rattle.std.proofs.Common.{◌≡◌, ◌≤◌, ◌<◌, ◌+◌, ◌-◌, ◌==◌, true, ◌∙◌, ap, sym, subst, arith, drop, take, length, Some, None, List, ℕ}
use Rattle.std.proofs.lemmas.Grind.{common_steps}
use Rattle.std.proofs.lemmas.List.{take_all}
use Rattle.sg_sched.specs.Format.CraftReading.{split_last}
use Rattle.sg_sched.proofs.RunLaws.{last_is}
use Rattle.sg_sched.proofs.craft_form.split_last.Goals as goal

cut_all : (n : ℕ) (w : List ℕ) → drop n w ≡ take (length w - n) (drop n w)
cut_all n w = let short : length (drop n w) ≤ length w - n = grind (arith, common_steps) in sym (take_all (length w - n) (drop n w) short)

here : {a b : ℕ} → a ≡ b → (a == b) ≡ true
here {a} {b} e = grind (arith, common_steps)

pub returns-then-word-at : goal.returns-then-word-at
returns-then-word-at c =
    let w = c.args.word.now in
    let same : c.bytes.at ≡ c.bytes.at - 1 + 1 = omega (arith, c.bytes-test.true) in
    let below : c.bytes.at - 1 < length w = omega (arith, c.bytes-test.true, c.bytes.invariant.1) in
    let none : split_last c.args.mark (drop (c.bytes.at - 1 + 1) w) ≡ None = subst (λ k. split_last c.args.mark (drop k w) ≡ None) same c.bytes.invariant.0 in
    last_is c.args.mark (c.bytes.at - 1) w below none (here c.if-word-at.true) ∙ ap (λ (b : List ℕ). Some (take (c.bytes.at - 1) w, b)) (cut_all (c.bytes.at - 1 + 1) w)
