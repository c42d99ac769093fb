-- Claims that are decided on a graph, file after file and claim after claim.
use Rattle.std.proofs.Common.{◌≡◌, ℕ, ◌+◌, ◌<◌, Bool, ◌&&◌, List, [], ◌∷◌, ◌++◌, take, get_or, is_none, length, sym, ap, ◌∙◌, subst}
use Rattle.std.proofs.lemmas.List.{take_more}
use Rattle.sg_base.specs.Outside.{FileFaults}
use Rattle.sg_claims.specs.Answers.{IsAnswer}
use Rattle.sg_claims.specs.declared.claim.NamedClaim.{NamedClaim}
use Rattle.sg_claims.specs.declared.decision.Answer.{Answer}
use Rattle.sg_claims.specs.declared.decision.Answer.TheVariants.{Holds as HoldsOfAll, Fails}
use Rattle.sg_protocol.specs.Graph.{Graph, shape}
use Rattle.sg_ending.specs.Ending.{Ending}
use Rattle.sg_ending.specs.Files.{KnownFiles}
use Rattle.sg_ending.specs.Output.{Output}
use Rattle.sg_design.specs.Claimed.{AreAnswered, IsAgainst, OneMore, OnClaims, answer_line, walk_in}

-- the claims are read after the graph, which changed nothing of what the files hold
pub on_later : (g : Graph) (claims : List ℕ) (known known' : KnownFiles) (f0 f1 f2 : FileFaults) (old new : Output) (e : Ending) → known' ≡ known → f1 ≡ f0
    → OnClaims g claims known' f1 f2 old new e → OnClaims g claims known f0 f2 old new e
on_later g claims known known' f0 f1 f2 old new e same none h = subst (λ f. OnClaims g claims known f f2 old new e) none (subst (λ t. OnClaims g claims t f1 f2 old new e) same h)

-- what there is against a claim is what its answer says
against : (g : Graph) (c : NamedClaim) (a : Answer) → IsAnswer (shape g) c.claim a → IsAgainst g c (walk_in a)
against g c HoldsOfAll h = h
against g c (Fails walk) h = h

-- one more of the claims is answered
pub one_more : (g : Graph) (xs : List NamedClaim) (i : ℕ) (x : NamedClaim) (a : Answer) (old new : List ℕ) (all holds : Bool) → i < length xs → x ≡ get_or xs i x → AreAnswered g (take i xs) old all → IsAnswer (shape g) x.claim a
    → new ≡ old ++ answer_line g x (walk_in a) → holds ≡ is_none (walk_in a) → AreAnswered g (take (i + 1) xs) new (all && holds)
one_more g xs i x a old new all holds l at answered right said is =
    let more : take (i + 1) xs ≡ take i xs ++ x ∷ [] = take_more xs i x l ∙ ap (λ y. take i xs ++ y ∷ []) (sym at) in
    let one : AreAnswered g (take i xs ++ x ∷ []) (old ++ answer_line g x (walk_in a)) (all && is_none (walk_in a)) = OneMore x (walk_in a) answered (against g x a right) in
    subst (λ b. AreAnswered g (take (i + 1) xs) new (all && b)) (sym is)
    (subst (λ t. AreAnswered g (take (i + 1) xs) t (all && is_none (walk_in a))) (sym said)
    (subst (λ cs. AreAnswered g cs (old ++ answer_line g x (walk_in a)) (all && is_none (walk_in a))) (sym more) one))
