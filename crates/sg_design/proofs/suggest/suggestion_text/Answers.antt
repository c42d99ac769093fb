use Rattle.std.proofs.Common.{◌≡◌, List, ap, sym, subst, ◌∙◌}
use Rattle.sg_claims.specs.declared.claim.NamedClaim.{NamedClaim}
use Rattle.sg_claims_text.specs.Grammar.{SpellsClaims}
use Rattle.sg_claims_text.specs.Written.{written}
use Rattle.sg_claims_text.proofs.Suggested.{suggestion-spells}
use Rattle.sg_design.proofs.suggest.suggestion_text.Goals as goal

pub returns : goal.returns
returns c =
    let g = c.args.graph.now in
    let claims = c.in_ok-claims.claims.items in
    let says : c.in_ok-text.text.items ≡ written g claims = c.in_ok-text.ensures ∙ ap (λ (cs : List NamedClaim). written g cs) c.as_slice.ensures.value in
    record {
      claims = claims;
      suggested = c.in_ok-claims.ensures;
      says = says;
      spelled = subst (λ t. SpellsClaims g t claims) (sym says) (suggestion-spells g claims c.name-name.ensures.graph c.in_ok-claims.ensures);
    }
