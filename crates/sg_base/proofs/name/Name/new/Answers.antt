use Rattle.std.proofs.Common.{◌≡◌, true, sym, ◌∙◌, arith, rules}
use Rattle.std.proofs.lemmas.Grind.{common_steps}
use Rattle.std.proofs.lemmas.List.{drop-replicate}
use Rattle.std.proofs.Math.Seq.{drop-append_seam, take-append_seam}
use Rattle.sg_model.specs.Names.{is_name}
use Rattle.sg_base.proofs.name.Name.new.Goals as goal

pub invariant_of-result : goal.invariant_of-result
invariant_of-result c =
    let named : is_name c.args.bytes.now ≡ true = sym c.spells_name.ensures ∙ c.if-not-spells_name.false in
    record {
      fits = search rules;
      whole = rw c.put_prefix.ensures (grind (arith, common_steps));
      zeros = rw (c.put_prefix.ensures, drop-replicate, drop-append_seam);
      name = rw (c.put_prefix.ensures, take-append_seam) (search rules);
    }
