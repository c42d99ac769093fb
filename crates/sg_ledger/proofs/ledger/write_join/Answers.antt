use Rattle.std.proofs.Common.{◌≡◌, ◌+◌, ◌*◌, [], ◌∷◌, ◌++◌, List, ℕ, length, inl, inr, sym, ◌∙◌, ap, subst}
use Rattle.indexmap.proofs.MapLemmas.{OnOk-map}
use Rattle.sg_ledger.specs.Disk.{overlaid, Torn}
use Rattle.sg_ledger.specs.Format.{Represents, RepresentsOneOf}
use Rattle.sg_ledger.proofs.Moments.{weakened, chained}
use Rattle.sg_ledger.proofs.Tears.{pair_torn, gate_torn, gate_open}
use Rattle.sg_ledger.proofs.ledger.write_join.Goals as goal

-- the pair's write is one behind the gate that follows the joins
behind_joins : (joins count : ℕ) (sid bytes : List ℕ) (role : ℕ) (old new : List ℕ) → count ≡ joins → bytes ≡ sid ++ role ∷ []
    → Torn (8 + 34 * count + 1) (length bytes) old new → Torn (8 + 34 * joins + 1) (length (sid ++ role ∷ [])) old new
behind_joins joins count sid bytes role old new is are torn =
    subst (λ (n : ℕ). Torn (8 + 34 * n + 1) (length (sid ++ role ∷ [])) old new) is (subst (λ (l : List ℕ). Torn (8 + 34 * count + 1) (length l) old new) are torn)

-- what it leaves once it is done
staged_as : (joins count : ℕ) (sid bytes : List ℕ) (role : ℕ) (old : List ℕ) → count ≡ joins → bytes ≡ sid ++ role ∷ []
    → overlaid old (8 + 34 * count + 1) bytes ≡ overlaid old (8 + 34 * joins + 1) (sid ++ role ∷ [])
staged_as joins count sid bytes role old is are = λ i. overlaid old (8 + 34 * is i + 1) (are i)

pub returns-in_err-write_through-clause-any_moment : goal.returns-in_err-write_through-clause-any_moment
returns-in_err-write_through-clause-any_moment g c =
    let joins = c.args.joins.now.keys in
    weakened g.D.Disk.moment g.D.Disk.left_since c.args.disk.now c.write_through.new.disk _ (RepresentsOneOf joins c.args.join)
    c.write_through.ensures.any_moment
    (λ image from. inl (pair_torn joins c.requires.room c.args.join.0 c.args.join.1 c.pair_bytes.ensures.sid from.0 image (c.requires.represents from.0 from.1)
    (behind_joins _ _ c.args.join.0 c.pair_bytes.result c.args.join.1 from.0 image c.len.ensures.len c.pair_bytes.ensures.bytes from.2)))

pub returns-clause-acknowledged : goal.returns-clause-acknowledged
returns-clause-acknowledged g c =
    let joins = c.args.joins.now.keys in
    OnOk-map c.write_through-2.result _ _
    (λ durable image left.
    let last = durable image left in
    let old = c.in_ok-write_through.ensures.durable last.0 (g.met.D.Disk.read_is_image c.write_through.new.disk last.0 last.1) in
    let staged = old.2 ∙ staged_as _ _ c.args.join.0 c.pair_bytes.result c.args.join.1 old.0 c.len.ensures.len c.pair_bytes.ensures.bytes in
    let is = last.2 ∙ (λ i. overlaid (staged i) (8 + 34 * c.len.ensures.len i) (1 ∷ [])) in
    subst (λ (f : List ℕ). Represents f (joins ++ c.args.join ∷ [])) (sym is)
    (gate_open joins c.requires.room c.args.join.0 c.args.join.1 c.pair_bytes.ensures.sid c.requires.role c.requires.absent
    old.0 (c.requires.represents old.0 (g.met.D.Disk.read_is_image c.args.disk.now old.0 old.1))))
    c.write_through-2.ensures.durable

pub returns-clause-any_moment : goal.returns-clause-any_moment
returns-clause-any_moment g c =
    let joins = c.args.joins.now.keys in
    chained g.D.Disk.moment g.D.Disk.left_since c.args.disk.now c.write_through.new.disk c.write_through-2.new.disk _ _ (RepresentsOneOf joins c.args.join)
    c.write_through.ensures.any_moment c.write_through-2.ensures.any_moment
    (λ image from. inl (pair_torn joins c.requires.room c.args.join.0 c.args.join.1 c.pair_bytes.ensures.sid from.0 image (c.requires.represents from.0 from.1)
    (behind_joins _ _ c.args.join.0 c.pair_bytes.result c.args.join.1 from.0 image c.len.ensures.len c.pair_bytes.ensures.bytes from.2)))
    (λ image from.
    let old = c.in_ok-write_through.ensures.durable from.0 from.1 in
    let staged = old.2 ∙ staged_as _ _ c.args.join.0 c.pair_bytes.result c.args.join.1 old.0 c.len.ensures.len c.pair_bytes.ensures.bytes in
    gate_torn joins c.requires.room c.args.join.0 c.args.join.1 c.pair_bytes.ensures.sid c.requires.role c.requires.absent
    old.0 (c.requires.represents old.0 (g.met.D.Disk.read_is_image c.args.disk.now old.0 old.1)) image
    (subst (λ (n : ℕ). Torn (8 + 34 * n) 1 (overlaid old.0 (8 + 34 * length joins + 1) (c.args.join.0 ++ c.args.join.1 ∷ [])) image) c.len.ensures.len
    (subst (λ (f : List ℕ). Torn (8 + 34 * c.len.result) 1 f image) staged from.2)))
