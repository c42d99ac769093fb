use Rattle.std.proofs.Common.{◌≡◌, nat_lt, false, length, rules}
use Rattle.std.proofs.lemmas.List.{drop-replicate}
use Rattle.sg_crypt.proofs.hmac.key_block.Goals as goal

pub returns-else-key-gt64 : goal.returns-else-key-gt64
returns-else-key-gt64 c =
    let short : nat_lt 64 (length c.args.key.now) ≡ false = search rules in
    rw (c.put_prefix-else-key-gt64.ensures, short, drop-replicate)
