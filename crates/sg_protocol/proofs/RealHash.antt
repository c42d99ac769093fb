-- SHA-256 gives 32 bytes.
use Rattle.std.specs.Prelude.{ℕ, zero, suc, List, slice_index}
use Rattle.sha2.specs.Sha256.{digest_bytes, sha256}
use Rattle.sha2.proofs.Facts256.{length-sha256}
use Rattle.sg_protocol.specs.Texts.{IsHash, real}
use Rattle.sg_protocol.proofs.Spelled.{Bytes_, to_bytes, bytes-append, u32_bytes}

digest_small : (h : List ℕ) (n : ℕ) → Bytes_ (digest_bytes h n)
unfolding digest_bytes
digest_small h zero = tt
digest_small h (suc n) = bytes-append (digest_bytes h n) _ (digest_small h n) (u32_bytes (slice_index h n))

sha_small : (m : List ℕ) → Bytes_ (sha256 m)
unfolding sha256
sha_small m = digest_small _ 8

pub real_hash : IsHash real
real_hash text = (length-sha256 text, to_bytes (sha256 text) (sha_small text))
