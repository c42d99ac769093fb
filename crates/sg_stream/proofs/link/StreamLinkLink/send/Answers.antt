use Rattle.sg_stream.proofs.link.StreamLinkLink.send.Goals.{in-Ok, in-Err}
use Rattle.sg_stream.proofs.link.StreamLinkLink.send.Goals as goal

pub returns-clause-prefix : goal.returns-clause-prefix
returns-clause-prefix g c =
    elim c.match-post.branch [
      | in-Ok w ↦ rw w.result-is cc
      | in-Err w ↦ rw (w.result-is, ← c.self.view_is, ← c.bytes.ensures.bytes) (rw w.in-Err.is at c.post.ensures.prefix)
    ]
