use Rattle.std.proofs.Common.{append_assoc, append-nil}
use Rattle.sg_frame.proofs.writing.encode.Goals as goal

pub returns : goal.returns
returns c =
    rw (
      c.done.ensures,
      c.in_ok-put_tag.ensures,
      c.in_ok-put_openings.ensures,
      c.as_slice-2.ensures,
      c.in_ok-u8.ensures.ok,
      c.len-2.ensures,
      c.in_ok-put_items.ensures,
      c.as_slice.ensures,
      c.in_ok-u16.ensures.ok,
      c.len.ensures,
      c.in_ok-put_join.ensures,
      c.in_ok-put_head.ensures,
      c.in_ok-out.ensures,
      ← c.frame.view_is,
    ) (simp (append_assoc, append-nil))
