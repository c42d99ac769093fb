use Rattle.sg_serve.proofs.reply.Reply.give.Goals as goal

pub returns-clause-is_out : goal.returns-clause-is_out
returns-clause-is_out g c = record {
  took = c.send-took.result;
  quiet = c.send-took.ensures.quiet;
  falls = c.send-took.ensures.falls;
  risen = c.send-took.ensures.risen;
  coming = c.send-took.ensures.coming;
  frames = c.send-took.ensures.frames;
  whole = c.write.ensures.whole;
  prefix = c.write.ensures.prefix;
}
