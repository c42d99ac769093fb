use Rattle.std.proofs.Common.{◌∙◌, sym}
use Rattle.sg_stream.proofs.CallByCall.{given_frames, fed_is_given, one_framing}
use Rattle.sg_stream.proofs.Messages.{not_bad}
use Rattle.sg_stream.proofs.calls.cutting_does_not_matter.Goals as goal

pub returns-clause-each : goal.returns-clause-each
returns-clause-each c = λ calls left happens. given_frames _ calls left happens

pub returns-clause-whole : goal.returns-clause-whole
returns-clause-whole c = λ calls left happens. fed_is_given _ calls left happens

pub returns-clause-framed : goal.returns-clause-framed
returns-clause-framed c = λ calls left happens none. record {
  each = given_frames _ calls left happens;
  whole = fed_is_given _ calls left happens;
  no_more = none;
}

pub returns-clause-one : goal.returns-clause-one
returns-clause-one c =
    λ bytes frames others rest other one two. one_framing frames others rest other one.each two.each one.no_more two.no_more (sym one.whole ∙ two.whole)

pub returns-clause-bad : goal.returns-clause-bad
returns-clause-bad c = λ bytes len bad message. not_bad bytes len message bad
