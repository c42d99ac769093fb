-- A line asks for the request of its words.
use Rattle.std.proofs.Common.{◌∙◌, ap}
use Rattle.sg_request.specs.Request.{form}
use Rattle.sg_request.proofs.Sound.{form_sound}
use Rattle.sg_request.proofs.Complete.{form_complete}
use Rattle.sg_request.proofs.laws.words_ask.Goals as goal

pub returns : goal.returns
returns c = λ line r. ((λ h. let s = form_sound _ r h in record { spelled = s.words; indices = s.indices }), (λ a. ap form a.spelled ∙ form_complete r a.indices))
