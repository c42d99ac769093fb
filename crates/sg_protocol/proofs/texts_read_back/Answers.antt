-- The laws of texts, from the lemmas.
use Rattle.sg_protocol.proofs.TextLaws.{one_cast, one_opening, one_item, one_body, one_frame, one_canonical, kinds_differ, versions_differ}
use Rattle.sg_protocol.proofs.GraphText.{one_graph}
use Rattle.sg_protocol.proofs.ItemTexts.{text_to_same}
use Rattle.sg_protocol.proofs.texts_read_back.Goals as goal

pub returns : goal.returns
returns c = record {
  casts = one_cast;
  openings = one_opening;
  items = one_item;
  items_of_sessions = text_to_same;
  bodies = one_body;
  frames = one_frame;
  canonical_texts = one_canonical;
  graphs = one_graph;
  kinds = kinds_differ;
  versions = versions_differ;
}
