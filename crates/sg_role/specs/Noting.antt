-- What is noted of the own item of a step.
use Rattle.std.specs.Prelude.{ℕ, List, ◌++◌, map}
use Rattle.sg_model.specs.Values.{Opening}
use Rattle.sg_protocol.specs.Keyring.{Keyring, Program, targets_of}
use Rattle.sg_protocol.specs.Notes.{Note, Notes, note_of}
use Rattle.sg_protocol.specs.Representation.{Held}
use Rattle.sg_protocol.specs.Session.{principal}
use Rattle.sg_protocol.specs.Texts.{commitment_text_of}
use Rattle.sg_role.specs.Stepping.{own_text, step_commitments}

-- the texts of its tags, for the principals of the targets
abbrev pub item_notes : Keyring → Program → Held → ℕ → List Opening → List Note
item_notes keys p h label written = map (λ t. note_of keys.me (principal h.cast t) (own_text h label (step_commitments p h written) t)) (targets_of p label)

-- the earlier notes with these, and with the commitment texts
abbrev pub with_item : Keyring → Program → Held → ℕ → List Opening → Notes → Notes
with_item keys p h label written old = record {
  made = old.made ++ item_notes keys p h label written;
  found = old.found;
  hashed = old.hashed ++ map (commitment_text_of h.sid) written;
}
