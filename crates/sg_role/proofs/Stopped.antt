-- Where the look at a frame stops: at the first row that holds, with what is noted up to it, or at none.
use Rattle.std.proofs.Common.{◌≡◌, ◌≢◌, ℕ, nat_lt, true, false, List, ◌++◌, length, map, Option, None, Result, Err, sym, ap, subst, ◌∙◌}
use Rattle.sg_model.proofs.Small.{contradicts}
use Rattle.sg_model.specs.Lists.{first_some}
use Rattle.sg_model.specs.Values.{Opening}
use Rattle.sg_protocol.specs.Frame.{Frame, Item}
use Rattle.sg_protocol.specs.Graph.{Graph}
use Rattle.sg_protocol.specs.Keyring.{Keyring, Program}
use Rattle.sg_protocol.specs.Notes.{Notes, row_number}
use Rattle.sg_protocol.specs.Representation.{Held}
use Rattle.sg_protocol.specs.Texts.{real, commitment_text_of}
use Rattle.sg_protocol.specs.Verdict.{bad_time, has_frame_tag}
use Rattle.sg_role.specs.declared.fault.Refusal.{Refusal as RefusalFault}
use Rattle.sg_role.specs.declared.fault.Refusal.TheVariants as refusal_fault
use Rattle.sg_role.specs.Faults.{Refuses}
use Rattle.sg_role.specs.Looking.{bare, evidence_row, found_items, hashed_from, is_seen, opening_row, overwritten_by, rows_from}
use Rattle.sg_role.proofs.Noted.{NotedAt, at_item, at_opening, at_tag, at_time, at_view, by_number, item_row, no_row, noted_accepted, noted_items, noted_none, noted_opening, noted_time, noted_view, open_row, sender_there, tag_row, tagged, time_row, view_row, viewed, with_frame, with_items, with_openings}

-- a refusal that is no want of memory
pub not_memory : {A : Type 0} (result : Result A RefusalFault) (e : RefusalFault) → result ≡ Err e → result ≢ Err refusal_fault.OutOfMemory → e ≢ refusal_fault.OutOfMemory
not_memory result e is n = λ q. n (is ∙ ap (λ e. Err e) q)

-- a sender that is no role of the cast is refused by the frame's tag
pub has_sender : (keys : Keyring) (p : Program) (h : Held) (f : Frame) → has_frame_tag real keys (bare h) f ≡ true → nat_lt f.sender (length h.cast.names) ≡ false → ⊥
has_sender keys p h f right stranger = contradicts (sender_there keys p h f right) stranger

module _ (keys : Keyring) (p : Program) (h : Held) (f : Frame) (old one : Notes) where
  -- noted is what the definition notes up to its row
  abbrev IsNoted : Notes → Type 0
  IsNoted new = NotedAt keys p h f (row_number (first_some (rows_from keys p h f))) old new

  pub stops_at_tag : (e : RefusalFault) → e ≢ refusal_fault.OutOfMemory → Refuses (tag_row keys p h f) e → one ≡ old → IsNoted one
  stops_at_tag e n wrong same = by_number keys p h f 11 old one (at_tag keys p h f e n wrong) (noted_none keys p h f old one same)

  -- the tag is right, and the frame's text was noted
  module _ (right : has_frame_tag real keys (bare h) f ≡ true) (noted : one ≡ with_frame keys p h f old) where
    pub stops_at_view : (e : RefusalFault) → e ≢ refusal_fault.OutOfMemory → Refuses (view_row keys p h f) e → IsNoted one
    stops_at_view e n wrong = by_number keys p h f 12 old one (at_view keys p h f e n (tagged keys p h f right) wrong) (noted_view keys p h f old one noted)

    -- it shows a view
    module _ (seen : is_seen p h.kept.origin f ≡ true) (items : List Item) (shown : items ≡ f.items) where
      pub stops_at_time : (e : RefusalFault) → e ≢ refusal_fault.OutOfMemory → Refuses (bad_time 1 h.kept.own_time items) e → IsNoted one
      stops_at_time e n wrong = by_number keys p h f 13 old one
          (at_time keys p h f e n (tagged keys p h f right) (viewed keys p h f seen) (subst (λ (is : List Item). Refuses (bad_time 1 h.kept.own_time is) e) shown wrong))
          (noted_time keys p h f old one noted)

      -- in time
      module _ (in_time : bad_time 1 h.kept.own_time items ≡ None) (two : Notes) where
        times : time_row keys p h f ≡ None
        times = ap (bad_time 1 h.kept.own_time) (sym shown) ∙ in_time

        -- the items' texts were noted
        abbrev AreItemsNoted : Type 0
        AreItemsNoted = two ≡ record one { found = one.found ++ found_items keys h items }

        with_theirs : AreItemsNoted → two ≡ with_items keys p h f one
        with_theirs e = e ∙ ap (λ (is : List Item). record one { found = one.found ++ found_items keys h is }) shown

        pub stops_at_items : (e : RefusalFault) → e ≢ refusal_fault.OutOfMemory → Refuses (evidence_row keys h items) e → AreItemsNoted → IsNoted two
        stops_at_items e n wrong theirs = by_number keys p h f 14 old two
            (at_item keys p h f e n (tagged keys p h f right) (viewed keys p h f seen) times (subst (λ (is : List Item). Refuses (evidence_row keys h is) e) shown wrong))
            (noted_items keys p h f old one two noted (with_theirs theirs))

        -- with right tags
        module _ (proved : evidence_row keys h items ≡ None) (theirs : AreItemsNoted) (g : Graph) (its : g ≡ p.graph) (commitments : List (Option (List ℕ))) (after : commitments ≡ overwritten_by h.kept.commitments items)
            (openings : List Opening) (opened : openings ≡ f.openings) where
          evidence : item_row keys p h f ≡ None
          evidence = ap (evidence_row keys h) (sym shown) ∙ proved

          current : commitments ≡ overwritten_by h.kept.commitments f.items
          current = after ∙ ap (overwritten_by h.kept.commitments) shown

          opening : opening_row g h.sid commitments openings ≡ open_row keys p h f
          opening = λ i. opening_row (its i) h.sid (current i) (opened i)

          -- the openings' texts were noted
          abbrev AreOpeningsNoted : Notes → Type 0
          AreOpeningsNoted three = three ≡ record two { hashed = two.hashed ++ map (commitment_text_of h.sid) (hashed_from g h.sid commitments openings) }

          with_hashed : (three : Notes) → AreOpeningsNoted three → three ≡ with_openings keys p h f two
          with_hashed three e = e ∙ (λ i. record two { hashed = two.hashed ++ map (commitment_text_of h.sid) (hashed_from (its i) h.sid (current i) (opened i)) })

          pub stops_at_openings : (three : Notes) (e : RefusalFault) → e ≢ refusal_fault.OutOfMemory → Refuses (opening_row g h.sid commitments openings) e → AreOpeningsNoted three → IsNoted three
          stops_at_openings three e n wrong hashed = by_number keys p h f 15 old three
              (at_opening keys p h f e n (tagged keys p h f right) (viewed keys p h f seen) times evidence (subst (λ o. Refuses o e) opening wrong))
              (noted_opening keys p h f old one two three noted (with_theirs theirs) (with_hashed three hashed))

          -- no row holds
          pub stops_nowhere : opening_row g h.sid commitments openings ≡ None → first_some (rows_from keys p h f) ≡ None
          stops_nowhere opens = no_row keys p h f (tagged keys p h f right) (viewed keys p h f seen) times evidence (sym opening ∙ opens)

          pub all_noted : (three : Notes) → opening_row g h.sid commitments openings ≡ None → AreOpeningsNoted three → IsNoted three
          all_noted three opens hashed = by_number keys p h f 16 old three (ap row_number (stops_nowhere opens)) (noted_accepted keys p h f old one two three noted (with_theirs theirs) (with_hashed three hashed))
