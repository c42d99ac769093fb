-- What is known of each entry of a run, and of the nodes on the way and in the end.
use Rattle.std.specs.Prelude.{◌≡◌, ℕ, ◌+◌, ◌⊎◌, true, List, [], ◌∷◌, ◌++◌, map, flat_map, bytes_eq, refl, Option, Some, None, option_and_then}
use Rattle.std.specs.List.{AllByRecursion}
use Rattle.std.proofs.Common.{sym, ◌∙◌, ap, subst, inl, inr, arith}
use Rattle.sg_model.specs.Names.{Name}
use Rattle.sg_model.proofs.Small.{same_bytes, all-parts}
use Rattle.sg_model.proofs.Members.{In, in_right, in_parts, in_flat, in_last}
use Rattle.sg_model.proofs.Finding.{find_passes, found_in}
use Rattle.sg_protocol.specs.Texts.{Hash, IsHash, graph_text_of}
use Rattle.sg_protocol.specs.Calls.{Call}
use Rattle.sg_protocol.specs.Node.{Node}
use Rattle.sg_protocol.specs.NodeAfter.{node_after}
use Rattle.sg_protocol.specs.Acting.{answer}
use Rattle.sg_protocol.specs.Notes.{notes}
use Rattle.sg_protocol.specs.Past.{Past, new_node, node_of, past_after}
use Rattle.sg_protocol.specs.Schedule.{Schedule, is_honest}
use Rattle.sg_protocol.specs.World.{World, Logged, Outcome, Answered, past_of}
use Rattle.sg_protocol.specs.Run.{called, uncalled, events_of_outcome, frame_in}
use Rattle.sg_protocol.proofs.Progressing.{Suffix, in_after, node_next}
use Rattle.sg_protocol.proofs.OneWalk.{node_begins}
use Rattle.sg_protocol.proofs.KnownNodes.{KnownNode, Hashed, node_known}
use Rattle.sg_protocol.proofs.Happenings.{Happening, IsCourse, IsGiven, IsRight, keep_course, keep_prefix, key_at, key_called, pasts_kept, run_of}
use Rattle.sg_protocol.proofs.First.{keys_after}
use Rattle.sg_protocol.specs.Keyring.{key_of}
use Rattle.sg_protocol.specs.Notes.{no_notes}

module _ (sha : Hash) (hash : IsHash sha) (s : Schedule) (ps : List Past) (course : List Happening) (is_course : IsCourse sha s ps course) where
  abbrev wf : World
  wf = run_of sha ps course

  -- the node that answered the call of an entry
  pub record Origin (l : Logged) : Type 0 where
    pub who : Name
    pub n : Node
    pub c : Call
    pub is_who : l.who ≡ Some who
    pub is_call : l.call ≡ Some c
    pub is_outcome : l.outcome ≡ Answered (answer sha n c)
    pub is_frame : l.frame ≡ frame_in (answer sha n c)
    pub is_notes : l.notes ≡ notes sha n c
    pub known : KnownNode sha hash s wf who n
    pub honest : is_honest s who ≡ true
    pub held : (other : Name) → key_of n.keys other ≡ key_at (record { pasts = ps; log = [] }) who other
    pub in_range : IsGiven c
    pub hashes : (t : List ℕ) → In (notes sha n c).hashed t → Hashed sha hash s wf t

  -- an entry without a call
  pub record Silent (l : Logged) : Type 0 where
    pub call : l.call ≡ None
    pub events : events_of_outcome l.outcome ≡ []
    pub notes : l.notes ≡ no_notes

  -- a principal on the way
  pub record At (who : Name) (p : Past) : Type 0 where
    pub known : KnownNode sha hash s wf who (node_of p)
    pub keys : (node_of p).keys ≡ p.keys
    pub honest : is_honest s who ≡ true

  pub record LogsKnown (w : World) : Type 0 where
    pub logs : (l : Logged) → In w.log l → Silent l ⊎ Origin l
    pub nodes : (who : Name) (p : Past) → past_of w who ≡ Some p → At who p
    pub keys : (a b : Name) → key_at w a b ≡ key_at (record { pasts = ps; log = [] }) a b

  module _ (w : World) (k : ℕ) (q : LogsKnown w) (who : Name) (past : Past) (its_past : past_of w who ≡ Some past) (c : Call) (good : IsGiven c) (after : Suffix (k + 1) (called sha w k who c past).log wf.log) where
    abbrev entry_ : Logged
    entry_ = record { number = k; who = Some who; call = Some c; outcome = Answered (answer sha (node_of past) c); frame = frame_in (answer sha (node_of past) c); notes = notes sha (node_of past) c }

    at : At who past
    at = q.nodes who past its_past

    hs : (t : List ℕ) → In (notes sha (node_of past) c).hashed t → Hashed sha hash s wf t
    hs t i = in_right (map graph_text_of s.graphs) (flat_map (λ (l : Logged). l.notes.hashed) wf.log) t (in_flat (λ (l : Logged). l.notes.hashed) wf.log entry_ t (in_after (k + 1) (called sha w k who c past).log wf.log after entry_ (in_last w.log entry_)) i)

    origin : Origin entry_
    origin = record {
      who = who;
      n = node_of past;
      c = c;
      is_who = refl;
      is_call = refl;
      is_outcome = refl;
      is_frame = refl;
      is_notes = refl;
      known = at.known;
      honest = at.honest;
      held = λ other. ap (λ z. key_of z other) at.keys ∙ sym (ap (option_and_then (λ (p : Past). key_of p.keys other)) its_past) ∙ q.keys who other;
      in_range = good;
      hashes = hs;
    }

    logs_called : LogsKnown (called sha w k who c past)
    logs_called = record {
      logs = λ l i. elim (in_parts w.log (entry_ ∷ []) l i) [
        | inl a ↦ q.logs l a
        | inr a ↦ elim a [ inl b ↦ inr (subst Origin (sym b) origin) | inr b ↦ absurd b ]
      ];
      nodes = pasts_kept sha w k who past its_past c At own (λ me y ne e. q.nodes me y e);
      keys = λ a b. key_called sha w k who c past a b ∙ q.keys a b;
    }
      where
        node_is : node_of (past_after sha past c) ≡ node_after (node_of past) c (answer sha (node_of past) c)
        node_is = node_next sha past c

        own : At who (past_after sha past c)
        own = record {
          known = subst (KnownNode sha hash s wf who) (sym node_is) (node_known sha hash s wf who (node_of past) at.known c good hs);
          keys = ap (λ (m : Node). m.keys) node_is ∙ keys_after (node_of past) c (answer sha (node_of past) c) ∙ at.keys;
          honest = at.honest;
        }

  logs_idle : (w : World) (k : ℕ) → LogsKnown w → (who : Option Name) (o : Outcome) (fr : Option (List ℕ)) → events_of_outcome o ≡ [] → LogsKnown (uncalled w k who o fr)
  logs_idle w k q who o fr none = record {
    logs = λ l i. elim (in_parts w.log _ l i) [
      | inl a ↦ q.logs l a
      | inr a ↦ elim a [
        | inl b ↦ inl record { call = ap (λ (z : Logged). z.call) b; events = ap (λ (z : Logged). events_of_outcome z.outcome) b ∙ none; notes = ap (λ (z : Logged). z.notes) b }
        | inr b ↦ absurd b
      ]
    ];
    nodes = q.nodes;
    keys = q.keys;
  }

  logs_begun : LogsKnown (record { pasts = ps; log = [] })
  logs_begun = record {
    logs = λ l i. absurd i;
    nodes = λ who p e. at_first who p e (found_in (λ (p : Past). bytes_eq p.keys.me who) ps p e);
    keys = λ a b. refl;
  }
    where
      at_first : (who : Name) (p : Past) → past_of (record { pasts = ps; log = [] }) who ≡ Some p → In ps p → At who p
      at_first who p e i =
          let b : node_of p ≡ new_node p.keys p.programs p.first = node_begins sha hash s ps course is_course p i in
          record {
            known = subst (KnownNode sha hash s wf who) (sym b) (record {
              me = same_bytes p.keys.me who (find_passes (λ (p : Past). bytes_eq p.keys.me who) ps p e);
              programs = is_course.own p i;
              owns = refl;
              fits = tt;
              known = tt;
              inside = tt;
              once = λ free sid. omega arith;
            });
            keys = ap (λ (n : Node). n.keys) b;
            honest = is_course.honest who p e;
          }

  -- on the way
  pub known_before : (hs gs : List Happening) → course ≡ hs ++ gs → LogsKnown (run_of sha ps hs)
  known_before hs gs e = keep_prefix sha wf LogsKnown logs_idle logs_called (record { pasts = ps; log = [] }) 1 logs_begun hs gs (all-parts IsRight hs gs (subst (AllByRecursion IsRight) e is_course.right)).0 (ap (run_of sha ps) (sym e))

  pub logs_known : LogsKnown wf
  logs_known = keep_course sha wf LogsKnown logs_idle logs_called (record { pasts = ps; log = [] }) 1 logs_begun course is_course.right refl
