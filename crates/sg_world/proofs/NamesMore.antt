-- The names of sessions, as they are declared and met.
use Rattle.std.proofs.Common.{◌≡◌, ℕ, ◌+◌, ◌<◌, true, false, ◌||◌, List, [], ◌∷◌, ◌++◌, map, length, take, drop, take-append-drop, get_or, bytes_eq, Option, Some, None, refl, sym, ◌∙◌, ap, append_assoc}
use Rattle.std.specs.Prelude.{filter_map}
use Rattle.std.specs.List.{cons_option}
use Rattle.std.specs.Option.{option_to_list}
use Rattle.std.proofs.lemmas.Bool.{or_right}
use Rattle.std.proofs.lemmas.List.Folds.{list_any-append}
use Rattle.std.proofs.lemmas.List.{get_or-map, map-append, take_more}
use Rattle.std.proofs.lemmas.List.Elements.{filter_map-append}
use Rattle.sg_text.specs.Sessions.{KnownSessions, with_declared}
use Rattle.sg_model.specs.Lists.{has_text}
use Rattle.sg_protocol.specs.Schedule.{NamedSession}
use Rattle.sg_protocol.specs.Texts.{real, session_id}
use Rattle.sg_world.specs.RecordModel.{TakenStep}
use Rattle.sg_world.specs.Account.{declared_in}
use Rattle.sg_world.specs.KeptLines.{known_in, sid_kept}

-- one more session is declared
pub declared_next : (ss : List NamedSession) (i : ℕ) (d : NamedSession) → i < length ss → d ≡ get_or ss i d → with_declared (known_in (take i ss) []) d.name (session_id real d.cast) ≡ known_in (take (i + 1) ss) []
declared_next ss i d l at =
    let more : take (i + 1) ss ≡ take i ss ++ d ∷ [] = take_more ss i d l ∙ ap (λ y. take i ss ++ y ∷ []) (sym at) in
    ap (λ (z : List (List ℕ × List ℕ)). let m : KnownSessions = record { declared = z; events = [] } in m) (sym (ap declared_in more ∙ map-append (λ (d : NamedSession). (d.name, session_id real d.cast)) (take i ss) (d ∷ [])))

pub declared_step : (ss : List NamedSession) (sids : List (List ℕ)) (i : ℕ) (d : NamedSession) (sid : List ℕ) → sids ≡ map (λ (d : NamedSession). session_id real d.cast) ss → i < length ss → d ≡ get_or ss i d → sid ≡ get_or sids i sid
    → with_declared (known_in (take i ss) []) d.name sid ≡ known_in (take (i + 1) ss) []
declared_step ss sids i d sid are l at sid_at =
    let is : sid ≡ session_id real d.cast = sid_at ∙ ap (λ (z : List (List ℕ)). get_or z i sid) are ∙ get_or-map (λ (d : NamedSession). session_id real d.cast) ss i d sid l ∙ ap (λ (d : NamedSession). session_id real d.cast) (sym at) in
    ap (with_declared (known_in (take i ss) []) d.name) is ∙ declared_next ss i d l at

abbrev pub known_with : KnownSessions → List (List ℕ) → KnownSessions
known_with m sids = record m { events = m.events ++ sids }

one : (o : Option (List ℕ)) → cons_option o [] ≡ option_to_list o
one None = refl
one (Some sid) = refl

-- the sids of one more step
pub sids_next : (es : List TakenStep) (i : ℕ) (e : TakenStep) → i < length es → e ≡ get_or es i e → filter_map sid_kept (take (i + 1) es) ≡ filter_map sid_kept (take i es) ++ option_to_list (sid_kept e)
sids_next es i e l at =
    let more : take (i + 1) es ≡ take i es ++ e ∷ [] = take_more es i e l ∙ ap (λ y. take i es ++ y ∷ []) (sym at) in
    ap (filter_map sid_kept) more ∙ filter_map-append sid_kept (take i es) (e ∷ []) ∙ ap (λ z. filter_map sid_kept (take i es) ++ z) (one (sid_kept e))

-- one more step
pub event_next : (m : KnownSessions) (es : List TakenStep) (i : ℕ) (e : TakenStep) → i < length es → e ≡ get_or es i e → known_with (known_with m (filter_map sid_kept (take i es))) (option_to_list (sid_kept e)) ≡ known_with m (filter_map sid_kept (take (i + 1) es))
event_next m es i e l at =
    ap (λ (z : List (List ℕ)). let n : KnownSessions = record { declared = m.declared; events = z } in n)
    (append_assoc m.events (filter_map sid_kept (take i es)) (option_to_list (sid_kept e)) ∙ ap (λ z. m.events ++ z) (sym (sids_next es i e l at)))

-- a sid that is not met so far is not met with a step of another session
pub no_event : (sid : List ℕ) (es : List TakenStep) (i : ℕ) (e : TakenStep) → i < length es → e ≡ get_or es i e → has_text sid (filter_map sid_kept (take i es)) ≡ false → has_text sid (option_to_list (sid_kept e)) ≡ false
    → has_text sid (filter_map sid_kept (take (i + 1) es)) ≡ false
no_event sid es i e l at before here =
    ap (has_text sid) (sids_next es i e l at) ∙ list_any-append (bytes_eq sid) (filter_map sid_kept (take i es)) (option_to_list (sid_kept e))
    ∙ (λ j. before j || here j)

-- and is met with one of this session
pub had_event : (sid : List ℕ) (es : List TakenStep) (i : ℕ) (e : TakenStep) → i < length es → e ≡ get_or es i e → has_text sid (option_to_list (sid_kept e)) ≡ true → has_text sid (filter_map sid_kept es) ≡ true
had_event sid es i e l at here =
    let so_far : has_text sid (filter_map sid_kept (take (i + 1) es)) ≡ true =
    ap (has_text sid) (sids_next es i e l at) ∙ list_any-append (bytes_eq sid) (filter_map sid_kept (take i es)) (option_to_list (sid_kept e))
    ∙ or_right (has_text sid (filter_map sid_kept (take i es))) (has_text sid (option_to_list (sid_kept e))) here in
    ap (λ z. has_text sid (filter_map sid_kept z)) (sym (take-append-drop (i + 1) es)) ∙ ap (has_text sid) (filter_map-append sid_kept (take (i + 1) es) (drop (i + 1) es))
    ∙ list_any-append (bytes_eq sid) (filter_map sid_kept (take (i + 1) es)) (filter_map sid_kept (drop (i + 1) es)) ∙ ap (λ b. b || has_text sid (filter_map sid_kept (drop (i + 1) es))) so_far
