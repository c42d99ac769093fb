-- The endings of a command on one file of a run exclude each other.
use Rattle.std.proofs.Common.{◌≡◌, ℕ, inl, inr, false, List, [], ◌∷◌, codes, slice_get, Some, All, refl, sym, ap, ◌∙◌, subst}
use Rattle.sg_audit.specs.Sessions.{Logs}
use Rattle.sg_audit.specs.Spells.{SpellsLogs}
use Rattle.sg_audit.proofs.OneAnswer.{logs_one, fault_one, no_logs}
use Rattle.sg_drive.specs.Faults.{IsFullAt}
use Rattle.sg_drive.specs.Generated.{Generated}
use Rattle.sg_drive.specs.Going.{Going}
use Rattle.sg_drive.specs.Laws.{GeneratedIsOne}
use Rattle.sg_model.specs.Limits.{most_graph_file, most_logs_file, most_schedule_file}
use Rattle.sg_parse.specs.Grammar.{SpellsGraph}
use Rattle.sg_compile.specs.Compiled.{IsWhole}
use Rattle.sg_compile.specs.declared.check.CompileFault.{CompileFault}
use Rattle.sg_compile.specs.declared.check.CompileFault.TheVariants.{OutOfMemory}
use Rattle.sg_compile.proofs.Refusals.{all_or_refused, one_compilation, one_index}
use Rattle.sg_protocol.specs.Graph.{Graph}
use Rattle.sg_protocol.specs.IsSchedule.{AreCompiled}
use Rattle.sg_protocol.specs.Keyring.{Program}
use Rattle.sg_protocol.specs.Schedule.{Schedule}
use Rattle.sg_protocol.specs.Texts.{real}
use Rattle.sg_sched_text.proofs.OneFault.{one_fault, no_schedule}
use Rattle.sg_sched.specs.Format.Spells.{SpellsSchedule}
use Rattle.sg_sched.proofs.FormatOne.{one_schedule}
use Rattle.sg_ending.specs.Ending.{Ending, Written, NoGraph, GraphRefused, WrongLine, WriteFailed, NoMemory, TooLarge}
use Rattle.sg_ending.specs.Graphs.{IsFirstRefused}
use Rattle.sg_ending.specs.Laws.{EndsOnce, asked, is_of_outside}
use Rattle.sg_ending.specs.Output.{Output}
use Rattle.sg_replay.specs.Ends.{Audits, Drives, DrivesTooLong, IsDriving, IsNoLogs, IsNoSchedule, IsReplay, IsTooLong, Replays}
use Rattle.sg_replay.specs.Faults.{ending_of_line, ending_of_logs}
use Rattle.sg_replay.specs.Replayed.{IsOverfull}
use Rattle.sg_ending.proofs.OneEnding.{Cause, CompiledGraph, Refused, Before, Determined, never_both, one_cause, file_once, no_graph, of_graph}

-- ---- logs

abbrev logs_of : List ℕ → Graph → Type 0
logs_of bytes g = (l : Logs) × SpellsLogs bytes l × (l.graph ≡ g)

of_logs : (bytes : List ℕ) → Determined (logs_of bytes) (IsNoLogs bytes)
of_logs bytes = record {
  graph = λ g h s t. sym s.2 ∙ ap (λ (l : Logs). l.graph) (logs_one bytes s.0 t.0 s.1 t.1) ∙ t.2;
  early = λ d e p q. p.2 ∙ ap ending_of_logs (fault_one bytes p.0 q.0 p.1 q.1) ∙ sym q.2;
  apart = λ g e s p. no_logs bytes p.0 s.0 p.1 s.1;
}

audit_cause : (bytes : List ℕ) (a a' : Output) (e : Ending) → Audits bytes a a' e → is_of_outside e ≡ false → Cause (logs_of bytes) (IsNoLogs bytes) (asked e)
audit_cause bytes a a' Written (text, t, w) n = CompiledGraph (t.logs, t.spelled, refl) t.compiled t.few
audit_cause bytes a a' (NoGraph fault) (same, e) n = Before e
audit_cause bytes a a' (GraphRefused g fault) (same, (l, s, of, r)) n = Refused (l, s, of) r
audit_cause bytes a a' (WrongLine line wrong) (same, e) n = Before e
audit_cause bytes a a' WriteFailed (text, t, w) n = CompiledGraph (t.logs, t.spelled, refl) t.compiled t.few
audit_cause bytes a a' NoMemory h n = absurd (cc)
audit_cause bytes a a' (TooLarge what) (same, e) n = Before e
audit_cause bytes a a' _ h n = absurd h.2

pub audit_once : EndsOnce Audits most_logs_file
audit_once =
    file_once Audits most_logs_file (λ bytes a a' b b' x y h k p q. one_cause _ _ (of_logs bytes) (asked x) (asked y) (audit_cause bytes a a' x h p) (audit_cause bytes b b' y k q))

-- ---- schedules

-- what bytes ask for that are a schedule, or none
data ReplayCause (bytes : List ℕ) : Ending → Type 0 where
  Replayed : {text : List ℕ} → IsReplay bytes text → ReplayCause bytes Written
  WrongAt : {e : Ending} → IsNoSchedule bytes e → ReplayCause bytes e
  RefusedIn : {s : Schedule} {g : Graph} {f : CompileFault} → SpellsSchedule real bytes s → IsFirstRefused s.graphs g f → ReplayCause bytes (GraphRefused g OutOfMemory)
  FullIn : IsTooLong bytes → ReplayCause bytes (TooLarge (codes "record"))

-- a schedule isn't compiled and refused
compiled_in : (bytes : List ℕ) (s t : Schedule) (ps : List Program) (g : Graph) (f : CompileFault) → SpellsSchedule real bytes s → SpellsSchedule real bytes t
    → AreCompiled real s.graphs ps → All IsWhole ps → IsFirstRefused t.graphs g f → ⊥
compiled_in bytes s t ps g f a b c w (index, at, stopped) =
    all_or_refused t.graphs ps index f (subst (λ (q : Schedule). AreCompiled real q.graphs ps) (one_schedule real bytes s t a b) c) w stopped

-- nor spelled and wrong
wrong_in : (bytes : List ℕ) (s : Schedule) (e : Ending) → SpellsSchedule real bytes s → IsNoSchedule bytes e → ⊥
wrong_in bytes s e a (line, kind, first, is) = no_schedule real bytes line kind s first a

-- nor replayed to the end and full
full_in : (bytes text : List ℕ) → IsReplay bytes text → IsTooLong bytes → ⊥
full_in bytes text t o =
    let same : t.schedule ≡ o.schedule = one_schedule real bytes t.schedule o.schedule t.spelled o.spelled in
    let programs : t.programs ≡ o.programs =
    one_compilation t.schedule.graphs t.programs o.programs t.compiled (subst (λ (q : Schedule). AreCompiled real q.graphs o.programs) (sym same) o.compiled) in
    let moved : IsOverfull t.programs t.schedule = subst (λ ps. IsOverfull ps t.schedule) (sym programs) (subst (λ (q : Schedule). IsOverfull o.programs q) (sym same) o.overfull) in
    t.reports.room moved.before moved.begins moved.full

at_one_index : (gs : List Graph) (i j : ℕ) (g h : Graph) → slice_get gs i ≡ Some g → slice_get gs j ≡ Some h → i ≡ j → g ≡ h
at_one_index gs i j g h a b e = let both : Some g ≡ Some h = sym a ∙ ap (slice_get gs) e ∙ b in cc

-- one graph is refused
refused_in : (bytes : List ℕ) (s t : Schedule) (g h : Graph) (f k : CompileFault) → SpellsSchedule real bytes s → SpellsSchedule real bytes t → IsFirstRefused s.graphs g f → IsFirstRefused t.graphs h k → g ≡ h
refused_in bytes s t g h f k a b (i, at, stopped) r =
    let (j, there, other) = subst (λ (q : Schedule). IsFirstRefused q.graphs h k) (sym (one_schedule real bytes s t a b)) r in
    at_one_index s.graphs i j g h at there (one_index s.graphs i j f k stopped other)

one_wrong : (bytes : List ℕ) (d e : Ending) → IsNoSchedule bytes d → IsNoSchedule bytes e → d ≡ e
one_wrong bytes d e (n, k, first, is) (m, j, other, has) =
    let same = one_fault bytes n m k j first other in
    is ∙ (λ i. ending_of_line (same.0 i) (same.1 i)) ∙ sym has

one_replay : (bytes : List ℕ) (x y : Ending) → ReplayCause bytes x → ReplayCause bytes y → x ≡ y
one_replay bytes _ _ (Replayed t) (Replayed u) = refl
one_replay bytes _ y (Replayed t) (WrongAt e) = absurd (wrong_in bytes t.schedule y t.spelled e)
one_replay bytes _ _ (Replayed t) (RefusedIn {s} {g} {f} a r) = absurd (compiled_in bytes t.schedule s t.programs g f t.spelled a t.compiled t.few r)
one_replay bytes _ _ (Replayed {text} t) (FullIn o) = absurd (full_in bytes text t o)
one_replay bytes x _ (WrongAt e) (Replayed t) = absurd (wrong_in bytes t.schedule x t.spelled e)
one_replay bytes x y (WrongAt e) (WrongAt f) = one_wrong bytes x y e f
one_replay bytes x _ (WrongAt e) (RefusedIn {s} a r) = absurd (wrong_in bytes s x a e)
one_replay bytes x _ (WrongAt e) (FullIn o) = absurd (wrong_in bytes o.schedule x o.spelled e)
one_replay bytes _ _ (RefusedIn {s} {g} {f} a r) (Replayed t) = absurd (compiled_in bytes t.schedule s t.programs g f t.spelled a t.compiled t.few r)
one_replay bytes _ y (RefusedIn {s} a r) (WrongAt e) = absurd (wrong_in bytes s y a e)
one_replay bytes _ _ (RefusedIn {s} {g} {f} a r) (RefusedIn {s = t} {g = h} {f = k} b q) = ap (λ (p : Graph). GraphRefused p OutOfMemory) (refused_in bytes s t g h f k a b r q)
one_replay bytes _ _ (RefusedIn {s} {g} {f} a r) (FullIn o) = absurd (compiled_in bytes o.schedule s o.programs g f o.spelled a o.compiled o.few r)
one_replay bytes _ _ (FullIn o) (Replayed {text} t) = absurd (full_in bytes text t o)
one_replay bytes _ y (FullIn o) (WrongAt e) = absurd (wrong_in bytes o.schedule y o.spelled e)
one_replay bytes _ _ (FullIn o) (RefusedIn {s} {g} {f} a r) = absurd (compiled_in bytes o.schedule s o.programs g f o.spelled a o.compiled o.few r)
one_replay bytes _ _ (FullIn o) (FullIn p) = refl

replay_cause : (bytes : List ℕ) (a a' : Output) (e : Ending) → Replays bytes a a' e → is_of_outside e ≡ false → ReplayCause bytes (asked e)
replay_cause bytes a a' Written (text, t, w) n = Replayed t
replay_cause bytes a a' (NoGraph fault) (same, e) n = WrongAt e
replay_cause bytes a a' (GraphRefused g fault) (same, (s, spelled, r)) n = RefusedIn spelled r
replay_cause bytes a a' (WrongLine line wrong) (same, e) n = WrongAt e
replay_cause bytes a a' WriteFailed (text, t, w) n = Replayed t
replay_cause bytes a a' NoMemory h n = absurd (cc)
replay_cause bytes a a' (TooLarge what) (same, inl e) n = WrongAt e
replay_cause bytes a a' (TooLarge what) (same, inr (is, o)) n = subst (λ w. ReplayCause bytes (TooLarge w)) (sym is) (FullIn o)
replay_cause bytes a a' _ h n = absurd h.2

pub replay_once : EndsOnce Replays most_schedule_file
replay_once =
    file_once Replays most_schedule_file (λ bytes a a' b b' x y h k p q. one_replay bytes (asked x) (asked y) (replay_cause bytes a a' x h p) (replay_cause bytes b b' y k q))

-- ---- generated runs

-- what bytes ask for that are a graph whose run is generated, or none
data DriveCause (seed sessions : ℕ) (bytes : List ℕ) : Ending → Type 0 where
  Driven : {text : List ℕ} → IsDriving seed sessions bytes text → DriveCause seed sessions bytes Written
  NoneOf : {e : Ending} → no_graph bytes e → DriveCause seed sessions bytes e
  RefusedOf : {g : Graph} {f : CompileFault} → SpellsGraph bytes g → IsFirstRefused (g ∷ []) g f → DriveCause seed sessions bytes (GraphRefused g OutOfMemory)
  FullOf : DrivesTooLong seed sessions bytes → DriveCause seed sessions bytes (TooLarge (codes "record"))

module _ (generated_is_one : GeneratedIsOne) (seed sessions : ℕ) (bytes : List ℕ) where
  one_graph : (g h : Graph) → SpellsGraph bytes g → SpellsGraph bytes h → g ≡ h
  one_graph g h s t = (of_graph bytes).graph g h s t

  none_of : (g : Graph) (e : Ending) → SpellsGraph bytes g → no_graph bytes e → ⊥
  none_of g e s n = (of_graph bytes).apart g e s n

  compiled_of : (g h : Graph) (ps : List Program) (f : CompileFault) → SpellsGraph bytes g → SpellsGraph bytes h → AreCompiled real (g ∷ []) ps → All IsWhole ps → IsFirstRefused (h ∷ []) h f → ⊥
  compiled_of g h ps f s t c w r = never_both (SpellsGraph bytes) (no_graph bytes) (of_graph bytes) g h ps f s t c w r

  full_of : (text : List ℕ) → IsDriving seed sessions bytes text → DrivesTooLong seed sessions bytes → ⊥
  full_of text t o =
      let (size, much) = o.overfull in
      let same : t.graph ≡ o.graph = one_graph t.graph o.graph t.spelled o.spelled in
      let programs : t.programs ≡ o.programs =
      one_compilation (t.graph ∷ []) t.programs o.programs t.compiled (subst (λ (g : Graph). AreCompiled real (g ∷ []) o.programs) (sym same) o.compiled) in
      let generated : Generated seed sessions t.graph t.programs much.going =
      subst (λ ps. Generated seed sessions t.graph ps much.going) (sym programs) (subst (λ (g : Graph). Generated seed sessions g o.programs much.going) (sym same) much.generated) in
      let going : t.sums.going ≡ much.going = generated_is_one seed sessions t.graph t.programs t.sums.going much.going t.sums.generated generated in
      let full : IsFullAt t.sums.going.replay size = subst (λ (x : Going). IsFullAt x.replay size) (sym going) much.full in
      t.sums.room full.before full.begins full.full

  one_drive : (x y : Ending) → DriveCause seed sessions bytes x → DriveCause seed sessions bytes y → x ≡ y
  one_drive _ _ (Driven t) (Driven u) = refl
  one_drive _ y (Driven t) (NoneOf e) = absurd (none_of t.graph y t.spelled e)
  one_drive _ _ (Driven t) (RefusedOf {g} {f} s r) = absurd (compiled_of t.graph g t.programs f t.spelled s t.compiled t.few r)
  one_drive _ _ (Driven {text} t) (FullOf o) = absurd (full_of text t o)
  one_drive x _ (NoneOf e) (Driven t) = absurd (none_of t.graph x t.spelled e)
  one_drive x y (NoneOf e) (NoneOf f) = (of_graph bytes).early x y e f
  one_drive x _ (NoneOf e) (RefusedOf {g} s r) = absurd (none_of g x s e)
  one_drive x _ (NoneOf e) (FullOf o) = absurd (none_of o.graph x o.spelled e)
  one_drive _ _ (RefusedOf {g} {f} s r) (Driven t) = absurd (compiled_of t.graph g t.programs f t.spelled s t.compiled t.few r)
  one_drive _ y (RefusedOf {g} s r) (NoneOf e) = absurd (none_of g y s e)
  one_drive _ _ (RefusedOf {g} s r) (RefusedOf {g = h} t q) = ap (λ (k : Graph). GraphRefused k OutOfMemory) (one_graph g h s t)
  one_drive _ _ (RefusedOf {g} {f} s r) (FullOf o) = absurd (compiled_of o.graph g o.programs f o.spelled s o.compiled o.few r)
  one_drive _ _ (FullOf o) (Driven {text} t) = absurd (full_of text t o)
  one_drive _ y (FullOf o) (NoneOf e) = absurd (none_of o.graph y o.spelled e)
  one_drive _ _ (FullOf o) (RefusedOf {g} {f} s r) = absurd (compiled_of o.graph g o.programs f o.spelled s o.compiled o.few r)
  one_drive _ _ (FullOf o) (FullOf p) = refl

drive_cause : (seed sessions : ℕ) (bytes : List ℕ) (a a' : Output) (e : Ending) → Drives seed sessions bytes a a' e → is_of_outside e ≡ false → DriveCause seed sessions bytes (asked e)
drive_cause seed sessions bytes a a' Written (text, t, w) n = Driven t
drive_cause seed sessions bytes a a' (NoGraph fault) (same, e) n = NoneOf (fault, refl, e)
drive_cause seed sessions bytes a a' (GraphRefused g fault) (same, s, r) n = RefusedOf s r
drive_cause seed sessions bytes a a' WriteFailed (text, t, w) n = Driven t
drive_cause seed sessions bytes a a' NoMemory h n = absurd (cc)
drive_cause seed sessions bytes a a' (TooLarge what) (same, is, o) n = subst (λ w. DriveCause seed sessions bytes (TooLarge w)) (sym is) (FullOf o)
drive_cause seed sessions bytes a a' _ h n = absurd h.2

-- since there is one generated run
pub drive_once : GeneratedIsOne → (seed sessions : ℕ) → EndsOnce (Drives seed sessions) most_graph_file
drive_once one seed sessions =
    file_once (Drives seed sessions) most_graph_file
    (λ bytes a a' b b' x y h k p q. one_drive one seed sessions bytes (asked x) (asked y) (drive_cause seed sessions bytes a a' x h p) (drive_cause seed sessions bytes b b' y k q))
