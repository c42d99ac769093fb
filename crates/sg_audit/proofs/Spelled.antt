-- What bytes spell is what is read of them, and their first fault is the one that is found.
use Rattle.std.proofs.Common.{◌≡◌, ℕ, ◌+◌, ◌⊎◌, inl, inr, true, false, List, [], ◌∷◌, ◌++◌, length, refl, sym, ap, ◌∙◌, subst, arith, append_assoc, append-nil, length-append}
use Rattle.std.specs.Prelude.{Option, Some, None, Result, Ok, Err, MatchResult, IfOk, IfErr}
use Rattle.sg_protocol.specs.Graph.{Graph}
use Rattle.sg_parse.specs.Grammar.{SpellsGraph}
use Rattle.sg_parse.specs.Reading.{read as parsed}
use Rattle.sg_parse.specs.declared.fault.ParseFault.{ParseFault}
use Rattle.sg_parse.proofs.TookGraph.{read-spells}
use Rattle.sg_parse.proofs.GivesGraph.{spells-read}
use Rattle.sg_sched.specs.Text.{lines, content, words}
use Rattle.sg_sched.specs.Format.Spells.{Line}
use Rattle.sg_audit.specs.LineContents.{LogContent}
use Rattle.sg_audit.specs.Reading.{form}
use Rattle.sg_audit.specs.Sessions.{Logs, LogsSoFar, sessions_of}
use Rattle.sg_audit.specs.Faults.{fault, is_whole as is_over}
use Rattle.sg_audit.specs.Spells.{IsBlock, AreLogsAfterBlock, Nothing, SpellsLogs, Fault, WrongLine, NoGraph, IsFirstFault, NoLine, NoBlock, NotClosed, OfGraph, OfNoForm, OfAForm, TooFew, IsFault, reported_as}
use Rattle.sg_audit.specs.SoFar.{nothing, is_whole, all_sessions}
use Rattle.sg_audit.specs.Read.{unless_wrong, read, read_lines, read_sessions, with_graph}
use Rattle.sg_audit.specs.TakingLines.{Refuses, logs_held}
use Rattle.sg_audit.specs.declared.session.Logs.{Logs as Held}
use Rattle.sg_audit.specs.declared.fault.Mistake.TheVariants.{Form as FormKind, Unknown as UnknownKind, Twice as TwiceKind, TooManyEvents as TooManyKind}
use Rattle.sg_audit.specs.declared.fault.LogFault.{LogFault}
use Rattle.sg_audit.specs.declared.fault.LogFault.TheVariants.{Form, Unknown, Twice, Graph as InGraph, TooManyEvents, OutOfMemory}
use Rattle.sg_audit.proofs.Fitting.{nothing_fine}
use Rattle.sg_audit.proofs.WrittenLines.{form_is, form_ok}
use Rattle.sg_audit.proofs.OneLine.{sessions_so_far, same_whole}
use Rattle.sg_audit.proofs.ReadingLines.{nothing_kept, no_line, wrong_line, Reached, reached, Ends, Well, Few, Formless, Faulty, ends}
use Rattle.sg_audit.proofs.Blocks.{Begins, BlankAll, Other, Open, Whole, begins, block_read, opened_read, none_read, other_read}

none_some : {A : Type 0} {x : A} → None ≡ Some x → ⊥
none_some q = cc

-- ---- what is read is spelled

-- what is read of lines is what they spell, or their first fault
abbrev Outcome : List ℕ → Result Logs Fault → Type 0
Outcome bytes r = MatchResult r (SpellsLogs bytes) (IsFirstFault (lines bytes))

-- after the block of a graph
behind : (bytes : List ℕ) (g : Graph) (block rest : List Line) (text : List ℕ) (r : Result Logs Fault) → lines bytes ≡ block ++ rest → IsBlock block text → SpellsGraph text g → Ends g (1 + length block) rest r → Outcome bytes r
behind bytes g block rest text _ all b s (Well t logs whole) = record {
  so_far = t;
  logs = record { block = block; text = text; behind = rest; all = all; is_block = b; spelled = s; logs = logs };
  whole = whole;
  sessions = refl;
}
behind bytes g block rest text _ all b s (Few t logs few) =
    let long = ap length all in
    let split = length-append block rest in
    let number : length (lines bytes) + 1 ≡ 1 + length block + length rest = omega (arith, long, split) in
    subst (λ n. IsFirstFault (lines bytes) (WrongLine n FormKind)) number
    (TooFew g t (record { block = block; text = text; behind = rest; all = all; is_block = b; spelled = s; logs = logs }) few)
behind bytes g block rest text _ all b s (Formless t right more l at logs n none) =
    let split = length-append block right in
    let number : length (block ++ right) + 1 ≡ 1 + length block + length right = omega (arith, split) in
    let laid : lines bytes ≡ (block ++ right) ++ l ∷ more = all ∙ ap (λ xs. block ++ xs) at ∙ sym (append_assoc block right (l ∷ more)) in
    subst (λ n. IsFirstFault (lines bytes) (WrongLine n FormKind)) number
    (OfNoForm g t (block ++ right) more l laid (record { block = block; text = text; behind = right; all = refl; is_block = b; spelled = s; logs = logs }) n (λ statement q. none_some (sym none ∙ form_ok g (words (content l)) statement q)))
behind bytes g block rest text _ all b s (Faulty t right more l statement {kind = kind} at logs n says wrong) =
    let split = length-append block right in
    let number : length (block ++ right) + 1 ≡ 1 + length block + length right = omega (arith, split) in
    let laid : lines bytes ≡ (block ++ right) ++ l ∷ more = all ∙ ap (λ xs. block ++ xs) at ∙ sym (append_assoc block right (l ∷ more)) in
    subst (λ n. IsFirstFault (lines bytes) (WrongLine n kind)) number
    (OfAForm g t (block ++ right) more l statement laid (record { block = block; text = text; behind = right; all = refl; is_block = b; spelled = s; logs = logs }) n (form_is g (words (content l)) statement says) wrong)

begun : (bytes : List ℕ) (r : Result Logs Fault) → Begins (lines bytes) r → Outcome bytes r
begun bytes _ (BlankAll h) = NoLine h
begun bytes _ (Other before rest l at h z not_open) = NoBlock before rest l at h z not_open
begun bytes _ (Open inner o) = NotClosed inner o
begun bytes _ (Whole block rest text at b) = by (parsed text) refl
  where
    by : (p : Result Graph ParseFault) → parsed text ≡ p → Outcome bytes (with_graph p (1 + length block) rest)
    by (Err e) q = OfGraph block rest text at b q
    by (Ok g) q =
        let s = read-spells text g q in
        let first : read_sessions g (1 + length block + 0) nothing rest ≡ read_sessions g (1 + length block) nothing rest = ap (λ n. read_sessions g n nothing rest) (let z : 1 + length block + 0 ≡ 1 + length block = omega arith in z) in
        behind bytes g block rest text _ at b s (subst (Ends g (1 + length block) rest) first (ends g (1 + length block) [] nothing rest s.is_graph (nothing_fine g) nothing_kept Nothing))

outcome : (bytes : List ℕ) → Outcome bytes (read bytes)
unfolding read
outcome bytes = begun bytes (read_lines 1 (lines bytes)) (begins (lines bytes))

pub read_spelled : (bytes : List ℕ) (l : Logs) → read bytes ≡ Ok l → SpellsLogs bytes l
read_spelled bytes l h = subst (Outcome bytes) h (outcome bytes)

pub fault_first : (bytes : List ℕ) (f : Fault) → read bytes ≡ Err f → IsFirstFault (lines bytes) f
fault_first bytes f h = subst (Outcome bytes) h (outcome bytes)

-- ---- what is spelled is read

-- what the reader keeps of lines that say this
state_of : (g : Graph) (ls : List Line) (t : LogsSoFar) (a : AreLogsAfterBlock g ls t) → Reached g a.behind t
state_of g ls t a = let s = a.spelled in reached g a.behind t s.is_graph a.logs

-- after lines that say this, the others are read on
after_so_far : (g : Graph) (ls : List Line) (t : LogsSoFar) (a : AreLogsAfterBlock g ls t) (rest : List Line) → let r = state_of g ls t a in read_lines 1 (ls ++ rest) ≡ read_sessions g (1 + length ls) r.state rest
after_so_far g ls t a rest =
    let r = state_of g ls t a in
    let laid : ls ++ rest ≡ a.block ++ (a.behind ++ rest) = ap (λ xs. xs ++ rest) a.all ∙ append_assoc a.block a.behind rest in
    let long = ap length a.all in
    let split = length-append a.block a.behind in
    let number : 1 + length a.block + length a.behind ≡ 1 + length ls = omega (arith, long, split) in
    ap (read_lines 1) laid ∙ block_read a.block a.text a.is_block (a.behind ++ rest)
    ∙ ap (λ p. with_graph p (1 + length a.block) (a.behind ++ rest)) (spells-read a.text g a.spelled)
    ∙ r.reads (1 + length a.block) rest ∙ ap (λ n. read_sessions g n r.state rest) number

pub spelled_read : (bytes : List ℕ) (l : Logs) → SpellsLogs bytes l → read bytes ≡ Ok l
unfolding read
spelled_read bytes l p =
    let r = state_of l.graph (lines bytes) p.so_far p.logs in
    let whole : is_whole l.graph r.state ≡ true = sym (same_whole l.graph r.state r.fine) ∙ ap (is_over l.graph) r.so_far ∙ p.whole in
    let last : read_sessions l.graph (1 + length (lines bytes)) r.state [] ≡ Ok (record { graph = l.graph; sessions = all_sessions r.state }) = rw whole refl in
    let all : all_sessions r.state ≡ l.sessions = sym (sessions_so_far r.state) ∙ ap sessions_of r.so_far ∙ sym p.sessions in
    ap (read_lines 1) (sym (append-nil (lines bytes))) ∙ after_so_far l.graph (lines bytes) p.so_far p.logs [] ∙ last ∙ (λ i. Ok (record { graph = l.graph; sessions = all i }))

-- the first fault of lines is found
first_found : (ls : List Line) (f : Fault) → IsFirstFault ls f → read_lines 1 ls ≡ Err f
first_found ls _ (NoLine h) = none_read ls h
first_found ls _ (NoBlock before rest l at h z not_open) = ap (read_lines 1) at ∙ other_read before rest l h z not_open
first_found ls _ (NotClosed inner o) = ap (read_lines 1) (sym (append-nil ls)) ∙ opened_read ls inner o []
first_found ls _ (OfGraph block rest text {e = e} at b q) = ap (read_lines 1) at ∙ block_read block text b rest ∙ ap (λ p. with_graph p (1 + length block) rest) q
first_found ls _ (OfNoForm g t right rest l at a z unsaid) =
    let r = state_of g right t a in
    let number : 1 + length right ≡ length right + 1 = omega arith in
    ap (read_lines 1) at ∙ after_so_far g right t a (l ∷ rest)
    ∙ ap (λ x. unless_wrong (1 + length right) x (λ d. read_sessions g (1 + length right + 1) d rest)) (no_line g r.state l z (formless (form g (words (content l))) refl))
    ∙ ap (λ n. Err (WrongLine n FormKind)) number
  where
    formless : (o : Option LogContent) → form g (words (content l)) ≡ o → form g (words (content l)) ≡ None
    formless None q = q
    formless (Some s) q = absurd (unsaid s (form_is g (words (content l)) s q))
first_found ls _ (OfAForm g t right rest l s {kind = kind} at a z says wrong) =
    let r = state_of g right t a in
    let number : 1 + length right ≡ length right + 1 = omega arith in
    ap (read_lines 1) at ∙ after_so_far g right t a (l ∷ rest)
    ∙ ap (λ x. unless_wrong (1 + length right) x (λ d. read_sessions g (1 + length right + 1) d rest)) (wrong_line g r.state l s kind r.fine r.keeps z (form_ok g (words (content l)) s says) (ap (λ x. fault g x s) r.so_far ∙ wrong))
    ∙ ap (λ n. Err (WrongLine n kind)) number
first_found ls _ (TooFew g t a few) =
    let r = state_of g ls t a in
    let few' : is_whole g r.state ≡ false = sym (same_whole g r.state r.fine) ∙ ap (is_over g) r.so_far ∙ few in
    let number : 1 + length ls ≡ length ls + 1 = omega arith in
    let last : read_sessions g (1 + length ls) r.state [] ≡ Err (WrongLine (1 + length ls) FormKind) = rw few' refl in
    ap (read_lines 1) (sym (append-nil ls)) ∙ after_so_far g ls t a [] ∙ last ∙ ap (λ n. Err (WrongLine n FormKind)) number

pub fault_found : (bytes : List ℕ) (f : Fault) → IsFirstFault (lines bytes) f → read bytes ≡ Err f
unfolding read
fault_found bytes f h = first_found (lines bytes) f h

-- ---- the clauses

-- what the reader answers
abbrev pub Reads : List ℕ → Result Held LogFault → Type 0
Reads bytes result = MatchResult result (λ (l : Held). read bytes ≡ Ok (logs_held l)) (Refuses (read bytes))

pub spelled : (bytes : List ℕ) (result : Result Held LogFault) → Reads bytes result → IfOk result (λ (l : Held). SpellsLogs bytes (logs_held l))
spelled bytes (Ok l) h = read_spelled bytes (logs_held l) h
spelled bytes (Err e) h = tt

-- what a refusal says: memory ran out, or the reader found this fault
refusal : (bytes : List ℕ) (e : LogFault) → Refuses (read bytes) e → (e ≡ OutOfMemory) ⊎ ((f : Fault) × (read bytes ≡ Err f) × (e ≡ reported_as f))
refusal bytes (Form n) h = inr (WrongLine n FormKind, h, refl)
refusal bytes (Unknown n) h = inr (WrongLine n UnknownKind, h, refl)
refusal bytes (Twice n) h = inr (WrongLine n TwiceKind, h, refl)
refusal bytes (InGraph e) h = inr (NoGraph e, h, refl)
refusal bytes TooManyEvents h = inr (WrongLine h.0 TooManyKind, h.1, refl)
refusal bytes OutOfMemory h = inl refl

pub wrong : (bytes : List ℕ) (result : Result Held LogFault) → Reads bytes result → IfErr result (λ (e : LogFault). (e ≡ OutOfMemory) ⊎ IsFault bytes e)
wrong bytes (Ok l) h = tt
wrong bytes (Err e) h = elim (refusal bytes e h) [
  | inl m ↦ inl m
  | inr f ↦ inr (record { fault = f.0; first = fault_first bytes f.0 f.1; reported = f.2 })
]

ok_err : {l : Logs} {f : Fault} {r : Result Logs Fault} → r ≡ Ok l → r ≡ Err f → ⊥
ok_err p q = absurd (cc)

ok_same : {a b : Logs} → ◌≡◌ {A = Result Logs Fault} (Ok a) (Ok b) → a ≡ b
ok_same q = cc

err_same : {a b : Fault} → ◌≡◌ {A = Result Logs Fault} (Err a) (Err b) → a ≡ b
err_same q = cc

pub reads : (bytes : List ℕ) (result : Result Held LogFault) → Reads bytes result → (l : Logs) → SpellsLogs bytes l → MatchResult result (λ (held : Held). logs_held held ≡ l) (λ (e : LogFault). e ≡ OutOfMemory)
reads bytes (Ok held) h l p = ok_same (sym h ∙ spelled_read bytes l p)
reads bytes (Err e) h l p = elim (refusal bytes e h) [
  | inl m ↦ m
  | inr f ↦ absurd (ok_err (spelled_read bytes l p) f.1)
]

pub refuses : (bytes : List ℕ) (result : Result Held LogFault) → Reads bytes result → (e : LogFault) → IsFault bytes e → MatchResult result (λ (held : Held). ⊥) (λ (f : LogFault). (f ≡ OutOfMemory) ⊎ (f ≡ e))
refuses bytes (Ok held) h e p = ok_err h (fault_found bytes p.fault p.first)
refuses bytes (Err f) h e p = elim (refusal bytes f h) [
  | inl m ↦ inl m
  | inr x ↦ inr (x.2 ∙ ap reported_as (err_same (sym x.1 ∙ fault_found bytes p.fault p.first)) ∙ sym p.reported)
]
