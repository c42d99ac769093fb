-- A principal that is begun anew is as one that has abandoned its live sessions, and joins no pair twice in its whole life.
use Rattle.std.specs.Prelude.{◌≡◌, List, [], ◌∷◌, map, bytes_eq, refl, Some}
use Rattle.std.specs.Option.{option_map_or}
use Rattle.std.proofs.Common.{sym, ◌∙◌, ap}
use Rattle.sg_model.proofs.Small.{bytes_refl}
use Rattle.sg_protocol.specs.Texts.{Hash}
use Rattle.sg_protocol.specs.Session.{Session}
use Rattle.sg_protocol.specs.Calls.{Abandon, Abandoned, NotAbandoned}
use Rattle.sg_protocol.specs.Node.{Node, session_with}
use Rattle.sg_protocol.specs.Acting.{answer}
use Rattle.sg_protocol.specs.NodeAfter.{node_after, replace}
use Rattle.sg_protocol.specs.Past.{AnsweredCall, Past, node_of, new_node, node_after_all, past_after, answers}
use Rattle.sg_protocol.specs.Restarts.{begun_anew, past_after_all, abandonments, RestartsAbandon}
use Rattle.sg_protocol.proofs.Progressing.{node_next}
use Rattle.sg_protocol.proofs.First.{programs_after, keys_after}

-- ---- keys and programs stay

pub keys_stay : (n : Node) (cs : List AnsweredCall) → (node_after_all n cs).keys ≡ n.keys
keys_stay n [] = refl
keys_stay n (c ∷ cs) = keys_stay (node_after n c.call c.answer) cs ∙ keys_after n c.call c.answer

pub programs_stay : (n : Node) (cs : List AnsweredCall) → (node_after_all n cs).programs ≡ n.programs
programs_stay n [] = refl
programs_stay n (c ∷ cs) = programs_stay (node_after n c.call c.answer) cs ∙ programs_after n c.call c.answer

-- ---- one abandonment

-- the node with these live sessions in the place of its own
abbrev pub with_live : Node → List Session → Node
with_live n live = record { keys = n.keys; programs = n.programs; joins = n.joins; live = live }

pub with_own : (n : Node) (live : List Session) → n.live ≡ live → with_live n live ≡ n
with_own n live e = ap (with_live n) (sym e)

pub first_found : (n : Node) (x : Session) (xs : List Session) → n.live ≡ x ∷ xs → session_with n.live x.sid ≡ Some x
first_found n x xs e = ap (λ l. session_with l x.sid) e ∙ rw (bytes_refl x.sid) refl

pub first_answer : (sha : Hash) (n : Node) (x : Session) (xs : List Session) → n.live ≡ x ∷ xs → answer sha n (Abandon x.sid) ≡ Abandoned
first_answer sha n x xs e = ap (λ o. option_map_or (λ (s : Session). Abandoned) o NotAbandoned) (first_found n x xs e)

pub first_left : (sha : Hash) (n : Node) (x : Session) (xs : List Session) → n.live ≡ x ∷ xs → node_after n (Abandon x.sid) (answer sha n (Abandon x.sid)) ≡ with_live n xs
first_left sha n x xs e =
    ap (node_after n (Abandon x.sid)) (first_answer sha n x xs e)
    ∙ ap (λ l. with_live n (replace (λ (s : Session). bytes_eq s.sid x.sid) (λ s. []) l)) e
    ∙ ap (with_live n) (let q : replace (λ (s : Session). bytes_eq s.sid x.sid) (λ s. []) (x ∷ xs) ≡ xs = rw (bytes_refl x.sid) refl in q)

-- ---- all of them

all_left : (sha : Hash) (past : Past) (xs : List Session) → (node_of past).live ≡ xs → node_of (past_after_all sha past (abandonments xs)) ≡ with_live (node_of past) []
all_left sha past [] e = sym (with_own (node_of past) [] e)
all_left sha past (x ∷ xs) e =
    let now : node_of (past_after sha past (Abandon x.sid)) ≡ with_live (node_of past) xs = node_next sha past (Abandon x.sid) ∙ first_left sha (node_of past) x xs e in
    all_left sha (past_after sha past (Abandon x.sid)) xs (ap (λ (m : Node). m.live) now) ∙ ap (λ (m : Node). with_live m []) now

all_answers : (sha : Hash) (n : Node) (xs : List Session) → n.live ≡ xs → answers sha n (abandonments xs) ≡ map (λ s. Abandoned) xs
all_answers sha n [] e = refl
all_answers sha n (x ∷ xs) e =
    ap (λ a. a ∷ answers sha (node_after n (Abandon x.sid) (answer sha n (Abandon x.sid))) (abandonments xs)) (first_answer sha n x xs e)
    ∙ ap (λ l. Abandoned ∷ l) (ap (λ m. answers sha m (abandonments xs)) (first_left sha n x xs e) ∙ all_answers sha (with_live n xs) xs refl)

-- the node of a principal that is begun anew
pub anew : (past : Past) → node_of (begun_anew past) ≡ with_live (node_of past) []
anew past =
    ap (λ k. record { keys = k; programs = past.programs; joins = (node_of past).joins; live = [] }) (sym (keys_stay (new_node past.keys past.programs past.first) past.calls))
    ∙ ap (λ p. record { keys = (node_of past).keys; programs = p; joins = (node_of past).joins; live = [] }) (sym (programs_stay (new_node past.keys past.programs past.first) past.calls))

pub restarts_abandon : (sha : Hash) → RestartsAbandon sha
restarts_abandon sha past = (anew past ∙ sym (all_left sha past (node_of past).live refl), all_answers sha (node_of past) (node_of past).live refl, refl, refl)
