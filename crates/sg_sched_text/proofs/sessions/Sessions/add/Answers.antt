use Rattle.std.proofs.Common.{◌≡◌, ◌∙◌, ap, sym, length, map, arith, false, List, [], ◌∷◌, ◌++◌}
use Rattle.std.specs.List.{list_any}
use Rattle.std.proofs.lemmas.List.{length-append}
use Rattle.sg_model.specs.Lists.{has_text}
use Rattle.sg_sched.specs.Format.Items.{Session}
use Rattle.sg_sched.specs.Format.Faults.{is_like}
use Rattle.sg_sched_text.specs.Sessions.{session_of, sessions_of}
use Rattle.sg_sched_text.proofs.SessionLaws.{names_are, count, like_new, one_more}
use Rattle.sg_sched_text.proofs.sessions.Sessions.add.Goals as goal

pub add-requires : goal.add-requires
add-requires c =
    ap (has_text c.args.name) (sym (names_are c.self.inside.names c.self.inside.likes.keys c.self.invariant.0))
    ∙ ap (λ (ss : List Session). has_text c.args.name (map (λ s. s.name) ss)) c.self.view_is ∙ c.requires.new_name

-- the sessions by their names and the rest, with one more
names_after : (c : goal.In_default-add) → c.add.new.self ≡ c.self.inside.names ++ c.args.name ∷ []
names_after c = c.in_default-add.ensures.ok

likes_after : (c : goal.In_default-add) → c.insert.new.self.keys ≡ c.self.inside.likes.keys ++ c.args.like ∷ []
likes_after c =
    let l = c.args.like in
    let absent : list_any (is_like l.graph l.nonce l.names.items l.version) (sessions_of c.self.inside.names c.self.inside.likes.keys) ≡ false =
    ap (λ (ss : List Session). list_any (is_like l.graph l.nonce l.names.items l.version) ss) c.self.view_is ∙ c.requires.other in
    c.in_default.ensures.keys ∙ like_new l c.self.inside.names c.self.inside.likes.keys c.self.invariant.0 absent

pub invariant_of-self-in_default-add : goal.invariant_of-self-in_default-add
invariant_of-self-in_default-add c =
    let a : length c.add.new.self ≡ length (c.self.inside.names ++ c.args.name ∷ []) = ap length (names_after c) in
    let b : length c.insert.new.self.keys ≡ length (c.self.inside.likes.keys ++ c.args.like ∷ []) = ap length (likes_after c) in
    let m = length-append c.self.inside.names (c.args.name ∷ []) in
    let e : length c.args.self.now ≡ length c.self.inside.names = ap length (sym c.self.view_is) ∙ count c.self.inside.names c.self.inside.likes.keys c.self.invariant.0 in
    (omega (arith, a, b, c.self.invariant.0, m, length-append c.self.inside.likes.keys (c.args.like ∷ [])), omega (arith, a, m, e, c.requires.room))

pub returns : goal.returns
returns c =
    (λ i. sessions_of (names_after c i) (likes_after c i))
    ∙ one_more c.self.inside.names c.self.inside.likes.keys c.args.name c.args.like c.self.invariant.0
    ∙ ap (λ (ss : List Session). ss ++ session_of c.args.name c.args.like ∷ []) c.self.view_is
