-- Sessions by their names and by what makes them alike.
use Rattle.std.specs.Prelude.{List, [], ◌∷◌}
use Rattle.sg_model.specs.Names.{Name}
use Rattle.sg_sched.specs.Format.Items.{Session}
use Rattle.sg_sched_text.specs.declared.sessions.Like.{Like}

-- the session of this name
abbrev pub session_of : Name → Like → Session
session_of name l = record { name = name; graph = l.graph; nonce = l.nonce; names = l.names.items; version = l.version }

-- the sessions of these names, one after the other
abbrev pub sessions_of : List Name → List Like → List Session
sessions_of (n ∷ ns) (l ∷ ls) = session_of n l ∷ sessions_of ns ls
sessions_of ns ls = []
