use Rattle.sg_replay.proofs.audit.audit_logs.Goals as goal

pub audit_sessions-requires-clause-two : goal.audit_sessions-requires-clause-two
audit_sessions-requires-clause-two g c = c.requires.spelled.logs.spelled.two_roles
