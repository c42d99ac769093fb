-- What the program acts on, and what these objects report.
use Rattle.std.specs.Prelude.{ℕ, ◌+◌, Bool, if◌then◌else◌, List, Option}
use Rattle.std.specs.Borrow.{MutBor}
use Rattle.sg_base.specs.declared.outside.Files as Files
use Rattle.sg_base.specs.declared.outside.Fresh as Fresh
use Rattle.sg_base.specs.declared.outside.Link as Link
use Rattle.sg_base.specs.declared.outside.Sink as Sink
use Rattle.sg_input.specs.declared.input.Input as Input
use Rattle.sg_ledger.specs.declared.disk.Disk as Disk
use Rattle.sg_stream.specs.Counts.{total}
use Rattle.sg_stream.specs.Link.{StreamHeld, sent_of, to_come}
use Rattle.sg_stream.specs.declared.conns.Conns as Conns
use Rattle.sg_wait.specs.declared.coming.Coming.{Coming}
use Rattle.sg_ending.specs.Output.{Output}
use Rattle.sg_principal.specs.Outside.{Application, Disked, Entered, Filed, Linked, Stage, Waited, disk_of, files_of, input_of, link_of, output_of, port_of}
use Rattle.sg_top.specs.declared.objects.Objects as Held

-- ---- the objects

-- those that a command may be about
pub record Objects (F O L R D S P I : Type 0) : Type 0 where
  pub files : F
  pub out : O
  pub link : L
  pub fresh : R
  pub disk : D
  pub stream : S
  pub port : P
  pub input : I

-- the outside: standard error, and these objects
pub record Outside (F O E L R D S P I : Type 0) : Type 0 where
  pub err : E
  pub objects : Objects F O L R D S P I

-- the outside of these objects
abbrev pub outside_of : {F O E L R D S P I : Type 0} → F → O → E → L → R → D → S → P → I → Outside F O E L R D S P I
outside_of files out err link fresh disk stream port input = record {
  err = err;
  objects = record { files = files; out = out; link = link; fresh = fresh; disk = disk; stream = stream; port = port; input = input };
}

-- ---- what they report

-- what the objects report, and of the link also what is to come if it waits with a limit
pub record Reported : Type 1 where
  pub files : Filed
  pub out : Output
  pub link : Linked
  pub coming : Option (List Coming)
  pub random : Option (List (List ℕ))
  pub disk : Disked
  pub stream : Linked
  pub port : Waited
  pub input : Entered

-- how objects of these types report
pub record Reports (F O L R D S P I : Type 0) : Type 1 where
  pub files : F → Filed
  pub out : O → Output
  pub link : L → Linked
  pub coming : L → Option (List Coming)
  pub random : R → Option (List (List ℕ))
  pub disk : D → Disked
  pub stream : S → Linked
  pub port : P → Waited
  pub input : I → Entered

-- a link over connections, as a link: the address at which these wait, the frames of the messages to come, in the order in which these become whole, the frames that went out, and its count of faults, which is that of its connections and its own
abbrev pub stream_of : {C : Type 0} → Conns.Ghosts C → StreamHeld C → Linked
stream_of g l = record { bound = g.bound l.conns; deliveries = to_come l.unread (g.held l.conns); sent = sent_of (g.held l.conns); faults = total (g.faults l.conns) + l.faults }

abbrev pub reports_of : {F O L R D S P I : Type 0} → Files.Ghosts F → Sink.Ghosts O → Link.Ghosts L → (coming : L → Option (List Coming)) → Fresh.Ghosts R → Disk.Ghosts D
    → (stream : S → Linked) → Link.Ghosts P → (coming_to_port : P → Option (List Coming)) → Input.Ghosts I → Reports F O L R D S P I
reports_of f o l coming r d stream p coming_to_port i = record {
  files = files_of f;
  out = output_of o;
  link = link_of l;
  coming = coming;
  random = r.random;
  disk = disk_of d;
  stream = stream;
  port = port_of p coming_to_port;
  input = input_of i;
}

-- what these objects report
abbrev pub reported : {F O L R D S P I : Type 0} → Reports F O L R D S P I → Objects F O L R D S P I → Reported
reported r o = record {
  files = r.files o.files;
  out = r.out o.out;
  link = r.link o.link;
  coming = r.coming o.link;
  random = r.random o.fresh;
  disk = r.disk o.disk;
  stream = r.stream o.stream;
  port = r.port o.port;
  input = r.input o.input;
}

-- what a player acts on: over the link, or over the link over connections
abbrev pub over_link : Reported → Stage
over_link o = record { out = o.out; link = o.link; random = o.random }

abbrev pub over_stream : Reported → Stage
over_stream o = record { out = o.out; link = o.stream; random = o.random }

-- what a run for an application acts on: over the link, or over the link over connections that are kept
abbrev pub application : (over_tcp : Bool) → Reported → Application
application over_tcp o = record {
  out = o.out;
  link = if over_tcp then o.port else record { bound = (o.link).bound; coming = o.coming; sent = (o.link).sent; faults = (o.link).faults };
  random = o.random;
  input = o.input;
}

-- ---- the objects behind the references that a function is given

-- as it is called
abbrev pub objects_at_call : {F O L R D S P I : Type 0} → Held.Objects F O L R D S P I → Objects F O L R D S P I
objects_at_call o = record {
  files = (o.files).now;
  out = (o.out).now;
  link = (o.link).now;
  fresh = (o.fresh).now;
  disk = (o.disk).now;
  stream = (o.stream).now;
  port = (o.port).now;
  input = (o.input).now;
}

-- as it returns
abbrev pub objects_at_return : {F O L R D S P I Rest : Type 0} → MutBor F × (MutBor O × (MutBor L × (MutBor R × (MutBor D × (MutBor S × (MutBor P × (MutBor I × Rest))))))) → Objects F O L R D S P I
objects_at_return o = record {
  files = (o.0).now;
  out = (o.1.0).now;
  link = (o.1.1.0).now;
  fresh = (o.1.1.1.0).now;
  disk = (o.1.1.1.1.0).now;
  stream = (o.1.1.1.1.1.0).now;
  port = (o.1.1.1.1.1.1.0).now;
  input = (o.1.1.1.1.1.1.1.0).now;
}
