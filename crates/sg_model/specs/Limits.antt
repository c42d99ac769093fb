-- The limits, each named once.
use Rattle.std.specs.Prelude.{ℕ, ◌==◌, if◌then◌else◌}

-- bytes of a name
abbrev pub most_name_bytes : ℕ
most_name_bytes = 32

-- ---- graphs and what is compiled of them

-- roles of a graph, and principals of a cast
abbrev pub most_roles : ℕ
most_roles = 16

-- variables of a graph
abbrev pub most_variables : ℕ
most_variables = 32

-- nodes of a graph
abbrev pub most_nodes : ℕ
most_nodes = 256

-- edges of a graph, whose labels are below this
abbrev pub most_edges : ℕ
most_edges = 512

-- views of a role
abbrev pub most_views : ℕ
most_views = 4096

-- open views of a role
abbrev pub most_open_views : ℕ
most_open_views = 65536

-- ---- frames

-- the time of a step
abbrev pub most_time : ℕ
most_time = 1000000

-- the bytes of a text that is a value
abbrev pub most_text_bytes : ℕ
most_text_bytes = 1024

-- the bytes of a frame that can be read
abbrev pub most_frame_bytes : ℕ
most_frame_bytes = 60000

-- the bytes of a frame that a step sends, in this version
abbrev pub most_sent_bytes : ℕ → ℕ
most_sent_bytes version = if version == 2 then 53652 else 57028

-- ---- one principal

-- pairs of sid and role that a node joins
abbrev pub most_joins : ℕ
most_joins = 65536

-- live sessions of a node
abbrev pub most_live : ℕ
most_live = 4096

-- how often a choice of a script is taken
abbrev pub most_times : ℕ
most_times = 1000000

-- ---- schedules, logs and the record of a replay

-- steps of a schedule
abbrev pub most_steps : ℕ
most_steps = 200000

-- declared sessions of a schedule
abbrev pub most_declared : ℕ
most_declared = 100000

-- events of the logs of an audit
abbrev pub most_events : ℕ
most_events = 100000

-- bytes of the record of a replay
abbrev pub most_record_bytes : ℕ
most_record_bytes = 268435456

-- what a step adds to the record is less than this many bytes
abbrev pub most_added_bytes : ℕ
most_added_bytes = 4194304

-- bytes of the record with which a step may begin: what it adds has room
abbrev pub most_record_before : ℕ
most_record_before = 264241152

-- deliveries that one principal takes
abbrev pub most_deliveries : ℕ
most_deliveries = 1000000

-- ---- generated runs

-- the greatest seed
abbrev pub most_seed : ℕ
most_seed = 4294967295

-- sessions that are driven
abbrev pub most_driven : ℕ
most_driven = 2000

-- ---- files

-- bytes of a graph's text, and of a text of parts
abbrev pub most_graph_file : ℕ
most_graph_file = 4194304

-- bytes of a program's text
abbrev pub most_program_file : ℕ
most_program_file = 8388608

-- bytes of a file of keys, and of a script
abbrev pub most_script_file : ℕ
most_script_file = 1048576

-- bytes of a file of logs
abbrev pub most_logs_file : ℕ
most_logs_file = 16777216

-- bytes of a schedule
abbrev pub most_schedule_file : ℕ
most_schedule_file = 16777216
