-- The code's values as the definitions' values.
use Rattle.std.specs.Prelude.{◌≡◌, ◌<◌, ◌≤◌, ◌^◌, ℕ, List, ◌++◌}
use Rattle.vsw_run.specs.Words.{Request, Claim, Query, Asked, Forward, Deliver, Stream, Offload, Check, Engine, Generate, Opted, Named}
use Rattle.vsw_run.specs.declared.forward.Request as requests
use Rattle.vsw_run.specs.declared.claim.Claim as claims
use Rattle.vsw_run.specs.declared.query.Query as queries
use Rattle.vsw_run.specs.declared.names.Named as names
use Rattle.vsw_run.specs.declared.names.Opted as options
use Rattle.vsw_run.specs.declared.reading.Asked as asked

abbrev pub request_seen : requests.Request → Request
request_seen r = record { workers = r.workers; policy = r.policy.now; commands = r.commands.now; trace = r.trace.now }

abbrev pub claim_seen : claims.Claim → Claim
claim_seen c = record { run = request_seen c.run; report = c.report.now }

abbrev pub query_seen : queries.Query → Query
query_seen q = record { rows = q.rows.now; trace = q.trace.now }

-- names in the order in which they stand
abbrev pub names_seen : names.Named → List (List ℕ)
names_seen n = n.before.now ++ n.after.now ++ n.behind.now

abbrev pub named_seen : names.Named → Named
named_seen n = record { workers = n.workers; names = names_seen n }

abbrev pub option_seen : options.Opted → Opted
option_seen o = record { workers = o.workers; rest = o.rest.now }

abbrev pub asked_seen : asked.Asked → Asked
asked_seen (asked.TheVariants.Forward r) = Forward (request_seen r)
asked_seen (asked.TheVariants.Deliver r) = Deliver (request_seen r)
asked_seen (asked.TheVariants.Stream r) = Stream (request_seen r)
asked_seen (asked.TheVariants.Offload r) = Offload (request_seen r)
asked_seen (asked.TheVariants.Check c) = Check (claim_seen c)
asked_seen (asked.TheVariants.Engine q) = Engine (query_seen q)
asked_seen (asked.TheVariants.Generate start packets) = Generate start packets

-- the numbers lie within their bounds
abbrev pub IsWithin : asked.Asked → Type 0
IsWithin (asked.TheVariants.Forward r) = (1 ≤ r.workers) × (r.workers ≤ 16)
IsWithin (asked.TheVariants.Deliver r) = (1 ≤ r.workers) × (r.workers ≤ 16)
IsWithin (asked.TheVariants.Stream r) = (1 ≤ r.workers) × (r.workers ≤ 16)
IsWithin (asked.TheVariants.Offload r) = r.workers ≡ 1
IsWithin (asked.TheVariants.Check c) = (1 ≤ c.run.workers) × (c.run.workers ≤ 16)
IsWithin (asked.TheVariants.Engine q) = Unit {0}
IsWithin (asked.TheVariants.Generate start packets) = (start < 2 ^ 31) × (1 ≤ packets) × (packets ≤ 1048576)
