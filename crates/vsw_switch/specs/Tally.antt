-- What became of packets, in numbers.
use Rattle.std.specs.Prelude.{◌+◌}
use Rattle.vsw_base.specs.declared.fate.Fate.{Fate}
use Rattle.vsw_promise.specs.Summary.{dropped, in_round, passed, size_of}
use Rattle.vsw_report.specs.declared.round.Round.{Round}
use Rattle.vsw_report.specs.declared.told.What.{What}
use Rattle.vsw_report.specs.declared.told.What.TheVariants as what
use Rattle.vsw_switch.specs.declared.tally.Tally.{Tally}

abbrev pub none : Tally
none = record { pass = 0; drop = 0; bytes = 0 }

-- the tally of a packet
abbrev pub tally_of : Fate → Tally
tally_of fate = record { pass = passed fate; drop = dropped fate; bytes = size_of fate }

abbrev pub both : Tally → Tally → Tally
both a b = record { pass = a.pass + b.pass; drop = a.drop + b.drop; bytes = a.bytes + b.bytes }

-- a tally with what became of one more job. A command counts as nothing
abbrev pub counted_in : What → Tally → Tally
counted_in (what.Fate fate bytes) t = both t (tally_of fate)
counted_in (what.Reply reply) t = t

-- the tally of a round
abbrev pub tally_in : Round → Tally
tally_in r = record { pass = in_round passed r; drop = in_round dropped r; bytes = in_round size_of r }
