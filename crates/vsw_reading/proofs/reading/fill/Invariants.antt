use Rattle.std.proofs.Common.{◌<◌, ℕ, List, length}
use Rattle.vsw_host.specs.Outside.{Outside, SameOutputs}
use Rattle.vsw_pcap.specs.declared.capture.Record.{Record}
use Rattle.vsw_reading.specs.Reads.{IsOpen, HasGrown, Holds}
use Rattle.vsw_reading.proofs.reading.fill.Given as goal

abbrev pub invariant-loop : goal.invariant-loop
invariant-loop g l = record {
  reads : (start : Outside) (name : List ℕ) (given : List Record) → Holds start (g.H.Host.outside l.fn.host) name l.fn.reading given → Holds start (g.H.Host.outside l.host) name l.reading given;
  near : IsOpen (g.H.Host.outside l.host) l.reading;
  room : length l.reading.batch < l.most;
  grown : HasGrown l.fn.reading.batch l.reading.batch;
  outputs : SameOutputs (g.H.Host.outside l.fn.host) (g.H.Host.outside l.host);
}
