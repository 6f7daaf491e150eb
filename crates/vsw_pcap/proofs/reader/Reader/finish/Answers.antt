use Rattle.std.proofs.Common.{rules, ap, ◌∙◌}
use Rattle.vsw_pcap.specs.Reader.{next_of}
use Rattle.vsw_pcap.proofs.Standing.{refused_finished}
use Rattle.vsw_pcap.proofs.reader.Reader.finish.Goals as goal

pub returns-clause-value : goal.returns-clause-value
returns-clause-value c = search rules

pub returns-clause-refused : goal.returns-clause-refused
returns-clause-refused c bad a = ap next_of (returns-clause-value c) ∙ refused_finished c.args.self.now bad a
