use Rattle.vsw_port.proofs.Calls.{call_later, share_join, legal_of, entries_are_seen, short_adds_nothing}
use Rattle.vsw_port.proofs.Next.{goes_on, reads_change_nothing, shares_of}
use Rattle.vsw_port.proofs.law.call_laws.Goals as goal

pub returns : goal.returns
returns c = record { last = call_later; join = share_join; legal = legal_of; seen = entries_are_seen; reads = reads_change_nothing; short = short_adds_nothing; goes_on = goes_on; shared = shares_of }
