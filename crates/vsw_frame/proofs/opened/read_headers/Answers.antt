use Rattle.std.proofs.Common.{arith, sym}
use Rattle.vsw_header.specs.Ether.{ether_view}
use Rattle.vsw_header.specs.Ip.{ip_view}
use Rattle.vsw_frame.proofs.Shorter.{ether_shorter, ip_shorter}
use Rattle.vsw_frame.proofs.opened.read_headers.Goals as goal

pub returns-clause-short : goal.returns-clause-short
returns-clause-short c =
    let ether = ether_shorter c.args.bytes.now (ether_view c.in-Ok.ether) (sym c.in-Ok.ensures.fields) in
    let ip = ip_shorter c.in-Ok.ether.rest.now (ip_view c.in-Ok-read_ip.ip) (sym c.in-Ok-read_ip.ensures.fields) in
    let end = c.in-Ok-read_end.ensures.short in
    omega (arith, ether, ip, end)
