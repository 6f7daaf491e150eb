use Rattle.std.proofs.Common.{◌+◌, subst, sym}
use Rattle.vsw_offload.specs.Bad.{Address, Begins, Number, Ports, Reaches, ports_text}
use Rattle.vsw_offload.specs.Private.Reading.{port_of}
use Rattle.vsw_offload.specs.Rows.{AreRows}
use Rattle.vsw_offload.proofs.Exits.{exit, port_done}
use Rattle.vsw_offload.proofs.reading.read_port.Goals as goal

pub returns-in_err-mac-clause-bad : goal.returns-in_err-mac-clause-bad
returns-in_err-mac-clause-bad c count r =
    let first = subst (λ qs. Reaches c.args.bytes.now c.args.at (Ports count qs)) (sym c.as_slice.ensures) r in
    let a : Reaches c.args.bytes.now (c.args.at + 4) (Number count c.args.ports.now c.in_ok-port.port) = subst (λ qs. Reaches c.args.bytes.now (c.args.at + 4) (Number count qs c.in_ok-port.port)) c.as_slice.ensures (c.in_ok-port.ensures.ok count first) in
    let other = subst (λ qs. Reaches c.args.bytes.now (c.args.at + 4) (Number count qs c.in_ok-port.port)) (sym c.as_slice-2.ensures) a in
    exit c.args.bytes.now c.from_residual-in_err-mac.result c.in_err-mac.field-0.0 c.from_residual-in_err-mac.ensures.1 (c.in_err-mac.ensures.bad count c.in_ok-port.port other)

pub returns-in_err-entries-clause-bad : goal.returns-in_err-entries-clause-bad
returns-in_err-entries-clause-bad c count r =
    let first = subst (λ qs. Reaches c.args.bytes.now c.args.at (Ports count qs)) (sym c.as_slice.ensures) r in
    let a : Reaches c.args.bytes.now (c.args.at + 4) (Number count c.args.ports.now c.in_ok-port.port) = subst (λ qs. Reaches c.args.bytes.now (c.args.at + 4) (Number count qs c.in_ok-port.port)) c.as_slice.ensures (c.in_ok-port.ensures.ok count first) in
    let other = subst (λ qs. Reaches c.args.bytes.now (c.args.at + 4) (Number count qs c.in_ok-port.port)) (sym c.as_slice-2.ensures) a in
    let b : Reaches c.args.bytes.now (c.args.at + 4 + 6) (Address count c.args.ports.now c.in_ok-port.port c.in_ok-mac.mac) = subst (λ qs. Reaches c.args.bytes.now (c.args.at + 4 + 6) (Address count qs c.in_ok-port.port c.in_ok-mac.mac)) c.as_slice-2.ensures (c.in_ok-mac.ensures.ok count c.in_ok-port.port other) in
    exit c.args.bytes.now c.from_residual-in_err-entries.result c.in_err-entries.field-0.0 c.from_residual-in_err-entries.ensures.1 (c.in_err-entries.ensures.bad count c.in_ok-port.port c.in_ok-mac.mac c.args.ports.now b)

pub returns-in_err-count-clause-bad : goal.returns-in_err-count-clause-bad
returns-in_err-count-clause-bad c count r =
    let first = subst (λ qs. Reaches c.args.bytes.now c.args.at (Ports count qs)) (sym c.as_slice.ensures) r in
    let a : Reaches c.args.bytes.now (c.args.at + 4) (Number count c.args.ports.now c.in_ok-port.port) = subst (λ qs. Reaches c.args.bytes.now (c.args.at + 4) (Number count qs c.in_ok-port.port)) c.as_slice.ensures (c.in_ok-port.ensures.ok count first) in
    let other = subst (λ qs. Reaches c.args.bytes.now (c.args.at + 4) (Number count qs c.in_ok-port.port)) (sym c.as_slice-2.ensures) a in
    let b : Reaches c.args.bytes.now (c.args.at + 4 + 6) (Address count c.args.ports.now c.in_ok-port.port c.in_ok-mac.mac) = subst (λ qs. Reaches c.args.bytes.now (c.args.at + 4 + 6) (Address count qs c.in_ok-port.port c.in_ok-mac.mac)) c.as_slice-2.ensures (c.in_ok-mac.ensures.ok count c.in_ok-port.port other) in
    let d = c.in_ok-entries.ensures.ok count c.in_ok-port.port c.in_ok-mac.mac c.args.ports.now b in
    exit c.args.bytes.now c.from_residual-in_err-count.result c.in_err-count.field-0.0 c.from_residual-in_err-count.ensures.1 (c.in_err-count.ensures.bad count c.in_ok-port.port c.in_ok-mac.mac c.in_ok-entries.entries c.args.ports.now d)

pub returns-in_err-end-clause-bad : goal.returns-in_err-end-clause-bad
returns-in_err-end-clause-bad c count r =
    let first = subst (λ qs. Reaches c.args.bytes.now c.args.at (Ports count qs)) (sym c.as_slice.ensures) r in
    let a : Reaches c.args.bytes.now (c.args.at + 4) (Number count c.args.ports.now c.in_ok-port.port) = subst (λ qs. Reaches c.args.bytes.now (c.args.at + 4) (Number count qs c.in_ok-port.port)) c.as_slice.ensures (c.in_ok-port.ensures.ok count first) in
    let other = subst (λ qs. Reaches c.args.bytes.now (c.args.at + 4) (Number count qs c.in_ok-port.port)) (sym c.as_slice-2.ensures) a in
    let b : Reaches c.args.bytes.now (c.args.at + 4 + 6) (Address count c.args.ports.now c.in_ok-port.port c.in_ok-mac.mac) = subst (λ qs. Reaches c.args.bytes.now (c.args.at + 4 + 6) (Address count qs c.in_ok-port.port c.in_ok-mac.mac)) c.as_slice-2.ensures (c.in_ok-mac.ensures.ok count c.in_ok-port.port other) in
    let d = c.in_ok-entries.ensures.ok count c.in_ok-port.port c.in_ok-mac.mac c.args.ports.now b in
    let h = c.in_ok-count.ensures.ok count c.in_ok-port.port c.in_ok-mac.mac c.in_ok-entries.entries c.args.ports.now d in
    exit c.args.bytes.now c.from_residual-in_err-end.result c.in_err-end.field-0.0 c.from_residual-in_err-end.ensures.1 (c.in_err-end.ensures.bad count c.args.ports.now c.in_ok-port.port c.in_ok-mac.mac c.in_ok-entries.entries h)

pub returns-clause-ok : goal.returns-clause-ok
returns-clause-ok c count r =
    let first = subst (λ qs. Reaches c.args.bytes.now c.args.at (Ports count qs)) (sym c.as_slice.ensures) r in
    let a : Reaches c.args.bytes.now (c.args.at + 4) (Number count c.args.ports.now c.in_ok-port.port) = subst (λ qs. Reaches c.args.bytes.now (c.args.at + 4) (Number count qs c.in_ok-port.port)) c.as_slice.ensures (c.in_ok-port.ensures.ok count first) in
    let other = subst (λ qs. Reaches c.args.bytes.now (c.args.at + 4) (Number count qs c.in_ok-port.port)) (sym c.as_slice-2.ensures) a in
    let b : Reaches c.args.bytes.now (c.args.at + 4 + 6) (Address count c.args.ports.now c.in_ok-port.port c.in_ok-mac.mac) = subst (λ qs. Reaches c.args.bytes.now (c.args.at + 4 + 6) (Address count qs c.in_ok-port.port c.in_ok-mac.mac)) c.as_slice-2.ensures (c.in_ok-mac.ensures.ok count c.in_ok-port.port other) in
    let d = c.in_ok-entries.ensures.ok count c.in_ok-port.port c.in_ok-mac.mac c.args.ports.now b in
    let h = c.in_ok-count.ensures.ok count c.in_ok-port.port c.in_ok-mac.mac c.in_ok-entries.entries c.args.ports.now d in
    let all = c.in_ok-end.ensures.ok count c.args.ports.now c.in_ok-port.port c.in_ok-mac.mac c.in_ok-entries.entries h in
    subst (λ ps. Begins c.args.bytes.now c.in_ok-end.end (ports_text count ps) × AreRows ps) (sym c.in_ok-push_port.ensures.ok)
    (port_done c.args.bytes.now c.in_ok-end.end count c.args.ports.now (port_of c.in_ok-port.port c.in_ok-mac.mac c.in_ok-entries.entries c.read_rows.new.rows) c.in_ok-count.count all c.in_ok-end.ensures.all)
