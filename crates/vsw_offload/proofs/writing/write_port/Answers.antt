use Rattle.std.proofs.Common.{◌≡◌, ◌≤◌, ◌++◌, ◌∙◌, length, ap, subst, arith}
use Rattle.std.specs.Prelude.{OnOk}
use Rattle.vsw_offload.specs.Private.Writing.{placed}
use Rattle.vsw_offload.specs.Rows.{all_rows_bytes}
use Rattle.vsw_offload.proofs.Written.{places_few, port_written}
use Rattle.vsw_offload.proofs.writing.write_port.Goals as goal

pub overflow_cast-len : goal.overflow_cast-len
overflow_cast-len c =
    let few : length c.in_ok-places.places.items ≤ length c.as_slice-rows.result.now = places_few c.as_slice-rows.result.now c.in_ok-places.places.items c.in_ok-places.ensures.order in
    let len : c.len.result ≡ length c.in_ok-places.places.items = c.len.ensures ∙ c.in_ok-places.places.ok.0 in
    let rows : length c.as_slice-rows.result.now ≡ length c.args.port.now.rows = ap length c.as_slice-rows.ensures in
    let all : length c.args.port.now.rows ≤ 16384 = c.requires in
    omega (arith, few, len, rows, all)

pub returns : goal.returns
returns c =
    port_written c.write_placed.result c.args.out.now.items c.write_number.new.out.items c.write_address.new.out.items c.write_number-2.new.out.items c.write_number-3.new.out.items c.write_placed.new.out.items c.args.port.now
    c.as_slice-rows.result.now c.in_ok-places.places.items c.len.result c.in_ok-write_number.ensures c.in_ok-write_address.ensures c.in_ok-write_number-2.ensures c.in_ok-write_number-3.ensures
    (c.len.ensures ∙ c.in_ok-places.places.ok.0) c.as_slice-rows.ensures c.in_ok-places.ensures.order
    (subst (λ ps. OnOk c.write_placed.result (c.write_placed.new.out.items ≡ c.write_number-3.new.out.items ++ all_rows_bytes (placed c.as_slice-rows.result.now ps))) c.deref.ensures.value c.write_placed.ensures)
