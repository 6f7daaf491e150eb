-- What is written of a table's ports is a file.
use Rattle.std.proofs.Common.{◌≡◌, ◌≤◌, ◌+◌, ℕ, suc, List, [], ◌∷◌, Bool, true, false, length, map, if◌then◌else◌, refl, ap, ◌∙◌, arith}
use Rattle.vsw_offload.proofs.Sorted.{rise_put}
use Rattle.vsw_offload.specs.Exact.{IsTable, TablesAreFiles}
use Rattle.vsw_offload.specs.Rows.{IsPortRows, IsRow, Rise, are_distinct, in_order_behind, is_before, macs_of, numbers_of, ordered, put_in}
use Rattle.vsw_offload.specs.declared.port_rows.PortRows.{PortRows}
use Rattle.vsw_policy.specs.Sound.{Each}

-- a row that is put in
each_put : (r : List ℕ) (ss : List (List ℕ)) → IsRow r → Each IsRow ss → Each IsRow (put_in r ss)
each_put r [] is e = (is, tt)
each_put r (s ∷ ss) is e = by (is_before s r) (is_before r s) (each_put r ss is e.1)
  where
    by : (b c : Bool) → Each IsRow (put_in r ss) → Each IsRow (if b then s ∷ put_in r ss else if c then r ∷ s ∷ ss else s ∷ ss)
    by true c ih = (e.0, ih)
    by false true ih = (is, (e.0, e.1))
    by false false ih = (e.0, e.1)

few_put : (r : List ℕ) (ss : List (List ℕ)) → length (put_in r ss) ≤ suc (length ss)
few_put r [] = omega arith
few_put r (s ∷ ss) = by (is_before s r) (is_before r s) (few_put r ss)
  where
    by : (b c : Bool) → length (put_in r ss) ≤ suc (length ss) → length (if b then s ∷ put_in r ss else if c then r ∷ s ∷ ss else s ∷ ss) ≤ suc (suc (length ss))
    by true c ih = omega (arith, ih)
    by false true ih = omega arith
    by false false ih = omega arith

-- rows that are put in, one after the other
all_rise : (done rows : List (List ℕ)) → Rise done → Rise (in_order_behind done rows)
all_rise done [] rise = rise
all_rise done (r ∷ rs) rise = all_rise (put_in r done) rs (rise_put r done rise)

all_rows : (done rows : List (List ℕ)) → Each IsRow done → Each IsRow rows → Each IsRow (in_order_behind done rows)
all_rows done [] d e = d
all_rows done (r ∷ rs) d e = all_rows (put_in r done) rs (each_put r done e.0 d) e.1

all_few : (done rows : List (List ℕ)) → length (in_order_behind done rows) ≤ length done + length rows
all_few done [] = omega arith
all_few done (r ∷ rs) =
    let ih = all_few (put_in r done) rs in
    let one = few_put r done in
    omega (arith, ih, one)

is_port : (p : PortRows) → IsTable p → IsPortRows (ordered p)
is_port p t =
    let few = all_few [] p.rows in record {
      port = t.port;
      mac = t.mac;
      entries = t.entries;
      few = omega (arith, few, t.few);
      each = all_rows [] p.rows tt t.each;
      rise = all_rise [] p.rows tt;
    }

are_ports : (ps : List PortRows) → Each IsTable ps → Each IsPortRows (map ordered ps)
are_ports [] e = tt
are_ports (p ∷ ps) e = (is_port p e.0, are_ports ps e.1)

same_numbers : (ps : List PortRows) → numbers_of (map ordered ps) ≡ numbers_of ps
same_numbers [] = refl
same_numbers (p ∷ ps) = ap (λ ns. p.port ∷ ns) (same_numbers ps)

same_macs : (ps : List PortRows) → macs_of (map ordered ps) ≡ macs_of ps
same_macs [] = refl
same_macs (p ∷ ps) = ap (λ ns. p.mac ∷ ns) (same_macs ps)

same_count : (ps : List PortRows) → length (map ordered ps) ≡ length ps
same_count [] = refl
same_count (p ∷ ps) = ap suc (same_count ps)

pub tables_are_files : TablesAreFiles
tables_are_files ps t = record {
  few = omega (arith, same_count ps, t.few);
  numbers = ap are_distinct (same_numbers ps) ∙ t.numbers;
  macs = ap are_distinct (same_macs ps) ∙ t.macs;
  each = are_ports ps t.each;
}
