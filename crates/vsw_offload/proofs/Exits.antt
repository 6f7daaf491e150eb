-- How the steps of reading end: with a fault, or with more that was read.
use Rattle.std.proofs.Common.{◌≡◌, ◌≤◌, ◌<◌, ◌+◌, ℕ, List, [], ◌∷◌, ◌++◌, true, false, true≢false, length, take, drop, refl, ap, sym, ◌∙◌, subst, arith, length-append}
use Rattle.std.specs.Prelude.{IfErr, IsErrAnd, OnOk, Ok, Err, Result}
use Rattle.std.proofs.lemmas.List.{append-nil, take_all}
use Rattle.byteorder.specs.Endian.{little_bytes}
use Rattle.vsw_offload.proofs.Rising.{next_not, rise_more}
use Rattle.vsw_offload.proofs.Steps.{begins_more, begins_row, begins_rows, each_more, ports_more, whole_port}
use Rattle.vsw_offload.specs.Bad.{Begins, Entries, Falls, HasBadRow, IsBadRows, Reaches, Rows, ports_text, row_at, text_of}
use Rattle.vsw_offload.specs.Private.Reading.{HasRows, is_next, port_of}
use Rattle.vsw_offload.specs.Rows.{AreRows, IsRow, Rise, head, row_bytes, rows_bytes}
use Rattle.vsw_offload.specs.declared.fault.BadRows.{BadRows}
use Rattle.vsw_offload.specs.declared.fault.BadRows.TheVariants.{Memory}
use Rattle.vsw_offload.specs.declared.port_rows.PortRows.{PortRows}

-- what a `?` hands on
pub exit : {T : Type 0} (bytes : List ℕ) (r : Result T BadRows) (e : BadRows) → IsErrAnd r (λ y. y ≡ e) → IsBadRows bytes e → IfErr r (λ why. IsBadRows bytes why)
exit bytes (Ok x) e h b = absurd h
exit bytes (Err y) e h b = subst (IsBadRows bytes) (sym h) b

pub exit_as : {T : Type 0} (P : BadRows → Type 0) (r : Result T BadRows) (e : BadRows) → IsErrAnd r (λ y. y ≡ e) → P e → IfErr r P
exit_as P (Ok x) e h p = absurd h
exit_as P (Err y) e h p = subst P (sym h) p

-- want of memory is no fault of the bytes
pub memory : {T : Type 0} (bytes : List ℕ) (r : Result T BadRows) → IfErr r (λ why. why ≡ Memory) → IfErr r (λ why. IsBadRows bytes why)
memory bytes (Ok x) h = tt
memory bytes (Err why) h = subst (IsBadRows bytes) (sym h) tt

-- what holds of a list to which was appended holds of the list that was made
pub appended : {T E X : Type 0} (P : List X → Type 0) (r : Result T E) (new old : List X) (x : X) → OnOk r (new ≡ old ++ x ∷ []) → P (old ++ x ∷ []) → OnOk r (P new)
appended P (Ok t) new old x h p = subst P (sym h) p
appended P (Err e) new old x h p = tt

-- ---- rows of a port

pub has_none : (bytes : List ℕ) (at count : ℕ) (ps : List PortRows) (port mac entries rows : ℕ) → Reaches bytes at (Entries count ps port mac entries) → at + 4 ≤ length bytes → little_bytes 4 rows ≡ take 4 (drop at bytes) → rows ≤ 16384
    → HasRows bytes (at + 4) count ps (port_of port mac entries []) rows
has_none bytes at count ps port mac entries rows r whole is few = record {
  begins = begins_rows bytes at count ps port mac entries rows r whole is;
  new = r.open_is.0;
  is = record { port = r.open_is.0.number.below; mac = r.open_is.0.below; entries = r.open_is.1; few = omega arith; each = tt; rise = tt };
  few = few;
}

pub has_more : (bytes : List ℕ) (at count : ℕ) (ps : List PortRows) (port mac entries : ℕ) (rows : List (List ℕ)) (told : ℕ) (words : List ℕ) → HasRows bytes at count ps (port_of port mac entries rows) told → length rows < told → at + 584 ≤ length bytes
    → row_bytes words ≡ take 584 (drop at bytes) → IsRow words → is_next rows words ≡ true → HasRows bytes (at + 584) count ps (port_of port mac entries (rows ++ words ∷ [])) told
has_more bytes at count ps port mac entries rows told words h more whole back row next = record {
  begins = begins_row bytes at count ps (port_of port mac entries rows) told words h.begins whole back;
  new = h.new;
  is = record { port = h.is.port; mac = h.is.mac; entries = h.is.entries; few = omega (arith, length-append rows (words ∷ []), more, h.few); each = each_more IsRow rows words h.is.each row; rise = rise_more rows words next h.is.rise };
  few = h.few;
}

pub reaches_row : (bytes : List ℕ) (at count : ℕ) (ps : List PortRows) (p : PortRows) (told : ℕ) → HasRows bytes at count ps p told → length p.rows < told → Reaches bytes at (Rows count ps p told)
reaches_row bytes at count ps p told h more = record { begins = h.begins; open_is = (h.new, h.is, h.few, more) }

pub bad_row : (bytes : List ℕ) (at count : ℕ) (ps : List PortRows) (p : PortRows) (told : ℕ) (words : List ℕ) → HasRows bytes at count ps p told → length p.rows < told → at + 584 ≤ length bytes → words ≡ row_at bytes at → (IsRow words → false ≡ true) → HasBadRow bytes at
bad_row bytes at count ps p told words h more whole is back = record {
  count = count;
  ps = ps;
  p = p;
  rows = told;
  stands = record { reaches = reaches_row bytes at count ps p told h more; whole = whole };
  bad = λ r. true≢false (sym (back (subst IsRow (sym is) r)));
}

pub falls : (bytes : List ℕ) (at count : ℕ) (ps : List PortRows) (p : PortRows) (told : ℕ) (words : List ℕ) → HasRows bytes at count ps p told → length p.rows < told → at + 584 ≤ length bytes → words ≡ row_at bytes at → IsRow words → is_next p.rows words ≡ false → Falls bytes at
falls bytes at count ps p told words h more whole is row next = record {
  count = count;
  ps = ps;
  p = p;
  rows = told;
  stands = record { reaches = reaches_row bytes at count ps p told h more; whole = whole };
  good = subst IsRow is row;
  falls = λ rise. next_not p.rows words next (subst (λ w. Rise (p.rows ++ w ∷ [])) (sym is) rise);
}

-- a port of which all rows were read
pub port_done : (bytes : List ℕ) (end count : ℕ) (ps : List PortRows) (p : PortRows) (told : ℕ) → HasRows bytes end count ps p told → length p.rows ≡ told → Begins bytes end (ports_text count (ps ++ p ∷ [])) × AreRows (ps ++ p ∷ [])
port_done bytes end count ps p told h all =
    let whole : text_of (Rows count ps p told) ≡ ports_text count (ps ++ p ∷ []) = ap (λ n. text_of (Rows count ps p n)) (sym all) ∙ whole_port count ps p in
    (subst (Begins bytes end) whole h.begins, ports_more ps p count h.new h.is)

-- ---- the whole file

pub no_ports : AreRows []
no_ports = record { few = omega arith; numbers = refl; macs = refl; each = tt }

pub begins_ports : (bytes : List ℕ) (count : ℕ) → take 8 bytes ≡ head → 12 ≤ length bytes → little_bytes 4 count ≡ take 4 (drop 8 bytes) → Begins bytes 12 (ports_text count [])
begins_ports bytes count is whole back =
    subst (Begins bytes 12) (sym (append-nil (head ++ little_bytes 4 count))) (begins_more bytes 8 4 head (little_bytes 4 count) (record { within = omega (arith, whole); is = is }) whole back)

pub file_is : (bytes : List ℕ) (end count : ℕ) (ps : List PortRows) → Begins bytes end (ports_text count ps) → length ps ≡ count → length bytes ≤ end → bytes ≡ rows_bytes ps
file_is bytes end count ps b all last =
    sym (take_all end bytes last) ∙ (b.is ∙ ap (λ n. ports_text n ps) (sym all))
