-- A port, written.
use Rattle.std.proofs.Common.{◌≡◌, ◌≤◌, ◌+◌, ℕ, suc, List, [], ◌∷◌, ◌++◌, Bool, true, false, length, if◌then◌else◌, ap, sym, ◌∙◌, arith}
use Rattle.std.specs.Prelude.{OnOk, Ok, Err, Result}
use Rattle.std.proofs.lemmas.List.{append_assoc}
use Rattle.byteorder.specs.Endian.{big_bytes, little_bytes}
use Rattle.vsw_base.specs.declared.fault.NoMemory.{NoMemory}
use Rattle.vsw_offload.proofs.Placed.{placed_length}
use Rattle.vsw_offload.specs.Private.Writing.{placed}
use Rattle.vsw_offload.specs.Rows.{all_rows_bytes, in_key_order, in_order_behind, is_before, ordered, port_bytes, put_in}
use Rattle.vsw_offload.specs.declared.port_rows.PortRows.{PortRows}

put_few : (r : List ℕ) (ss : List (List ℕ)) → length (put_in r ss) ≤ suc (length ss)
put_few r [] = omega arith
put_few r (s ∷ ss) = by (is_before s r) (is_before r s) (put_few r ss)
  where
    by : (b c : Bool) → length (put_in r ss) ≤ suc (length ss) → length (if b then s ∷ put_in r ss else if c then r ∷ s ∷ ss else s ∷ ss) ≤ suc (suc (length ss))
    by true c ih = omega (arith, ih)
    by false true ih = omega arith
    by false false ih = omega arith

order_few : (done rs : List (List ℕ)) → length (in_order_behind done rs) ≤ length done + length rs
order_few done [] = omega arith
order_few done (r ∷ rs) = omega (arith, order_few (put_in r done) rs, put_few r done)

-- no more rows stand in order than there are
pub places_few : (rows : List (List ℕ)) (places : List ℕ) → placed rows places ≡ in_key_order rows → length places ≤ length rows
places_few rows places order = omega (arith, placed_length rows places, ap length order, order_few [] rows)

joined : (t a b c d e : List ℕ) → t ++ a ++ b ++ c ++ d ++ e ≡ t ++ (a ++ b ++ c ++ d ++ e)
joined t a b c d e = ap (λ (x : List ℕ). x ++ c ++ d ++ e) (append_assoc t a b) ∙ ap (λ (x : List ℕ). x ++ d ++ e) (append_assoc t (a ++ b) c) ∙ ap (λ (x : List ℕ). x ++ e) (append_assoc t (a ++ b ++ c) d) ∙ append_assoc t (a ++ b ++ c ++ d) e

pub port_written : {T : Type 0} (r : Result T NoMemory) (old a b e n new : List ℕ) (p : PortRows) (rows : List (List ℕ)) (places : List ℕ) (k : ℕ) → a ≡ old ++ little_bytes 4 p.port → b ≡ a ++ big_bytes 6 p.mac → e ≡ b ++ little_bytes 4 p.entries
    → n ≡ e ++ little_bytes 4 k → k ≡ length places → rows ≡ p.rows → placed rows places ≡ in_key_order rows → OnOk r (new ≡ n ++ all_rows_bytes (placed rows places)) → OnOk r (new ≡ old ++ port_bytes (ordered p))
port_written (Err why) old a b e n new p rows places k a_is b_is e_is n_is k_is rows_is order h = tt
port_written (Ok t) old a b e n new p rows places k a_is b_is e_is n_is k_is rows_is order h =
    let placed_is : placed rows places ≡ in_key_order p.rows = order ∙ ap in_key_order rows_is in
    let count : k ≡ length (in_key_order p.rows) = k_is ∙ (sym (placed_length rows places) ∙ ap length placed_is) in
    let front : n ≡ old ++ little_bytes 4 p.port ++ big_bytes 6 p.mac ++ little_bytes 4 p.entries ++ little_bytes 4 (length (in_key_order p.rows)) =
    n_is ∙ (ap (λ (x : List ℕ). x ++ little_bytes 4 k) (e_is ∙ ap (λ (x : List ℕ). x ++ little_bytes 4 p.entries) (b_is ∙ ap (λ (x : List ℕ). x ++ big_bytes 6 p.mac) a_is)) ∙ ap (λ (m : ℕ). old ++ little_bytes 4 p.port ++ big_bytes 6 p.mac ++ little_bytes 4 p.entries ++ little_bytes 4 m) count) in
    h ∙ ((λ z. front z ++ all_rows_bytes (placed_is z)) ∙ joined old (little_bytes 4 p.port) (big_bytes 6 p.mac) (little_bytes 4 p.entries) (little_bytes 4 (length (in_key_order p.rows))) (all_rows_bytes (in_key_order p.rows)))
