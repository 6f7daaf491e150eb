-- The checksums of the bytes that are written.
use Rattle.std.proofs.Common.{◌≡◌, ℕ, ◌+◌, ◌-◌, ◌*◌, ◌≤◌, List, [], ◌∷◌, ◌++◌, take, drop, length, refl, sym, ◌∙◌, ap, subst, arith, append_assoc, length-append}
use Rattle.vsw_base.specs.declared.header.Header.{Header}
use Rattle.vsw_base.specs.Fits.{AreFit}
use Rattle.vsw_base.specs.Shape.{encaps, inner}
use Rattle.vsw_base.specs.Frame.{Level, Parts, level_of, payload_in, ports}
use Rattle.vsw_base.proofs.Stacks.{in_front}
use Rattle.vsw_header.specs.Sum.{AreBytes}
use Rattle.vsw_frame.specs.Bytes.{AreLike, drops, levels_changed, pushes, source_port}
use Rattle.vsw_frame.specs.Change.{frame_changed}
use Rattle.vsw_frame.specs.RoundTrip.{IsRewriting, levels_kept, levels_pushed, levels_staying, levels_written}
use Rattle.vsw_frame.specs.Sums.{HasNoSum, IsEndRight, IsIpRight, KeepEncapsulations, LevelsAreWritten, StayRight, StayWrong, WasEndRight, WasIpRight, innermost}
use Rattle.vsw_frame.specs.Tiles.{Surrounds}
use Rattle.vsw_frame.proofs.Cases.{read_in}
use Rattle.vsw_frame.proofs.Laid.{levels_laid}
use Rattle.vsw_frame.proofs.SumsFrame.{SumsAs, sums_of}
use Rattle.vsw_frame.proofs.SumsLevels.{all_as_they_were, innermost-append, kept_outermost, kept_tile, laid_drop, last-append, last_of, pushed_outermost, pushed_tile, size_drop, sizes_stay}
use Rattle.vsw_frame.proofs.Tiles.{opened_ends}
use Rattle.vsw_frame.proofs.Trip.{fit_drop, outgoing_has}
use Rattle.vsw_frame.proofs.TripKept.{levels_read, written_level}

pub keep_encapsulations : KeepEncapsulations
keep_encapsulations bytes p edited kept n h =
    let from = inner p.stack in
    let to = inner edited in
    let a = levels_laid bytes p h.read in
    let k = drops p kept in
    let ls = drop k p.levels in
    let fit : AreFit to = fit_drop (3 * encaps edited) edited h.fits in
    let w = ((levels_read 2 bytes p (read_in bytes p h.read).1).kept k from to (omega arith) refl h.edit.alike fit).3 in
    let were = all_as_they_were from from to ls (laid_drop from k p.levels (omega (arith, a.count)) a.laid) in
    record { bytes = were; sizes = sizes_stay from to ls were (w.there ∙ size_drop k p.levels) }

abbrev first_levels : Parts → List Header → ℕ → List Level
first_levels p edited kept = levels_pushed (source_port edited) (take (3 * pushes edited kept) edited) (levels_changed (inner p.stack) (inner edited) (levels_staying p kept))

kept_length : (from to : List Header) (ls : List Level) → length (levels_kept from to ls) ≡ length ls
kept_length from to [] = refl
kept_length from to (l ∷ ls) = omega (arith, kept_length from to ls)

-- what holds of the innermost frame holds of what is written
abbrev InnerSums : Parts → List Header → ℕ → Type 0
InnerSums p edited kept =
    (IsIpRight (inner p.stack) (innermost p.levels) → IsIpRight (inner edited) (innermost (levels_written p edited kept)))
    × (IsIpRight (inner edited) (innermost (levels_written p edited kept)) → WasIpRight (inner p.stack) (innermost p.levels))
    × (IsEndRight (inner p.stack) (innermost p.levels) → IsEndRight (inner edited) (innermost (levels_written p edited kept)))
    × (IsEndRight (inner edited) (innermost (levels_written p edited kept)) → WasEndRight (inner p.stack) (innermost p.levels))
    × (HasNoSum (inner p.stack) (innermost p.levels) → HasNoSum (inner edited) (innermost (levels_written p edited kept)))
    × (HasNoSum (inner edited) (innermost (levels_written p edited kept)) → HasNoSum (inner p.stack) (innermost p.levels))

inner_sums : (bytes : List ℕ) (p : Parts) (edited : List Header) (kept n : ℕ) → AreBytes bytes → IsRewriting bytes p edited kept n → InnerSums p edited kept
inner_sums bytes p edited kept n are h =
    let from = inner p.stack in
    let to = inner edited in
    let k = drops p kept in
    let fit : AreFit to = fit_drop (3 * encaps edited) edited h.fits in
    let a = (levels_read 2 bytes p (read_in bytes p h.read).1).kept k from to (omega arith) refl h.edit.alike fit in
    let last = a.0 in
    let o = a.1 in
    let outer = a.2 in
    let w = a.3 in
    let level = written_level o (frame_changed from to last) in
    let first = first_levels p edited kept in
    let inside : innermost (levels_written p edited kept) ≡ frame_changed from to last =
    ap (λ (ls : List Level). innermost (first ++ ls)) w.levels ∙ ap innermost (sym (append_assoc first outer (level ∷ []))) ∙ innermost-append level (first ++ outer) in
    let s : SumsAs last o to = sums_of last o to w.opened (subst (λ (hs : List Header). AreLike hs to) (sym w.stack) h.edit.alike) fit (w.are_bytes are) in
    let P : List Header → List ℕ → List ℕ → Type 0 = λ hs old new. (IsIpRight hs old → IsIpRight to new) × (IsIpRight to new → WasIpRight hs old) × (IsEndRight hs old → IsEndRight to new) × (IsEndRight to new → WasEndRight hs old) × (HasNoSum hs old → HasNoSum to new) × (HasNoSum to new → HasNoSum hs old) in
    let base : P (o.front ++ ports o.end) last (frame_changed (o.front ++ ports o.end) to last) = (s.ip_right, s.ip_wrong, s.end_right, s.end_wrong, s.none_right, s.none_wrong) in
    let all : P from last (frame_changed from to last) = subst (λ (hs : List Header). P hs last (frame_changed hs to last)) w.stack base in
    subst (P from (innermost p.levels)) (sym inside) (subst (λ (x : List ℕ). P from x (frame_changed from to last)) (sym w.inmost) all)

pub stay_right : StayRight
stay_right = record {
  ip = λ bytes p edited kept n are h. (inner_sums bytes p edited kept n are h).0;
  end = λ bytes p edited kept n are h. (inner_sums bytes p edited kept n are h).2;
  none = λ bytes p edited kept n are h. (inner_sums bytes p edited kept n are h).4;
}

pub stay_wrong : StayWrong
stay_wrong = record {
  ip = λ bytes p edited kept n are h. (inner_sums bytes p edited kept n are h).1;
  end = λ bytes p edited kept n are h. (inner_sums bytes p edited kept n are h).3;
  none = λ bytes p edited kept n are h. (inner_sums bytes p edited kept n are h).5;
}

pub levels_are_written : LevelsAreWritten
levels_are_written bytes p edited kept n h =
    let d = 2 - encaps edited in
    let two : encaps edited + d ≡ 2 = omega (arith, (in_front edited h.edit.edited_shape).0) in
    let a = outgoing_has bytes p edited kept n d h two in
    let from = inner p.stack in
    let to = inner edited in
    let new = frame_changed from to a.0 in
    let o = a.1 in
    let q = a.2 in
    let outer = a.3 in
    let w = a.5 in
    let ls = levels_staying p kept in
    let level = written_level o new in
    let inside = levels_changed from to ls in
    let some : 1 ≤ length ls = omega (arith, sym (kept_length from to ls) ∙ ap length w.levels, length-append outer (level ∷ [])) in
    let ends : Surrounds (level_of new q) (payload_in q.end) = opened_ends new q w.opened in
    let last : last_of level (levels_kept from to ls) ≡ level = ap (last_of level) w.levels ∙ last-append level level outer in
    let inmost : Surrounds (last_of level (levels_kept from to ls)) p.payload = subst (λ (l : Level). Surrounds l p.payload) (w.ends ∙ sym last) (subst (Surrounds (level_of new q)) w.payload ends) in
    let hs = take (3 * pushes edited kept) edited in
    let whole = kept_outermost from to ls some in
    record {
      whole = pushed_outermost (source_port edited) hs (levels_kept from to ls) inside whole;
      tiled = pushed_tile (source_port edited) hs (levels_kept from to ls) inside p.payload (omega (arith, some, kept_length from to ls)) whole (kept_tile from to ls level p.payload some inmost);
    }
